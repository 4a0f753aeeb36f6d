-- The words of pools as they are kept: whose pool is in each place, and its requests and responses.
use Rattle.std.specs.Prelude.{◌≡◌, ℕ, zero, suc, ◌<◌, ◌≤◌, Bool, true, false, ◌==◌, List, [], ◌∷◌, ◌++◌, length, Option, Some, None, option_map, slice_index_or, slice_set, refl}
use Rattle.std.specs.Option.{option_map_or}
use Rattle.std.proofs.Common.{sym, ap, ap₂, subst, ◌∙◌, arith, true≢false}
use Rattle.std.proofs.Math.Dec.{eqb-suc-suc}
use Rattle.iox_laws.proofs.WeaveLaws.MapLemmas.{eqb-refl}
use Rattle.iox_model.specs.declared.kind.Role.{Role}
use Rattle.iox_model.specs.declared.kind.Role.TheVariants.{Client, Server}
use Rattle.iox_store.specs.Stored.{Contents, StoredMessage, room_with, stored_at, with_stored}
use Rattle.iox_hub.specs.Fits.{are_requests_in, carried_in, count_in, longest_in}
use Rattle.iox_hub.specs.Lending.{with_carried, with_message}
use Rattle.iox_hub.specs.Words.{Carried, PoolsCarried, all_carried, carried_by, of_client, stored_in}
use Rattle.iox_hub.proofs.Reading.{stored_is}

-- ---- a pool among all

-- one message of a pool is another
put_is : (ws : List (Option Carried)) (pool k : ℕ) (b : Bool) (old new : Contents) (f : StoredMessage → StoredMessage)
    → carried_in ws pool ≡ Some (record { requests = b; contents = old }) → new ≡ with_stored old k (f (stored_at old k))
    → slice_set ws pool (Some (record { requests = b; contents = new })) ≡ with_message ws pool k (f (stored_in ws pool k))
put_is ws pool k b old new f there is =
    ap (λ c. slice_set ws pool (Some (record { requests = b; contents = c })))
    (is ∙ ap (λ s. with_stored old k (f s)) (sym (stored_is ws pool k b old there)))
    ∙ sym (ap (λ o. slice_set ws pool (option_map (with_carried k (f (stored_in ws pool k))) o)) there)

-- a pool is set to what it is
set_same : (ws : List (Option Carried)) (pool : ℕ) (c : Carried) → carried_in ws pool ≡ Some c → slice_set ws pool (Some c) ≡ ws
set_same [] pool c e = refl
set_same (w ∷ ws) zero c e = ap (λ o. o ∷ ws) (sym e)
set_same (w ∷ ws) (suc i) c e = ap (λ os. w ∷ os) (set_same ws i c e)

-- a place behind the last is set
pub set_beyond : (ws : List (Option Carried)) (i : ℕ) (o : Option Carried) → length ws ≤ i → slice_set ws i o ≡ ws
set_beyond [] i o low = refl
set_beyond (w ∷ ws) zero o low = absurd (omega (arith, low))
set_beyond (w ∷ ws) (suc i) o low = ap (λ os. w ∷ os) (set_beyond ws i o (omega (arith, low)))

pub set_there : (ws : List (Option Carried)) (i : ℕ) (c : Carried) → i < length ws → carried_in (slice_set ws i (Some c)) i ≡ Some c
set_there [] i c low = absurd (omega (arith, low))
set_there (w ∷ ws) zero c low = refl
set_there (w ∷ ws) (suc i) c low = set_there ws i c (omega (arith, low))

pub set_else : (ws : List (Option Carried)) (i q : ℕ) (o : Option Carried) → (q == i) ≡ false → carried_in (slice_set ws i o) q ≡ carried_in ws q
set_else [] i q o e = refl
set_else (w ∷ ws) zero zero o e = absurd (true≢false (sym (eqb-refl 0) ∙ e))
set_else (w ∷ ws) zero (suc q) o e = refl
set_else (w ∷ ws) (suc i) zero o e = refl
set_else (w ∷ ws) (suc i) (suc q) o e = set_else ws i q o (sym (eqb-suc-suc q i) ∙ e)

-- a place more, which carries nothing
pub none_more : (ws : List (Option Carried)) (q : ℕ) → carried_in (ws ++ None ∷ []) q ≡ carried_in ws q
none_more [] zero = refl
none_more [] (suc q) = refl
none_more (w ∷ ws) zero = refl
none_more (w ∷ ws) (suc q) = none_more ws q

-- ---- all places

pub carried_length : (ks : List (Option Role)) (rs ps : List Contents) → length rs ≡ length ks → length ps ≡ length ks → length (all_carried ks rs ps) ≡ length ks
carried_length [] rs ps a b = refl
carried_length (k ∷ ks) [] ps a b = absurd (omega (arith, a))
carried_length (k ∷ ks) (r ∷ rs) [] a b = absurd (omega (arith, b))
carried_length (k ∷ ks) (r ∷ rs) (p ∷ ps) a b = ap suc (carried_length ks rs ps (omega (arith, a)) (omega (arith, b)))

pub carried_more : (ks : List (Option Role)) (rs ps : List Contents) (r p : Contents) → length rs ≡ length ks → length ps ≡ length ks
    → all_carried (ks ++ None ∷ []) (rs ++ r ∷ []) (ps ++ p ∷ []) ≡ all_carried ks rs ps ++ None ∷ []
carried_more [] [] [] r p a b = refl
carried_more [] [] (y ∷ ps) r p a b = absurd (omega (arith, b))
carried_more [] (x ∷ rs) ps r p a b = absurd (omega (arith, a))
carried_more (k ∷ ks) [] ps r p a b = absurd (omega (arith, a))
carried_more (k ∷ ks) (x ∷ rs) [] r p a b = absurd (omega (arith, b))
carried_more (k ∷ ks) (x ∷ rs) (y ∷ ps) r p a b =
    ap (λ ws. carried_by k x y ∷ ws) (carried_more ks rs ps r p (omega (arith, a)) (omega (arith, b)))

-- a place becomes a client's, a server's, or nobody's
pub client_set : (ks : List (Option Role)) (rs ps : List Contents) (i : ℕ) (c : Contents)
    → all_carried (slice_set ks i (Some Client)) (slice_set rs i c) ps ≡ slice_set (all_carried ks rs ps) i (Some (record { requests = true; contents = c }))
client_set [] rs ps i c = refl
client_set (k ∷ ks) [] ps zero c = refl
client_set (k ∷ ks) [] ps (suc i) c = refl
client_set (k ∷ ks) (r ∷ rs) [] zero c = refl
client_set (k ∷ ks) (r ∷ rs) [] (suc i) c = refl
client_set (k ∷ ks) (r ∷ rs) (p ∷ ps) zero c = refl
client_set (k ∷ ks) (r ∷ rs) (p ∷ ps) (suc i) c = ap (λ ws. carried_by k r p ∷ ws) (client_set ks rs ps i c)

pub server_set : (ks : List (Option Role)) (rs ps : List Contents) (i : ℕ) (c : Contents)
    → all_carried (slice_set ks i (Some Server)) rs (slice_set ps i c) ≡ slice_set (all_carried ks rs ps) i (Some (record { requests = false; contents = c }))
server_set [] rs ps i c = refl
server_set (k ∷ ks) [] ps zero c = refl
server_set (k ∷ ks) [] ps (suc i) c = refl
server_set (k ∷ ks) (r ∷ rs) [] zero c = refl
server_set (k ∷ ks) (r ∷ rs) [] (suc i) c = refl
server_set (k ∷ ks) (r ∷ rs) (p ∷ ps) zero c = refl
server_set (k ∷ ks) (r ∷ rs) (p ∷ ps) (suc i) c = ap (λ ws. carried_by k r p ∷ ws) (server_set ks rs ps i c)

pub none_set : (ks : List (Option Role)) (rs ps : List Contents) (i : ℕ) (r p : Contents)
    → all_carried (slice_set ks i None) (slice_set rs i r) (slice_set ps i p) ≡ slice_set (all_carried ks rs ps) i None
none_set [] rs ps i r p = refl
none_set (k ∷ ks) [] ps zero r p = refl
none_set (k ∷ ks) [] ps (suc i) r p = refl
none_set (k ∷ ks) (x ∷ rs) [] zero r p = refl
none_set (k ∷ ks) (x ∷ rs) [] (suc i) r p = refl
none_set (k ∷ ks) (x ∷ rs) (y ∷ ps) zero r p = refl
none_set (k ∷ ks) (x ∷ rs) (y ∷ ps) (suc i) r p = ap (λ ws. carried_by k x y ∷ ws) (none_set ks rs ps i r p)

-- ---- requests

pub requests_within : (ks : List (Option Role)) (rs ps : List Contents) (pool : ℕ) → are_requests_in (all_carried ks rs ps) pool ≡ true → pool < length rs
requests_within [] rs ps pool of = absurd (true≢false (sym of))
requests_within (k ∷ ks) [] ps pool of = absurd (true≢false (sym of))
requests_within (k ∷ ks) (r ∷ rs) [] pool of = absurd (true≢false (sym of))
requests_within (k ∷ ks) (r ∷ rs) (p ∷ ps) zero of = omega arith
requests_within (k ∷ ks) (r ∷ rs) (p ∷ ps) (suc i) of = let low = requests_within ks rs ps i of in omega (arith, low)

pub requests_there : (ks : List (Option Role)) (rs ps : List Contents) (pool : ℕ) (c : Contents) → are_requests_in (all_carried ks rs ps) pool ≡ true
    → c ≡ slice_index_or rs pool c → carried_in (all_carried ks rs ps) pool ≡ Some (record { requests = true; contents = c })
requests_there [] rs ps pool c of is = absurd (true≢false (sym of))
requests_there (k ∷ ks) [] ps pool c of is = absurd (true≢false (sym of))
requests_there (k ∷ ks) (r ∷ rs) [] pool c of is = absurd (true≢false (sym of))
requests_there (None ∷ ks) (r ∷ rs) (p ∷ ps) zero c of is = absurd (true≢false (sym of))
requests_there (Some Client ∷ ks) (r ∷ rs) (p ∷ ps) zero c of is = ap (λ (x : Contents). Some (record { requests = true; contents = x })) (sym is)
requests_there (Some Server ∷ ks) (r ∷ rs) (p ∷ ps) zero c of is = absurd (true≢false (sym of))
requests_there (k ∷ ks) (r ∷ rs) (p ∷ ps) (suc i) c of is = requests_there ks rs ps i c of is

requests_set : (ks : List (Option Role)) (rs ps : List Contents) (pool : ℕ) (c : Contents) → are_requests_in (all_carried ks rs ps) pool ≡ true
    → all_carried ks (slice_set rs pool c) ps ≡ slice_set (all_carried ks rs ps) pool (Some (record { requests = true; contents = c }))
requests_set [] rs ps pool c of = absurd (true≢false (sym of))
requests_set (k ∷ ks) [] ps pool c of = absurd (true≢false (sym of))
requests_set (k ∷ ks) (r ∷ rs) [] pool c of = absurd (true≢false (sym of))
requests_set (None ∷ ks) (r ∷ rs) (p ∷ ps) zero c of = absurd (true≢false (sym of))
requests_set (Some Client ∷ ks) (r ∷ rs) (p ∷ ps) zero c of = refl
requests_set (Some Server ∷ ks) (r ∷ rs) (p ∷ ps) zero c of = absurd (true≢false (sym of))
requests_set (k ∷ ks) (r ∷ rs) (p ∷ ps) (suc i) c of = ap (λ ws. carried_by k r p ∷ ws) (requests_set ks rs ps i c of)

-- one request is another
pub request_put : (ks : List (Option Role)) (rs ps : List Contents) (pool k : ℕ) (old new : Contents) (f : StoredMessage → StoredMessage)
    → are_requests_in (all_carried ks rs ps) pool ≡ true → old ≡ slice_index_or rs pool old → new ≡ with_stored old k (f (stored_at old k))
    → all_carried ks (slice_set rs pool new) ps ≡ with_message (all_carried ks rs ps) pool k (f (stored_in (all_carried ks rs ps) pool k))
request_put ks rs ps pool k old new f of at is =
    requests_set ks rs ps pool new of ∙ put_is (all_carried ks rs ps) pool k true old new f (requests_there ks rs ps pool old of at) is

pub requests_same : (ks : List (Option Role)) (rs ps : List Contents) (pool : ℕ) (old new : Contents)
    → are_requests_in (all_carried ks rs ps) pool ≡ true → old ≡ slice_index_or rs pool old → new ≡ old → all_carried ks (slice_set rs pool new) ps ≡ all_carried ks rs ps
requests_same ks rs ps pool old new of at is =
    requests_set ks rs ps pool new of ∙ ap (λ (c : Contents). slice_set (all_carried ks rs ps) pool (Some (record { requests = true; contents = c }))) is
    ∙ set_same (all_carried ks rs ps) pool _ (requests_there ks rs ps pool old of at)

-- ---- responses

pub responses_within : (ks : List (Option Role)) (rs ps : List Contents) (pool k : ℕ) → k < count_in (all_carried ks rs ps) pool → pool < length ps
responses_within [] rs ps pool k low = absurd (omega (arith, low))
responses_within (x ∷ ks) [] ps pool k low = absurd (omega (arith, low))
responses_within (x ∷ ks) (r ∷ rs) [] pool k low = absurd (omega (arith, low))
responses_within (x ∷ ks) (r ∷ rs) (p ∷ ps) zero k low = omega arith
responses_within (x ∷ ks) (r ∷ rs) (p ∷ ps) (suc i) k low = let less = responses_within ks rs ps i k low in omega (arith, less)

pub responses_there : (ks : List (Option Role)) (rs ps : List Contents) (pool k : ℕ) (c : Contents) → k < count_in (all_carried ks rs ps) pool
    → are_requests_in (all_carried ks rs ps) pool ≡ false → c ≡ slice_index_or ps pool c
    → carried_in (all_carried ks rs ps) pool ≡ Some (record { requests = false; contents = c })
responses_there [] rs ps pool k c low of is = absurd (omega (arith, low))
responses_there (x ∷ ks) [] ps pool k c low of is = absurd (omega (arith, low))
responses_there (x ∷ ks) (r ∷ rs) [] pool k c low of is = absurd (omega (arith, low))
responses_there (None ∷ ks) (r ∷ rs) (p ∷ ps) zero k c low of is = absurd (omega (arith, low))
responses_there (Some Client ∷ ks) (r ∷ rs) (p ∷ ps) zero k c low of is = absurd (true≢false of)
responses_there (Some Server ∷ ks) (r ∷ rs) (p ∷ ps) zero k c low of is = ap (λ (x : Contents). Some (record { requests = false; contents = x })) (sym is)
responses_there (x ∷ ks) (r ∷ rs) (p ∷ ps) (suc i) k c low of is = responses_there ks rs ps i k c low of is

responses_set : (ks : List (Option Role)) (rs ps : List Contents) (pool k : ℕ) (c : Contents) → k < count_in (all_carried ks rs ps) pool
    → are_requests_in (all_carried ks rs ps) pool ≡ false
    → all_carried ks rs (slice_set ps pool c) ≡ slice_set (all_carried ks rs ps) pool (Some (record { requests = false; contents = c }))
responses_set [] rs ps pool k c low of = absurd (omega (arith, low))
responses_set (x ∷ ks) [] ps pool k c low of = absurd (omega (arith, low))
responses_set (x ∷ ks) (r ∷ rs) [] pool k c low of = absurd (omega (arith, low))
responses_set (None ∷ ks) (r ∷ rs) (p ∷ ps) zero k c low of = absurd (omega (arith, low))
responses_set (Some Client ∷ ks) (r ∷ rs) (p ∷ ps) zero k c low of = absurd (true≢false of)
responses_set (Some Server ∷ ks) (r ∷ rs) (p ∷ ps) zero k c low of = refl
responses_set (x ∷ ks) (r ∷ rs) (p ∷ ps) (suc i) k c low of = ap (λ ws. carried_by x r p ∷ ws) (responses_set ks rs ps i k c low of)

-- one response is another
pub response_put : (ks : List (Option Role)) (rs ps : List Contents) (pool k : ℕ) (old new : Contents) (f : StoredMessage → StoredMessage)
    → k < count_in (all_carried ks rs ps) pool → are_requests_in (all_carried ks rs ps) pool ≡ false
    → old ≡ slice_index_or ps pool old → new ≡ with_stored old k (f (stored_at old k))
    → all_carried ks rs (slice_set ps pool new) ≡ with_message (all_carried ks rs ps) pool k (f (stored_in (all_carried ks rs ps) pool k))
response_put ks rs ps pool k old new f low of at is =
    responses_set ks rs ps pool k new low of ∙ put_is (all_carried ks rs ps) pool k false old new f (responses_there ks rs ps pool k old low of at) is

pub responses_same : (ks : List (Option Role)) (rs ps : List Contents) (pool : ℕ) (old new : Contents) → 0 < count_in (all_carried ks rs ps) pool
    → are_requests_in (all_carried ks rs ps) pool ≡ false → old ≡ slice_index_or ps pool old → new ≡ old
    → all_carried ks rs (slice_set ps pool new) ≡ all_carried ks rs ps
responses_same ks rs ps pool old new low of at is =
    responses_set ks rs ps pool 0 new low of ∙ ap (λ (c : Contents). slice_set (all_carried ks rs ps) pool (Some (record { requests = false; contents = c }))) is
    ∙ set_same (all_carried ks rs ps) pool _ (responses_there ks rs ps pool 0 old low of at)

-- ---- as a function opens them

pub some_place : (ws : List (Option Carried)) (pool k : ℕ) → k < count_in ws pool → pool < length ws
some_place [] pool k low = absurd (omega (arith, low))
some_place (w ∷ ws) zero k low = omega arith
some_place (w ∷ ws) (suc i) k low = let less = some_place ws i k low in omega (arith, less)

pub client_at : (ks : List (Option Role)) (rs ps : List Contents) (i : ℕ) (k : Option Role) → length rs ≡ length ks → length ps ≡ length ks → i < length ks
    → k ≡ slice_index_or ks i k → are_requests_in (all_carried ks rs ps) i ≡ of_client k
client_at [] rs ps i k a b low at = absurd (omega (arith, low))
client_at (x ∷ ks) [] ps i k a b low at = absurd (omega (arith, a))
client_at (x ∷ ks) (r ∷ rs) [] i k a b low at = absurd (omega (arith, b))
client_at (None ∷ ks) (r ∷ rs) (p ∷ ps) zero k a b low at = ap of_client (sym at)
client_at (Some Client ∷ ks) (r ∷ rs) (p ∷ ps) zero k a b low at = ap of_client (sym at)
client_at (Some Server ∷ ks) (r ∷ rs) (p ∷ ps) zero k a b low at = ap of_client (sym at)
client_at (x ∷ ks) (r ∷ rs) (p ∷ ps) (suc i) k a b low at = client_at ks rs ps i k (omega (arith, a)) (omega (arith, b)) (omega (arith, low)) at

module _ (ks : List (Option Role)) (rs ps : List Contents) (room : ℕ) (now : PoolsCarried) (same : record { pools = all_carried ks rs ps; room = room } ≡ now) where
  pub pools_same : all_carried ks rs ps ≡ now.pools
  pools_same = ap (λ (w : PoolsCarried). w.pools) same

  pub length_same : length rs ≡ length ks → length ps ≡ length ks → length now.pools ≡ length ks
  length_same a b = ap (λ (ws : List (Option Carried)). length ws) (sym pools_same) ∙ carried_length ks rs ps a b

  -- a place is pushed that carries nothing
  pub pushed : length rs ≡ length ks → length ps ≡ length ks → (ks' : List (Option Role)) (rs' ps' : List Contents) (r p : Contents)
      → ks' ≡ ks ++ None ∷ [] → rs' ≡ rs ++ r ∷ [] → ps' ≡ ps ++ p ∷ [] → all_carried ks' rs' ps' ≡ now.pools ++ None ∷ []
  pushed a b ks' rs' ps' r p ek er ep =
      ap (λ xs. all_carried xs rs' ps') ek ∙ ap₂ (λ xs ys. all_carried (ks ++ None ∷ []) xs ys) er ep
      ∙ carried_more ks rs ps r p a b ∙ ap (λ (ws : List (Option Carried)). ws ++ None ∷ []) pools_same

  -- whether requests are carried in a place
  pub told_by : length rs ≡ length ks → length ps ≡ length ks → (i : ℕ) (k : Option Role) → i < length ks → k ≡ slice_index_or ks i k
      → (c : Bool) → c ≡ of_client k → c ≡ are_requests_in now.pools i
  told_by a b i k low at c is =
      is ∙ sym (ap (λ (ws : List (Option Carried)). are_requests_in ws i) (sym pools_same) ∙ client_at ks rs ps i k a b low at)

  module _ (pool : ℕ) (of : are_requests_in now.pools pool ≡ true) where
    requests_so : are_requests_in (all_carried ks rs ps) pool ≡ true
    requests_so = ap (λ (ws : List (Option Carried)). are_requests_in ws pool) pools_same ∙ of

    pub requests_low : pool < length rs
    requests_low = requests_within ks rs ps pool requests_so

    module _ (c : Contents) (at : c ≡ slice_index_or rs pool c) where
      pub requests_found : carried_in now.pools pool ≡ Some (record { requests = true; contents = c })
      requests_found = ap (λ (ws : List (Option Carried)). carried_in ws pool) (sym pools_same) ∙ requests_there ks rs ps pool c requests_so at

      pub request_now : (k : ℕ) (new : Contents) (f : StoredMessage → StoredMessage) → new ≡ with_stored c k (f (stored_at c k))
          → all_carried ks (slice_set rs pool new) ps ≡ with_message now.pools pool k (f (stored_in now.pools pool k))
      request_now k new f is =
          request_put ks rs ps pool k c new f requests_so at is
          ∙ ap (λ (ws : List (Option Carried)). with_message ws pool k (f (stored_in ws pool k))) pools_same

  module _ (pool k : ℕ) (low : k < count_in now.pools pool) (of : are_requests_in now.pools pool ≡ false) where
    responses_so : are_requests_in (all_carried ks rs ps) pool ≡ false
    responses_so = ap (λ (ws : List (Option Carried)). are_requests_in ws pool) pools_same ∙ of

    low_so : k < count_in (all_carried ks rs ps) pool
    low_so = subst (λ (ws : List (Option Carried)). k < count_in ws pool) (sym pools_same) low

    pub responses_low : pool < length ps
    responses_low = responses_within ks rs ps pool k low_so

    module _ (c : Contents) (at : c ≡ slice_index_or ps pool c) where
      pub responses_found : carried_in now.pools pool ≡ Some (record { requests = false; contents = c })
      responses_found = ap (λ (ws : List (Option Carried)). carried_in ws pool) (sym pools_same) ∙ responses_there ks rs ps pool k c low_so responses_so at

      pub response_now : (new : Contents) (f : StoredMessage → StoredMessage) → new ≡ with_stored c k (f (stored_at c k))
          → all_carried ks rs (slice_set ps pool new) ≡ with_message now.pools pool k (f (stored_in now.pools pool k))
      response_now new f is =
          response_put ks rs ps pool k c new f low_so responses_so at is
          ∙ ap (λ (ws : List (Option Carried)). with_message ws pool k (f (stored_in ws pool k))) pools_same

-- room for so many elements of a pool
pub room_found : (ws : List (Option Carried)) (pool k : ℕ) (spare : Option ℕ) (b : Bool) (c : Contents)
    → carried_in ws pool ≡ Some (record { requests = b; contents = c }) → k ≤ room_with (longest_in ws pool) spare → k ≤ room_with c.longest spare
room_found ws pool k spare b c is fits = subst (λ o. k ≤ room_with (option_map_or (λ (d : Carried). d.contents.longest) o 0) spare) is fits
