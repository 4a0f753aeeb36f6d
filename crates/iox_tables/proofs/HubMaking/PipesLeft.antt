-- Which pipes are left, once a port is gone of which receivers keep what is waiting.
use Rattle.std.specs.Prelude.{◌≡◌, ℕ, zero, suc, ◌+◌, ◌<◌, ◌≤◌, Bool, true, false, not, ◌&&◌, ◌||◌, if◌then◌else◌, ◌==◌, nat_le, nat_lt, List, [], ◌∷◌, ◌++◌, drop, filter, length, map, Option, Some, None, is_some, refl}
use Rattle.std.specs.Option.{option_map, option_map_or}
use Rattle.std.proofs.Common.{sym, ap, ap₂, ◌∙◌, arith, true≢false, eqb-true, eq-eqb}
use Rattle.std.proofs.lemmas.Bool.{le-leb, leb-false, lt-leb, ltb-false, ltb-true, or_parts}
use Rattle.std.proofs.lemmas.List.{map-append}
use Rattle.std.proofs.lemmas.Option.{none-some}
use Rattle.iox_model.specs.Expiries.{kept_expired}
use Rattle.iox_model.specs.Maps.{AreDistinct, has_number, or_else, rest_of}
use Rattle.iox_lanes.specs.Incomings.{IncomingState, has_room_for, with_kept}
use Rattle.iox_lanes.specs.Pipes.{PipeState, has_waiting_on_any}
use Rattle.iox_tables.specs.HubStates.Tables.{PortState, pipe_from, pipes_of, senders_of}
use Rattle.iox_tables.specs.HubMaking.Disconnections.{cut_from}
use Rattle.iox_tables.specs.HubMaking.Expirings.{with_expired}
use Rattle.iox_tables.proofs.HubStates.Fixing.{first_key}
use Rattle.iox_tables.proofs.HubStates.Keys.{first_append, flip}
use Rattle.iox_tables.proofs.HubMaking.Connecting.{there_is}
use Rattle.iox_tables.proofs.HubMaking.Firsts.{first_kept, has_first}

-- ---- pipes from different senders

-- a sender of the first is none of those behind
pub not_behind : (es qs : List PipeState) (a : ℕ) → AreDistinct (senders_of (es ++ qs)) → is_some (pipe_from es a) ≡ true → pipe_from qs a ≡ None
not_behind [] qs a apart e = absurd (true≢false (sym e))
not_behind (x ∷ xs) qs a apart e = step (x.sender == a) refl e (not_behind xs qs a apart.1)
  where
    both : pipe_from (xs ++ qs) x.sender ≡ None
    both = there_is (pipe_from (xs ++ qs) x.sender) (sym (has_first (λ q. q.sender) (xs ++ qs) x.sender) ∙ apart.0)

    parts : (o r : Option PipeState) → or_else o r ≡ None → r ≡ None
    parts None r h = h
    parts (Some q) r h = absurd (none-some q (sym h))

    step : (b : Bool) → (x.sender == a) ≡ b → is_some (if b then Some x else pipe_from xs a) ≡ true
        → (is_some (pipe_from xs a) ≡ true → pipe_from qs a ≡ None) → pipe_from qs a ≡ None
    step false is h more = more h
    step true is h more =
        ap (pipe_from qs) (sym (eqb-true x.sender a is))
        ∙ parts (pipe_from xs x.sender) (pipe_from qs x.sender) (sym (first_append (λ q. q.sender) xs qs x.sender) ∙ both)

-- what is first among some of the pipes is first among all
abbrev pub IsPartOf : List PipeState → List PipeState → ℕ → Type 0
IsPartOf es ds a = pipe_from ds a ≡ (if is_some (pipe_from ds a) then pipe_from es a else None)

all_are : (es : List PipeState) (a : ℕ) → IsPartOf es es a
all_are es a = step (pipe_from es a)
  where
    step : (o : Option PipeState) → o ≡ (if is_some o then o else None)
    step (Some q) = refl
    step None = refl

pub behind_the_first : (es : List PipeState) (a : ℕ) → AreDistinct (senders_of es) → IsPartOf es (drop 1 es) a
behind_the_first [] a apart = refl
behind_the_first (x ∷ xs) a apart = step (x.sender == a) refl (pipe_from xs a) refl
  where
    step : (b : Bool) → (x.sender == a) ≡ b → (o : Option PipeState) → pipe_from xs a ≡ o
        → o ≡ (if is_some o then (if b then Some x else o) else None)
    step b is None at = refl
    step false is (Some q) at = refl
    step true is (Some q) at =
        absurd (true≢false
        (sym (has_first (λ q. q.sender) xs x.sender ∙ ap (λ k. is_some (pipe_from xs k)) (eqb-true x.sender a is) ∙ ap (λ (o : Option PipeState). is_some o) at)
        ∙ apart.0))

-- those in front are of different senders
pub distinct_first : (xs ys : List PipeState) → AreDistinct (senders_of (xs ++ ys)) → AreDistinct (senders_of xs)
distinct_first [] ys apart = tt
distinct_first (x ∷ xs) ys apart = (there xs apart.0, distinct_first xs ys apart.1)
  where
    there : (xs : List PipeState) → has_number x.sender (senders_of (xs ++ ys)) ≡ false → has_number x.sender (senders_of xs) ≡ false
    there [] h = refl
    there (z ∷ zs) h =
        let parts = or_parts (z.sender == x.sender) (has_number x.sender (senders_of (zs ++ ys))) h in
        ap₂ (λ (b c : Bool). b || c) parts.0 (there zs parts.1)

-- ---- the pipes of one port

module _ (n : ℕ) (p : PortState) (apart : AreDistinct (senders_of (pipes_of p))) (a : ℕ) where
  abbrev es : List PipeState
  es = p.expired.pipes

  abbrev left : List PipeState
  left = filter (λ q. not (q.sender == n)) p.incoming.pipes

  -- whether what comes from this sender stays, where these pipes are from ports that are gone
  abbrev stays_with : List PipeState → Bool
  stays_with ds = if (a == n) || has_number a (senders_of es) then has_number a (senders_of ds) else true

  abbrev IsLeft : List PipeState → Type 0
  IsLeft ds = pipe_from (ds ++ left) a ≡ (if stays_with ds then pipe_from (pipes_of p) a else None)

  -- by what is found
  by_found : (ds : List PipeState)
      → or_else (pipe_from ds a) (if a == n then None else pipe_from p.incoming.pipes a)
      ≡ (if (if (a == n) || is_some (pipe_from es a) then is_some (pipe_from ds a) else true) then or_else (pipe_from es a) (pipe_from p.incoming.pipes a) else None)
      → IsLeft ds
  by_found ds e =
      first_append (λ q. q.sender) ds left a
      ∙ ap (λ o. or_else (pipe_from ds a) o) (first_kept (λ q. q.sender) n p.incoming.pipes a)
      ∙ e
      ∙ ap₂ (λ (b c : Bool). if (if (a == n) || b then c else true) then or_else (pipe_from es a) (pipe_from p.incoming.pipes a) else None)
      (sym (has_first (λ q. q.sender) es a)) (sym (has_first (λ q. q.sender) ds a))
      ∙ ap (λ o. if stays_with ds then o else None) (sym (first_append (λ q. q.sender) es p.incoming.pipes a))

  same_left : IsLeft es
  same_left = by_found es (step (pipe_from es a) (pipe_from p.incoming.pipes a) (a == n))
    where
      step : (o r : Option PipeState) (c : Bool)
          → or_else o (if c then None else r) ≡ (if (if c || is_some o then is_some o else true) then or_else o r else None)
      step (Some q) r true = refl
      step (Some q) r false = refl
      step None r true = refl
      step None r false = refl

  -- one more is kept, of the sender that goes
  module _ (q : PipeState) (from : pipe_from p.incoming.pipes n ≡ Some q) where
    sender_is : q.sender ≡ n
    sender_is = first_key (λ (r : PipeState). r.sender) p.incoming.pipes n q from

    one_more : (ds : List PipeState) → IsPartOf es ds a → IsLeft (ds ++ q ∷ [])
    one_more ds part =
        by_found (ds ++ q ∷ [])
        (ap (λ o. or_else o (if a == n then None else pipe_from p.incoming.pipes a)) last
        ∙ step (pipe_from es a) (pipe_from ds a) (pipe_from p.incoming.pipes a) (a == n) part
        (not_behind es p.incoming.pipes a apart)
        (λ is. ap (pipe_from p.incoming.pipes) (eqb-true a n is) ∙ from)
        ∙ ap (λ o. if (if (a == n) || is_some (pipe_from es a) then is_some o else true) then or_else (pipe_from es a) (pipe_from p.incoming.pipes a) else None) (sym last))
      where
        last : pipe_from (ds ++ q ∷ []) a ≡ or_else (pipe_from ds a) (if a == n then Some q else None)
        last =
            first_append (λ (r : PipeState). r.sender) ds (q ∷ []) a
            ∙ ap (λ (b : Bool). or_else (pipe_from ds a) (if b then Some q else None)) (ap (λ k. k == a) sender_is ∙ flip n a)

        step : (o d r : Option PipeState) (c : Bool) → d ≡ (if is_some d then o else None) → (is_some o ≡ true → r ≡ None) → (c ≡ true → r ≡ Some q)
            → or_else (or_else d (if c then Some q else None)) (if c then None else r)
            ≡ (if (if c || is_some o then is_some (or_else d (if c then Some q else None)) else true) then or_else o r else None)
        step (Some e) d r true part alone here = absurd (none-some q (sym (alone refl) ∙ here refl))
        step None (Some e) r c part alone here = absurd (none-some e (sym part))
        step None None r true part alone here = sym (here refl)
        step None None r false part alone here = refl
        step (Some e) (Some d) r false part alone here = part
        step (Some e) None r false part alone here = alone refl

    kept_left : IsLeft (with_kept p.expired q).pipes
    kept_left = step (has_room_for p.expired) (nat_lt 0 p.expired.most)
      where
        step : (b c : Bool)
            → IsLeft (if b then record (p.expired) { pipes = es ++ q ∷ [] }
            else (if c then record (p.expired) { pipes = drop 1 es ++ q ∷ [] } else p.expired)).pipes
        step true c = one_more es (all_are es a)
        step false true = one_more (drop 1 es) (behind_the_first es a (distinct_first es p.incoming.pipes apart))
        step false false = same_left

  pub pipe_cut : pipe_from (pipes_of (cut_from n p)) a
      ≡ (if (if (a == n) || has_number a (senders_of es) then has_number a (senders_of (cut_from n p).expired.pipes) else true) then pipe_from (pipes_of p) a else None)
  pipe_cut = step (pipe_from p.incoming.pipes n) refl
    where
      step : (o : Option PipeState) → pipe_from p.incoming.pipes n ≡ o → IsLeft (with_expired p.expired o).pipes
      step None at = same_left
      step (Some q) at = waits (has_waiting_on_any q)
        where
          waits : (b : Bool) → IsLeft (if b then with_kept p.expired q else p.expired).pipes
          waits true = kept_left q at
          waits false = same_left

-- ---- who is kept

pub senders_kept : (n : ℕ) (c : IncomingState) (o : Option PipeState) → ((q : PipeState) → o ≡ Some q → q.sender ≡ n)
    → senders_of (with_expired c o).pipes
    ≡ (if option_map_or has_waiting_on_any o false && nat_lt 0 c.most then kept_expired c.most (senders_of c.pipes) n else senders_of c.pipes)
senders_kept n c None from = refl
senders_kept n c (Some q) from = waits (has_waiting_on_any q)
  where
    lengths : (qs : List PipeState) → length (senders_of qs) ≡ length qs
    lengths [] = refl
    lengths (x ∷ xs) = omega (arith, lengths xs)

    last : (ds : List PipeState) → senders_of (ds ++ q ∷ []) ≡ senders_of ds ++ n ∷ []
    last ds = map-append (λ (r : PipeState). r.sender) ds (q ∷ []) ∙ ap (λ k. senders_of ds ++ k ∷ []) (from q refl)

    rest : (ds : List PipeState) → senders_of (drop 1 ds) ≡ rest_of (senders_of ds)
    rest [] = refl
    rest (x ∷ xs) = refl

    less : (a b : ℕ) → a < b → b ≤ 0 → ⊥
    less a b h k = absurd (omega (arith, h, k))

    room : (b z : Bool) → nat_lt (length c.pipes) c.most ≡ b → nat_lt 0 c.most ≡ z
        → senders_of (if b then record c { pipes = c.pipes ++ q ∷ [] } else (if z then record c { pipes = drop 1 c.pipes ++ q ∷ [] } else c)).pipes
        ≡ (if z then kept_expired c.most (senders_of c.pipes) n else senders_of c.pipes)
    room true true eb ez =
        last c.pipes
        ∙ ap (λ (b : Bool). (if b then rest_of (senders_of c.pipes) else senders_of c.pipes) ++ n ∷ [])
        (sym (ap (nat_le c.most) (lengths c.pipes) ∙ lt-leb c.most (length c.pipes) (ltb-true (length c.pipes) c.most eb)))
    room true false eb ez = absurd (less (length c.pipes) c.most (ltb-true (length c.pipes) c.most eb) (ltb-false 0 c.most ez))
    room false true eb ez =
        last (drop 1 c.pipes) ∙ ap (λ ks. ks ++ n ∷ []) (rest c.pipes)
        ∙ ap (λ (b : Bool). (if b then rest_of (senders_of c.pipes) else senders_of c.pipes) ++ n ∷ [])
        (sym (ap (nat_le c.most) (lengths c.pipes) ∙ le-leb c.most (length c.pipes) (ltb-false (length c.pipes) c.most eb)))
    room false false eb ez = refl

    waits : (b : Bool)
        → senders_of (if b then with_kept c q else c).pipes
        ≡ (if b && nat_lt 0 c.most then kept_expired c.most (senders_of c.pipes) n else senders_of c.pipes)
    waits true = room (has_room_for c) (nat_lt 0 c.most) refl refl
    waits false = refl
