-- With one port more, the words of a hub fit its tables, and its values stay.
use Rattle.std.specs.Prelude.{◌≡◌, ℕ, zero, suc, ◌<◌, ◌≤◌, Bool, true, false, if◌then◌else◌, ◌==◌, List, [], ◌∷◌, length, map, filter, replicate, Option, Some, None, slice_get, refl}
use Rattle.std.specs.Option.{option_map, option_map_or}
use Rattle.std.proofs.Common.{sym, ap, ap₂, subst, ◌∙◌, arith, eqb-true, true≢false}
use Rattle.std.proofs.lemmas.List.{length-replicate}
use Rattle.std.proofs.lemmas.Option.{none-some, same_Some}
use Rattle.iox_types.specs.declared.identifiers.system_id.UniqueSystemId.{UniqueSystemId}
use Rattle.iox_model.specs.declared.kind.Kind.{Kind}
use Rattle.iox_model.specs.declared.kind.Role.{Role}
use Rattle.iox_lanes.specs.Incomings.{IncomingState}
use Rattle.iox_model.specs.Maps.{has_number, or_else}
use Rattle.iox_model.specs.Settings.{is_client, other_role}
use Rattle.iox_laws.proofs.WeaveLaws.MapLemmas.{eqb-refl}
use Rattle.iox_store.specs.Stored.{StoredMessage, new_contents, stored_at, unlent}
use Rattle.iox_lanes.specs.Pipes.{PipeState}
use Rattle.iox_tables.specs.HubStates.Tables.{HandleState, HubTables, PoolState, PortState, SlotState, no_slot, pool_at, port_in, senders_of, slot_at, slots_of}
use Rattle.iox_tables.specs.HubStates.Ends.{OfEachHandle}
use Rattle.iox_tables.specs.HubStates.Wirings.{handle_in}
use Rattle.iox_tables.specs.HubBooks.Hubs.{AreInOrder}
use Rattle.iox_tables.specs.HubLoans.Questions.{kind_by, kind_in, kind_of_role}
use Rattle.iox_slots.specs.Pools.{place_for_one}
use Rattle.iox_tables.specs.HubMaking.FreePools.{IsPut}
use Rattle.iox_tables.specs.HubMaking.NewPorts.{connected_from, connected_to, is_other, pipe_between, pool_made}
use Rattle.iox_tables.proofs.HubMaking.Connecting.{port_with, shows_same, there_is}
use Rattle.iox_tables.specs.HubKeeping.Connected.{IsFreePlace}
use Rattle.iox_tables.proofs.HubKeeping.Ordered.{not_there, places_become_free}
use Rattle.iox_control_making.specs.declared.asked.Asked.{Asked}
use Rattle.iox_control_making.specs.Making.{port_asked, with_asked}
use Rattle.iox_control_making.proofs.Vacant.{one_more_is_put, vacant}
use Rattle.iox_hub.specs.Fits.{GoneFit, SuitsHandle, WordsFit, are_requests_in, carried_in, count_in, longest_in, many_by}
use Rattle.iox_hub.specs.Hubs.{HubState, many_in}
use Rattle.iox_hub.specs.Making.{AreWordsPut, shape_in, words_made}
use Rattle.iox_hub.specs.Words.{Carried, stored_in}
use Rattle.iox_hub.proofs.Named.{handle_is_value}

-- ---- words that are put

abbrev stored_of : ℕ → Option Carried → StoredMessage
stored_of k o = option_map_or (λ (c : Carried). stored_at c.contents k) o (unlent 0 [])

stored_by : (words : List (Option Carried)) (q k : ℕ) → stored_in words q k ≡ stored_of k (carried_in words q)
stored_by words q k = step (slice_get words q)
  where
    step : (o : Option (Option Carried)) → option_map_or (stored_of k) o (unlent 0 []) ≡ stored_of k (option_map_or (λ p. p) o None)
    step (Some p) = refl
    step None = refl

module _ (old : List (Option Carried)) (place : ℕ) (c : Carried) (new : List (Option Carried)) (put : AreWordsPut old place c new) where
  pub stored_else : (q k : ℕ) → (q == place) ≡ false → stored_in new q k ≡ stored_in old q k
  stored_else q k other = stored_by new q k ∙ ap (stored_of k) (put.others q other) ∙ sym (stored_by old q k)

  stored_there : (k : ℕ) → stored_in new place k ≡ stored_at c.contents k
  stored_there k = stored_by new place k ∙ ap (stored_of k) put.there

-- no new message was lent
none_lent : (n longest : ℕ) (user : List ℕ) (k : ℕ) → (stored_at (new_contents n longest user) k).elements ≡ 0
none_lent zero longest user k = refl
none_lent (suc n) longest user zero = refl
none_lent (suc n) longest user (suc k) = none_lent n longest user k

abbrev elements_of : ℕ → List SlotState → ℕ
elements_of k slots = (option_map_or (λ (s : SlotState). s) (slice_get slots k) no_slot).elements

none_written : (n k : ℕ) → elements_of k (replicate n no_slot) ≡ 0
none_written zero k = refl
none_written (suc n) zero = refl
none_written (suc n) (suc k) = none_written n k

both_each : (P Q R : HandleState → Type 0) → ((h : HandleState) → P h → Q h → R h) → (hs : List HandleState) → OfEachHandle P hs → OfEachHandle Q hs → OfEachHandle R hs
both_each P Q R from [] a b = tt
both_each P Q R from (h ∷ hs) a b = (from h a.0 b.0, both_each P Q R from hs a.1 b.1)

abbrev slots_in : Option PoolState → List SlotState
slots_in o = option_map_or (λ (p : PoolState). p.slots) o []

-- ---- with one port more

module _ (t : HubTables) (node : ℕ) (role : Role) (id : UniqueSystemId) (asked : Asked) (order : AreInOrder t) where
  abbrev new : PortState
  new = port_asked t node role id asked

  abbrev last : PortState
  last = connected_from t.settings t.ports new

  abbrev place : ℕ
  place = place_for_one t.pools

  abbrev left : HubTables
  left = with_asked t new

  pub free : IsFreePlace t place
  free = (places_become_free t place order).empty (vacant t.pools)

  pub pool_put : IsPut t.pools place (pool_made new) left.pools
  pool_put = one_more_is_put t.pools (pool_made new)

  -- what is so of what each port shows but for its pipes
  each_port : {B : Type 0} (show : PortState → B) → ((p : PortState) (ps : List PipeState) → show (record p { incoming = record (p.incoming) { pipes = ps } }) ≡ show p)
      → (P : B → Type 0) → ((n : ℕ) (p : PortState) → port_in t.ports n ≡ Some p → P (show p)) → P (show new)
      → (n : ℕ) (p : PortState) → port_in left.ports n ≡ Some p → P (show p)
  each_port show same P old of_new n p at = step (port_in t.ports n) refl (new.number == n) (sym (port_with t.settings t.ports new n) ∙ at)
    where
      step : (o : Option PortState) → port_in t.ports n ≡ o → (b : Bool)
          → or_else (option_map (connected_to t.settings new) o) (if b then Some last else None) ≡ Some p → P (show p)
      step (Some q) there b e =
          subst P (sym (shows_same t.settings t.ports new show q (same q)) ∙ ap show (same_Some (connected_to t.settings new q) p e)) (old n q there)
      step None there true e =
          subst P (sym (same new (map (λ q. pipe_between t.settings q new) (filter (λ q. is_other q new) t.ports))) ∙ ap show (same_Some last p e)) of_new
      step None there false e = absurd (none-some p e)

  -- ---- values

  last_is : port_in left.ports t.next_number ≡ Some last
  last_is =
      port_with t.settings t.ports new t.next_number
      ∙ ap₂ (λ (o : Option PortState) (b : Bool). or_else (option_map (connected_to t.settings new) o) (if b then Some last else None))
      (there_is (port_in t.ports t.next_number) (not_there t order)) (eqb-refl t.next_number)

  -- the new port is a value of its node
  pub made_is_value : kind_in left node t.next_number ≡ Some (kind_of_role role)
  made_is_value =
      ap (λ (o : Option PortState). kind_by node o (handle_in t.handles node t.next_number)) last_is
      ∙ ap (λ (b : Bool). if b then Some (kind_of_role role) else None) (eqb-refl node)

  -- all other values stay
  pub values_stay : AreInOrder left → (other n : ℕ) (kind : Kind) → kind_in t other n ≡ Some kind → kind_in left other n ≡ Some kind
  values_stay after other n kind has = step (port_in t.ports n) refl (handle_in t.handles other n) refl has
    where
      step : (o : Option PortState) → port_in t.ports n ≡ o → (k : Option HandleState) → handle_in t.handles other n ≡ k → kind_by other o k ≡ Some kind
          → kind_in left other n ≡ Some kind
      step (Some q) there k at e =
          ap (λ (o : Option PortState). kind_by other o (handle_in t.handles other n))
          (port_with t.settings t.ports new n
          ∙ ap (λ (o : Option PortState). or_else (option_map (connected_to t.settings new) o) (if new.number == n then Some last else None)) there)
          ∙ shows_same t.settings t.ports new (λ (p : PortState). kind_by other (Some p) (handle_in t.handles other n)) q (λ ps. refl)
          ∙ e
      step None there (Some h) at e = handle_is_value left after other n h at ∙ e
      step None there None at e = absurd (none-some kind e)

  -- ---- words

  module _ (h : HubState) (words : List (Option Carried)) (fit : WordsFit (many_in h) h.words t)
      (one_of_one : many_by (many_in h) role ≡ false → asked.longest ≡ 1)
      (put : AreWordsPut h.words place (words_made h role asked.size asked.longest) words) where
    abbrev c : Carried
    c = words_made h role asked.size asked.longest

    counted_there : length (slots_of left.pools place) ≤ count_in words place
    counted_there =
        let slots : length (slots_of left.pools place) ≡ asked.size = ap (λ (o : Option PoolState). length (slots_in o)) pool_put.there ∙ length-replicate asked.size no_slot in
        let messages : count_in words place ≡ asked.size =
        ap (λ (o : Option Carried). option_map_or (λ (d : Carried). length d.contents.messages) o 0) put.there ∙ length-replicate asked.size (unlent asked.longest (shape_in h role).user) in
        omega (arith, slots, messages)

    pools_fit : (q : ℕ) → length (slots_of left.pools q) ≤ count_in words q
    pools_fit q = step (q == place) refl
      where
        other : {a b d e : ℕ} → a ≡ b → a ≤ d → e ≡ d → b ≤ e
        other p l r = omega (arith, p, l, r)

        step : (b : Bool) → (q == place) ≡ b → length (slots_of left.pools q) ≤ count_in words q
        step true e = subst (λ i. length (slots_of left.pools i) ≤ count_in words i) (sym (eqb-true q place e)) counted_there
        step false e =
            other (ap (λ (o : Option PoolState). length (slots_in o)) (pool_put.others q e)) (fit.pools q)
            (ap (λ (o : Option Carried). option_map_or (λ (d : Carried). length d.contents.messages) o 0) (put.others q e))

    elements_there : (k : ℕ) → (stored_in words place k).elements ≡ (slot_at left.pools place k).elements
    elements_there k =
        ap (λ (s : StoredMessage). s.elements) (stored_there h.words place c words put k) ∙ none_lent asked.size asked.longest _ k
        ∙ sym (ap (λ (o : Option PoolState). elements_of k (slots_in o)) pool_put.there ∙ none_written asked.size k)

    elements_fit : (q k : ℕ) → k < length (slots_of left.pools q) → (stored_in words q k).elements ≡ (slot_at left.pools q k).elements
    elements_fit q k low = step (q == place) refl
      where
        moved : {a b : ℕ} → a ≡ b → k < b → k < a
        moved e l = omega (arith, e, l)

        step : (b : Bool) → (q == place) ≡ b → (stored_in words q k).elements ≡ (slot_at left.pools q k).elements
        step true e = subst (λ i. (stored_in words i k).elements ≡ (slot_at left.pools i k).elements) (sym (eqb-true q place e)) (elements_there k)
        step false e =
            ap (λ (s : StoredMessage). s.elements) (stored_else h.words place c words put q k e)
            ∙ fit.elements q k (moved (ap (λ (o : Option PoolState). length (slots_in o)) (pool_put.others q e)) low)
            ∙ ap (λ (o : Option PoolState). elements_of k (slots_in o)) (pool_put.others q e)

    suits_still : (k : HandleState) → SuitsHandle (many_in h) h.words k → (k.pool == place) ≡ false → SuitsHandle (many_in h) words k
    suits_still k s other =
        let same : stored_in words k.pool k.slot ≡ stored_in h.words k.pool k.slot = stored_else h.words place c words put k.pool k.slot other in
        record {
          kind = ap (λ (o : Option Carried). option_map_or (λ (d : Carried). d.requests) o false) (put.others k.pool other) ∙ s.kind;
          one = λ e few. ap (λ (z : StoredMessage). z.elements) same ∙ s.one e few;
          full = λ e. ap (λ (z : StoredMessage). z.filled) same ∙ s.full e ∙ sym (ap (λ (z : StoredMessage). z.elements) same);
        }

    -- nothing is kept of the new port, and it keeps nothing
    gone_fits : GoneFit words left
    gone_fits q x n p at =
        each_port {B = IncomingState × Role} (λ r. (r.expired, r.role)) (λ r ps. refl)
        (λ s. has_number x.port (senders_of s.0.pipes) ≡ true → are_requests_in words q ≡ is_client (other_role s.1)) (λ m r there has. old m r there has (q == place) refl)
        (λ has. absurd (true≢false (sym has))) n p
      where
        old : (m : ℕ) (r : PortState) → port_in t.ports m ≡ Some r → has_number x.port (senders_of r.expired.pipes) ≡ true → (b : Bool) → (q == place) ≡ b
            → are_requests_in words q ≡ is_client (other_role r.role)
        old m r there has true e =
            let port : x.port ≡ t.next_number
            = ap (λ (o : Option PoolState). option_map_or (λ (y : PoolState). y.port) o 0) (sym at ∙ ap (pool_at left.pools) (eqb-true q place e) ∙ pool_put.there) in
            let below = order.numbers.kept m r there x.port has in absurd (omega (arith, port, below))
        old m r there has false e =
            ap (λ (o : Option Carried). option_map_or (λ (d : Carried). d.requests) o false) (put.others q e) ∙ fit.gone q x m r (pool_put.others q e ∙ at) there has

    pub fits_made : WordsFit (many_in h) words left
    fits_made = record {
      pools = pools_fit;
      elements = elements_fit;
      ports = each_port {B = ℕ × Role} (λ p. (p.pool, p.role)) (λ p ps. refl) (λ s. are_requests_in words s.0 ≡ is_client s.1)
          (λ n p at. ap (λ (o : Option Carried). option_map_or (λ (d : Carried). d.requests) o false) (put.others p.pool (free.ports n p at)) ∙ fit.ports n p at)
          (ap (λ (o : Option Carried). option_map_or (λ (d : Carried). d.requests) o false) put.there);
      gone = gone_fits;
      longest = each_port {B = ℕ × ℕ} (λ p. (p.pool, p.longest)) (λ p ps. refl) (λ s. s.1 ≤ longest_in words s.0)
          (λ n p at. subst (λ l. p.longest ≤ l) (sym (ap (λ (o : Option Carried). option_map_or (λ (d : Carried). d.contents.longest) o 0) (put.others p.pool (free.ports n p at)))) (fit.longest n p at))
          (subst (λ l. asked.longest ≤ l) (sym (ap (λ (o : Option Carried). option_map_or (λ (d : Carried). d.contents.longest) o 0) put.there)) (omega arith));
      one = each_port {B = Role × ℕ} (λ p. (p.role, p.longest)) (λ p ps. refl)
          (λ s. many_by (many_in h) s.0 ≡ false → s.1 ≡ 1) fit.one one_of_one;
      handles = both_each (SuitsHandle (many_in h) h.words) (λ k. (k.pool == place) ≡ false) (SuitsHandle (many_in h) words) suits_still t.handles fit.handles
          ((places_become_free t place order).nobody free).handles;
    }
