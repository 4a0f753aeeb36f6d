-- Words go on fitting the tables of a hub as handles, ports and pools go.
use Rattle.std.specs.Prelude.{◌≡◌, ℕ, ◌<◌, ◌≤◌, Bool, true, false, if◌then◌else◌, ◌==◌, List, [], ◌∷◌, length, map, Option, Some, None, slice_get, refl}
use Rattle.std.specs.Option.{option_map, option_map_or}
use Rattle.std.proofs.Common.{sym, ap, subst, ◌∙◌, arith}
use Rattle.std.proofs.lemmas.Option.{none-some, same_Some, slice_get-map}
use Rattle.iox_lanes.specs.Lanes.{LaneState, is_taken, released, with_returned}
use Rattle.iox_model.specs.declared.kind.Kind.{Kind}
use Rattle.iox_model.specs.declared.kind.Kind.TheVariants as kinds
use Rattle.iox_model.specs.Messages.{closed_for}
use Rattle.iox_model.specs.Settings.{is_client}
use Rattle.iox_tables.specs.HubStates.Tables.{HandleState, HubTables, PoolState, PortState, SlotState, no_slot, pool_at, port_in, slot_at, slots_of}
use Rattle.iox_tables.specs.HubStates.Ends.{OfEachHandle}
use Rattle.iox_tables.specs.HubStates.Releases.{pending_states, request_of, with_given_back, with_value_released, way_to_client}
use Rattle.iox_tables.specs.HubMaking.Disconnections.{cut_from, is_unused, ports_without, with_disconnected, with_released}
use Rattle.iox_tables.proofs.HubMaking.Disconnecting.{port_left}
use Rattle.iox_tables.specs.HubBooks.Handles.{way_in}
use Rattle.iox_tables.specs.HubBooks.Hubs.{AreInOrder}
use Rattle.iox_tables.specs.HubBooks.Keeps.{bare_pool, bare_slot}
use Rattle.iox_tables.proofs.HubBooks.Frames.{AreAlike, bare_lane, lanes_on_bare, length_map, port_bare, port_before, states_on_bare}
use Rattle.iox_tables.proofs.HubBooks.Release.{each_left}
use Rattle.iox_control_releasing.specs.Endings.{given_up_as, with_ended}
use Rattle.iox_control_releasing.specs.Goings.{KeptPools}
use Rattle.iox_hub.specs.Fits.{GoneFit, SuitsHandle, WordsFit, are_requests_in, count_in, longest_in}
use Rattle.iox_hub.specs.Words.{Carried, stored_in}
use Rattle.iox_hub.proofs.Fitting.{one_as}
use Rattle.iox_hub.proofs.GoneFits.{gone_fit_released}

-- ---- ports that are left

-- what of a port its pool's words must fit
pub record IsLike (q p : PortState) : Type 0 where
  pub role : q.role ≡ p.role
  pub pool : q.pool ≡ p.pool
  pub longest : q.longest ≡ p.longest

-- each port was there before, and had the same of that
abbrev pub AreLeft : List PortState → List PortState → Type 0
AreLeft old new = (n : ℕ) (p : PortState) → port_in new n ≡ Some p → (q : PortState) × (port_in old n ≡ Some q) × IsLike q p

pub left_alike : (old new : List PortState) → AreAlike old new → AreLeft old new
left_alike old new alike n p at =
    let q = port_before old new alike n p at in (
      q.0,
      q.1,
      record {
        role = ap (λ (z : PortState). z.role) q.2;
        pool = ap (λ (z : PortState). z.pool) q.2;
        longest = ap (λ (z : PortState). z.longest) q.2;
      },
    )

pub left_twice : (a b c : List PortState) → AreLeft a b → AreLeft b c → AreLeft a c
left_twice a b c first second n p at =
    let q = second n p at in
    let r = first n q.0 q.1 in (
      r.0,
      r.1,
      record {
        role = r.2.role ∙ q.2.role;
        pool = r.2.pool ∙ q.2.pool;
        longest = r.2.longest ∙ q.2.longest;
      },
    )

left_same : (ports : List PortState) → AreLeft ports ports
left_same ports n p at = (p, at, record { role = refl; pool = refl; longest = refl })

-- as one port goes
left_without : (gone : ℕ) (ports : List PortState) → AreLeft ports (ports_without gone ports)
left_without gone ports n p at = step (n == gone) (port_in ports n) refl (sym (port_left gone ports n) ∙ at)
  where
    step : (b : Bool) (o : Option PortState) → port_in ports n ≡ o → (if b then None else option_map (cut_from gone) o) ≡ Some p
        → (q : PortState) × (port_in ports n ≡ Some q) × IsLike q p
    step true o is e = absurd (none-some p e)
    step false None is e = absurd (none-some p e)
    step false (Some q) is e =
        let same : cut_from gone q ≡ p = same_Some (cut_from gone q) p e in (
          q,
          is,
          record {
            role = ap (λ (z : PortState). z.role) same;
            pool = ap (λ (z : PortState). z.pool) same;
            longest = ap (λ (z : PortState). z.longest) same;
          },
        )

pub left_released : (t : HubTables) (n : ℕ) → AreLeft t.ports (with_released t n).ports
left_released t n = step (is_unused t n)
  where
    step : (b : Bool) → AreLeft t.ports (if b then with_disconnected t n else t).ports
    step true = left_without n t.ports
    step false = left_same t.ports

pub released_handles : (t : HubTables) (n : ℕ) → (with_released t n).handles ≡ t.handles
released_handles t n = step (is_unused t n)
  where
    step : (b : Bool) → (if b then with_disconnected t n else t).handles ≡ t.handles
    step true = refl
    step false = refl

-- ---- pools that are left

long_as : (p q : PoolState) → bare_pool p ≡ bare_pool q → length q.slots ≡ length p.slots
long_as p q same = sym (length_map bare_slot q.slots) ∙ ap (λ (z : PoolState). length z.slots) (sym same) ∙ length_map bare_slot p.slots

-- of how many elements the message in a slot is
abbrev elements_at : List SlotState → ℕ → ℕ
elements_at slots k = (option_map_or (λ (s : SlotState). s) (slice_get slots k) no_slot).elements

elements_bare : (slots : List SlotState) (k : ℕ) → elements_at (map bare_slot slots) k ≡ elements_at slots k
elements_bare slots k =
    ap (λ o. (option_map_or (λ (s : SlotState). s) o no_slot).elements) (slice_get-map bare_slot slots k) ∙ step (slice_get slots k)
  where
    step : (o : Option SlotState) → (option_map_or (λ (s : SlotState). s) (option_map bare_slot o) no_slot).elements ≡ (option_map_or (λ (s : SlotState). s) o no_slot).elements
    step (Some s) = refl
    step None = refl

elements_as : (p q : PoolState) → bare_pool p ≡ bare_pool q → (k : ℕ) → elements_at p.slots k ≡ elements_at q.slots k
elements_as p q same k = sym (elements_bare p.slots k) ∙ ap (λ (z : PoolState). elements_at z.slots k) same ∙ elements_bare q.slots k

abbrev slots_in : Option PoolState → List SlotState
slots_in o = option_map_or (λ (p : PoolState). p.slots) o []

module _ {many : Bool × Bool} (words : List (Option Carried)) (t : HubTables) (fit : WordsFit many words t) where
  pub fits_left : (t' : HubTables) → AreLeft t.ports t'.ports → KeptPools t.pools t'.pools → GoneFit words t' → OfEachHandle (SuitsHandle many words) t'.handles → WordsFit many words t'
  fits_left t' ports kept gone handles = record {
    pools = pools;
    elements = elements;
    ports = λ n p at.
        let q = ports n p at in
        ap (are_requests_in words) (sym q.2.pool) ∙ fit.ports n q.0 q.1 ∙ ap is_client q.2.role;
    gone = gone;
    longest = λ n p at.
        let q = ports n p at in
        subst (λ k. p.longest ≤ longest_in words k) q.2.pool (subst (λ k. k ≤ longest_in words q.0.pool) q.2.longest (fit.longest n q.0 q.1));
    one = λ n p at. let q = ports n p at in one_as many q.0 p q.2.role q.2.longest (fit.one n q.0 q.1);
    handles = handles;
  }
    where
      pools : (place : ℕ) → length (slots_of t'.pools place) ≤ count_in words place
      pools place = step (pool_at t'.pools place) refl
        where
          step : (o : Option PoolState) → pool_at t'.pools place ≡ o → length (slots_in o) ≤ count_in words place
          step None is = omega arith
          step (Some q) is =
              let p = kept place q is in
              let long = long_as p.0 q p.2 in
              let old : length p.0.slots ≤ count_in words place = subst (λ o. length (slots_in o) ≤ count_in words place) p.1 (fit.pools place) in
              omega (arith, long, old)

      elements : (place k : ℕ) → k < length (slots_of t'.pools place) → (stored_in words place k).elements ≡ (slot_at t'.pools place k).elements
      elements place k low = step (pool_at t'.pools place) refl low
        where
          step : (o : Option PoolState) → pool_at t'.pools place ≡ o → k < length (slots_in o) → (stored_in words place k).elements ≡ elements_at (slots_in o) k
          step None is less = absurd (omega (arith, less))
          step (Some q) is less =
              let p = kept place q is in
              let long = long_as p.0 q p.2 in
              let there : k < length p.0.slots = omega (arith, less, long) in
              fit.elements place k (subst (λ o. k < length (slots_in o)) (sym p.1) there)
              ∙ ap (λ o. elements_at (slots_in o) k) p.1 ∙ elements_as p.0 q p.2 k

-- ---- the release of a handle

released_bare : (k : ℕ) (l : LaneState) → bare_lane (released l k) ≡ bare_lane l
released_bare k l = step (is_taken l k) (Rattle.iox_lanes.specs.Lanes.rank_in l.taken k)
  where
    step : (b : Bool) (o : Option ℕ)
        → bare_lane (if b then with_returned (option_map_or (λ i. record l { taken = Rattle.std.specs.List.swap_remove l.taken i k }) o l) k else l) ≡ bare_lane l
    step true (Some i) = refl
    step true None = refl
    step false o = refl

given_back_alike : (t : HubTables) (h : HandleState) → AreAlike t.ports (with_given_back t (way_in t.pools h) h).ports
given_back_alike t h = lanes_on_bare (λ l. released l h.slot) (released_bare h.slot) t.ports (way_in t.pools h ∷ [])

pub given_up_alike : (kind : Kind) (t : HubTables) (h : HandleState) → AreAlike t.ports (given_up_as kind t h).ports
given_up_alike kinds.PendingResponse t h = states_on_bare (λ r. closed_for r (request_of t h)) t.ports (pending_states t h)
given_up_alike kinds.ActiveRequest t h =
    states_on_bare (λ r. closed_for r (request_of t h)) (with_given_back t (way_in t.pools h) h).ports (way_to_client t h ∷ []) ∙ given_back_alike t h
given_up_alike kinds.Response t h = given_back_alike t h
given_up_alike kinds.Client t h = refl
given_up_alike kinds.Server t h = refl
given_up_alike kinds.RequestMutUninit t h = refl
given_up_alike kinds.RequestMut t h = refl
given_up_alike kinds.ResponseMutUninit t h = refl
given_up_alike kinds.ResponseMut t h = refl

pub given_up_handles : (kind : Kind) (t : HubTables) (h : HandleState) → (given_up_as kind t h).handles ≡ t.handles
given_up_handles kinds.PendingResponse t h = refl
given_up_handles kinds.ActiveRequest t h = refl
given_up_handles kinds.Response t h = refl
given_up_handles kinds.Client t h = refl
given_up_handles kinds.Server t h = refl
given_up_handles kinds.RequestMutUninit t h = refl
given_up_handles kinds.RequestMut t h = refl
given_up_handles kinds.ResponseMutUninit t h = refl
given_up_handles kinds.ResponseMut t h = refl

module _ {many : Bool × Bool} (words : List (Option Carried)) (t t' : HubTables) (fit : WordsFit many words t) (order : AreInOrder t) (kept : KeptPools t.pools t'.pools) where
  -- then the port goes, if nothing of it is left
  pub fits_gone : (u : HubTables) (n : ℕ) → AreAlike t.ports u.ports → OfEachHandle (SuitsHandle many words) u.handles
      → t' ≡ record (with_released u n) { pools = t'.pools } → WordsFit many words t'
  fits_gone u n ports handles is =
      fits_left words t fit t'
      (subst (λ (z : HubTables). AreLeft t.ports z.ports) (sym is) (left_twice t.ports u.ports (with_released u n).ports (left_alike t.ports u.ports ports) (left_released u n)))
      kept
      (gone_fit_released words t t' fit.gone kept order fit.ports u n ports is)
      (subst (λ (z : HubTables). OfEachHandle (SuitsHandle many words) z.handles) (sym is)
      (subst (λ hs. OfEachHandle (SuitsHandle many words) hs) (sym (released_handles u n)) handles))

  pub fits_released : (h : HandleState) → t' ≡ record (with_released (with_ended t h) h.port) { pools = t'.pools } → WordsFit many words t'
  fits_released h is =
      fits_gone (with_ended t h) h.port (given_up_alike h.kind t h)
      (each_left (SuitsHandle many words) h.node h.number (given_up_as h.kind t h).handles
      (subst (λ hs. OfEachHandle (SuitsHandle many words) hs) (sym (given_up_handles h.kind t h)) fit.handles))
      is

  pub fits_port_released : (n : ℕ) → t' ≡ record (with_released (with_value_released t n) n) { pools = t'.pools } → WordsFit many words t'
  fits_port_released n is =
      fits_gone (with_value_released t n) n
      (port_bare (λ p. record p { held = false }) (λ p. refl) t.ports n) fit.handles is
