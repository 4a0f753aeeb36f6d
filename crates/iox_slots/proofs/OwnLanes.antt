-- Messages on the lanes of their slots.
use Rattle.std.specs.Prelude.{◌≡◌, ℕ, zero, suc, ◌+◌, ◌-◌, ◌<◌, ◌&&◌, ◌||◌, ◌==◌, Bool, true, false, if◌then◌else◌, List, [], ◌∷◌, length, Option, Some, None, slice_get, slice_set, refl}
use Rattle.std.specs.List.{list_any}
use Rattle.std.proofs.Common.{sym, ap, subst, ◌∙◌, arith, true≢false, eqb-true, eq-eqb, replicate}
use Rattle.std.proofs.lemmas.Bool.{ltb-true}
use Rattle.std.proofs.lemmas.List.{length-set}
use Rattle.std.proofs.lemmas.Option.{none-some, same_Some, slice_get_within}
use Rattle.std.specs.Option.{option_map_or}
use Rattle.iox_tables.specs.HubStates.Tables.{PoolState, SlotState, no_slot, is_free, slot_at, slots_of}
use Rattle.iox_tables.specs.HubLending.Keeping.{has_holder}
use Rattle.iox_tables.proofs.HubLending.Owning.{two}
use Rattle.iox_slots.specs.Lanes.{AreOnOwnLanes, AreOnOwnLanesIf, is_lane_held, own_lane}
use Rattle.iox_slots.specs.Pools.{with_slot}
use Rattle.iox_slots.specs.Slots.{let_go}
use Rattle.iox_slots.proofs.FreeListLemmas.{free_holders}
use Rattle.iox_slots.proofs.ListLemmas.{get_set}
use Rattle.iox_slots.proofs.SlotLemmas.{slots_after}

-- where it is not known, nothing is said
pub not_known : (ss : List SlotState) → AreOnOwnLanesIf false ss
not_known ss e = absurd (true≢false (sym e))

-- ---- one slot changes

-- a slot changes, and is on its own lane if somebody has it then
changed_own : (ss : List SlotState) (k : ℕ) (s x : SlotState) → AreOnOwnLanes ss → slice_get ss k ≡ Some s
    → (0 < x.holders → x.lane + (k + 1) ≡ length ss) → AreOnOwnLanes (slice_set ss k x)
changed_own ss k s x own at is j y here has = over (k == j) refl (sym (get_set ss k j s x at) ∙ here)
  where
    size : length (slice_set ss k x) ≡ length ss
    size = length-set ss k x

    over : (b : Bool) → (k == j) ≡ b → (if b then Some x else slice_get ss j) ≡ Some y → y.lane + (j + 1) ≡ length (slice_set ss k x)
    over true e got =
        let same : x ≡ y = same_Some x y got in
        let place : k ≡ j = eqb-true k j e in
        let lane : x.lane ≡ y.lane = ap (λ (z : SlotState). z.lane) same in
        let had : x.lane + (k + 1) ≡ length ss = is (subst (λ (z : SlotState). 0 < z.holders) (sym same) has) in
        omega (arith, place, lane, had, size)
    over false e got = let old = own j y got has in omega (arith, old, size)

-- the message stays on its lane, and somebody has it only where somebody had it
pub own_stays : (known : Bool) (ss : List SlotState) (k : ℕ) (s x : SlotState) → AreOnOwnLanesIf known ss → slice_get ss k ≡ Some s
    → x.lane ≡ s.lane → (0 < x.holders → 0 < s.holders) → AreOnOwnLanesIf known (slice_set ss k x)
own_stays known ss k s x own at lane had e =
    changed_own ss k s x (own e) at (λ has. let old = own e k s at (had has) in omega (arith, lane, old))

-- a message is on its slot's own lane
pub own_taken : (known : Bool) (ss : List SlotState) (k : ℕ) (s x : SlotState) → AreOnOwnLanesIf known ss → slice_get ss k ≡ Some s
    → x.lane ≡ own_lane ss k → AreOnOwnLanesIf known (slice_set ss k x)
own_taken known ss k s x own at lane e =
    changed_own ss k s x (own e) at (λ has. let low = slice_get_within ss k s at in omega (arith, lane, low))

-- ---- a new pool

nobody_has : (n j : ℕ) (y : SlotState) → slice_get (replicate n no_slot) j ≡ Some y → y.holders ≡ 0
nobody_has zero j y at = absurd (none-some y at)
nobody_has (suc n) zero y at = ap (λ (z : SlotState). z.holders) (sym (same_Some no_slot y at))
nobody_has (suc n) (suc j) y at = nobody_has n j y at

-- nobody has a message yet
pub own_new : (known : Bool) (n : ℕ) → AreOnOwnLanesIf known (replicate n no_slot)
own_new known n e j y at has = let none = nobody_has n j y at in absurd (omega (arith, none, has))

-- ---- whether somebody has a message of a lane

-- a slot that passes is in some place
pub passes_at : (test : SlotState → Bool) (ss : List SlotState) → list_any test ss ≡ true → (k : ℕ) × (s : SlotState) × (slice_get ss k ≡ Some s) × (test s ≡ true)
passes_at test [] e = absurd (true≢false (sym e))
passes_at test (s ∷ ss) e = step (test s) refl e (passes_at test ss)
  where
    step : (b : Bool) → test s ≡ b → (b || list_any test ss) ≡ true
        → (list_any test ss ≡ true → (k : ℕ) × (x : SlotState) × (slice_get ss k ≡ Some x) × (test x ≡ true))
        → (k : ℕ) × (x : SlotState) × (slice_get (s ∷ ss) k ≡ Some x) × (test x ≡ true)
    step true passes any rest = (zero, s, refl, passes)
    step false passes any rest = let r = rest any in (suc r.0, r.1, r.2, r.3)

-- nobody has a message on the own lane of a slot that nobody has
pub own_unheld : (ss : List SlotState) (k : ℕ) (s : SlotState) → AreOnOwnLanes ss → slice_get ss k ≡ Some s → is_free s ≡ true
    → is_lane_held ss (own_lane ss k) ≡ false
own_unheld ss k s own at free = over (is_lane_held ss (own_lane ss k)) refl
  where
    never : is_lane_held ss (own_lane ss k) ≡ true → ⊥
    never e =
        let r = passes_at (λ x. has_holder x && (x.lane == own_lane ss k)) ss e in
        let parts = two (has_holder r.1) (r.1.lane == own_lane ss k) r.3 in
        let some : 0 < r.1.holders = ltb-true 0 r.1.holders parts.0 in
        let on : r.1.lane + (r.0 + 1) ≡ length ss = own r.0 r.1 r.2 some in
        let lane : r.1.lane ≡ own_lane ss k = eqb-true r.1.lane (own_lane ss k) parts.1 in
        let low : k < length ss = slice_get_within ss k s at in
        let same : r.0 ≡ k = omega (arith, on, lane, low) in
        let is : r.1 ≡ s = same_Some r.1 s (sym r.2 ∙ ap (slice_get ss) same ∙ at) in
        let none : r.1.holders ≡ 0 = ap (λ (x : SlotState). x.holders) is ∙ free_holders s free in
        omega (arith, some, none)

    over : (b : Bool) → is_lane_held ss (own_lane ss k) ≡ b → is_lane_held ss (own_lane ss k) ≡ false
    over true e = absurd (never e)
    over false e = e

-- ---- a slot that just one has, once that one lets it go

-- its lane is one of the pool's, and nobody has a message of it then
abbrev LaneIsLeft : List SlotState → List SlotState → ℕ → Type 0
LaneIsLeft ss now lane = (lane < length ss) × (is_lane_held now lane ≡ false)

module _ (ss : List SlotState) (k : ℕ) (s : SlotState) (own : AreOnOwnLanes ss) (at : slice_get ss k ≡ Some s) (one : s.holders ≡ 1) where
  -- the slots then
  abbrev now : List SlotState
  now = slice_set ss k (let_go s)

  on : s.lane + (k + 1) ≡ length ss
  on = own k s at (omega (arith, one))

  kept : AreOnOwnLanes now
  kept = own_stays true ss k s (let_go s) (λ e. own) at refl (λ has. omega (arith, one)) refl

  here : slice_get now k ≡ Some (let_go s)
  here = get_set ss k k s (let_go s) at ∙ ap (λ (b : Bool). if b then Some (let_go s) else slice_get ss k) (eq-eqb k k refl)

  free : is_free (let_go s) ≡ true
  free = eq-eqb (s.holders - 1) 0 (omega (arith, one))

  left_in : LaneIsLeft ss now s.lane
  left_in = (
    (let lane = on in omega (arith, lane)),
    subst (λ l. is_lane_held now l ≡ false) (let lane = on in let size = length-set ss k (let_go s) in omega (arith, lane, size)) (own_unheld now k (let_go s) kept here free),
  )

pub lane_is_left : (pools : List (Option PoolState)) (P k : ℕ) → AreOnOwnLanes (slots_of pools P) → (slot_at pools P k).holders ≡ 1
    → ((slot_at pools P k).lane < length (slots_of pools P))
    × (is_lane_held (slots_of (with_slot let_go pools P k) P) (slot_at pools P k).lane ≡ false)
lane_is_left pools P k own one =
    subst (λ (ss : List SlotState). LaneIsLeft (slots_of pools P) ss (slot_at pools P k).lane)
    (sym (slots_after let_go pools P k P
    ∙ ap (λ (b : Bool). if b then option_map_or (λ s. slice_set (slots_of pools P) k (let_go s)) (slice_get (slots_of pools P) k) (slots_of pools P) else slots_of pools P) (eq-eqb P P refl)))
    (over (slice_get (slots_of pools P) k) refl one)
  where
    over : (o : Option SlotState) → slice_get (slots_of pools P) k ≡ o → (option_map_or (λ s. s) o no_slot).holders ≡ 1
        → LaneIsLeft (slots_of pools P) (option_map_or (λ s. slice_set (slots_of pools P) k (let_go s)) o (slots_of pools P)) (option_map_or (λ s. s) o no_slot).lane
    over None at e = absurd (omega (arith, e))
    over (Some s) at e = left_in (slots_of pools P) k s own at e
