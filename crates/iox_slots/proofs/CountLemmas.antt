-- How many slots of a pool are free after a change of one.
use Rattle.std.specs.Prelude.{◌≡◌, ◌<◌, ℕ, ◌+◌, ◌-◌, Bool, true, false, if◌then◌else◌, ◌==◌, List, Option, Some, None, count_by, slice_get, slice_set, refl}
use Rattle.std.specs.Option.{option_map_or}
use Rattle.std.proofs.Common.{sym, ap, ◌∙◌, arith, eqb-true, true≢false}
use Rattle.std.proofs.lemmas.Bool.{eq-eqb, eqb-false}
use Rattle.iox_tables.specs.HubStates.Tables.{PoolState, SlotState, no_slot, slot_at, slots_of, is_free}
use Rattle.iox_slots.specs.FreeLists.{has_free_slot, one_if_free}
use Rattle.iox_slots.specs.Pools.{free_count, freed_by_one, with_slot}
use Rattle.iox_slots.specs.Slots.{held, let_go, slot_in}
use Rattle.iox_slots.proofs.FreeListLemmas.{count_moves, held_is_taken, not_free, weight}
use Rattle.iox_slots.proofs.SlotLemmas.{changed_slots, slots_after}

-- the slots of the pool itself
slots_here : (f : SlotState → SlotState) (pools : List (Option PoolState)) (P k : ℕ) → slots_of (with_slot f pools P k) P ≡ changed_slots f (slots_of pools P) k
slots_here f pools P k =
    slots_after f pools P k P ∙ ap (λ (b : Bool). if b then changed_slots f (slots_of pools P) k else slots_of pools P) (eq-eqb P P refl)

one_less : (ss : List SlotState) (k : ℕ) → option_map_or is_free (slice_get ss k) false ≡ true
    → count_by is_free (changed_slots held ss k) + 1 ≡ count_by is_free ss
one_less ss k = over (slice_get ss k) refl
  where
    over : (o : Option SlotState) → slice_get ss k ≡ o → option_map_or is_free o false ≡ true
        → count_by is_free (changed_slots held ss k) + 1 ≡ count_by is_free ss
    over None at e = absurd (true≢false (sym e))
    over (Some s) at e =
        let changed : count_by is_free (changed_slots held ss k) ≡ count_by is_free (slice_set ss k (held s)) =
        ap (λ (o : Option SlotState). count_by is_free (option_map_or (λ x. slice_set ss k (held x)) o ss)) at in
        omega (arith, changed, count_moves ss k s (held s) at, weight s true e, weight (held s) false (held_is_taken s))

pub counted_acquire : (pools : List (Option PoolState)) (P k : ℕ) → has_free_slot pools P k ≡ true
    → free_count (with_slot held pools P k) P + 1 ≡ free_count pools P
counted_acquire pools P k free =
    ap (λ (ss : List SlotState). count_by is_free ss + 1) (slots_here held pools P k) ∙ one_less (slots_of pools P) k free

as_many : (ss : List SlotState) (k : ℕ) → 0 < (slot_in ss k).holders → count_by is_free (changed_slots held ss k) ≡ count_by is_free ss
as_many ss k = over (slice_get ss k) refl
  where
    over : (o : Option SlotState) → slice_get ss k ≡ o → 0 < (option_map_or (λ x. x) o no_slot).holders
        → count_by is_free (option_map_or (λ x. slice_set ss k (held x)) o ss) ≡ count_by is_free ss
    over None at some = refl
    over (Some s) at some =
        omega (arith, count_moves ss k s (held s) at, weight s false (not_free s some), weight (held s) false (held_is_taken s))

-- as many are free when one more has one that somebody had
pub counted_hold : (pools : List (Option PoolState)) (P k : ℕ) → 0 < (slot_at pools P k).holders
    → free_count (with_slot held pools P k) P ≡ free_count pools P
counted_hold pools P k some =
    ap (λ (ss : List SlotState). count_by is_free ss) (slots_here held pools P k) ∙ as_many (slots_of pools P) k some

-- a slot is free with one less if it was, or if one had it
weight_let_go : (s : SlotState) → one_if_free (let_go s) ≡ one_if_free s + (if s.holders == 1 then 1 else 0)
weight_let_go s = over (s.holders == 0) refl (s.holders == 1) refl (s.holders - 1 == 0) refl
  where
    over : (a : Bool) → (s.holders == 0) ≡ a → (b : Bool) → (s.holders == 1) ≡ b → (c : Bool) → (s.holders - 1 == 0) ≡ c
        → ◌≡◌ {A = ℕ} (if c then 1 else 0) ((if a then 1 else 0) + (if b then 1 else 0))
    over true ea true eb c ec = absurd (omega (arith, eqb-true s.holders 0 ea, eqb-true s.holders 1 eb))
    over true ea false eb true ec = refl
    over true ea false eb false ec = absurd (eqb-false (s.holders - 1) 0 ec (omega (arith, eqb-true s.holders 0 ea)))
    over false ea true eb true ec = refl
    over false ea true eb false ec = absurd (eqb-false (s.holders - 1) 0 ec (omega (arith, eqb-true s.holders 1 eb)))
    over false ea false eb true ec =
        absurd (eqb-false s.holders 0 ea (omega (arith, eqb-true (s.holders - 1) 0 ec, λ (e : s.holders ≡ 1). eqb-false s.holders 1 eb e)))
    over false ea false eb false ec = refl

one_more : (ss : List SlotState) (k : ℕ) → count_by is_free (changed_slots let_go ss k) ≡ count_by is_free ss + (if (slot_in ss k).holders == 1 then 1 else 0)
one_more ss k = over (slice_get ss k) refl
  where
    over : (o : Option SlotState) → slice_get ss k ≡ o
        → count_by is_free (option_map_or (λ x. slice_set ss k (let_go x)) o ss)
        ≡ count_by is_free ss + (if (option_map_or (λ x. x) o no_slot).holders == 1 then 1 else 0)
    over None at = omega arith
    over (Some s) at = omega (arith, count_moves ss k s (let_go s) at, weight_let_go s)

pub counted_let_go : (pools : List (Option PoolState)) (P k : ℕ) → free_count (with_slot let_go pools P k) P ≡ free_count pools P + freed_by_one pools P k
counted_let_go pools P k =
    ap (λ (ss : List SlotState). count_by is_free ss) (slots_here let_go pools P k) ∙ one_more (slots_of pools P) k
