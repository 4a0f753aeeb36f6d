-- A pool with a slot that nobody has is not dry.
use Rattle.std.specs.Prelude.{◌≡◌, ℕ, ◌+◌, ◌≤◌, ◌<◌, Bool, true, false, ◌&&◌, ◌==◌, List, [], ◌∷◌, Option, Some, None, refl}
use Rattle.std.specs.List.{list_all, range_with_len}
use Rattle.std.specs.Option.{option_map_or}
use Rattle.std.proofs.Common.{sym, ap, ◌∙◌, true≢false, arith, inl, inr}
use Rattle.iox_model.specs.declared.way.Way.{Way}
use Rattle.iox_model.specs.Handles.{is_own}
use Rattle.iox_model.specs.Maps.{has_number}
use Rattle.iox_laws.proofs.WeaveLedger.Lists.{IsAmong, among-any, any-among}
use Rattle.iox_laws.proofs.WeaveLedger.Ranges.{range-has}
use Rattle.iox_lanes.specs.Lanes.{LaneState}
use Rattle.iox_tables.specs.HubStates.Tables.{HubTables, PortState}
use Rattle.iox_tables.specs.HubStates.Ways.{lane_on}
use Rattle.iox_tables.specs.HubStates.Steps.{places_on}
use Rattle.iox_tables.specs.HubLoans.Lenders.{ways_by, with_got_back}
use Rattle.iox_tables.specs.HubLoans.Pools.{KeepsItsOwn, UnusedSlotsMayBeLent, is_slot_held, is_slot_kept, is_slot_out}
use Rattle.iox_tables.specs.HubLoans.Slots.{IsUnused, is_place}
use Rattle.iox_tables.proofs.HubLoans.Dry.{either, second_is, sender_is}
use Rattle.iox_tables.proofs.HubLoans.GotBack.{dry_pools_are_kept, own_then}

-- what cannot be true is false
pub not_true : (b : Bool) → (b ≡ true → ⊥) → b ≡ false
not_true true never = absurd (never refl)
not_true false never = refl

first_passes : (a b : Bool) → (a && b) ≡ true → a ≡ true
first_passes true b e = refl
first_passes false b e = absurd (true≢false (sym e))

-- where all pass, one does
all-among : {A : Type 0} (test : A → Bool) (a : A) (xs : List A) → IsAmong a xs → list_all test xs ≡ true → test a ≡ true
all-among test a [] p e = absurd p
all-among test a (x ∷ xs) (inl is) e = ap test is ∙ first_passes (test x) (list_all test xs) e
all-among test a (x ∷ xs) (inr p) e = all-among test a xs p (second_is (test x) (list_all test xs) e)

module _ (u : HubTables) (p : PortState) (k : ℕ) (own : KeepsItsOwn u p) (unused : IsUnused u p.pool k) where
  no_handle : is_slot_held u p k ≡ true → ⊥
  no_handle e =
      let r = any-among (λ h. (h.port == p.number) && (is_own h.kind && is_place p.pool k h.pool h.slot)) u.handles e in
      true≢false (sym (among-any (λ h. is_place p.pool k h.pool h.slot) r.0 u.handles r.1
      (second_is (is_own r.0.kind) _ (second_is (r.0.port == p.number) _ r.2))) ∙ unused.handles)

  no_lane : is_slot_out u p k ≡ true → ⊥
  no_lane e =
      let r = any-among (λ w. option_map_or (λ l. has_number k (places_on l)) (lane_on u.ports w) false) (ways_by p.role u p.number) e in
      step r.0 (sender_is u p.role p.number r.0 r.1) (lane_on u.ports r.0) refl r.2
    where
      step : (w : Way) → w.sender ≡ p.number → (o : Option LaneState) → lane_on u.ports w ≡ o → option_map_or (λ l. has_number k (places_on l)) o false ≡ true → ⊥
      step w from None is out = true≢false (sym out)
      step w from (Some l) is out = true≢false (sym out ∙ unused.lanes w l is (own.lanes w l is from).0)

  pub not_kept : is_slot_kept u p k ≡ true → ⊥
  not_kept e = elim (either (is_slot_held u p k) (is_slot_out u p k) e) as (λ s. ⊥) [
    | inl q ↦ no_handle q
    | inr q ↦ no_lane q
  ]

pub unused_slots_may_be_lent : UnusedSlotsMayBeLent
unused_slots_may_be_lent x t p k there on own within unused =
    dry_pools_are_kept x t p there on own
    ∙ not_true (list_all (is_slot_kept back p) (range_with_len 0 p.size))
    (λ e. not_kept back p k (own_then x t p there own) unused
    (all-among (is_slot_kept back p) k (range_with_len 0 p.size) (range-has 0 p.size k (none_below k) (zero_up k p.size within)) e))
  where
    back : HubTables
    back = with_got_back t p

    none_below : (j : ℕ) → 0 ≤ j
    none_below j = omega arith

    zero_up : (j n : ℕ) → j < n → j < 0 + n
    zero_up j n e = omega (arith, e)
