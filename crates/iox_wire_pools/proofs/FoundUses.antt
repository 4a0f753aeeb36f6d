-- What a node gets back is outstanding, and what it delivers is in use.
use Rattle.std.specs.Prelude.{map, flat_map, ◌&&◌, ◌<◌, ◌≤◌}
use Rattle.std.specs.Option.{option_map_or}
use Rattle.std.proofs.Common.{◌≡◌, ℕ, Bool, true, false, if◌then◌else◌, ◌==◌, [], ◌∷◌, Option, Some, None, refl, ap, sym, subst, ◌∙◌, inl}
use Rattle.iox_model.specs.declared.way.Way.{Way}
use Rattle.iox_model.specs.Handles.{is_own}
use Rattle.iox_model.specs.Maps.{has_number, same_way}
use Rattle.iox_laws.proofs.WeaveBeats.Rooms.{what_is_got_back_is_recorded}
use Rattle.iox_laws.proofs.WeaveLaws.MapLemmas.{eqb-refl}
use Rattle.iox_laws.proofs.WeaveLedger.Lists.{IsAmong, among-back, among-filter, among-front, among-map, among-number, find-among, map-among, number-among}
use Rattle.iox_laws.proofs.WeaveLedger.Truths.{both_true}
use Rattle.iox_wire_moments.specs.MomentsOf.{serial_in}
use Rattle.iox_wire_locals.specs.declared.local.Delivery.{Delivery}
use Rattle.iox_wire_locals.specs.declared.seat.Seat.{Seat}
use Rattle.iox_wire_locals.specs.declared.table.Entry.{Entry}
use Rattle.iox_wire_locals.specs.declared.table.Recorded.{Recorded}
use Rattle.iox_wire_laws.specs.WireKeeping.Records.{record_of, recorded_of, slots_on}
use Rattle.iox_wire_laws.specs.WireKeeping.UsedSlots.{slot_of_send, slots_held, slots_in_call, slots_used}
use Rattle.iox_wire_laws.proofs.WireHolding.WireWays.{among_flat}
use Rattle.iox_wire_pools.specs.FoundUses.{HasLoan, WhatIsGotBackIsOut, WhatIsOutIsUsed}
use Rattle.iox_wire_pools.specs.Uses.{uses_of}
use Rattle.iox_wire_pools.proofs.Counting.{used}
use Rattle.iox_wire_pools.proofs.PoolsFit.{within_pool}

-- a slot recorded on a way is in use
pub on_way : (x : Seat) (w : Way) (j : ℕ) → IsAmong j (slots_on x w) → IsAmong j (slots_used x w.sender)
on_way x w j among =
    among-back j (slots_in_call w.sender x.local) _ (among-back j (slots_held x w.sender) _
    (by_record (record_of w (recorded_of x w.sender)) refl among))
  where
    by_record : (r : Option Recorded) → record_of w (recorded_of x w.sender) ≡ r
        → IsAmong j (option_map_or (λ (k : Recorded). k.slots) (record_of w (recorded_of x w.sender)) [])
        → IsAmong j (flat_map (λ (k : Recorded). k.slots) (recorded_of x w.sender))
    by_record None is has = absurd (subst (λ o. IsAmong j (option_map_or (λ (k : Recorded). k.slots) o [])) is has)
    by_record (Some r) is has =
        among_flat (λ (k : Recorded). k.slots) r j (recorded_of x w.sender) (find-among (λ (k : Recorded). same_way k.way w) r (recorded_of x w.sender) is).0
        (subst (λ o. IsAmong j (option_map_or (λ (k : Recorded). k.slots) o [])) is has)

pub what_is_out_is_used : WhatIsOutIsUsed
what_is_out_is_used x port slot w out =
    subst (λ k. 1 ≤ uses_of x k slot) out.0
    (used slot (slots_used x w.sender) (among-number slot (slots_used x w.sender) (on_way x w slot (number-among slot (slots_on x w) out.1))))

pub what_is_got_back_is_out : WhatIsGotBackIsOut
what_is_got_back_is_out held w u x y slot pool reach beat goes fits there counted apart low =
    let has = sym (fits.told y (serial_in held y slot) there) ∙ what_is_got_back_is_recorded w u x.node y (serial_in held y slot) reach beat goes in
    let at = map-among (serial_in held y) (serial_in held y slot) (slots_on x y) (number-among (serial_in held y slot) (map (serial_in held y) (slots_on x y)) has) in
    let below : at.0 < pool = within_pool pool (uses_of x y.sender) counted.desk counted.counts at.0
    (used at.0 (slots_used x y.sender) (among-number at.0 (slots_used x y.sender) (on_way x y at.0 at.1))) in
    (refl, subst (λ k. has_number k (slots_on x y) ≡ true) (sym (apart slot at.0 low below at.2)) (among-number at.0 (slots_on x y) at.1))

-- what a send sends is in use
pub sent_is_used : (x : Seat) (d : Delivery) → slots_in_call d.loan.port x.local ≡ slot_of_send d.loan.port d → HasLoan x d
    → has_number d.loan.slot (slots_used x d.loan.port) ≡ true
sent_is_used x d call loan = among-number d.loan.slot (slots_used x d.loan.port) (by_copied d.copied refl)
  where
    by_copied : (b : Bool) → d.copied ≡ b → IsAmong d.loan.slot (slots_used x d.loan.port)
    by_copied true copied =
        among-front d.loan.slot (slots_in_call d.loan.port x.local) _
        (subst (IsAmong d.loan.slot) (sym (call ∙ ap (λ b. if b && (d.loan.port == d.loan.port) then d.loan.slot ∷ [] else []) copied
        ∙ ap (λ b. if b then d.loan.slot ∷ [] else []) (eqb-refl d.loan.port))) (inl refl))
    by_copied false copied =
        among-back d.loan.slot (slots_in_call d.loan.port x.local) _ (among-front d.loan.slot (slots_held x d.loan.port) _
        (among-map (λ (e : Entry). e.slot) d.loan _ (among-filter (λ (e : Entry). is_own e.kind && (e.port == d.loan.port)) d.loan x.table
        (find-among (λ (e : Entry). e.number == d.loan.number) d.loan x.table (loan copied).0).0
        (both_true (is_own d.loan.kind) (d.loan.port == d.loan.port) (loan copied).1 (eqb-refl d.loan.port)))))
