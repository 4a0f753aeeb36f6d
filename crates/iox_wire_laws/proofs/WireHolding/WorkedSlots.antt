-- The slots of the worked client, which has one desk and nothing in use.
use Rattle.std.specs.Prelude.{find, map, nat_lt, ◌||◌, ◌^◌}
use Rattle.std.specs.Option.{option_map_or}
use Rattle.std.proofs.Common.{◌≡◌, ℕ, Bool, true, false, if◌then◌else◌, ◌==◌, ◌+◌, ◌&&◌, [], ◌∷◌, Some, None, refl, ap, sym, subst, arith, eqb-true, true≢false}
use Rattle.iox_model.specs.declared.way.Way.{Way}
use Rattle.iox_model.specs.Maps.{has_number, same_way, AreDistinct}
use Rattle.iox_model.specs.Messages.{request_way}
use Rattle.iox_model.specs.States.{State}
use Rattle.iox_laws.proofs.WeaveLedger.Truths.{none-some}
use Rattle.iox_wire_moments.specs.MomentsOf.{serial_in}
use Rattle.iox_wire_locals.specs.declared.table.Desk.{Desk}
use Rattle.iox_wire_locals.specs.declared.table.Recorded.{Recorded}
use Rattle.iox_wire_locals.specs.Known.{free_slots}
use Rattle.iox_wire_locals.specs.WorkedCalls.{fresh}
use Rattle.iox_wire_locals.specs.WorkedWires.{ones}
use Rattle.iox_wire_laws.specs.WireKeeping.PoolSlots.{PoolFits}
use Rattle.iox_wire_laws.specs.WireKeeping.Records.{RecordsFit, slots_on}
use Rattle.iox_wire_laws.specs.WireKeeping.UsedSlots.{PortFits}
use Rattle.iox_wire_laws.specs.WireHolding.SlotsKnown.{IsPortOfSeat}
use Rattle.iox_wire_laws.specs.WireHolding.WorkedSlots.{WorkedSlotsAreKnown, held_of_ones, unsent_state}

-- the four slots are those below four
below_four : (k : ℕ) → ((0 == k) || ((1 == k) || ((2 == k) || ((3 == k) || false)))) ≡ (nat_lt k 4 && true)
below_four k = grind (arith)

four_apart : AreDistinct (0 ∷ 1 ∷ 2 ∷ 3 ∷ [])
four_apart = (refl, (refl, (refl, (refl, tt))))

-- nothing is recorded on any way
nothing_on : (y : Way) → slots_on fresh.client y ≡ []
nothing_on y = at_desk (0 == y.sender)
  where
    on_way : (b : Bool) → option_map_or (λ (r : Recorded). r.slots) (if b then Some (record { way = request_way 0 1; slots = [] }) else None) [] ≡ []
    on_way true = refl
    on_way false = refl

    at_desk : (b : Bool)
        → option_map_or (λ (r : Recorded). r.slots)
        (find (λ (r : Recorded). same_way r.way y)
        (option_map_or (λ (d : Desk). d.recorded) (if b then find (λ (d : Desk). true) fresh.client.desks else None) [])) [] ≡ []
    at_desk true = on_way (same_way (request_way 0 1) y)
    at_desk false = refl

module _ (s : State) where
  records : RecordsFit held_of_ones (unsent_state s) fresh.client
  records = record {
    told = λ y k has. ap (λ ks. has_number k (map (serial_in held_of_ones y) ks)) (sym (nothing_on y));
    once = λ y has. subst (λ ks. AreDistinct (map (serial_in held_of_ones y) ks)) (sym (nothing_on y)) tt;
  }

  pool : PoolFits held_of_ones fresh.client 0 4
  pool = record {
    within = λ slot used. absurd (true≢false (sym used));
    apart = λ i j used also same. absurd (true≢false (sym used));
    free_once = four_apart;
    free = below_four;
  }

  port : PortFits held_of_ones (unsent_state s) fresh.client 0
  port = record {
    mine = refl;
    entries = refl;
    call = tt;
    ways = refl;
    apart = (refl, tt);
    from = refl;
    records = records;
    counted = λ slot used. absurd (true≢false (sym used));
  }

  own : (q : ℕ) → IsPortOfSeat ones fresh.client q → 0 ≡ q
  own q is = sym is.1

  desk : (q slot : ℕ) → has_number slot (free_slots fresh.client q) ≡ true → IsPortOfSeat ones fresh.client q
  desk q slot = by_desk (0 == q) (eqb-true 0 q)
    where
      by_desk : (b : Bool) → (b ≡ true → 0 ≡ q)
          → has_number slot (option_map_or (λ (d : Desk). d.free) (if b then find (λ (d : Desk). true) fresh.client.desks else None) []) ≡ true
          → IsPortOfSeat ones fresh.client q
      by_desk true here free = subst (IsPortOfSeat ones fresh.client) (here refl) (refl, refl)
      by_desk false here free = absurd (true≢false (sym free))

  same_slot : (i j : ℕ) → 2 ^ 64 + i ≡ 2 ^ 64 + j → i ≡ j
  same_slot i j same = omega (arith, same)

pub worked_slots_are_known : WorkedSlotsAreKnown
worked_slots_are_known s = (
  record {
    desks = desk s;
    pools = λ q is. subst (λ k. PoolFits held_of_ones fresh.client k (ones.port k).pool) (own s q is) (pool s);
    ports = λ q is. subst (PortFits held_of_ones (unsent_state s) fresh.client) (own s q is) (port s);
    apart = λ q i j is low also same. same_slot s i j same;
  },
  record { entries = λ e has. none-some e has; place = tt },
)
