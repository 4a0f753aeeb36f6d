use Rattle.std.proofs.Common.{sym, subst}
use Rattle.iox_wire_messages.specs.Plans.{number_at}
use Rattle.iox_wire_copies.specs.Lenders.{AreSlots, IsWithin}
use Rattle.iox_wire_ways.proofs.SlotLemmas.{are_slots, slots_within}
use Rattle.iox_wire_ways.proofs.slots.slot_places.Goals as goal

pub returns-clause-slots : goal.returns-clause-slots
returns-clause-slots c p setting =
    subst (AreSlots p (number_at c.args.map.now c.args.port)) (sym c.planned.ensures)
    (are_slots c.args.map.now c.plan-plan.ensures.plan c.args.port c.requires.slot c.requires.header p setting)

pub returns-clause-within : goal.returns-clause-within
returns-clause-within c =
    subst IsWithin (sym c.planned.ensures)
    (slots_within c.args.map.now c.plan-plan.ensures.plan c.args.port c.requires.slot c.requires.header c.total-total.result c.total-total.ensures c.total-total.type_inv)
