use Rattle.std.proofs.Common.{◌≤◌, ◌*◌, sym, subst}
use Rattle.iox_wire_messages.specs.Plans.{number_at}
use Rattle.iox_wire_copies.specs.declared.payload_places.PayloadPlaces.{PayloadPlaces}
use Rattle.iox_wire_copies.specs.Copies.{ArePayloads}
use Rattle.iox_wire_copies.specs.Payloads.{SlotsHold}
use Rattle.iox_wire_messages.specs.Tables.{port_shape}
use Rattle.iox_wire_ways.specs.PlannedSlots.{element_words, planned_slots}
use Rattle.iox_wire_ways.proofs.SlotLemmas.{are_payloads, longest_there, payloads_have_room, planned_fits}
use Rattle.iox_wire_ways.proofs.slots.payload_places.Goals as goal

pub returns-clause-payloads : goal.returns-clause-payloads
returns-clause-payloads c p setting =
    subst (ArePayloads p (number_at c.args.map.now c.args.port) (planned_slots c.args.map.now c.args.port)) (sym c.planned_behind.ensures)
    (are_payloads c.args.map.now c.plan-plan.ensures.plan c.args.port c.requires.slot c.requires.header p setting)

pub returns-clause-room : goal.returns-clause-room
returns-clause-room c =
    subst (SlotsHold (planned_slots c.args.map.now c.args.port)) (sym c.planned_behind.ensures)
    (payloads_have_room c.args.map.now c.plan-plan.ensures.plan c.args.port c.requires.slot c.requires.header)

pub returns-clause-fits : goal.returns-clause-fits
returns-clause-fits c k most =
    subst (λ (q : PayloadPlaces). k * element_words c.args.map.now c.args.port ≤ q.room) (sym c.planned_behind.ensures)
    (planned_fits c.args.map.now c.plan-plan.ensures.plan c.args.port c.requires.slot c.requires.header k most)

pub returns-clause-longest : goal.returns-clause-longest
returns-clause-longest c p k setting most =
    subst (λ (q : PayloadPlaces). k * (port_shape p (number_at c.args.map.now c.args.port)).width ≤ q.room) (sym c.planned_behind.ensures)
    (longest_there c.args.map.now c.plan-plan.ensures.plan c.args.port c.requires.slot c.requires.header p setting k most)
