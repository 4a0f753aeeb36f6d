use Rattle.std.proofs.Common.{◌<◌, ◌+◌, ◌-◌, ◌^◌, sym, subst}
use Rattle.std.specs.Option.{option_map_or}
use Rattle.iox_tables.specs.HubStates.Tables.{PortState, port_in}
use Rattle.iox_control.specs.Controls.{ControlState}
use Rattle.iox_control_lending.proofs.FreeLemmas.{is_made, was_free}
use Rattle.iox_control_lending.proofs.MadeLemmas.{calls_below, loans_below, number_below, some_room}
use Rattle.iox_control_lending.proofs.lend.hand_taken.Goals as goal

pub hand_out-number-requires-clause-room : goal.hand_out-number-requires-clause-room
hand_out-number-requires-clause-room c =
    let r = c.requires.taken in
    subst (λ (d : ControlState). 0 < d.room) (sym r.1.left)
    (some_room r.0 r.1.order r.1.port.port c.args.lender.now.port.number c.args.slot
    (was_free r.0 c.args.control.now c.args.control.now c.args.lender.now c.args.asked c.args.slot 0 r.1))

pub hand_out-number-requires-clause-number : goal.hand_out-number-requires-clause-number
hand_out-number-requires-clause-number c =
    let r = c.requires.taken in
    subst (λ (d : ControlState). d.tables.next_number + 1 < 2 ^ 64) (sym r.1.left)
    (number_below r.0 r.1.order r.1.port.port c.args.lender.now.port.number c.args.slot
    (was_free r.0 c.args.control.now c.args.control.now c.args.lender.now c.args.asked c.args.slot 0 r.1))

pub hand_out-number-requires-clause-calls : goal.hand_out-number-requires-clause-calls
hand_out-number-requires-clause-calls c =
    let r = c.requires.taken in
    subst (λ (d : ControlState). d.tables.calls + 1 < 2 ^ 64) (sym r.1.left)
    (calls_below r.0 r.1.order r.1.port.port c.args.lender.now.port.number c.args.slot
    (was_free r.0 c.args.control.now c.args.control.now c.args.lender.now c.args.asked c.args.slot 0 r.1))

pub hand_out-number-requires-clause-loans : goal.hand_out-number-requires-clause-loans
hand_out-number-requires-clause-loans c =
    let r = c.requires.taken in
    subst (λ (d : ControlState). option_map_or (λ (p : PortState). p.loans) (port_in d.tables.ports c.args.lender.now.port.number) 0 < 2 ^ 64 - 1) (sym r.1.left)
    (loans_below r.0 r.1.order r.1.port.port c.args.lender.now.port.number c.args.slot
    (was_free r.0 c.args.control.now c.args.control.now c.args.lender.now c.args.asked c.args.slot 0 r.1))

pub returns : goal.returns
returns c d its_slot =
    is_made d c.args.control.now c.hand_out-number.new.control c.args.lender.now c.args.asked c.args.slot c.hand_out-number.result its_slot
    c.hand_out-number.ensures.number c.hand_out-number.ensures.left
