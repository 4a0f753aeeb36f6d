use Rattle.std.specs.Prelude.{◌≡◌, Some, false, is_some, true}
use Rattle.std.specs.Option.{option_map_or}
use Rattle.std.proofs.Common.{ap, subst, sym, ◌∙◌}
use Rattle.iox_tables.specs.HubStates.Tables.{port_in}
use Rattle.iox_slots.specs.Pools.{with_slot}
use Rattle.iox_slots.specs.Slots.{let_go}
use Rattle.iox_hub_ports.specs.InPlace.{AllApart}
use Rattle.iox_hub_ports.specs.Ports.{place_in}
use Rattle.iox_hub_ports.proofs.InPlace.{asked_by_number}
use Rattle.iox_control.specs.Controls.{ControlState, with_tables}
use Rattle.iox_control.specs.Entries.{handle_state}
use Rattle.iox_control_releasing.specs.Endings.{given_up_as}
use Rattle.iox_control_releasing.proofs.Upped.{end_idle, end_left}
use Rattle.iox_control_releasing.proofs.handle.end_removed.Goals as goal

pub known_place-at-requires : goal.known_place-at-requires
known_place-at-requires c =
    subst (λ ps. is_some (port_in ps c.args.entry.port) ≡ true)
    (sym (c.ports-ports.ensures.ports ∙ ap (λ (d : ControlState). d.tables.ports) c.leave_slot-left.ensures.left)) c.requires.port

pub give_up-requires-clause-there : goal.give_up-requires-clause-there
give_up-requires-clause-there c =
    subst (λ ps. place_in ps c.args.entry.port ≡ Some c.known_place-at.result) c.ports-ports.ensures.ports c.known_place-at.ensures.first

pub give_up-requires-clause-apart : goal.give_up-requires-clause-apart
give_up-requires-clause-apart c =
    subst (λ ps. AllApart ps) (sym (ap (λ (d : ControlState). d.tables.ports) c.leave_slot-left.ensures.left)) c.requires.apart

pub returns-clause-left : goal.returns-clause-left
returns-clause-left c =
    end_left c.args.control.now c.args.entry c.leave_slot-left.result.label c.leave_slot-left.result.owner c.leave_slot-left.ensures.label c.leave_slot-left.ensures.owner
    c.leave_slot-left.new.self c.give_up.new.control c.leave_slot-left.ensures.left c.give_up.ensures

pub returns-clause-busy : goal.returns-clause-busy
returns-clause-busy c none =
    end_idle c.args.control.now
    (with_tables c.args.control.now (given_up_as c.args.entry.kind c.args.control.now.tables (handle_state c.args.entry)))
    c.leave_slot-left.new.self c.give_up.new.control (with_slot let_go c.args.control.now.tables.pools c.args.entry.pool c.args.entry.slot) c.args.entry.pool c.leave_slot-left.result.idle
    c.leave_slot-left.ensures.left (returns-clause-left c) c.leave_slot-left.ensures.idle (c.may_go-goes.ensures.idle none)

pub returns-clause-held : goal.returns-clause-held
returns-clause-held c none =
    subst (λ ps. option_map_or (λ p. p.held) (port_in ps c.args.entry.port) false ≡ true)
    (c.ports-ports.ensures.ports ∙ ap (λ (d : ControlState). d.tables.ports) c.leave_slot-left.ensures.left)
    (sym (asked_by_number c.ports-ports.result.now.ports c.args.entry.port c.known_place-at.result (λ p. p.held) false c.known_place-at.ensures.first)
    ∙ c.may_go-goes.ensures.held none)
