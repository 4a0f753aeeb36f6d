use Rattle.std.specs.Prelude.{◌≡◌, IfSome, List, Some, is_some}
use Rattle.std.proofs.Common.{ap, subst, sym, ◌∙◌}
use Rattle.iox_lanes.specs.Lanes.{IsSound, LaneState}
use Rattle.iox_tables.specs.HubLoans.CopySends.{is_lender_awaited}
use Rattle.iox_tables.specs.HubStates.Tables.{PortState, port_in}
use Rattle.iox_tables.specs.HubStates.Ways.{lane_on}
use Rattle.iox_hub_ports.specs.Ports.{info_at, place_in}
use Rattle.iox_control.specs.Controls.{ControlState}
use Rattle.iox_control.specs.Entries.{handle_state}
use Rattle.iox_control.proofs.HeldLemmas.{handle_has_slot}
use Rattle.iox_control_lending.specs.Lends.{IsPortOf, lender_of}
use Rattle.iox_control_lending.proofs.PortLemmas.{port_at, port_found, response_of_entry}
use Rattle.iox_control_responses.proofs.Places.{said_there}
use Rattle.iox_control_responses.specs.declared.targets.Target.{Target}
use Rattle.iox_control_copies.specs.Answers.{CopyComesTo, way_of}
use Rattle.iox_control_copies.proofs.Named.{awaited_for, place_for, response_answered, response_sound, role_for}
use Rattle.iox_control_copies.proofs.Whole.{copy_whole}
use Rattle.iox_control_copies.proofs.copying.copy_response.Goals as goal

pub label_of-label-requires : goal.label_of-label-requires
label_of-label-requires c =
    handle_has_slot c.args.control.now.tables c.requires.order.order c.args.node c.args.number (handle_state c.known-entry.result) (sym c.known-entry.ensures)

pub answer-requires-clause-port : goal.answer-requires-clause-port
answer-requires-clause-port c =
    subst (λ (d : ControlState). IsPortOf d.tables (response_of_entry c.known-entry.result c.known_at-port.result c.label_of-label.result)) (sym c.find_awaiting-to.ensures.unchanged)
    (port_found c.args.control.now.tables c.known-entry.result.port c.known_at-port.result c.requires.active.port c.requires.order.order
    (port_at c.args.control.now.tables c.args.node c.args.number c.known-entry.result c.known-entry.ensures c.requires.active.handle c.requires.active.named.there c.requires.active.port c.requires.active.there)
    (said_there c.args.control.now.tables.ports c.known-entry.result.port c.known_place-at.result c.known_at-port.result
    (ap (λ (ps : List PortState). place_in ps c.known-entry.result.port) (sym c.ports.ensures.ports) ∙ c.known_place-at.ensures.first)
    (c.known_at-port.ensures ∙ ap (λ (ps : List PortState). info_at ps c.known_place-at.result) c.ports-2.ensures.ports)) _ _ _)

pub answer-requires-clause-server : goal.answer-requires-clause-server
answer-requires-clause-server c =
    role_for c.args.control.now.tables c.requires.order.order c.known-entry.result c.known_at-port.result c.requires.active.port
    (port_at c.args.control.now.tables c.args.node c.args.number c.known-entry.result c.known-entry.ensures c.requires.active.handle c.requires.active.named.there c.requires.active.port c.requires.active.there)
    (said_there c.args.control.now.tables.ports c.known-entry.result.port c.known_place-at.result c.known_at-port.result
    (ap (λ (ps : List PortState). place_in ps c.known-entry.result.port) (sym c.ports.ensures.ports) ∙ c.known_place-at.ensures.first)
    (c.known_at-port.ensures ∙ ap (λ (ps : List PortState). info_at ps c.known_place-at.result) c.ports-2.ensures.ports))
    c.requires.active.server

pub answer-requires-clause-place : goal.answer-requires-clause-place
answer-requires-clause-place c =
    subst (λ (d : ControlState). place_in d.tables.ports c.known_at-port.result.number ≡ Some c.known_place-at.result) (sym c.find_awaiting-to.ensures.unchanged)
    (place_for c.args.control.now.tables c.requires.order.order c.known-entry.result c.known_at-port.result c.requires.active.port
    (port_at c.args.control.now.tables c.args.node c.args.number c.known-entry.result c.known-entry.ensures c.requires.active.handle c.requires.active.named.there c.requires.active.port c.requires.active.there)
    (said_there c.args.control.now.tables.ports c.known-entry.result.port c.known_place-at.result c.known_at-port.result
    (ap (λ (ps : List PortState). place_in ps c.known-entry.result.port) (sym c.ports.ensures.ports) ∙ c.known_place-at.ensures.first)
    (c.known_at-port.ensures ∙ ap (λ (ps : List PortState). info_at ps c.known_place-at.result) c.ports-2.ensures.ports))
    c.known_place-at.result (ap (λ (ps : List PortState). place_in ps c.known-entry.result.port) (sym c.ports.ensures.ports) ∙ c.known_place-at.ensures.first))

pub answer-requires-clause-awaited : goal.answer-requires-clause-awaited
answer-requires-clause-awaited c p is =
    subst
    (λ (d : ControlState). is_some c.find_awaiting-to.result
    ≡ is_lender_awaited d.tables (lender_of p (response_of_entry c.known-entry.result c.known_at-port.result c.label_of-label.result)))
    (sym c.find_awaiting-to.ensures.unchanged)
    (awaited_for c.args.control.now.tables c.requires.order.order c.known-entry.result c.known_at-port.result c.requires.active.port
    (port_at c.args.control.now.tables c.args.node c.args.number c.known-entry.result c.known-entry.ensures c.requires.active.handle c.requires.active.named.there c.requires.active.port c.requires.active.there)
    (said_there c.args.control.now.tables.ports c.known-entry.result.port c.known_place-at.result c.known_at-port.result
    (ap (λ (ps : List PortState). place_in ps c.known-entry.result.port) (sym c.ports.ensures.ports) ∙ c.known_place-at.ensures.first)
    (c.known_at-port.ensures ∙ ap (λ (ps : List PortState). info_at ps c.known_place-at.result) c.ports-2.ensures.ports))
    c.label_of-label.result (is_some c.find_awaiting-to.result) c.label_of-label.ensures c.find_awaiting-to.ensures.awaits p is)

pub answer-requires-clause-there : goal.answer-requires-clause-there
answer-requires-clause-there c =
    subst (λ (d : ControlState). IfSome c.find_awaiting-to.result (λ (to : Target). place_in d.tables.ports c.known-entry.result.client ≡ Some to.place))
    (sym c.find_awaiting-to.ensures.unchanged) c.find_awaiting-to.ensures.there

pub returns-clause-left : goal.returns-clause-left
returns-clause-left c =
    response_answered c.args.control.now c.answer.new.control c.args.node c.args.number c.known-entry.result c.known_at-port.result c.label_of-label.result c.args.asked c.args.fails c.answer.result
    c.requires.order.order c.known-entry.ensures
    (said_there c.args.control.now.tables.ports c.known-entry.result.port c.known_place-at.result c.known_at-port.result
    (ap (λ (ps : List PortState). place_in ps c.known-entry.result.port) (sym c.ports.ensures.ports) ∙ c.known_place-at.ensures.first)
    (c.known_at-port.ensures ∙ ap (λ (ps : List PortState). info_at ps c.known_place-at.result) c.ports-2.ensures.ports))
    c.label_of-label.ensures
    (subst
    (λ (d : ControlState).
    (p : PortState) → port_in d.tables.ports c.known_at-port.result.number ≡ Some p
    → CopyComesTo d (lender_of p (response_of_entry c.known-entry.result c.known_at-port.result c.label_of-label.result)) c.args.asked c.args.fails c.answer.result c.answer.new.control)
    c.find_awaiting-to.ensures.unchanged c.answer.ensures.left)

pub returns-clause-whole : goal.returns-clause-whole
returns-clause-whole c =
    copy_whole c.args.control.now c.args.node c.args.number c.args.asked c.args.fails c.answer.result c.answer.new.control c.requires.order c.requires.active
    (response_sound c.args.control.now.tables c.args.node c.args.number c.known-entry.result c.known_at-port.result c.label_of-label.result
    c.requires.order.order c.known-entry.ensures
    (said_there c.args.control.now.tables.ports c.known-entry.result.port c.known_place-at.result c.known_at-port.result
    (ap (λ (ps : List PortState). place_in ps c.known-entry.result.port) (sym c.ports.ensures.ports) ∙ c.known_place-at.ensures.first)
    (c.known_at-port.ensures ∙ ap (λ (ps : List PortState). info_at ps c.known_place-at.result) c.ports-2.ensures.ports))
    c.label_of-label.ensures
    (subst
    (λ (d : ControlState).
    (p : PortState) → port_in d.tables.ports c.known_at-port.result.number ≡ Some p → (l : LaneState)
    → lane_on d.tables.ports (way_of (lender_of p (response_of_entry c.known-entry.result c.known_at-port.result c.label_of-label.result))) ≡ Some l → IsSound l)
    c.find_awaiting-to.ensures.unchanged c.answer.ensures.sound))
    (returns-clause-left c)
