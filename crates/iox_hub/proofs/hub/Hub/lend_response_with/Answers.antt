use Rattle.std.proofs.Common.{ap, sym, ◌∙◌}
use Rattle.iox_control.specs.Entries.{handle_state}
use Rattle.iox_hub_ports.specs.Ports.{info_in}
use Rattle.iox_hub.proofs.GrowingFound.{active_port_is_there, found_in}
use Rattle.iox_hub.proofs.hub.Hub.lend_response_with.Goals as goal

pub unreachable-requires-in_default-find : goal.unreachable-requires-in_default-find
unreachable-requires-in_default-find g c =
    active_port_is_there c.self.invariant c.args.self.now c.self.view_is c.args.node c.args.number c.requires.has (handle_state c.in-Some.entry)
    c.in-Some.ensures
    (ap (λ ps. info_in ps c.in-Some.entry.port) (sym c.ports.ensures.ports) ∙ sym c.find.ensures ∙ c.in_default-find.is)

pub lend_response_in_room-requires-clause-entry : goal.lend_response_in_room-requires-clause-entry
lend_response_in_room-requires-clause-entry g c = rw (← c.self.view_is) c.in-Some.ensures

pub lend_response_in_room-requires-clause-said : goal.lend_response_in_room-requires-clause-said
lend_response_in_room-requires-clause-said g c =
    rw (← c.self.view_is)
    (sym (found_in c.ports.result.now.ports c.self.inside.control.tables.ports c.ports.ensures.ports c.in-Some.entry.port c.find.result c.find.ensures
    c.in-Some-find.port c.in-Some-find.is))
