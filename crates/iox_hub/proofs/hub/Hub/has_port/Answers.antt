use Rattle.std.proofs.Common.{sym, ap, ◌∙◌}
use denote.Enum.Bare.{sameb}
use Rattle.iox_model.specs.contracts.kind.Kind.{the_type}
use Rattle.iox_model.specs.declared.kind.Kind.{Kind}
use Rattle.iox_hub_ports.specs.Ports.{info_in}
use Rattle.iox_hub.proofs.HandleValues.{port_has, port_has_not}
use Rattle.iox_hub.proofs.hub.Hub.has_port.Goals as goal

pub returns-then-is_held_by : goal.returns-then-is_held_by
returns-then-is_held_by g c =
    rw (← c.self.view_is)
    (port_has c.self.inside.control.tables c.args.node c.args.number c.args.kind c.in-Some.port
    (c.in-Some.ensures ∙ ap (λ ps. info_in ps c.args.number) c.ports.ensures.ports)
    c.eq.result (c.eq.ensures ∙ ap (λ (k : Kind). sameb the_type k c.args.kind) c.kind_of.ensures)
    (sym c.is_held_by.ensures ∙ c.if-is_held_by.true))

pub returns-else-is_held_by : goal.returns-else-is_held_by
returns-else-is_held_by g c =
    rw (← c.self.view_is)
    (port_has_not c.self.inside.control.tables c.args.node c.args.number c.args.kind c.in-Some.port
    (c.in-Some.ensures ∙ ap (λ ps. info_in ps c.args.number) c.ports.ensures.ports)
    (sym c.is_held_by.ensures ∙ c.if-is_held_by.false))
