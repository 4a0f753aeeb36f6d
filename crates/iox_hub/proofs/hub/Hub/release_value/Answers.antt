use Rattle.std.proofs.Common.{ap, sym, ◌∙◌, not}
use Rattle.iox_model.specs.Names.{is_port}
use Rattle.iox_hub.specs.Sending.{is_handle}
use Rattle.iox_hub.proofs.CleaningLemmas.{handle_shapes, has_of, port_shapes}
use Rattle.iox_hub.proofs.hub.Hub.release_value.Goals as goal

pub returns-then-is_port-clause-request : goal.returns-then-is_port-clause-request
returns-then-is_port-clause-request g c =
    (port_shapes c.args.self.now c.release_port.new.self c.args.node c.args.number c.is_in_order.ensures
    (has_of is_port c.args.self.now c.args.node c.args.number c.in-Some.kind (sym c.kind.ensures ∙ c.in-Some.is) (sym c.is_port.ensures ∙ c.if-is_port.true))
    c.release_port.ensures.left).0

pub returns-then-is_port-clause-response : goal.returns-then-is_port-clause-response
returns-then-is_port-clause-response g c =
    (port_shapes c.args.self.now c.release_port.new.self c.args.node c.args.number c.is_in_order.ensures
    (has_of is_port c.args.self.now c.args.node c.args.number c.in-Some.kind (sym c.kind.ensures ∙ c.in-Some.is) (sym c.is_port.ensures ∙ c.if-is_port.true))
    c.release_port.ensures.left).1

pub returns-else-is_port-clause-request : goal.returns-else-is_port-clause-request
returns-else-is_port-clause-request g c =
    (handle_shapes c.args.self.now c.release.new.self c.args.node c.args.number c.is_in_order.ensures
    (has_of is_handle c.args.self.now c.args.node c.args.number c.in-Some.kind (sym c.kind.ensures ∙ c.in-Some.is)
    (ap not (sym c.is_port.ensures ∙ c.if-is_port.false)))
    c.release.ensures.left).0

pub returns-else-is_port-clause-response : goal.returns-else-is_port-clause-response
returns-else-is_port-clause-response g c =
    (handle_shapes c.args.self.now c.release.new.self c.args.node c.args.number c.is_in_order.ensures
    (has_of is_handle c.args.self.now c.args.node c.args.number c.in-Some.kind (sym c.kind.ensures ∙ c.in-Some.is)
    (ap not (sym c.is_port.ensures ∙ c.if-is_port.false)))
    c.release.ensures.left).1
