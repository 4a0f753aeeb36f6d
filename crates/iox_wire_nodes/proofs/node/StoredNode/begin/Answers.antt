use Rattle.std.proofs.Common.{Bool, ap, sym, ◌∙◌}
use Rattle.iox_model.specs.declared.call.WireCall.TheVariants.{Port}
use Rattle.iox_model.specs.declared.reply.Refusal.TheVariants.{Busy}
use Rattle.iox_model.specs.Maps.{or_else, refused_if}
use Rattle.iox_wire_begins.specs.Begins.{misnamed_call}
use Rattle.iox_wire_nodes.specs.Calls.{call_in}
use Rattle.iox_wire_nodes.specs.Nodes.{seat_in}
use Rattle.iox_wire_nodes.proofs.node.StoredNode.begin.Goals as goal

pub returns-then-is_busy-clause-refused : goal.returns-then-is_busy-clause-refused
returns-then-is_busy-clause-refused c p with =
    ap (λ (b : Bool). or_else (refused_if b Busy) (misnamed_call p (seat_in c.args.self.now) (Port (call_in p (seat_in c.args.self.now) c.args.call))))
    (sym c.is_busy.ensures ∙ c.if-is_busy.true)
