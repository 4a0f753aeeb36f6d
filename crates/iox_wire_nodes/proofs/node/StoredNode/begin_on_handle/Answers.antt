use Rattle.std.proofs.Common.{sym, ◌∙◌}
use Rattle.iox_wire_nodes.specs.Begins.{called}
use Rattle.iox_wire_nodes.proofs.RestLemmas.{begun_in}
use Rattle.iox_wire_nodes.proofs.RoomsKept.{keeps_seat}
use Rattle.iox_wire_nodes.proofs.node.StoredNode.begin_on_handle.Goals as goal

pub returns-clause-begun : goal.returns-clause-begun
returns-clause-begun c p setting =
    begun_in p (called c.args.call c.args.number) c.begin_in.new.seat c.self.view_is c.self.invariant.0
    (sym c.is_busy.ensures ∙ c.if-is_busy.false) (c.in_ok-begin_in.ensures.begun p setting)
    c.begin_in.ensures.accesses c.begin_in.ensures.room c.begin_in.ensures.rooms

pub returns-clause-rooms : goal.returns-clause-rooms
returns-clause-rooms c = keeps_seat c.self.view_is c.begin_in.new.seat c.begin_in.ensures.rooms
