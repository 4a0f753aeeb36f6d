use Rattle.std.proofs.Common.{sym, ◌∙◌}
use Rattle.iox_wire_begins.specs.HandleCalls.{write_of}
use Rattle.iox_wire_begins.specs.Seat.{Seat}
use Rattle.iox_wire_nodes.proofs.RestLemmas.{told_in}
use Rattle.iox_wire_nodes.proofs.RoomsKept.{keeps_seat}
use Rattle.iox_wire_nodes.proofs.node.StoredNode.begin_write.Goals as goal

pub returns-clause-begun : goal.returns-clause-begun
returns-clause-begun c p setting =
    told_in p (λ (x : Seat). write_of p x c.args.number c.args.role c.args.words.now) c.begin_write.new.seat c.self.view_is c.self.invariant.0
    (sym c.is_busy.ensures ∙ c.if-is_busy.false) (c.in_ok-begin_write.ensures.begun p setting)
    c.begin_write.ensures.accesses c.begin_write.ensures.room c.begin_write.ensures.rooms

pub returns-clause-rooms : goal.returns-clause-rooms
returns-clause-rooms c = keeps_seat c.self.view_is c.begin_write.new.seat c.begin_write.ensures.rooms
