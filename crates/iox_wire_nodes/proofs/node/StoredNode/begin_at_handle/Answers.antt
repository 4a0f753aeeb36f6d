use Rattle.std.proofs.Common.{◌≡◌, Option, ℕ, subst, sym, ◌∙◌}
use Rattle.iox_model.specs.declared.call.WireCall.TheVariants.{Port}
use Rattle.iox_model.specs.declared.kind.Role.TheVariants.{Server}
use Rattle.iox_wire_begins.specs.Begins.{refusal_at}
use Rattle.iox_wire_begins.specs.HandleCalls.{refusal_in, write_of}
use Rattle.iox_wire_nodes.specs.declared.node_call.NodeCall.{NodeCall}
use Rattle.iox_wire_nodes.specs.Begins.{IsUnderWay}
use Rattle.iox_wire_nodes.specs.Calls.{IsKeptAt, call_in, call_in_words}
use Rattle.iox_wire_nodes.specs.Nodes.{seat_in}
use Rattle.iox_wire_nodes.proofs.BesideLemmas.{is_under_way, stands_so}
use Rattle.iox_wire_nodes.proofs.CallLemmas.{handle_kept, none}
use Rattle.iox_wire_begins.specs.PlacedHandles.{IsWritableAs}
use Rattle.iox_wire_begins.specs.Tables.{entry_at}
use Rattle.iox_wire_nodes.proofs.node.StoredNode.begin_at_handle.Goals as goal

pub begin_on_handle-requires-clause-header : goal.begin_on_handle-requires-clause-header
begin_on_handle-requires-clause-header c = c.requires.plan.headers Server

pub returns-in-HasRequests-clause-refused : goal.returns-in-HasRequests-clause-refused
returns-in-HasRequests-clause-refused c p with =
    subst (λ (k : NodeCall). refusal_at p (seat_in c.args.self.now) (Port (call_in p (seat_in c.args.self.now) k)) ≡ refusal_in c.refuse_on_handle.result) (sym c.in-HasRequests.is)
    (c.refuse_on_handle.ensures p none with.setting tt)

pub returns-in_ok-begin_write-in-Write-clause-begun : goal.returns-in_ok-begin_write-in-Write-clause-begun
returns-in_ok-begin_write-in-Write-clause-begun c p with =
    subst (λ (k : NodeCall). IsUnderWay p c.args.self.now (Port (call_in p (seat_in c.args.self.now) k)) c.begin_write.new.self) (sym c.in-Write.is)
    (is_under_way p c.args.self.now (write_of p (seat_in c.args.self.now) c.in-Write.number c.in-Write.payload.role c.in-Write.payload.words.now) c.begin_write.new.self
    (c.in_ok-begin_write-in-Write.ensures.begun p with.setting))

pub returns-in_ok-begin_on_handle-in-Handle-clause-at : goal.returns-in_ok-begin_on_handle-in-Handle-clause-at
returns-in_ok-begin_on_handle-in-Handle-clause-at c =
    subst (λ (k : NodeCall). IsKeptAt (call_in_words k) c.begin_on_handle.new.self.at) (sym c.in-Handle.is)
    (handle_kept c.in-Handle.call c.in-Handle.number c.begin_on_handle.new.self.at c.in_ok-begin_on_handle-in-Handle.ensures.at)

pub begin_write-requires-clause-writable : goal.begin_write-requires-clause-writable
begin_write-requires-clause-writable c =
    stands_so c.args.map.now c.args.self.now.seat.seat.desks (IsWritableAs c.args.map.now c.in-Write.payload.role) (λ e stands. stands.writable c.in-Write.payload.role)
    (entry_at c.in-Write.number c.args.self.now.seat.seat.table) (c.requires.may.handles c.in-Write.number)
