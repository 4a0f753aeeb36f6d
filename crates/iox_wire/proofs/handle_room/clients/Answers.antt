use Rattle.std.proofs.Common.{arith}
use Rattle.iox_wire.proofs.HandleRooms.{both_roles}
use Rattle.iox_wire.proofs.handle_room.clients.Goals as goal

pub overflow_sub-result : goal.overflow_sub-result
overflow_sub-result c = let all = both_roles c.args.plan.now.ports.items in omega (arith, all, c.servers.ensures, c.len.ensures)

pub returns : goal.returns
returns c = let all = both_roles c.args.plan.now.ports.items in omega (arith, all, c.servers.ensures, c.len.ensures)
