use Rattle.std.proofs.Common.{◌≡◌}
use Rattle.iox_members.specs.Nodes.{killed}
use Rattle.iox_members.proofs.Kept.{mapped_to}
use Rattle.iox_members.proofs.lists.kill.Given as goal

-- the nodes before this one are as they are to be, and those from it on as they were
abbrev pub invariant-loop-member : goal.invariant-loop-member
invariant-loop-member l = l.nodes ≡ mapped_to (killed l.node) l.member-index l.fn.nodes
