use Rattle.std.proofs.Common.{◌≡◌, length}
use Rattle.iox_control.specs.Controls.{with_ports}
use Rattle.iox_control_making.specs.Links.{all_linked}
use Rattle.iox_control_making.proofs.joining.connect_all.Given as goal

-- what is left to connect comes to the same
abbrev pub invariant-loop-link : goal.invariant-loop-link
invariant-loop-link l =
    with_ports l.control (all_linked l.control.tables.ports l.links.items) ≡ with_ports l.fn.control (all_linked l.fn.control.tables.ports l.fn.links.items)

abbrev pub decreases-loop-link : goal.decreases-loop-link
decreases-loop-link l = length l.links.items
