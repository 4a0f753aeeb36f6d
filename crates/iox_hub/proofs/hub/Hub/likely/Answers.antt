use Rattle.iox_control.specs.Entries.{handle_state}
use Rattle.std.proofs.Common.{sym}
use Rattle.iox_hub.proofs.Named.{handle_is_value}
use Rattle.iox_hub.proofs.hub.Hub.likely.Goals as goal

pub returns-in-Some : goal.returns-in-Some
returns-in-Some g c =
    rw (← c.self.view_is)
    (handle_is_value c.self.inside.control.tables c.self.invariant.control.order c.args.node c.args.number (handle_state c.in-Some.entry) (sym c.in-Some.ensures))
