use Rattle.iox_hub.proofs.HandleValues.{found_has}
use Rattle.iox_hub.proofs.hub.Hub.has_handle_far.Goals as goal

pub returns-in-Some : goal.returns-in-Some
returns-in-Some g c =
    rw (← c.self.view_is)
    (found_has c.self.inside.control.tables c.self.invariant.control.order c.args.node c.args.number c.args.kind c.requires c.in-Some.entry c.eq.result c.eq.ensures
    c.in-Some.ensures)
