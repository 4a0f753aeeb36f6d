use Rattle.iox_control.proofs.EntryLemmas.{entry_some}
use Rattle.iox_control.proofs.control.Control.near.Goals as goal

pub returns : goal.returns
returns c =
    rw (← c.self.view_is)
    (entry_some c.self.inside.handles c.args.node c.args.number c.in_ok-entry.entry c.in_ok-entry.ensures c.if-entry-node.false)
