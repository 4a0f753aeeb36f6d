use Rattle.iox_control.proofs.ChangeLemmas.{drops_of}
use Rattle.iox_control.proofs.EntryLemmas.{entry_of}
use Rattle.iox_control.proofs.control.Control.remove_handle.Goals as goal

pub returns-clause-found : goal.returns-clause-found
returns-clause-found c =
    rw (← c.self.view_is)
    (entry_of c.self.inside.handles c.args.node c.args.number c.remove_of.result c.remove_of.ensures.sound c.remove_of.ensures.found)

pub returns-clause-dropped : goal.returns-clause-dropped
returns-clause-dropped c =
    rw (← c.self.view_is)
    (drops_of c.self.inside.settings c.self.inside.calls c.self.inside.next_number c.self.inside.ports_made c.self.inside.ports c.self.inside.handles c.self.inside.pools c.remove_of.new.self c.args.node c.args.number c.remove_of.result
    c.remove_of.ensures.sound c.remove_of.ensures.found c.remove_of.ensures.removed)
