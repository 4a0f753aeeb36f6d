use Rattle.iox_control.proofs.RemovalLemmas.{still_dropped, still_found}
use Rattle.iox_control.proofs.control.Control.remove_still.Goals as goal

pub returns-clause-found : goal.returns-clause-found
returns-clause-found c =
    rw (← c.self.view_is)
    (still_found c.args.kind c.self.inside.handles c.args.node c.args.number c.remove_if.result
    c.remove_if.ensures.sound c.remove_if.ensures.found)

pub returns-clause-dropped : goal.returns-clause-dropped
returns-clause-dropped c =
    rw (← c.self.view_is)
    (still_dropped c.args.kind c.self.inside.settings c.self.inside.calls c.self.inside.next_number c.self.inside.ports_made c.self.inside.ports c.self.inside.handles c.self.inside.pools
    c.remove_if.new.self c.args.node c.args.number c.remove_if.result
    c.remove_if.ensures.sound c.remove_if.ensures.found c.remove_if.ensures.removed)
