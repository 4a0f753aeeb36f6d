use Rattle.iox_control.proofs.ChangeLemmas.{changes_of}
use Rattle.iox_control.proofs.control.Control.change_handle.Goals as goal

pub returns : goal.returns
returns c =
    rw (← c.self.view_is)
    (changes_of c.self.inside.settings c.self.inside.calls c.self.inside.next_number c.self.inside.ports_made c.self.inside.ports c.self.inside.handles c.self.inside.pools c.change_of.new.self c.args.entry c.change_of.result
    c.change_of.ensures.sound c.change_of.ensures.found c.change_of.ensures.changed c.change_of.ensures.unchanged)
