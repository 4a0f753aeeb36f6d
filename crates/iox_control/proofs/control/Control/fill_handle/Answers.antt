use Rattle.iox_control.proofs.FittingLemmas.{fitted_changed, fitted_told}
use Rattle.iox_control.proofs.control.Control.fill_handle.Goals as goal

pub returns-clause-told : goal.returns-clause-told
returns-clause-told c =
    rw (← c.self.view_is)
    (fitted_told c.self.inside.pools c.args.elements c.self.inside.handles c.args.node c.args.number c.change_kind.result
    c.change_kind.ensures.sound c.change_kind.ensures.told)

pub returns-clause-changed : goal.returns-clause-changed
returns-clause-changed c =
    rw (← c.self.view_is)
    (fitted_changed c.self.inside.settings c.self.inside.calls c.self.inside.next_number c.self.inside.ports_made c.self.inside.ports c.self.inside.handles c.self.inside.pools
    c.change_kind.new.self c.args.elements c.args.node c.args.number c.change_kind.result c.change_kind.ensures.told c.change_kind.ensures.changed)
