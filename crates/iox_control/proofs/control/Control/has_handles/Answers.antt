use Rattle.std.proofs.Common.{◌∙◌}
use Rattle.iox_control.proofs.EntryLemmas.{any_state}
use Rattle.iox_control.proofs.control.Control.has_handles.Goals as goal

pub returns-clause-told : goal.returns-clause-told
returns-clause-told c = rw (← c.self.view_is) (c.has_any.ensures.told ∙ any_state c.self.inside.handles.handles c.args.port)
