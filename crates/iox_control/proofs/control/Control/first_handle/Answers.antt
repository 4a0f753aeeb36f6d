use Rattle.std.proofs.Common.{ap, ◌∙◌}
use Rattle.iox_handles.specs.Least.{least}
use Rattle.iox_control.proofs.EntryLemmas.{node_numbers}
use Rattle.iox_control.proofs.control.Control.first_handle.Goals as goal

pub returns-clause-first : goal.returns-clause-first
returns-clause-first c =
    rw (← c.self.view_is) (c.first_of.ensures.first ∙ ap least (node_numbers c.self.inside.handles.handles c.args.node))
