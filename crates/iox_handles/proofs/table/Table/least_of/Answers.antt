use Rattle.std.proofs.Common.{List, ap, ◌∙◌}
use Rattle.iox_handles.specs.declared.entry.Entry.{Entry}
use Rattle.iox_handles.specs.Places.{handles_there, least_in}
use Rattle.iox_handles.proofs.LeastLemmas.{least-places}
use Rattle.iox_handles.proofs.table.Table.least_of.Goals as goal

pub returns : goal.returns
returns c =
    rw (← c.self.view_is)
    (c.least_in.ensures ∙ ap (λ (ps : List Entry). least_in c.args.node (handles_there ps)) c.deref.ensures.value
    ∙ least-places c.args.node (handles_there c.self.inside.places.items) c.self.inside.next c.self.invariant.whole.table.apart c.self.invariant.whole.table.below)
