use Rattle.std.proofs.Common.{List, ap, ◌∙◌}
use Rattle.std.specs.Prelude.{count_by}
use Rattle.iox_handles.specs.declared.entry.Entry.{Entry}
use Rattle.iox_handles.specs.Places.{handle_in, handles_there, passes}
use Rattle.iox_handles.proofs.CountLemmas.{passing-places}
use Rattle.iox_handles.proofs.VacantLemmas.{count_there}
use Rattle.iox_handles.proofs.table.Table.count_if.Goals as goal

pub returns : goal.returns
returns g c =
    rw (← c.self.view_is)
    (c.count_if_in.ensures
    ∙ ap (λ (ps : List Entry). count_by (λ h. passes (g.T.EntryTest.passes c.args.test.now) (handle_in h)) ps) c.deref.ensures.value
    ∙ count_there (passes (g.T.EntryTest.passes c.args.test.now)) c.self.inside.places.items
    ∙ passing-places (g.T.EntryTest.passes c.args.test.now) (handles_there c.self.inside.places.items) c.self.inside.next c.self.invariant.whole.table.apart c.self.invariant.whole.table.below)
