use Rattle.std.proofs.Common.{List, ap, sym, ◌∙◌}
use Rattle.std.specs.Prelude.{count_by}
use Rattle.iox_handles.specs.declared.entry.Entry.{Entry}
use Rattle.iox_handles.specs.Places.{handle_in, handles_there, passes}
use Rattle.iox_handles.specs.Tables.{group_of, is_of}
use Rattle.std.proofs.lemmas.Bool.{ltb-true}
use Rattle.iox_handles.proofs.TallyLemmas.{none_counted}
use Rattle.iox_handles.proofs.CountLemmas.{passing-places}
use Rattle.iox_handles.proofs.VacantLemmas.{count_there}
use Rattle.iox_handles.proofs.table.Table.count.Goals as goal

pub returns : goal.returns
returns c =
    rw (← c.self.view_is)
    (c.count_in.ensures
    ∙ ap (λ (ps : List Entry). count_by (λ h. passes (is_of c.args.port c.args.kind) (handle_in h)) ps) c.deref.ensures.value
    ∙ count_there (passes (is_of c.args.port c.args.kind)) c.self.inside.places.items
    ∙ passing-places (is_of c.args.port c.args.kind) (handles_there c.self.inside.places.items) c.self.inside.next c.self.invariant.whole.table.apart c.self.invariant.whole.table.below)

pub returns-then-at_most-eq0 : goal.returns-then-at_most-eq0
returns-then-at_most-eq0 c =
    rw (← c.self.view_is)
    (none_counted c.self.inside.tally.counts (handles_there c.self.inside.places.items) c.self.inside.next c.args.port c.args.kind c.self.invariant.tallied
    c.self.invariant.whole.table.apart c.self.invariant.whole.table.below (ltb-true (group_of c.args.kind) 3 (sym c.is_tallied.ensures ∙ c.if-is_tallied.true))
    (sym c.at_most.ensures ∙ c.if-at_most-eq0.true))
