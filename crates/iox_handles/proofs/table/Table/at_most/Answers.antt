use Rattle.std.proofs.Common.{List, ap, sym, subst, ◌∙◌}
use Rattle.std.proofs.lemmas.Bool.{ltb-true}
use Rattle.std.specs.Prelude.{◌≤◌, count_by, length, filter}
use Rattle.iox_handles.specs.declared.entry.Entry.{Entry}
use Rattle.iox_handles.specs.Places.{handle_in, handles_in, handles_there, passes}
use Rattle.iox_handles.specs.Tables.{group_of, is_like}
use Rattle.iox_handles.specs.Tallies.{is_counted_at, tally_place}
use Rattle.iox_handles.proofs.CountLemmas.{passing-places}
use Rattle.iox_handles.proofs.TallyLemmas.{as_counted, fewer_alike}
use Rattle.iox_handles.proofs.VacantLemmas.{count_there}
use Rattle.iox_handles.proofs.table.Table.at_most.Goals as goal

pub at_most-requires : goal.at_most-requires
at_most-requires c = ltb-true (group_of c.args.kind) 3 (sym c.is_tallied.ensures ∙ c.if-is_tallied.true)

pub returns-then-is_tallied-clause-counted : goal.returns-then-is_tallied-clause-counted
returns-then-is_tallied-clause-counted c =
    rw (← c.self.view_is)
    (c.at_most.ensures
    ∙ as_counted c.self.inside.tally.counts (handles_there c.self.inside.places.items) c.self.inside.next c.args.port c.args.kind c.self.invariant.tallied
    c.self.invariant.whole.table.apart c.self.invariant.whole.table.below (ltb-true (group_of c.args.kind) 3 (sym c.is_tallied.ensures ∙ c.if-is_tallied.true)))

pub returns-then-is_tallied-clause-most : goal.returns-then-is_tallied-clause-most
returns-then-is_tallied-clause-most c =
    rw (← c.self.view_is)
    (subst (λ n. length (filter (is_like c.args.port c.args.kind) (handles_in (handles_there c.self.inside.places.items) c.self.inside.next)) ≤ n)
    (sym (c.at_most.ensures
    ∙ as_counted c.self.inside.tally.counts (handles_there c.self.inside.places.items) c.self.inside.next c.args.port c.args.kind c.self.invariant.tallied
    c.self.invariant.whole.table.apart c.self.invariant.whole.table.below (ltb-true (group_of c.args.kind) 3 (sym c.is_tallied.ensures ∙ c.if-is_tallied.true))))
    (fewer_alike (handles_in (handles_there c.self.inside.places.items) c.self.inside.next) c.args.port c.args.kind))

pub returns-clause-counted : goal.returns-clause-counted
returns-clause-counted c =
    rw (← c.self.view_is)
    (c.count_alike_in.ensures
    ∙ ap (λ (ps : List Entry). count_by (λ h. passes (is_counted_at (tally_place c.args.port c.args.kind)) (handle_in h)) ps) c.deref.ensures.value
    ∙ count_there (passes (is_counted_at (tally_place c.args.port c.args.kind))) c.self.inside.places.items
    ∙ passing-places (is_counted_at (tally_place c.args.port c.args.kind)) (handles_there c.self.inside.places.items) c.self.inside.next c.self.invariant.whole.table.apart c.self.invariant.whole.table.below)

pub returns-clause-most : goal.returns-clause-most
returns-clause-most c =
    rw (← c.self.view_is)
    (subst (λ n. length (filter (is_like c.args.port c.args.kind) (handles_in (handles_there c.self.inside.places.items) c.self.inside.next)) ≤ n)
    (sym (c.count_alike_in.ensures
    ∙ ap (λ (ps : List Entry). count_by (λ h. passes (is_counted_at (tally_place c.args.port c.args.kind)) (handle_in h)) ps) c.deref.ensures.value
    ∙ count_there (passes (is_counted_at (tally_place c.args.port c.args.kind))) c.self.inside.places.items
    ∙ passing-places (is_counted_at (tally_place c.args.port c.args.kind)) (handles_there c.self.inside.places.items) c.self.inside.next c.self.invariant.whole.table.apart c.self.invariant.whole.table.below))
    (fewer_alike (handles_in (handles_there c.self.inside.places.items) c.self.inside.next) c.args.port c.args.kind))
