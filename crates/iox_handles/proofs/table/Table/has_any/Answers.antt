use Rattle.std.proofs.Common.{List, ap, sym, ◌∙◌}
use Rattle.std.specs.Prelude.{is_some}
use Rattle.std.specs.List.{list_any}
use Rattle.iox_handles.specs.declared.entry.Entry.{Entry}
use Rattle.iox_handles.specs.Places.{handles_there, is_there_of, passes}
use Rattle.iox_handles.specs.Tables.{has_port}
use Rattle.iox_handles.proofs.AnyLemmas.{any-places}
use Rattle.iox_handles.proofs.VacantLemmas.{any_there}
use Rattle.iox_handles.proofs.table.Table.has_any.Goals as goal

pub returns-in_default-clause-told : goal.returns-in_default-clause-told
returns-in_default-clause-told c =
    rw (← c.self.view_is)
    (sym (ap (λ o. is_some o) c.in_default.is) ∙ c.place_of_port.ensures
    ∙ ap (λ (ps : List Entry). list_any (is_there_of c.args.port) ps) c.deref.ensures.value
    ∙ any_there (passes (has_port c.args.port)) c.self.inside.places.items
    ∙ any-places (has_port c.args.port) (handles_there c.self.inside.places.items) c.self.inside.next c.self.invariant.whole.table.apart c.self.invariant.whole.table.below)

pub returns-clause-told : goal.returns-clause-told
returns-clause-told c =
    rw (← c.self.view_is)
    (sym (ap (λ o. is_some o) c.in-Some.is) ∙ c.place_of_port.ensures
    ∙ ap (λ (ps : List Entry). list_any (is_there_of c.args.port) ps) c.deref.ensures.value
    ∙ any_there (passes (has_port c.args.port)) c.self.inside.places.items
    ∙ any-places (has_port c.args.port) (handles_there c.self.inside.places.items) c.self.inside.next c.self.invariant.whole.table.apart c.self.invariant.whole.table.below)
