use Rattle.std.proofs.Common.{◌≡◌, ◌<◌, ℕ, List, true, subst, sym, ◌∙◌, None}
use Rattle.iox_handles.specs.declared.entry.Entry.{Entry}
use Rattle.iox_handles.specs.Places.{handles_there, has_at}
use Rattle.iox_handles.specs.Places.{in_places}
use Rattle.iox_handles.proofs.MemoryLemmas.{missing_is, read_found}
use Rattle.iox_handles.proofs.SoundLemmas.{table_is_sound}
use Rattle.iox_handles.proofs.VacantLemmas.{within_there}
use Rattle.iox_handles.proofs.table.Table.find.Goals as goal

pub returns-in_err-place-clause-found : goal.returns-in_err-place-clause-found
returns-in_err-place-clause-found c =
    rw (← c.self.view_is)
    (c.from_residual.ensures ∙ missing_is _ _ _ _ _ _ _ _ c.args.number c.self.invariant
    (subst (λ (ps : List Entry). in_places (handles_there ps) c.args.number ≡ None) c.deref.ensures.value (c.place_of.ensures.missing c.in_err-place.was)))

pub index-requires : goal.index-requires
index-requires c =
    subst (λ (n : ℕ). c.in_ok-place.place < n) (sym c.self.inside.places.ok.0)
    (within_there c.args.number c.self.inside.places.items c.in_ok-place.place (subst (λ (ps : List Entry). has_at c.args.number (handles_there ps) c.in_ok-place.place ≡ true) c.deref.ensures.value c.in_ok-place.ensures.found))

pub returns-clause-found : goal.returns-clause-found
returns-clause-found c =
    rw (← c.self.view_is) (read_found _ _ _ _ _ _ _ _ c.args.number c.in_ok-place.place c.index.result.now c.self.invariant (subst (λ (ps : List Entry). has_at c.args.number (handles_there ps) c.in_ok-place.place ≡ true) c.deref.ensures.value c.in_ok-place.ensures.found) c.index.ensures)

pub returns-in_err-place-clause-sound : goal.returns-in_err-place-clause-sound
returns-in_err-place-clause-sound c = rw (← c.self.view_is) (table_is_sound _ _ _ _ _ _ c.self.invariant.whole.table)

pub returns-clause-sound : goal.returns-clause-sound
returns-clause-sound c = rw (← c.self.view_is) (table_is_sound _ _ _ _ _ _ c.self.invariant.whole.table)
