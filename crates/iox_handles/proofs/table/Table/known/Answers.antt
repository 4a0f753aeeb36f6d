use Rattle.std.proofs.Common.{◌≡◌, ◌<◌, ℕ, List, true, is_some, subst, sym}
use Rattle.iox_handles.specs.declared.entry.Entry.{Entry}
use Rattle.iox_handles.specs.Places.{handles_there, has_at, in_places}
use Rattle.iox_handles.specs.Tables.{Contents, handle_at}
use Rattle.iox_handles.proofs.KnownLemmas.{known_low, known_there}
use Rattle.iox_handles.proofs.MemoryLemmas.{read_found}
use Rattle.iox_handles.proofs.SoundLemmas.{table_is_sound}
use Rattle.iox_handles.proofs.VacantLemmas.{within_there}
use Rattle.iox_handles.proofs.table.Table.known.Goals as goal

pub known_place-place-requires-clause-low : goal.known_place-place-requires-clause-low
known_place-place-requires-clause-low c =
    known_low _ _ _ _ _ _ _ _ c.self.invariant c.args.number
    (subst (λ (t : Contents). is_some (handle_at t c.args.number) ≡ true) (sym c.self.view_is) c.requires) c.ranges.number.fits

pub known_place-place-requires-clause-there : goal.known_place-place-requires-clause-there
known_place-place-requires-clause-there c =
    subst (λ (ps : List Entry). is_some (in_places (handles_there ps) c.args.number) ≡ true) (sym c.deref.ensures.value)
    (known_there _ _ _ _ _ _ _ _ c.self.invariant c.args.number
    (subst (λ (t : Contents). is_some (handle_at t c.args.number) ≡ true) (sym c.self.view_is) c.requires))

pub index-requires : goal.index-requires
index-requires c =
    subst (λ (n : ℕ). c.known_place-place.result < n) (sym c.self.inside.places.ok.0)
    (within_there c.args.number c.self.inside.places.items c.known_place-place.result (subst (λ (ps : List Entry). has_at c.args.number (handles_there ps) c.known_place-place.result ≡ true) c.deref.ensures.value c.known_place-place.ensures))

pub returns-clause-found : goal.returns-clause-found
returns-clause-found c =
    rw (← c.self.view_is) (read_found _ _ _ _ _ _ _ _ c.args.number c.known_place-place.result c.index.result.now c.self.invariant (subst (λ (ps : List Entry). has_at c.args.number (handles_there ps) c.known_place-place.result ≡ true) c.deref.ensures.value c.known_place-place.ensures) c.index.ensures)

pub returns-clause-sound : goal.returns-clause-sound
returns-clause-sound c = rw (← c.self.view_is) (table_is_sound _ _ _ _ _ _ c.self.invariant.whole.table)
