use Rattle.std.proofs.Common.{◌≡◌, ◌<◌, ℕ, List, true, is_some, subst, sym, ◌∙◌}
use Rattle.iox_handles.specs.declared.entry.Entry.{Entry}
use Rattle.iox_handles.specs.Places.{handles_there, has_at}
use Rattle.iox_handles.specs.Tables.{Contents, handle_at}
use Rattle.iox_handles.proofs.KnownLemmas.{known_low}
use Rattle.iox_handles.proofs.MemoryLemmas.{read_found}
use Rattle.iox_handles.proofs.SoundLemmas.{table_is_sound}
use Rattle.iox_handles.proofs.VacantLemmas.{number_at, within_there}
use Rattle.iox_handles.proofs.table.Table.near_known.Goals as goal

pub index-requires : goal.index-requires
index-requires c =
    subst (λ (n : ℕ). c.args.hint < n) (sym c.self.inside.places.ok.0)
    (within_there c.args.number c.self.inside.places.items c.args.hint
    (subst (λ (ps : List Entry). has_at c.args.number (handles_there ps) c.args.hint ≡ true) c.deref.ensures.value
    (number_at c.args.number _ c.args.hint
    (known_low _ _ _ _ _ _ _ _ c.self.invariant c.args.number
    (subst (λ (t : Contents). is_some (handle_at t c.args.number) ≡ true) (sym c.self.view_is) c.requires) c.ranges.number.fits)
    (sym c.is_there.ensures ∙ c.if-is_there.true))))

pub returns-then-is_there-clause-found : goal.returns-then-is_there-clause-found
returns-then-is_there-clause-found c =
    rw (← c.self.view_is)
    (read_found _ _ _ _ _ _ _ _ c.args.number c.args.hint c.index.result.now c.self.invariant
    (subst (λ (ps : List Entry). has_at c.args.number (handles_there ps) c.args.hint ≡ true) c.deref.ensures.value
    (number_at c.args.number _ c.args.hint
    (known_low _ _ _ _ _ _ _ _ c.self.invariant c.args.number
    (subst (λ (t : Contents). is_some (handle_at t c.args.number) ≡ true) (sym c.self.view_is) c.requires) c.ranges.number.fits)
    (sym c.is_there.ensures ∙ c.if-is_there.true)))
    c.index.ensures)

pub returns-then-is_there-clause-sound : goal.returns-then-is_there-clause-sound
returns-then-is_there-clause-sound c = rw (← c.self.view_is) (table_is_sound _ _ _ _ _ _ c.self.invariant.whole.table)

pub returns-clause-sound : goal.returns-clause-sound
returns-clause-sound c = rw (← c.self.view_is) (table_is_sound _ _ _ _ _ _ c.self.invariant.whole.table)
