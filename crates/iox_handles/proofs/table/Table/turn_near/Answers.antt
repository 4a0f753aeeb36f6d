use Rattle.std.proofs.Common.{◌≡◌, ◌<◌, ℕ, List, true, ap, is_some, subst, sym, ◌∙◌}
use Rattle.std.proofs.lemmas.Option.{same_Some}
use Rattle.iox_handles.specs.declared.entry.Entry.{Entry}
use Rattle.iox_handles.specs.Places.{handles_there, has_at}
use Rattle.iox_handles.specs.Tables.{Contents, handle_at}
use Rattle.iox_handles.proofs.KnownLemmas.{known_low}
use Rattle.iox_handles.proofs.MemoryLemmas.{memory-kind, read_found, shown-kind}
use Rattle.iox_handles.proofs.SoundLemmas.{table_is_sound}
use Rattle.iox_handles.proofs.VacantLemmas.{number_at, within_there}
use Rattle.iox_handles.proofs.table.Table.turn_near.Goals as goal

pub index-old-requires : goal.index-old-requires
index-old-requires c =
    subst (λ (n : ℕ). c.args.hint < n) (sym c.self.inside.places.ok.0)
    (within_there c.args.number c.self.inside.places.items c.args.hint
    (subst (λ (ps : List Entry). has_at c.args.number (handles_there ps) c.args.hint ≡ true) c.deref.ensures.value
    (number_at c.args.number _ c.args.hint
    (known_low _ _ _ _ _ _ _ _ c.self.invariant c.args.number
    (subst (λ (t : Contents). is_some (handle_at t c.args.number) ≡ true) (sym c.self.view_is) c.requires.there) c.ranges.number.fits)
    (sym c.is_there.ensures ∙ c.if-is_there.true))))

pub index_mut-requires : goal.index_mut-requires
index_mut-requires c =
    subst (λ (n : ℕ). c.args.hint < n) (sym c.self.inside.places.ok.0)
    (within_there c.args.number c.self.inside.places.items c.args.hint
    (subst (λ (ps : List Entry). has_at c.args.number (handles_there ps) c.args.hint ≡ true) c.deref.ensures.value
    (number_at c.args.number _ c.args.hint
    (known_low _ _ _ _ _ _ _ _ c.self.invariant c.args.number
    (subst (λ (t : Contents). is_some (handle_at t c.args.number) ≡ true) (sym c.self.view_is) c.requires.there) c.ranges.number.fits)
    (sym c.is_there.ensures ∙ c.if-is_there.true))))

pub invariant_of-self : goal.invariant_of-self
invariant_of-self c =
    memory-kind _ _ _ _ _ _ _ _ c.self.invariant c.args.number c.args.hint c.index-old.result.now
    (subst (λ (ps : List Entry). has_at c.args.number (handles_there ps) c.args.hint ≡ true) c.deref.ensures.value
    (number_at c.args.number _ c.args.hint
    (known_low _ _ _ _ _ _ _ _ c.self.invariant c.args.number
    (subst (λ (t : Contents). is_some (handle_at t c.args.number) ≡ true) (sym c.self.view_is) c.requires.there) c.ranges.number.fits)
    (sym c.is_there.ensures ∙ c.if-is_there.true)))
    c.index-old.ensures c.index_mut.result.now c.index_mut.ensures.value c.args.kind
    (c.requires.group c.index-old.result.now (ap (λ (t : Contents). handle_at t c.args.number) (sym c.self.view_is) ∙ sym (read_found _ _ _ _ _ _ _ _ c.args.number c.args.hint c.index-old.result.now c.self.invariant
    (subst (λ (ps : List Entry). has_at c.args.number (handles_there ps) c.args.hint ≡ true) c.deref.ensures.value
    (number_at c.args.number _ c.args.hint
    (known_low _ _ _ _ _ _ _ _ c.self.invariant c.args.number
    (subst (λ (t : Contents). is_some (handle_at t c.args.number) ≡ true) (sym c.self.view_is) c.requires.there) c.ranges.number.fits)
    (sym c.is_there.ensures ∙ c.if-is_there.true)))
    c.index-old.ensures)))

pub returns-then-is_there-clause-told : goal.returns-then-is_there-clause-told
returns-then-is_there-clause-told c =
    λ h there. ap (λ (e : Entry). record e { kind = c.args.kind })
    (same_Some c.index-old.result.now h ((read_found _ _ _ _ _ _ _ _ c.args.number c.args.hint c.index-old.result.now c.self.invariant
    (subst (λ (ps : List Entry). has_at c.args.number (handles_there ps) c.args.hint ≡ true) c.deref.ensures.value
    (number_at c.args.number _ c.args.hint
    (known_low _ _ _ _ _ _ _ _ c.self.invariant c.args.number
    (subst (λ (t : Contents). is_some (handle_at t c.args.number) ≡ true) (sym c.self.view_is) c.requires.there) c.ranges.number.fits)
    (sym c.is_there.ensures ∙ c.if-is_there.true)))
    c.index-old.ensures) ∙ ap (λ (t : Contents). handle_at t c.args.number) c.self.view_is ∙ there))

pub returns-then-is_there-clause-turned : goal.returns-then-is_there-clause-turned
returns-then-is_there-clause-turned c =
    rw (← c.self.view_is)
    (shown-kind _ _ _ _ _ _ _ _ c.self.invariant c.args.number c.args.hint c.index-old.result.now
    (subst (λ (ps : List Entry). has_at c.args.number (handles_there ps) c.args.hint ≡ true) c.deref.ensures.value
    (number_at c.args.number _ c.args.hint
    (known_low _ _ _ _ _ _ _ _ c.self.invariant c.args.number
    (subst (λ (t : Contents). is_some (handle_at t c.args.number) ≡ true) (sym c.self.view_is) c.requires.there) c.ranges.number.fits)
    (sym c.is_there.ensures ∙ c.if-is_there.true)))
    c.index-old.ensures c.index_mut.result.now c.index_mut.ensures.value c.args.kind)

pub returns-then-is_there-clause-sound : goal.returns-then-is_there-clause-sound
returns-then-is_there-clause-sound c = rw (← c.self.view_is) (table_is_sound _ _ _ _ _ _ c.self.invariant.whole.table)

pub returns-clause-sound : goal.returns-clause-sound
returns-clause-sound c = rw (← c.self.view_is) (table_is_sound _ _ _ _ _ _ c.self.invariant.whole.table)
