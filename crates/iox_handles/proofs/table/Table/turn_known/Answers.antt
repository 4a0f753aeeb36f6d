use Rattle.std.proofs.Common.{◌≡◌, ◌-◌, ◌<◌, ℕ, List, true, ap, is_some, refl, slice_index_or, slice_set, subst, sym, ◌∙◌}
use Rattle.std.proofs.lemmas.Option.{same_Some}
use Rattle.iox_model.specs.declared.kind.Kind.{Kind}
use Rattle.iox_handles.specs.declared.entry.Entry.{Entry}
use Rattle.iox_handles.specs.Places.{handles_there, has_at, in_places}
use Rattle.iox_handles.specs.Tables.{Contents, changed, group_of, handle_at}
use Rattle.iox_handles.specs.Tallies.{tally_place}
use Rattle.iox_handles.proofs.KnownLemmas.{its_kind, known_low, known_there}
use Rattle.iox_handles.proofs.MemoryLemmas.{it_is_counted, may_change, memory-change_of, read_found, shown, shown-change}
use Rattle.iox_handles.proofs.SoundLemmas.{table_is_sound}
use Rattle.iox_handles.proofs.VacantLemmas.{number_there, within_there}
use Rattle.iox_handles.proofs.table.Table.turn_known.Goals as goal

pub known_place-at-requires-clause-low : goal.known_place-at-requires-clause-low
known_place-at-requires-clause-low c =
    known_low _ _ _ _ _ _ _ _ c.self.invariant c.args.number
    (subst (λ (t : Contents). is_some (handle_at t c.args.number) ≡ true) (sym c.self.view_is) c.requires.there) c.ranges.number.fits

pub known_place-at-requires-clause-there : goal.known_place-at-requires-clause-there
known_place-at-requires-clause-there c =
    subst (λ (ps : List Entry). is_some (in_places (handles_there ps) c.args.number) ≡ true) (sym c.deref.ensures.value)
    (known_there _ _ _ _ _ _ _ _ c.self.invariant c.args.number
    (subst (λ (t : Contents). is_some (handle_at t c.args.number) ≡ true) (sym c.self.view_is) c.requires.there))

pub index-entry-requires : goal.index-entry-requires
index-entry-requires c =
    subst (λ (n : ℕ). c.known_place-at.result < n) (sym c.self.inside.places.ok.0)
    (within_there c.args.number c.self.inside.places.items c.known_place-at.result (subst (λ (ps : List Entry). has_at c.args.number (handles_there ps) c.known_place-at.result ≡ true) c.deref.ensures.value c.known_place-at.ensures))

pub index_mut-requires : goal.index_mut-requires
index_mut-requires c =
    subst (λ (n : ℕ). c.known_place-at.result < n) (sym c.self.inside.places.ok.0)
    (within_there c.args.number c.self.inside.places.items c.known_place-at.result (subst (λ (ps : List Entry). has_at c.args.number (handles_there ps) c.known_place-at.result ≡ true) c.deref.ensures.value c.known_place-at.ensures))

pub discount-requires : goal.discount-requires
discount-requires c =
    subst (λ (k : Kind). group_of k < 3 → 0 < slice_index_or c.self.inside.tally.counts (tally_place c.index-entry.result.now.port k) 0)
    (its_kind c.self.view_is c.args.number c.index-entry.result.now (read_found _ _ _ _ _ _ _ _ c.args.number c.known_place-at.result c.index-entry.result.now c.self.invariant (subst (λ (ps : List Entry). has_at c.args.number (handles_there ps) c.known_place-at.result ≡ true) c.deref.ensures.value c.known_place-at.ensures) c.index-entry.ensures) c.args.kind c.requires.kind)
    (it_is_counted _ _ _ _ _ _ _ _ c.self.invariant c.args.number c.known_place-at.result c.index-entry.result.now (subst (λ (ps : List Entry). has_at c.args.number (handles_there ps) c.known_place-at.result ≡ true) c.deref.ensures.value c.known_place-at.ensures) c.index-entry.ensures)

pub returns-clause-sound : goal.returns-clause-sound
returns-clause-sound c = rw (← c.self.view_is) (table_is_sound _ _ _ _ _ _ c.self.invariant.whole.table)

pub count-requires : goal.count-requires
count-requires c =
    may_change _ _ _ _ _ _ _ _ _ c.args.number c.known_place-at.result c.index-entry.result.now c.index-entry.result.now.port c.args.becomes c.self.invariant (subst (λ (ps : List Entry). has_at c.args.number (handles_there ps) c.known_place-at.result ≡ true) c.deref.ensures.value c.known_place-at.ensures) c.index-entry.ensures
    (subst (λ (k : Kind). c.discount.new.self.counts ≡ slice_set c.self.inside.tally.counts (tally_place c.index-entry.result.now.port k) (slice_index_or c.self.inside.tally.counts (tally_place c.index-entry.result.now.port k) 0 - 1))
    (sym (its_kind c.self.view_is c.args.number c.index-entry.result.now (read_found _ _ _ _ _ _ _ _ c.args.number c.known_place-at.result c.index-entry.result.now c.self.invariant (subst (λ (ps : List Entry). has_at c.args.number (handles_there ps) c.known_place-at.result ≡ true) c.deref.ensures.value c.known_place-at.ensures) c.index-entry.ensures) c.args.kind c.requires.kind)) c.discount.ensures)
    c.self.inside.places.small

pub invariant_of-self : goal.invariant_of-self
invariant_of-self c =
    memory-change_of _ _ _ _ _ _ _ _ c.self.invariant c.args.number c.known_place-at.result c.index-entry.result.now (subst (λ (ps : List Entry). has_at c.args.number (handles_there ps) c.known_place-at.result ≡ true) c.deref.ensures.value c.known_place-at.ensures) c.index-entry.ensures (record (c.index-entry.result.now) { kind = c.args.becomes; connections = c.args.connections }) (number_there c.args.number c.self.inside.places.items c.known_place-at.result c.index-entry.result.now (subst (λ (ps : List Entry). has_at c.args.number (handles_there ps) c.known_place-at.result ≡ true) c.deref.ensures.value c.known_place-at.ensures) c.index-entry.ensures) _ _ refl
    (subst (λ (k : Kind). c.discount.new.self.counts ≡ slice_set c.self.inside.tally.counts (tally_place c.index-entry.result.now.port k) (slice_index_or c.self.inside.tally.counts (tally_place c.index-entry.result.now.port k) 0 - 1))
    (sym (its_kind c.self.view_is c.args.number c.index-entry.result.now (read_found _ _ _ _ _ _ _ _ c.args.number c.known_place-at.result c.index-entry.result.now c.self.invariant (subst (λ (ps : List Entry). has_at c.args.number (handles_there ps) c.known_place-at.result ≡ true) c.deref.ensures.value c.known_place-at.ensures) c.index-entry.ensures) c.args.kind c.requires.kind)) c.discount.ensures)
    c.count.ensures

pub returns-clause-turned : goal.returns-clause-turned
returns-clause-turned c =
    λ k there. rw (← c.self.view_is)
    (shown-change _ _ _ _ _ _ _ _ c.self.invariant c.args.number c.known_place-at.result c.index-entry.result.now (subst (λ (ps : List Entry). has_at c.args.number (handles_there ps) c.known_place-at.result ≡ true) c.deref.ensures.value c.known_place-at.ensures) c.index-entry.ensures (record (c.index-entry.result.now) { kind = c.args.becomes; connections = c.args.connections }) (number_there c.args.number c.self.inside.places.items c.known_place-at.result c.index-entry.result.now (subst (λ (ps : List Entry). has_at c.args.number (handles_there ps) c.known_place-at.result ≡ true) c.deref.ensures.value c.known_place-at.ensures) c.index-entry.ensures)
    ∙ ap (λ (e : Entry). changed (shown c.self.inside.most c.self.inside.next c.self.inside.places.items c.self.inside.free.items) (record e { kind = c.args.becomes; connections = c.args.connections }))
    (same_Some c.index-entry.result.now k ((read_found _ _ _ _ _ _ _ _ c.args.number c.known_place-at.result c.index-entry.result.now c.self.invariant (subst (λ (ps : List Entry). has_at c.args.number (handles_there ps) c.known_place-at.result ≡ true) c.deref.ensures.value c.known_place-at.ensures) c.index-entry.ensures) ∙ ap (λ (t : Contents). handle_at t c.args.number) c.self.view_is ∙ there)))
