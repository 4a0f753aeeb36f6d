use Rattle.std.proofs.Common.{◌≡◌, ◌<◌, ℕ, List, None, true, subst, sym, ap, ◌∙◌, refl}
use Rattle.std.specs.Option.{option_and_then}
use Rattle.iox_handles.specs.declared.entry.Entry.{Entry}
use Rattle.iox_handles.specs.Places.{handles_there, has_at, in_places}
use Rattle.iox_handles.specs.Tables.{if_of}
use Rattle.iox_handles.proofs.MemoryLemmas.{it_is_counted, may_change, memory-change_of, missing_is, read_found, shown-change}
use Rattle.iox_handles.proofs.NodeLemmas.{its_own, of_another}
use Rattle.iox_handles.proofs.SoundLemmas.{table_is_sound}
use Rattle.iox_handles.proofs.VacantLemmas.{within_there}
use Rattle.iox_handles.proofs.table.Table.change_of.Goals as goal

pub returns-in_err-at-clause-found : goal.returns-in_err-at-clause-found
returns-in_err-at-clause-found c =
    rw (← c.self.view_is)
    (c.from_residual.ensures ∙ ap (option_and_then (if_of c.args.entry.node)) (missing_is _ _ _ _ _ _ _ _ c.args.entry.number c.self.invariant
    (subst (λ (ps : List Entry). in_places (handles_there ps) c.args.entry.number ≡ None) c.deref.ensures.value (c.place_of.ensures.missing c.in_err-at.was))))

pub returns-then-old-entry-clause-found : goal.returns-then-old-entry-clause-found
returns-then-old-entry-clause-found c =
    rw (← c.self.view_is) (of_another c.args.entry.node _ c.index-old.result.now (read_found _ _ _ _ _ _ _ _ c.args.entry.number c.in_ok-at.at c.index-old.result.now c.self.invariant (subst (λ (ps : List Entry). has_at c.args.entry.number (handles_there ps) c.in_ok-at.at ≡ true) c.deref.ensures.value c.in_ok-at.ensures.found) c.index-old.ensures) c.if-old-entry.true)

pub returns-clause-found : goal.returns-clause-found
returns-clause-found c =
    rw (← c.self.view_is) (its_own c.args.entry.node _ c.index-old.result.now (read_found _ _ _ _ _ _ _ _ c.args.entry.number c.in_ok-at.at c.index-old.result.now c.self.invariant (subst (λ (ps : List Entry). has_at c.args.entry.number (handles_there ps) c.in_ok-at.at ≡ true) c.deref.ensures.value c.in_ok-at.ensures.found) c.index-old.ensures) c.if-old-entry.false)

pub returns-in_err-at-clause-sound : goal.returns-in_err-at-clause-sound
returns-in_err-at-clause-sound c = rw (← c.self.view_is) (table_is_sound _ _ _ _ _ _ c.self.invariant.whole.table)

pub returns-then-old-entry-clause-sound : goal.returns-then-old-entry-clause-sound
returns-then-old-entry-clause-sound c = rw (← c.self.view_is) (table_is_sound _ _ _ _ _ _ c.self.invariant.whole.table)

pub returns-clause-sound : goal.returns-clause-sound
returns-clause-sound c = rw (← c.self.view_is) (table_is_sound _ _ _ _ _ _ c.self.invariant.whole.table)

pub index-old-requires : goal.index-old-requires
index-old-requires c =
    subst (λ (n : ℕ). c.in_ok-at.at < n) (sym c.self.inside.places.ok.0)
    (within_there c.args.entry.number c.self.inside.places.items c.in_ok-at.at (subst (λ (ps : List Entry). has_at c.args.entry.number (handles_there ps) c.in_ok-at.at ≡ true) c.deref.ensures.value c.in_ok-at.ensures.found))

pub index_mut-requires : goal.index_mut-requires
index_mut-requires c =
    subst (λ (n : ℕ). c.in_ok-at.at < n) (sym c.self.inside.places.ok.0)
    (within_there c.args.entry.number c.self.inside.places.items c.in_ok-at.at (subst (λ (ps : List Entry). has_at c.args.entry.number (handles_there ps) c.in_ok-at.at ≡ true) c.deref.ensures.value c.in_ok-at.ensures.found))

pub discount-requires : goal.discount-requires
discount-requires c = it_is_counted _ _ _ _ _ _ _ _ c.self.invariant c.args.entry.number c.in_ok-at.at c.index-old.result.now (subst (λ (ps : List Entry). has_at c.args.entry.number (handles_there ps) c.in_ok-at.at ≡ true) c.deref.ensures.value c.in_ok-at.ensures.found) c.index-old.ensures

pub count-requires : goal.count-requires
count-requires c =
    may_change _ _ _ _ _ _ _ _ _ c.args.entry.number c.in_ok-at.at c.index-old.result.now c.args.entry.port c.args.entry.kind c.self.invariant (subst (λ (ps : List Entry). has_at c.args.entry.number (handles_there ps) c.in_ok-at.at ≡ true) c.deref.ensures.value c.in_ok-at.ensures.found) c.index-old.ensures c.discount.ensures c.self.inside.places.small

pub invariant_of-self : goal.invariant_of-self
invariant_of-self c =
    memory-change_of _ _ _ _ _ _ _ _ c.self.invariant c.args.entry.number c.in_ok-at.at c.index-old.result.now (subst (λ (ps : List Entry). has_at c.args.entry.number (handles_there ps) c.in_ok-at.at ≡ true) c.deref.ensures.value c.in_ok-at.ensures.found) c.index-old.ensures c.args.entry refl _ _ c.if-old-entry.false c.discount.ensures c.count.ensures

pub returns-clause-changed : goal.returns-clause-changed
returns-clause-changed c =
    λ some. rw (← c.self.view_is)
    (shown-change _ _ _ _ _ _ _ _ c.self.invariant c.args.entry.number c.in_ok-at.at c.index-old.result.now (subst (λ (ps : List Entry). has_at c.args.entry.number (handles_there ps) c.in_ok-at.at ≡ true) c.deref.ensures.value c.in_ok-at.ensures.found) c.index-old.ensures c.args.entry refl)
