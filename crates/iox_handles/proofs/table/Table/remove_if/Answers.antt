use Rattle.std.proofs.Common.{◌≡◌, ◌<◌, ℕ, List, None, true, subst, sym, ap, ◌∙◌, refl}
use Rattle.std.specs.Option.{option_and_then}
use Rattle.std.specs.Vec.{vec_capacity}
use Rattle.iox_handles.specs.declared.entry.Entry.{Entry}
use Rattle.iox_handles.specs.Places.{handles_there, has_at, in_places, nobody}
use Rattle.iox_handles.specs.Tables.{if_of}
use Rattle.iox_handles.specs.Removals.{if_passes}
use Rattle.iox_handles.proofs.TestLemmas.{fails_it, passes_it}
use Rattle.iox_handles.proofs.MemoryLemmas.{it_is_counted, memory-take, missing_is, read_found, shown-take, spare_place}
use Rattle.iox_handles.proofs.NodeLemmas.{its_own, of_another}
use Rattle.iox_handles.proofs.SoundLemmas.{table_is_sound}
use Rattle.iox_handles.proofs.VacantLemmas.{within_there}
use Rattle.iox_handles.proofs.table.Table.remove_if.Goals as goal

pub returns-in_err-at-clause-found : goal.returns-in_err-at-clause-found
returns-in_err-at-clause-found g c =
    rw (← c.self.view_is)
    (c.from_residual.ensures ∙ ap (option_and_then (if_passes (g.T.EntryTest.passes c.args.test.now))) (ap (option_and_then (if_of c.args.node)) (missing_is _ _ _ _ _ _ _ _ c.args.number c.self.invariant
    (subst (λ (ps : List Entry). in_places (handles_there ps) c.args.number ≡ None) c.deref.ensures.value (c.place_of.ensures.missing c.in_err-at.was)))))

pub returns-then-entry-node-clause-found : goal.returns-then-entry-node-clause-found
returns-then-entry-node-clause-found g c =
    rw (← c.self.view_is)
    (ap (option_and_then (if_passes (g.T.EntryTest.passes c.args.test.now))) (of_another c.args.node _ c.index-entry.result.now (read_found _ _ _ _ _ _ _ _ c.args.number c.in_ok-at.at c.index-entry.result.now c.self.invariant (subst (λ (ps : List Entry). has_at c.args.number (handles_there ps) c.in_ok-at.at ≡ true) c.deref.ensures.value c.in_ok-at.ensures.found) c.index-entry.ensures) c.if-entry-node.true))

pub returns-then-not-passes-clause-found : goal.returns-then-not-passes-clause-found
returns-then-not-passes-clause-found g c =
    rw (← c.self.view_is)
    (fails_it (g.T.EntryTest.passes c.args.test.now) _ c.index-entry.result.now (sym c.passes.ensures ∙ c.if-not-passes.true) (its_own c.args.node _ c.index-entry.result.now (read_found _ _ _ _ _ _ _ _ c.args.number c.in_ok-at.at c.index-entry.result.now c.self.invariant (subst (λ (ps : List Entry). has_at c.args.number (handles_there ps) c.in_ok-at.at ≡ true) c.deref.ensures.value c.in_ok-at.ensures.found) c.index-entry.ensures) c.if-entry-node.false))

pub returns-clause-found : goal.returns-clause-found
returns-clause-found g c =
    rw (← c.self.view_is)
    (passes_it (g.T.EntryTest.passes c.args.test.now) _ c.index-entry.result.now (sym c.passes.ensures ∙ c.if-not-passes.false) (its_own c.args.node _ c.index-entry.result.now (read_found _ _ _ _ _ _ _ _ c.args.number c.in_ok-at.at c.index-entry.result.now c.self.invariant (subst (λ (ps : List Entry). has_at c.args.number (handles_there ps) c.in_ok-at.at ≡ true) c.deref.ensures.value c.in_ok-at.ensures.found) c.index-entry.ensures) c.if-entry-node.false))

pub returns-in_err-at-clause-sound : goal.returns-in_err-at-clause-sound
returns-in_err-at-clause-sound g c = rw (← c.self.view_is) (table_is_sound _ _ _ _ _ _ c.self.invariant.whole.table)

pub returns-then-entry-node-clause-sound : goal.returns-then-entry-node-clause-sound
returns-then-entry-node-clause-sound g c = rw (← c.self.view_is) (table_is_sound _ _ _ _ _ _ c.self.invariant.whole.table)

pub returns-then-not-passes-clause-sound : goal.returns-then-not-passes-clause-sound
returns-then-not-passes-clause-sound g c = rw (← c.self.view_is) (table_is_sound _ _ _ _ _ _ c.self.invariant.whole.table)

pub returns-clause-sound : goal.returns-clause-sound
returns-clause-sound g c = rw (← c.self.view_is) (table_is_sound _ _ _ _ _ _ c.self.invariant.whole.table)

pub index-entry-requires : goal.index-entry-requires
index-entry-requires g c =
    subst (λ (n : ℕ). c.in_ok-at.at < n) (sym c.self.inside.places.ok.0)
    (within_there c.args.number c.self.inside.places.items c.in_ok-at.at (subst (λ (ps : List Entry). has_at c.args.number (handles_there ps) c.in_ok-at.at ≡ true) c.deref.ensures.value c.in_ok-at.ensures.found))

pub index_mut-requires : goal.index_mut-requires
index_mut-requires g c =
    subst (λ (n : ℕ). c.in_ok-at.at < n) (sym c.self.inside.places.ok.0)
    (within_there c.args.number c.self.inside.places.items c.in_ok-at.at (subst (λ (ps : List Entry). has_at c.args.number (handles_there ps) c.in_ok-at.at ≡ true) c.deref.ensures.value c.in_ok-at.ensures.found))

pub discount-requires : goal.discount-requires
discount-requires g c = it_is_counted _ _ _ _ _ _ _ _ c.self.invariant c.args.number c.in_ok-at.at c.index-entry.result.now (subst (λ (ps : List Entry). has_at c.args.number (handles_there ps) c.in_ok-at.at ≡ true) c.deref.ensures.value c.in_ok-at.ensures.found) c.index-entry.ensures

pub push_reserved-requires : goal.push_reserved-requires
push_reserved-requires g c =
    subst (λ (m : ℕ). m < vec_capacity c.self.inside.free) (sym c.self.inside.free.ok.0)
    (spare_place _ _ _ _ _ _ _ _ c.self.invariant c.args.number c.in_ok-at.at c.index-entry.result.now (subst (λ (ps : List Entry). has_at c.args.number (handles_there ps) c.in_ok-at.at ≡ true) c.deref.ensures.value c.in_ok-at.ensures.found) c.index-entry.ensures)

pub invariant_of-self : goal.invariant_of-self
invariant_of-self g c =
    memory-take _ _ _ _ _ _ _ _ c.self.invariant c.args.number c.in_ok-at.at c.index-entry.result.now (subst (λ (ps : List Entry). has_at c.args.number (handles_there ps) c.in_ok-at.at ≡ true) c.deref.ensures.value c.in_ok-at.ensures.found) c.index-entry.ensures (record (c.index_mut.result.now) { number = nobody }) refl _ c.push_reserved.ensures.items
    _ _ c.push_reserved.ensures.capacity c.discount.ensures

pub returns-clause-removed : goal.returns-clause-removed
returns-clause-removed g c =
    λ some. rw (← c.self.view_is)
    (shown-take _ _ _ _ _ _ _ _ c.self.invariant c.args.number c.in_ok-at.at c.index-entry.result.now (subst (λ (ps : List Entry). has_at c.args.number (handles_there ps) c.in_ok-at.at ≡ true) c.deref.ensures.value c.in_ok-at.ensures.found) c.index-entry.ensures (record (c.index_mut.result.now) { number = nobody }) refl _ c.push_reserved.ensures.items)
