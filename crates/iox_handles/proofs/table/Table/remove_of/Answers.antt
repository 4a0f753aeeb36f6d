use Rattle.std.proofs.Common.{◌≡◌, ◌<◌, ℕ, List, None, true, subst, sym, ap, ◌∙◌, refl}
use Rattle.std.specs.Option.{option_and_then}
use Rattle.std.specs.Vec.{vec_capacity}
use Rattle.iox_handles.specs.declared.entry.Entry.{Entry}
use Rattle.iox_handles.specs.Places.{handles_there, has_at, in_places, nobody}
use Rattle.iox_handles.specs.Tables.{if_of}
use Rattle.iox_handles.proofs.MemoryLemmas.{gone-take, it_is_counted, memory-take, missing_is, read_found, shown-take, spare_place}
use Rattle.iox_handles.proofs.NodeLemmas.{its_own, of_another}
use Rattle.iox_handles.proofs.SoundLemmas.{table_is_sound}
use Rattle.iox_handles.proofs.VacantLemmas.{within_there}
use Rattle.iox_handles.proofs.table.Table.remove_of.Goals as goal

pub returns-in_err-at-clause-found : goal.returns-in_err-at-clause-found
returns-in_err-at-clause-found c =
    rw (← c.self.view_is)
    (c.from_residual.ensures ∙ ap (option_and_then (if_of c.args.node)) (missing_is _ _ _ _ _ _ _ _ c.args.number c.self.invariant
    (subst (λ (ps : List Entry). in_places (handles_there ps) c.args.number ≡ None) c.deref.ensures.value (c.place_of.ensures.missing c.in_err-at.was))))

pub returns-then-entry-node-clause-found : goal.returns-then-entry-node-clause-found
returns-then-entry-node-clause-found c =
    rw (← c.self.view_is)
    (of_another c.args.node _ c.index-entry.result.now (read_found _ _ _ _ _ _ _ _ c.args.number c.in_ok-at.at c.index-entry.result.now c.self.invariant (subst (λ (ps : List Entry). has_at c.args.number (handles_there ps) c.in_ok-at.at ≡ true) c.deref.ensures.value c.in_ok-at.ensures.found) c.index-entry.ensures) c.if-entry-node.true)

pub returns-clause-found : goal.returns-clause-found
returns-clause-found c =
    rw (← c.self.view_is)
    (its_own c.args.node _ c.index-entry.result.now (read_found _ _ _ _ _ _ _ _ c.args.number c.in_ok-at.at c.index-entry.result.now c.self.invariant (subst (λ (ps : List Entry). has_at c.args.number (handles_there ps) c.in_ok-at.at ≡ true) c.deref.ensures.value c.in_ok-at.ensures.found) c.index-entry.ensures) c.if-entry-node.false)

pub returns-in_err-at-clause-gone : goal.returns-in_err-at-clause-gone
returns-in_err-at-clause-gone c =
    rw (← c.self.view_is)
    (sym (ap (option_and_then (if_of c.args.node)) (missing_is _ _ _ _ _ _ _ _ c.args.number c.self.invariant
    (subst (λ (ps : List Entry). in_places (handles_there ps) c.args.number ≡ None) c.deref.ensures.value (c.place_of.ensures.missing c.in_err-at.was)))))

pub returns-then-entry-node-clause-gone : goal.returns-then-entry-node-clause-gone
returns-then-entry-node-clause-gone c =
    rw (← c.self.view_is)
    (sym (of_another c.args.node _ c.index-entry.result.now (read_found _ _ _ _ _ _ _ _ c.args.number c.in_ok-at.at c.index-entry.result.now c.self.invariant (subst (λ (ps : List Entry). has_at c.args.number (handles_there ps) c.in_ok-at.at ≡ true) c.deref.ensures.value c.in_ok-at.ensures.found) c.index-entry.ensures) c.if-entry-node.true))

pub returns-clause-gone : goal.returns-clause-gone
returns-clause-gone c =
    ap (option_and_then (if_of c.args.node))
    (gone-take _ _ _ _ _ _ _ _ c.self.invariant c.args.number c.in_ok-at.at c.index-entry.result.now (subst (λ (ps : List Entry). has_at c.args.number (handles_there ps) c.in_ok-at.at ≡ true) c.deref.ensures.value c.in_ok-at.ensures.found) c.index-entry.ensures (record (c.index_mut.result.now) { number = nobody }) refl _ c.push_reserved.ensures.items)

pub returns-in_err-at-clause-sound : goal.returns-in_err-at-clause-sound
returns-in_err-at-clause-sound c = rw (← c.self.view_is) (table_is_sound _ _ _ _ _ _ c.self.invariant.whole.table)

pub returns-then-entry-node-clause-sound : goal.returns-then-entry-node-clause-sound
returns-then-entry-node-clause-sound c = rw (← c.self.view_is) (table_is_sound _ _ _ _ _ _ c.self.invariant.whole.table)

pub returns-clause-sound : goal.returns-clause-sound
returns-clause-sound c = rw (← c.self.view_is) (table_is_sound _ _ _ _ _ _ c.self.invariant.whole.table)

pub index-entry-requires : goal.index-entry-requires
index-entry-requires c =
    subst (λ (n : ℕ). c.in_ok-at.at < n) (sym c.self.inside.places.ok.0)
    (within_there c.args.number c.self.inside.places.items c.in_ok-at.at (subst (λ (ps : List Entry). has_at c.args.number (handles_there ps) c.in_ok-at.at ≡ true) c.deref.ensures.value c.in_ok-at.ensures.found))

pub index_mut-requires : goal.index_mut-requires
index_mut-requires c =
    subst (λ (n : ℕ). c.in_ok-at.at < n) (sym c.self.inside.places.ok.0)
    (within_there c.args.number c.self.inside.places.items c.in_ok-at.at (subst (λ (ps : List Entry). has_at c.args.number (handles_there ps) c.in_ok-at.at ≡ true) c.deref.ensures.value c.in_ok-at.ensures.found))

pub discount-requires : goal.discount-requires
discount-requires c = it_is_counted _ _ _ _ _ _ _ _ c.self.invariant c.args.number c.in_ok-at.at c.index-entry.result.now (subst (λ (ps : List Entry). has_at c.args.number (handles_there ps) c.in_ok-at.at ≡ true) c.deref.ensures.value c.in_ok-at.ensures.found) c.index-entry.ensures

pub push_reserved-requires : goal.push_reserved-requires
push_reserved-requires c =
    subst (λ (m : ℕ). m < vec_capacity c.self.inside.free) (sym c.self.inside.free.ok.0)
    (spare_place _ _ _ _ _ _ _ _ c.self.invariant c.args.number c.in_ok-at.at c.index-entry.result.now (subst (λ (ps : List Entry). has_at c.args.number (handles_there ps) c.in_ok-at.at ≡ true) c.deref.ensures.value c.in_ok-at.ensures.found) c.index-entry.ensures)

pub invariant_of-self : goal.invariant_of-self
invariant_of-self c =
    memory-take _ _ _ _ _ _ _ _ c.self.invariant c.args.number c.in_ok-at.at c.index-entry.result.now (subst (λ (ps : List Entry). has_at c.args.number (handles_there ps) c.in_ok-at.at ≡ true) c.deref.ensures.value c.in_ok-at.ensures.found) c.index-entry.ensures (record (c.index_mut.result.now) { number = nobody }) refl _ c.push_reserved.ensures.items
    _ _ c.push_reserved.ensures.capacity c.discount.ensures

pub returns-clause-removed : goal.returns-clause-removed
returns-clause-removed c =
    λ some. rw (← c.self.view_is)
    (shown-take _ _ _ _ _ _ _ _ c.self.invariant c.args.number c.in_ok-at.at c.index-entry.result.now (subst (λ (ps : List Entry). has_at c.args.number (handles_there ps) c.in_ok-at.at ≡ true) c.deref.ensures.value c.in_ok-at.ensures.found) c.index-entry.ensures (record (c.index_mut.result.now) { number = nobody }) refl _ c.push_reserved.ensures.items)
