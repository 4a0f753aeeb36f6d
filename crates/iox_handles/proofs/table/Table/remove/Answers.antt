use Rattle.std.proofs.Common.{◌≡◌, ◌<◌, ℕ, List, None, true, subst, sym, ◌∙◌, refl}
use Rattle.std.specs.Vec.{vec_capacity}
use Rattle.iox_handles.specs.declared.entry.Entry.{Entry}
use Rattle.iox_handles.specs.Places.{handles_there, has_at, in_places, nobody}
use Rattle.iox_handles.proofs.MemoryLemmas.{gone-take, it_is_counted, memory-take, missing_is, read_found, shown-take, spare_place}
use Rattle.iox_handles.proofs.VacantLemmas.{within_there}
use Rattle.iox_handles.proofs.table.Table.remove.Goals as goal

pub returns-in_err-place-clause-found : goal.returns-in_err-place-clause-found
returns-in_err-place-clause-found c =
    rw (← c.self.view_is)
    (c.from_residual.ensures ∙ missing_is _ _ _ _ _ _ _ _ c.args.number c.self.invariant
    (subst (λ (ps : List Entry). in_places (handles_there ps) c.args.number ≡ None) c.deref.ensures.value (c.place_of.ensures.missing c.in_err-place.was)))

pub returns-in_err-place-clause-gone : goal.returns-in_err-place-clause-gone
returns-in_err-place-clause-gone c =
    rw (← c.self.view_is)
    (sym (missing_is _ _ _ _ _ _ _ _ c.args.number c.self.invariant
    (subst (λ (ps : List Entry). in_places (handles_there ps) c.args.number ≡ None) c.deref.ensures.value (c.place_of.ensures.missing c.in_err-place.was))))

pub index-entry-requires : goal.index-entry-requires
index-entry-requires c =
    subst (λ (n : ℕ). c.in_ok-place.place < n) (sym c.self.inside.places.ok.0)
    (within_there c.args.number c.self.inside.places.items c.in_ok-place.place (subst (λ (ps : List Entry). has_at c.args.number (handles_there ps) c.in_ok-place.place ≡ true) c.deref.ensures.value c.in_ok-place.ensures.found))

pub index_mut-requires : goal.index_mut-requires
index_mut-requires c =
    subst (λ (n : ℕ). c.in_ok-place.place < n) (sym c.self.inside.places.ok.0)
    (within_there c.args.number c.self.inside.places.items c.in_ok-place.place (subst (λ (ps : List Entry). has_at c.args.number (handles_there ps) c.in_ok-place.place ≡ true) c.deref.ensures.value c.in_ok-place.ensures.found))

pub discount-requires : goal.discount-requires
discount-requires c = it_is_counted _ _ _ _ _ _ _ _ c.self.invariant c.args.number c.in_ok-place.place c.index-entry.result.now (subst (λ (ps : List Entry). has_at c.args.number (handles_there ps) c.in_ok-place.place ≡ true) c.deref.ensures.value c.in_ok-place.ensures.found) c.index-entry.ensures

pub push_reserved-requires : goal.push_reserved-requires
push_reserved-requires c =
    subst (λ (m : ℕ). m < vec_capacity c.self.inside.free) (sym c.self.inside.free.ok.0)
    (spare_place _ _ _ _ _ _ _ _ c.self.invariant c.args.number c.in_ok-place.place c.index-entry.result.now (subst (λ (ps : List Entry). has_at c.args.number (handles_there ps) c.in_ok-place.place ≡ true) c.deref.ensures.value c.in_ok-place.ensures.found) c.index-entry.ensures)

pub invariant_of-self : goal.invariant_of-self
invariant_of-self c =
    memory-take _ _ _ _ _ _ _ _ c.self.invariant c.args.number c.in_ok-place.place c.index-entry.result.now (subst (λ (ps : List Entry). has_at c.args.number (handles_there ps) c.in_ok-place.place ≡ true) c.deref.ensures.value c.in_ok-place.ensures.found) c.index-entry.ensures (record (c.index_mut.result.now) { number = nobody }) refl _ c.push_reserved.ensures.items
    _ _ c.push_reserved.ensures.capacity c.discount.ensures

pub returns-clause-found : goal.returns-clause-found
returns-clause-found c =
    rw (← c.self.view_is) (read_found _ _ _ _ _ _ _ _ c.args.number c.in_ok-place.place c.index-entry.result.now c.self.invariant (subst (λ (ps : List Entry). has_at c.args.number (handles_there ps) c.in_ok-place.place ≡ true) c.deref.ensures.value c.in_ok-place.ensures.found) c.index-entry.ensures)

pub returns-clause-removed : goal.returns-clause-removed
returns-clause-removed c =
    λ some. rw (← c.self.view_is)
    (shown-take _ _ _ _ _ _ _ _ c.self.invariant c.args.number c.in_ok-place.place c.index-entry.result.now (subst (λ (ps : List Entry). has_at c.args.number (handles_there ps) c.in_ok-place.place ≡ true) c.deref.ensures.value c.in_ok-place.ensures.found) c.index-entry.ensures (record (c.index_mut.result.now) { number = nobody }) refl _ c.push_reserved.ensures.items)

pub returns-clause-gone : goal.returns-clause-gone
returns-clause-gone c =
    gone-take _ _ _ _ _ _ _ _ c.self.invariant c.args.number c.in_ok-place.place c.index-entry.result.now (subst (λ (ps : List Entry). has_at c.args.number (handles_there ps) c.in_ok-place.place ≡ true) c.deref.ensures.value c.in_ok-place.ensures.found) c.index-entry.ensures (record (c.index_mut.result.now) { number = nobody }) refl _ c.push_reserved.ensures.items
