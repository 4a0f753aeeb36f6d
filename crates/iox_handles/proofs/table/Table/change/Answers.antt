use Rattle.std.proofs.Common.{◌≡◌, ◌<◌, ℕ, List, None, true, subst, sym, ◌∙◌, refl}
use Rattle.iox_handles.specs.declared.entry.Entry.{Entry}
use Rattle.iox_handles.specs.Places.{handles_there, has_at, in_places}
use Rattle.iox_handles.proofs.MemoryLemmas.{it_is_counted, may_change, memory-change, missing_is, read_found, shown-change}
use Rattle.iox_handles.proofs.VacantLemmas.{within_there}
use Rattle.iox_handles.proofs.table.Table.change.Goals as goal

pub returns-in_err-place-clause-found : goal.returns-in_err-place-clause-found
returns-in_err-place-clause-found c =
    rw (← c.self.view_is)
    (c.from_residual.ensures ∙ missing_is _ _ _ _ _ _ _ _ c.args.entry.number c.self.invariant
    (subst (λ (ps : List Entry). in_places (handles_there ps) c.args.entry.number ≡ None) c.deref.ensures.value (c.place_of.ensures.missing c.in_err-place.was)))

pub index-was-requires : goal.index-was-requires
index-was-requires c =
    subst (λ (n : ℕ). c.in_ok-place.place < n) (sym c.self.inside.places.ok.0)
    (within_there c.args.entry.number c.self.inside.places.items c.in_ok-place.place (subst (λ (ps : List Entry). has_at c.args.entry.number (handles_there ps) c.in_ok-place.place ≡ true) c.deref.ensures.value c.in_ok-place.ensures.found))

pub index_mut-requires : goal.index_mut-requires
index_mut-requires c =
    subst (λ (n : ℕ). c.in_ok-place.place < n) (sym c.self.inside.places.ok.0)
    (within_there c.args.entry.number c.self.inside.places.items c.in_ok-place.place (subst (λ (ps : List Entry). has_at c.args.entry.number (handles_there ps) c.in_ok-place.place ≡ true) c.deref.ensures.value c.in_ok-place.ensures.found))

pub discount-requires : goal.discount-requires
discount-requires c = it_is_counted _ _ _ _ _ _ _ _ c.self.invariant c.args.entry.number c.in_ok-place.place c.index-was.result.now (subst (λ (ps : List Entry). has_at c.args.entry.number (handles_there ps) c.in_ok-place.place ≡ true) c.deref.ensures.value c.in_ok-place.ensures.found) c.index-was.ensures

pub count-requires : goal.count-requires
count-requires c =
    may_change _ _ _ _ _ _ _ _ _ c.args.entry.number c.in_ok-place.place c.index-was.result.now c.args.entry.port c.args.entry.kind c.self.invariant (subst (λ (ps : List Entry). has_at c.args.entry.number (handles_there ps) c.in_ok-place.place ≡ true) c.deref.ensures.value c.in_ok-place.ensures.found) c.index-was.ensures c.discount.ensures c.self.inside.places.small

pub invariant_of-self : goal.invariant_of-self
invariant_of-self c =
    memory-change _ _ _ _ _ _ _ _ c.self.invariant c.args.entry.number c.in_ok-place.place c.index-was.result.now (subst (λ (ps : List Entry). has_at c.args.entry.number (handles_there ps) c.in_ok-place.place ≡ true) c.deref.ensures.value c.in_ok-place.ensures.found) c.index-was.ensures c.args.entry refl _ _ _ c.forget.ensures c.discount.ensures c.count.ensures

pub returns-clause-found : goal.returns-clause-found
returns-clause-found c =
    rw (← c.self.view_is) (read_found _ _ _ _ _ _ _ _ c.args.entry.number c.in_ok-place.place c.index-was.result.now c.self.invariant (subst (λ (ps : List Entry). has_at c.args.entry.number (handles_there ps) c.in_ok-place.place ≡ true) c.deref.ensures.value c.in_ok-place.ensures.found) c.index-was.ensures)

pub returns-clause-changed : goal.returns-clause-changed
returns-clause-changed c =
    λ some. rw (← c.self.view_is)
    (shown-change _ _ _ _ _ _ _ _ c.self.invariant c.args.entry.number c.in_ok-place.place c.index-was.result.now (subst (λ (ps : List Entry). has_at c.args.entry.number (handles_there ps) c.in_ok-place.place ≡ true) c.deref.ensures.value c.in_ok-place.ensures.found) c.index-was.ensures c.args.entry refl)
