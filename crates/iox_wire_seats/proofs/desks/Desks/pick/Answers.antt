use Rattle.std.proofs.Common.{◌≡◌, ◌==◌, ◌∷◌, Some, List, ℕ, map, sym, ap, subst, ◌∙◌, slice_set}
use Rattle.std.specs.Prelude.{position, drop}
use Rattle.iox_wire_locals.specs.declared.table.Desk.{Desk}
use Rattle.iox_wire_locals.specs.Desks.{picks, on_desk}
use Rattle.iox_wire_seats.specs.Desks.{free_at}
use Rattle.iox_wire_seats.proofs.DeskLemmas.{stored_at, kept_apart, none_is, free_there, none_free, if_both}
use Rattle.iox_wire_seats.proofs.desks.Desks.pick.Goals as goal

pub invariant_of-self : goal.invariant_of-self
invariant_of-self c =
    kept_apart c.self.inside.desks.items c.in-Some.place c.index_mut.result.now c.pick.new.self c.args.port c.self.invariant
    (subst (λ (xs : List Desk). Some c.in-Some.place ≡ position (λ d. d.port == c.args.port) xs) (sym c.self.view_is) c.in-Some.ensures.first) c.index_mut.ensures.value c.pick.ensures.port

pub returns-in-Some-clause-first : goal.returns-in-Some-clause-first
returns-in-Some-clause-first c =
    let there : free_at c.args.port c.args.self.now ≡ c.index_mut.result.now.free =
    ap (free_at c.args.port) (sym c.self.view_is) ∙ free_there c.args.port c.self.inside.desks.items c.in-Some.place c.index_mut.result.now (subst (λ (xs : List Desk). Some c.in-Some.place ≡ position (λ d. d.port == c.args.port) xs) (sym c.self.view_is) c.in-Some.ensures.first) c.index_mut.ensures.value in
    if_both c.pick.result (λ slot e f. there ∙ e ∙ ap (λ (xs : List ℕ). slot ∷ xs) (sym (ap (drop 1) (there ∙ e)))) c.pick.ensures.first c.pick.ensures.first

pub returns-in-Some-clause-picked : goal.returns-in-Some-clause-picked
returns-in-Some-clause-picked c =
    let there : free_at c.args.port c.args.self.now ≡ c.index_mut.result.now.free =
    ap (free_at c.args.port) (sym c.self.view_is) ∙ free_there c.args.port c.self.inside.desks.items c.in-Some.place c.index_mut.result.now (subst (λ (xs : List Desk). Some c.in-Some.place ≡ position (λ d. d.port == c.args.port) xs) (sym c.self.view_is) c.in-Some.ensures.first) c.index_mut.ensures.value in
    if_both c.pick.result (λ slot e f o serial lane.
    ap (λ (d : Desk). slice_set c.self.inside.desks.items c.in-Some.place d) (f o serial lane)
    ∙ ap (λ (xs : List ℕ). slice_set c.self.inside.desks.items c.in-Some.place (picks o slot xs c.index_mut.result.now)) (sym (ap (drop 1) (there ∙ e)))
    ∙ stored_at c.args.port (picks o slot (drop 1 (free_at c.args.port c.args.self.now))) c.self.inside.desks.items c.in-Some.place c.index_mut.result.now c.self.invariant
    (subst (λ (xs : List Desk). Some c.in-Some.place ≡ position (λ d. d.port == c.args.port) xs) (sym c.self.view_is) c.in-Some.ensures.first) c.index_mut.ensures.value
    ∙ ap (map (on_desk c.args.port (picks o slot (drop 1 (free_at c.args.port c.args.self.now))))) c.self.view_is)
    c.pick.ensures.first c.pick.ensures.picked

pub returns-in-Some-clause-none : goal.returns-in-Some-clause-none
returns-in-Some-clause-none c none =
    ap (free_at c.args.port) (sym c.self.view_is) ∙ free_there c.args.port c.self.inside.desks.items c.in-Some.place c.index_mut.result.now (subst (λ (xs : List Desk). Some c.in-Some.place ≡ position (λ d. d.port == c.args.port) xs) (sym c.self.view_is) c.in-Some.ensures.first) c.index_mut.ensures.value
    ∙ c.pick.ensures.none none

pub returns-in-None-clause-none : goal.returns-in-None-clause-none
returns-in-None-clause-none c none = none_free c.args.port c.args.self.now (none_is c.args.port c.args.self.now (sym c.in-None.ensures.first))
