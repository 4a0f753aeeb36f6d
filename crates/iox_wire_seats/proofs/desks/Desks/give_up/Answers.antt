use Rattle.std.proofs.Common.{◌≡◌, ◌==◌, Some, List, map, sym, ap, subst, ◌∙◌, slice_set}
use Rattle.std.specs.Prelude.{position}
use Rattle.iox_wire_locals.specs.declared.table.Desk.{Desk}
use Rattle.iox_wire_locals.specs.Desks.{gives_up, on_desk}
use Rattle.iox_wire_seats.specs.Desks.{MayGiveUp}
use Rattle.iox_wire_seats.proofs.DeskLemmas.{stored_at, kept_apart, none_is, others_stay, held_there}
use Rattle.iox_wire_seats.proofs.desks.Desks.give_up.Goals as goal

pub give_up-requires-clause-used : goal.give_up-requires-clause-used
give_up-requires-clause-used c =
    (held_there c.args.entry c.self.inside.desks.items c.in-Some.place c.index_mut.result.now
    (subst (MayGiveUp c.args.entry) (sym c.self.view_is) c.requires)
    (subst (λ (xs : List Desk). Some c.in-Some.place ≡ position (λ d. d.port == c.args.entry.port) xs) (sym c.self.view_is) c.in-Some.ensures.first) c.index_mut.ensures.value).0

pub give_up-requires-clause-lanes : goal.give_up-requires-clause-lanes
give_up-requires-clause-lanes c =
    (held_there c.args.entry c.self.inside.desks.items c.in-Some.place c.index_mut.result.now
    (subst (MayGiveUp c.args.entry) (sym c.self.view_is) c.requires)
    (subst (λ (xs : List Desk). Some c.in-Some.place ≡ position (λ d. d.port == c.args.entry.port) xs) (sym c.self.view_is) c.in-Some.ensures.first) c.index_mut.ensures.value).1

pub invariant_of-self : goal.invariant_of-self
invariant_of-self c =
    kept_apart c.self.inside.desks.items c.in-Some.place c.index_mut.result.now c.give_up.new.self c.args.entry.port c.self.invariant
    (subst (λ (xs : List Desk). Some c.in-Some.place ≡ position (λ d. d.port == c.args.entry.port) xs) (sym c.self.view_is) c.in-Some.ensures.first) c.index_mut.ensures.value
    (ap (λ (d : Desk). d.port) c.give_up.ensures)

pub returns-in-Some : goal.returns-in-Some
returns-in-Some c =
    ap (λ (d : Desk). slice_set c.self.inside.desks.items c.in-Some.place d) c.give_up.ensures
    ∙ stored_at c.args.entry.port (gives_up c.args.entry) c.self.inside.desks.items c.in-Some.place c.index_mut.result.now c.self.invariant
    (subst (λ (xs : List Desk). Some c.in-Some.place ≡ position (λ d. d.port == c.args.entry.port) xs) (sym c.self.view_is) c.in-Some.ensures.first) c.index_mut.ensures.value
    ∙ ap (map (on_desk c.args.entry.port (gives_up c.args.entry))) c.self.view_is

pub returns-in_default : goal.returns-in_default
returns-in_default c =
    others_stay c.args.entry.port (gives_up c.args.entry) c.args.self.now (none_is c.args.entry.port c.args.self.now (sym c.in_default.ensures.first))
