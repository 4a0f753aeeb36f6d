use Rattle.std.proofs.Common.{◌≡◌, ◌==◌, ◌<◌, Some, List, map, slice_index, sym, ap, subst, ◌∙◌, slice_set}
use Rattle.std.specs.Prelude.{position}
use Rattle.iox_wire_locals.specs.declared.table.Desk.{Desk}
use Rattle.iox_wire_locals.specs.Desks.{uses_less, on_desk}
use Rattle.iox_wire_seats.specs.Desks.{IsUsed}
use Rattle.iox_wire_seats.proofs.DeskLemmas.{stored_at, kept_apart, none_is, others_stay, so_there}
use Rattle.iox_wire_seats.proofs.desks.Desks.use_less.Goals as goal

pub use_less-requires : goal.use_less-requires
use_less-requires c =
    so_there (λ (x : Desk). 0 < slice_index x.uses c.args.slot) c.args.port c.self.inside.desks.items c.in-Some.place c.index_mut.result.now (subst (IsUsed c.args.port c.args.slot) (sym c.self.view_is) c.requires)
    (subst (λ (xs : List Desk). Some c.in-Some.place ≡ position (λ d. d.port == c.args.port) xs) (sym c.self.view_is) c.in-Some.ensures.first) c.index_mut.ensures.value

pub invariant_of-self : goal.invariant_of-self
invariant_of-self c =
    kept_apart c.self.inside.desks.items c.in-Some.place c.index_mut.result.now c.use_less.new.self c.args.port c.self.invariant
    (subst (λ (xs : List Desk). Some c.in-Some.place ≡ position (λ d. d.port == c.args.port) xs) (sym c.self.view_is) c.in-Some.ensures.first) c.index_mut.ensures.value (ap (λ (d : Desk). d.port) c.use_less.ensures.uses)

pub returns-in-Some : goal.returns-in-Some
returns-in-Some c =
    ap (λ (d : Desk). slice_set c.self.inside.desks.items c.in-Some.place d) c.use_less.ensures.uses
    ∙ stored_at c.args.port (uses_less c.args.slot) c.self.inside.desks.items c.in-Some.place c.index_mut.result.now c.self.invariant
    (subst (λ (xs : List Desk). Some c.in-Some.place ≡ position (λ d. d.port == c.args.port) xs) (sym c.self.view_is) c.in-Some.ensures.first) c.index_mut.ensures.value
    ∙ ap (map (on_desk c.args.port (uses_less c.args.slot))) c.self.view_is

pub returns-in_default : goal.returns-in_default
returns-in_default c = others_stay c.args.port (uses_less c.args.slot) c.args.self.now (none_is c.args.port c.args.self.now (sym c.in_default.ensures.first))
