use Rattle.std.proofs.Common.{◌≡◌, ◌+◌, ◌-◌, ◌<◌, ◌^◌, Some, List, map, sym, ap, subst, ◌∙◌, arith}
use Rattle.std.specs.Prelude.{position}
use Rattle.iox_model.specs.Maps.{same_way}
use Rattle.iox_wire_locals.specs.declared.table.Borrowed.{Borrowed}
use Rattle.iox_wire_locals.specs.Desks.{with_count}
use Rattle.iox_wire_seats.specs.Counts.{IsBelow}
use Rattle.iox_wire_seats.proofs.CountLemmas.{stored_at, kept_apart, none_is, others_stay, count_read}
use Rattle.iox_wire_seats.proofs.counts.Counts.add.Goals as goal

pub overflow_add-borrowed : goal.overflow_add-borrowed
overflow_add-borrowed c =
    let below : c.index-borrowed.result.now.count < 2 ^ 64 - 1 =
    count_read (2 ^ 64 - 1) c.args.way c.self.inside.counts.items c.in-Some.place c.index-borrowed.result.now
    (subst (IsBelow (2 ^ 64 - 1) c.args.way) (sym c.self.view_is) c.requires)
    (subst (λ (xs : List Borrowed). Some c.in-Some.place ≡ position (λ b. same_way b.way c.args.way) xs) (sym c.self.view_is) c.in-Some.ensures.first) c.index-borrowed.ensures in
    omega (arith, below)

pub invariant_of-self : goal.invariant_of-self
invariant_of-self c =
    kept_apart c.self.inside.counts.items c.in-Some.place c.index-borrowed.result.now _ c.args.way c.self.invariant
    (subst (λ (xs : List Borrowed). Some c.in-Some.place ≡ position (λ b. same_way b.way c.args.way) xs) (sym c.self.view_is) c.in-Some.ensures.first) c.index-borrowed.ensures

pub returns-in-Some : goal.returns-in-Some
returns-in-Some c =
    stored_at c.args.way (λ n. n + 1) c.self.inside.counts.items c.in-Some.place c.index-borrowed.result.now c.self.invariant
    (subst (λ (xs : List Borrowed). Some c.in-Some.place ≡ position (λ b. same_way b.way c.args.way) xs) (sym c.self.view_is) c.in-Some.ensures.first) c.index-borrowed.ensures
    ∙ ap (map (with_count c.args.way (λ n. n + 1))) c.self.view_is

pub returns-in_default : goal.returns-in_default
returns-in_default c = others_stay c.args.way (λ n. n + 1) c.args.self.now (none_is c.args.way c.args.self.now (sym c.in_default.ensures.first))
