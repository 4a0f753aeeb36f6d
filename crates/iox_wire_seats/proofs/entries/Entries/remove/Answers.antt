use Rattle.std.proofs.Common.{refl, sym, ap, subst, ◌∙◌}
use Rattle.iox_wire_locals.specs.Tables.{without_entry}
use Rattle.iox_wire_seats.proofs.RowLemmas.{missing_not_removed, removes_only, IsAscending-remove, room_after}
use Rattle.iox_wire_seats.specs.Rows.{Rows, IsAscending, IsOnlyAt}
use Rattle.iox_wire_seats.proofs.entries.Entries.remove.Goals as goal

pub invariant_of-self : goal.invariant_of-self
invariant_of-self c = (
  room_after c.args.entry.number c.self.inside.entries.items _ c.in-Some.place _ _ _ c.remove.ensures.items c.remove.ensures.capacity c.self.invariant.0
      (subst (λ (x : Rows). IsOnlyAt c.args.entry.number x.entries c.in-Some.place) (sym c.self.view_is) c.in-Some.ensures.found),
  subst IsAscending (sym c.remove.ensures.items) (IsAscending-remove c.self.inside.entries.items c.in-Some.place c.self.invariant.1),
)

pub returns-in-Some-clause-gone : goal.returns-in-Some-clause-gone
returns-in-Some-clause-gone c =
    c.remove.ensures.items
    ∙ sym (removes_only c.args.entry.number c.self.inside.entries.items c.in-Some.place (subst (λ (x : Rows). IsOnlyAt c.args.entry.number x.entries c.in-Some.place) (sym c.self.view_is) c.in-Some.ensures.found))
    ∙ ap (λ (x : Rows). without_entry c.args.entry x.entries) c.self.view_is

pub returns-in_default-clause-gone : goal.returns-in_default-clause-gone
returns-in_default-clause-gone c =
    sym (missing_not_removed c.args.entry.number c.args.self.now.entries (c.in_default.ensures.missing refl))
