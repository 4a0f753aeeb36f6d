use Rattle.std.proofs.Common.{◌≤◌, ◌+◌, ℕ, List, refl, sym, ap, subst, ◌∙◌}
use Rattle.std.proofs.lemmas.List.{length-set}
use Rattle.iox_wire_locals.specs.declared.table.Entry.{Entry}
use Rattle.iox_wire_locals.specs.Tables.{with_entry}
use Rattle.iox_wire_seats.proofs.RowLemmas.{missing_not_changed, changes_only, IsAscending-set}
use Rattle.iox_wire_seats.specs.Rows.{Rows, IsOnlyAt}
use Rattle.iox_wire_seats.proofs.entries.Entries.change.Goals as goal

pub invariant_of-self : goal.invariant_of-self
invariant_of-self c = (
  subst (λ (n : ℕ). n + c.self.inside.room ≤ c.self.inside.entries.cap)
      (sym (length-set c.self.inside.entries.items c.in-Some.place c.args.entry)) c.self.invariant.0,
  IsAscending-set c.args.entry c.self.inside.entries.items c.in-Some.place c.self.invariant.1
      (subst (λ (x : Rows). IsOnlyAt c.args.entry.number x.entries c.in-Some.place) (sym c.self.view_is) c.in-Some.ensures.found),
)

pub returns-in-Some : goal.returns-in-Some
returns-in-Some c =
    ap (λ (es : List Entry). record { room = c.self.inside.room; entries = es })
    (sym (changes_only c.args.entry c.self.inside.entries.items c.in-Some.place (subst (λ (x : Rows). IsOnlyAt c.args.entry.number x.entries c.in-Some.place) (sym c.self.view_is) c.in-Some.ensures.found)))
    ∙ ap (λ (x : Rows). record { room = x.room; entries = with_entry c.args.entry x.entries }) c.self.view_is

pub returns-in_default : goal.returns-in_default
returns-in_default c =
    ap (λ (es : List Entry). record { room = c.args.self.now.room; entries = es }) (sym (missing_not_changed c.args.entry c.args.self.now.entries (c.in_default.ensures.missing refl)))
