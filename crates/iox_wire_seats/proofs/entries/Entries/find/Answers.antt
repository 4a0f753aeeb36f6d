use Rattle.std.proofs.Common.{sym, ap, subst, ◌∙◌, refl, Some}
use Rattle.iox_wire_seats.proofs.RowLemmas.{missing_not_found, finds_only}
use Rattle.iox_wire_locals.specs.declared.table.Entry.{Entry}
use Rattle.iox_wire_locals.specs.Tables.{entry_at}
use Rattle.iox_wire_seats.specs.Rows.{IsOnlyAt, Rows}
use Rattle.iox_wire_seats.proofs.entries.Entries.find.Goals as goal

pub returns-in_err-place : goal.returns-in_err-place
returns-in_err-place c =
    c.from_residual.ensures ∙ sym (missing_not_found c.args.number c.args.self.now.entries (c.in_err-place.ensures.missing refl))

pub returns : goal.returns
returns c =
    ap (λ (x : Entry). Some x) c.index.ensures
    ∙ sym (finds_only c.args.number c.self.inside.entries.items c.in_ok-place.place c.index.result.now
    (subst (λ (x : Rows). IsOnlyAt c.args.number x.entries c.in_ok-place.place) (sym c.self.view_is) c.in_ok-place.ensures.found))
    ∙ ap (λ (x : Rows). entry_at c.args.number x.entries) c.self.view_is
