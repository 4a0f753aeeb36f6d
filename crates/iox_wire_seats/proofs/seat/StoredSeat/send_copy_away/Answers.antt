use Rattle.std.proofs.Common.{◌≡◌, List, map, refl, sym, subst, ap, ◌∙◌}
use Rattle.iox_wire_locals.specs.declared.table.Desk.{Desk}
use Rattle.iox_wire_locals.specs.Desks.{counts_loan, on_desk, uses_less}
use Rattle.iox_wire_seats.specs.contracts.seat.StoredSeat.{the_view}
use Rattle.iox_wire_seats.specs.Desks.{IsUsed}
use Rattle.iox_wire_seats.specs.Keeps.{copied_away}
use Rattle.iox_wire_seats.specs.Seats.{Placed}
use Rattle.iox_wire_seats.proofs.CopyLemmas.{both_changed, used_counted}
use Rattle.iox_wire_seats.proofs.seat.StoredSeat.send_copy_away.Goals as goal

pub use_less-requires : goal.use_less-requires
use_less-requires c =
    subst (IsUsed c.args.loan.port c.args.loan.slot) (sym c.count_loan.ensures)
    (used_counted c.args.loan.port c.args.loan.port c.args.loan.slot c.self.inside.desks
    (subst (λ (x : Placed). IsUsed c.args.loan.port c.args.loan.slot x.seat.desks) (sym c.self.view_is) c.requires.used))

pub returns : goal.returns
returns c =
    ap (λ (ds : List Desk). the_view (record (c.self.inside) { desks = ds }))
    (c.use_less.ensures
    ∙ ap (map (on_desk c.args.loan.port (uses_less c.args.loan.slot))) c.count_loan.ensures
    ∙ both_changed c.args.loan.port counts_loan (uses_less c.args.loan.slot) c.self.inside.desks (λ (d : Desk). refl))
    ∙ ap (λ (x : Placed). copied_away x c.args.loan) c.self.view_is
