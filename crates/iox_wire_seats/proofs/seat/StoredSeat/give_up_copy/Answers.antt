use Rattle.std.proofs.Common.{◌≡◌, List, map, refl, sym, subst, ap, ◌∙◌}
use Rattle.iox_wire_locals.specs.declared.table.Desk.{Desk}
use Rattle.iox_wire_locals.specs.Desks.{counts_loan, gives_up, on_desk}
use Rattle.iox_wire_seats.specs.contracts.seat.StoredSeat.{the_view}
use Rattle.iox_wire_seats.specs.Desks.{MayGiveUp}
use Rattle.iox_wire_seats.specs.Keeps.{copy_given_up}
use Rattle.iox_wire_seats.specs.Seats.{Placed}
use Rattle.iox_wire_seats.proofs.CopyLemmas.{both_changed, held_counted}
use Rattle.iox_wire_seats.proofs.seat.StoredSeat.give_up_copy.Goals as goal

pub give_up-requires : goal.give_up-requires
give_up-requires c =
    subst (MayGiveUp c.args.loan) (sym c.count_loan.ensures)
    (held_counted c.args.loan.port c.args.loan c.self.inside.desks
    (subst (λ (x : Placed). MayGiveUp c.args.loan x.seat.desks) (sym c.self.view_is) c.requires.held))

pub returns : goal.returns
returns c =
    ap (λ (ds : List Desk). the_view (record (c.self.inside) { desks = ds }))
    (c.give_up.ensures
    ∙ ap (map (on_desk c.args.loan.port (gives_up c.args.loan))) c.count_loan.ensures
    ∙ both_changed c.args.loan.port counts_loan (gives_up c.args.loan) c.self.inside.desks (λ (d : Desk). refl))
    ∙ ap (λ (x : Placed). copy_given_up x c.args.loan) c.self.view_is
