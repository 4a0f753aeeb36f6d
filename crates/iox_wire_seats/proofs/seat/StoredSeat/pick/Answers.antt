use Rattle.std.proofs.Common.{◌≡◌, List, ap, ◌∙◌}
use Rattle.std.specs.Prelude.{drop}
use Rattle.iox_wire_locals.specs.declared.table.Desk.{Desk}
use Rattle.iox_wire_locals.specs.Known.{free_slots}
use Rattle.iox_wire_seats.specs.contracts.seat.StoredSeat.{the_view}
use Rattle.iox_wire_seats.specs.Lends.{picked}
use Rattle.iox_wire_seats.specs.Seats.{Placed}
use Rattle.iox_wire_seats.proofs.DeskLemmas.{if_both}
use Rattle.iox_wire_seats.proofs.seat.StoredSeat.pick.Goals as goal

pub returns-clause-picked : goal.returns-clause-picked
returns-clause-picked c =
    if_both c.pick.result (λ slot f g o serial lane.
    ap (λ (ds : List Desk). the_view (record (c.self.inside) { desks = ds })) (f o serial lane)
    ∙ ap (λ (x : Placed). picked x c.args.port o slot (drop 1 (free_slots x.seat c.args.port))) c.self.view_is)
    c.pick.ensures.picked c.pick.ensures.picked
