use Rattle.std.proofs.Common.{List, ap, ap₂, refl, sym, ◌∙◌}
use Rattle.iox_wire_locals.specs.ReceiveCourses.{checking}
use Rattle.iox_wire_seats.specs.declared.stops.Stop.{Stop}
use Rattle.iox_wire_seats.specs.Seats.{Placed, Visits, ways_of}
use Rattle.iox_wire_seats.proofs.seat.StoredSeat.check.Goals as goal

pub returns-in-Some-clause-begun : goal.returns-in-Some-clause-begun
returns-in-Some-clause-begun c =
    ap₂ (λ (y : Placed) (ws : List Stop). checking y.seat c.args.entry c.args.hinted (ways_of ws)) c.self.view_is
    (sym c.in-Some.ensures.taken ∙ ap (λ (v : Visits). v.left) c.fill.ensures)

pub returns-in-None-clause-begun : goal.returns-in-None-clause-begun
returns-in-None-clause-begun c =
    ap₂ (λ (y : Placed) (ws : List Stop). checking y.seat c.args.entry c.args.hinted (ways_of ws)) c.self.view_is
    (sym (c.in-None.ensures.none refl) ∙ ap (λ (v : Visits). v.left) c.fill.ensures)
