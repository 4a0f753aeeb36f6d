use Rattle.std.proofs.Common.{◌≡◌, ◌++◌, List, false, get_or, ap, sym, ◌∙◌, append-nil}
use Rattle.iox_model.specs.declared.kind.Role.TheVariants.{Client}
use Rattle.iox_wire_ways.specs.WirePlan.{WirePlan}
use Rattle.iox_wire_ways.specs.Stop.{Stop}
use Rattle.iox_wire_stops.specs.LaneReturns.{client_stops}
use Rattle.iox_wire_stops.proofs.LaneReturnLemmas.{visited_here}
use Rattle.iox_wire_ways.specs.Visits.{is_other}
use Rattle.iox_wire_stops.proofs.lane_returns.list_port.Goals as goal

pub returns-clause-stops : goal.returns-clause-stops
returns-clause-stops c =
    let same : c.index.result.now ≡ get_or c.args.map.now.ports.items c.args.index c.index.result.now =
    c.index.ensures ∙ ap (λ (plan : WirePlan). get_or plan.ports.items c.args.index c.index.result.now) c.plan.ensures.value in
    let left : is_other Client c.args.seat.now.seat.forgot (get_or c.args.map.now.ports.items c.args.index c.index.result.now) ≡ false =
    ap (is_other Client c.args.seat.now.seat.forgot) (sym same) ∙ sym c.is_client_left.ensures ∙ c.if-is_client_left.false in
    sym (append-nil c.args.stops.now.items)
    ∙ ap (λ (stops : List Stop). c.args.stops.now.items ++ stops)
    (sym (visited_here c.args.map.now (is_other Client c.args.seat.now.seat.forgot) (client_stops c.args.map.now c.args.server) c.args.index c.index.result.now
    c.requires.within false left))
