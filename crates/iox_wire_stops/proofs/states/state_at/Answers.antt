use Rattle.std.proofs.Common.{◌≡◌, true, false, Some, get_or, ap, sym, ◌∙◌}
use Rattle.iox_wire_ways.specs.WirePlan.{WirePlan}
use Rattle.iox_wire_releases.specs.StatesOf.{state_stop}
use Rattle.iox_wire_stops.specs.OwnStates.{is_client_left}
use Rattle.iox_wire_stops.proofs.OwnStateLemmas.{lane_is_there, made_here}
use Rattle.iox_wire_stops.proofs.states.state_at.Goals as goal

pub state_with-requires : goal.state_with-requires
state_with-requires c =
    let same : c.index.result.now ≡ get_or c.args.map.now.ports.items c.args.index c.index.result.now =
    c.index.ensures ∙ ap (λ (plan : WirePlan). get_or plan.ports.items c.args.index c.index.result.now) c.plan.ensures.value in
    let left : is_client_left c.args.request.client c.args.seat.now.seat.forgot (get_or c.args.map.now.ports.items c.args.index c.index.result.now) ≡ true =
    ap (is_client_left c.args.request.client c.args.seat.now.seat.forgot) (sym same) ∙ sym c.is_left.ensures ∙ c.if-is_left.true in (
      lane_is_there c.args.map.now c.plan.ensures.plan c.args.index c.index.result.now c.requires.within c.args.request.client c.args.request.lane
          c.args.seat.now.seat.forgot left c.requires.home.3,
      c.requires.server,
    )

pub returns-then-is_left : goal.returns-then-is_left
returns-then-is_left c =
    let same : c.index.result.now ≡ get_or c.args.map.now.ports.items c.args.index c.index.result.now =
    c.index.ensures ∙ ap (λ (plan : WirePlan). get_or plan.ports.items c.args.index c.index.result.now) c.plan.ensures.value in
    let left : is_client_left c.args.request.client c.args.seat.now.seat.forgot (get_or c.args.map.now.ports.items c.args.index c.index.result.now) ≡ true =
    ap (is_client_left c.args.request.client c.args.seat.now.seat.forgot) (sym same) ∙ sym c.is_left.ensures ∙ c.if-is_left.true in
    ap (λ s. Some s) c.state_with.ensures
    ∙ sym (made_here c.args.map.now (is_client_left c.args.request.client c.args.seat.now.seat.forgot)
    (λ client. state_stop c.args.map.now client c.args.request.lane c.args.server) c.args.index c.index.result.now c.requires.within true left)

pub returns : goal.returns
returns c =
    let same : c.index.result.now ≡ get_or c.args.map.now.ports.items c.args.index c.index.result.now =
    c.index.ensures ∙ ap (λ (plan : WirePlan). get_or plan.ports.items c.args.index c.index.result.now) c.plan.ensures.value in
    let left : is_client_left c.args.request.client c.args.seat.now.seat.forgot (get_or c.args.map.now.ports.items c.args.index c.index.result.now) ≡ false =
    ap (is_client_left c.args.request.client c.args.seat.now.seat.forgot) (sym same) ∙ sym c.is_left.ensures ∙ c.if-is_left.false in
    sym (made_here c.args.map.now (is_client_left c.args.request.client c.args.seat.now.seat.forgot)
    (λ client. state_stop c.args.map.now client c.args.request.lane c.args.server) c.args.index c.index.result.now c.requires.within false left)
