use Rattle.std.proofs.Common.{sym, ◌∙◌, true≢false}
use Rattle.iox_hub_laws.proofs.StillValues.{value_is_still}
use Rattle.iceoryx2_ports.proofs.Released.{is_released, nothing_released, port_by_now}
use Rattle.iceoryx2_ports.proofs.releases.release_port.Goals as goal

pub returns-then-has : goal.returns-then-has
returns-then-has g c =
    is_released c.args.hub.now c.release_port.new.self c.is_in_order.ensures c.args.node c.args.number c.args.kind
    (value_is_still c.args.hub.now c.args.node c.args.number c.args.kind (c.has.ensures.0 c.if-has.true)) c.release_port.ensures.whole
    c.release_port.ensures.gone c.release_port.ensures.keeps

pub returns-else-has : goal.returns-else-has
returns-else-has g c =
    nothing_released c.args.hub.now c.args.node c.args.number c.args.kind
    (λ still.
    true≢false
    (sym (c.has.ensures.1 (port_by_now c.args.hub.now c.args.node c.args.number c.args.kind c.requires still)) ∙ c.if-has.false))
