use Rattle.std.proofs.Common.{subst, sym, ◌∙◌, true≢false}
use Rattle.std.proofs.lemmas.Bool.{OnFalse_at}
use Rattle.iox_hub_laws.specs.Hubs.{HubState}
use Rattle.iox_hub_laws.proofs.StillValues.{value_is_still}
use Rattle.iceoryx2_ports.specs.Releases.{IsReleased}
use Rattle.iceoryx2_ports.proofs.GivingBack.{release_gives_room, release_idles}
use Rattle.iceoryx2_ports.proofs.Released.{is_released, nothing_released}
use Rattle.iceoryx2_ports.proofs.releases.release_handle.Goals as goal

pub returns-then-release_if-clause-released : goal.returns-then-release_if-clause-released
returns-then-release_if-clause-released g c =
    is_released c.args.hub.now c.release_if.new.self c.is_in_order-then-release_if.ensures c.args.node c.args.number c.args.kind (c.release_if.ensures.told.0 c.if-release_if.true)
    (c.release_if.ensures.whole c.if-release_if.true) (c.release_if.ensures.gone c.if-release_if.true) (c.release_if.ensures.keeps c.if-release_if.true)

pub returns-then-release_if-clause-idle : goal.returns-then-release_if-clause-idle
returns-then-release_if-clause-idle g c =
    λ has x idle.
    release_idles c.args.hub.now c.release_if.new.self c.is_in_order.ensures c.is_in_order-then-release_if.ensures c.args.node c.args.number (c.release_if.ensures.whole c.if-release_if.true) x
    idle

pub returns-then-release_if-clause-room : goal.returns-then-release_if-clause-room
returns-then-release_if-clause-room g c =
    λ has x room.
    release_gives_room c.args.hub.now c.release_if.new.self c.is_in_order.ensures c.is_in_order-then-release_if.ensures c.args.node c.args.number (c.release_if.ensures.whole c.if-release_if.true) x
    room

pub returns-else-release_if-clause-released : goal.returns-else-release_if-clause-released
returns-else-release_if-clause-released g c =
    subst (λ (h : HubState). IsReleased c.args.hub.now c.args.node c.args.number c.args.kind h)
    (sym (OnFalse_at c.if-release_if.false c.release_if.ensures.unchanged))
    (nothing_released c.args.hub.now c.args.node c.args.number c.args.kind
    (λ still. true≢false (sym (c.release_if.ensures.told.1 still) ∙ c.if-release_if.false)))

pub returns-else-release_if-clause-idle : goal.returns-else-release_if-clause-idle
returns-else-release_if-clause-idle g c =
    λ has.
    absurd (true≢false
    (sym (c.release_if.ensures.told.1 (value_is_still c.args.hub.now c.args.node c.args.number c.args.kind has)) ∙ c.if-release_if.false))

pub returns-else-release_if-clause-room : goal.returns-else-release_if-clause-room
returns-else-release_if-clause-room g c =
    λ has.
    absurd (true≢false
    (sym (c.release_if.ensures.told.1 (value_is_still c.args.hub.now c.args.node c.args.number c.args.kind has)) ∙ c.if-release_if.false))
