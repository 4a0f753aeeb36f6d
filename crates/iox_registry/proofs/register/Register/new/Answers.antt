use Rattle.std.proofs.Common.{◌≡◌, None, replicate, ap, refl, rules}
use Rattle.iox_registry.proofs.RegisterLemmas.{shown-new}
use Rattle.iox_registry.proofs.StandingLemmas.{IsStanding-new}
use Rattle.iox_registry.proofs.register.Register.new.Goals as goal

pub invariant_of-result : goal.invariant_of-result
invariant_of-result g c =
    let items = c.in_ok-slots.ensures.items_if_clones_equal (λ y h. search rules) in
    rw (items, c.in-Ok.ensures.made) (IsStanding-new g.D.HasNode.node c.args.service c.room-room.result)

pub returns-clause-made : goal.returns-clause-made
returns-clause-made g c =
    let items = c.in_ok-slots.ensures.items_if_clones_equal (λ y h. search rules) in
    rw (items, c.in-Ok.ensures.made, shown-new c.room-room.result, c.room-room.ensures) refl
