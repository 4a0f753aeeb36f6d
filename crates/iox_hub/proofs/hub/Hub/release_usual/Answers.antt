use Rattle.iox_hub.proofs.ReleasedHubs.{handle_released, hub_released}
use Rattle.iox_hub.proofs.ReleasedWords.{none_new, still_hub}
use Rattle.iox_hub.proofs.hub.Hub.release_usual.Goals as goal

pub invariant_of-self-2 : goal.invariant_of-self-2
invariant_of-self-2 g c = hub_released c.self.invariant c.args.node c.args.number c.args.kind c.release_usual.new.control c.release_usual.ensures.order c.in-Some.ending c.in-Some.ensures.released

pub invariant_of-self : goal.invariant_of-self
invariant_of-self g c = still_hub c.self.invariant (c.release_usual.ensures.unchanged c.in_default.is)

pub returns-in_default-clause-unchanged : goal.returns-in_default-clause-unchanged
returns-in_default-clause-unchanged g c = rw (← c.self.view_is) (none_new c.self.invariant (c.release_usual.ensures.unchanged c.in_default.is))

pub returns-clause-released : goal.returns-clause-released
returns-clause-released g c =
    rw (← c.self.view_is)
    (λ so. handle_released c.self.invariant c.args.node c.args.number c.args.kind c.release_usual.new.control c.release_usual.ensures.order c.in-Some.ending c.in-Some.ensures.released
    c.requires c.release_usual.ensures.tidy c.drop_both.new.self c.drop_both.ensures.stay c.drop_both.ensures.left c.drop_both.ensures.shown)
