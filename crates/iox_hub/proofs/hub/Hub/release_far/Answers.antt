use Rattle.std.specs.Prelude.{refl}
use Rattle.std.proofs.Common.{sym, ◌∙◌, true≢false}
use Rattle.iox_hub.proofs.ReleasedHubs.{handle_released, hub_released}
use Rattle.iox_hub.proofs.ReleasedWords.{none_new, still_hub, told_still}
use Rattle.iox_hub.proofs.hub.Hub.release_far.Goals as goal

pub invariant_of-self-2 : goal.invariant_of-self-2
invariant_of-self-2 g c = hub_released c.self.invariant c.args.node c.args.number c.args.kind c.release.new.control c.release.ensures.order c.in-Some.ending c.in-Some.ensures.released

pub invariant_of-self : goal.invariant_of-self
invariant_of-self g c = still_hub c.self.invariant (c.release.ensures.unchanged c.in_default.is)

pub returns-in_default-clause-unchanged : goal.returns-in_default-clause-unchanged
returns-in_default-clause-unchanged g c = rw (← c.self.view_is) (none_new c.self.invariant (c.release.ensures.unchanged c.in_default.is))

pub returns-clause-released : goal.returns-clause-released
returns-clause-released g c =
    rw (← c.self.view_is)
    (λ so. handle_released c.self.invariant c.args.node c.args.number c.args.kind c.release.new.control c.release.ensures.order c.in-Some.ending c.in-Some.ensures.released
    c.requires c.release.ensures.tidy c.drop_both.new.self c.drop_both.ensures.stay c.drop_both.ensures.left c.drop_both.ensures.shown)

pub returns-in_default-clause-told : goal.returns-in_default-clause-told
returns-in_default-clause-told g c =
    rw (← c.self.view_is) (
      λ so. absurd (true≢false (sym so)),
      λ has.
          absurd (true≢false
          (sym has
          ∙ sym (told_still c.self.inside.control.tables c.self.invariant.control.order c.args.node c.args.number c.args.kind c.requires _ c.in_default.ensures.told))),
    )

pub returns-clause-told : goal.returns-clause-told
returns-clause-told g c =
    rw (← c.self.view_is) (
      λ so. sym (told_still c.self.inside.control.tables c.self.invariant.control.order c.args.node c.args.number c.args.kind c.requires _ c.in-Some.ensures.told),
      λ has. refl,
    )
