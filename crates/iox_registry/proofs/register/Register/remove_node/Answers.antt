use Rattle.std.proofs.Common.{◌≡◌, length, ap, sym, subst, refl, ◌∙◌, rules}
use Rattle.std.specs.Prelude.{IfNone}
use Rattle.std.proofs.lemmas.List.{length-map, with_items_is}
use Rattle.iox_container.specs.Leaving.{Recovers}
use Rattle.iox_registry.specs.Registers.{KeepsOrLoses, recovered}
use Rattle.iox_registry.specs.Standing.{HasNoOwner, HasOwner, IsStanding, kept_without, kept_without_node, register_in}
use Rattle.iox_registry.proofs.HandleLemmas.{KeepsOrLoses-recovered}
use Rattle.iox_registry.proofs.NodeLemmas.{recovers, standing}
use Rattle.iox_registry.proofs.RecoveryLemmas.{none-without, recovered-none}
use Rattle.iox_registry.proofs.RegisterLemmas.{none_since}
use Rattle.iox_registry.proofs.register.Register.remove_node.Goals as goal

pub invariant_of-self : goal.invariant_of-self
invariant_of-self g c =
    let has = subst (λ slots. HasOwner g.D.HasNode.node slots c.args.id c.in-Some.owner) c.as_slice.ensures.value c.in-Some.ensures.found in
    let size = length-map c.self.inside.slots.items (kept_without_node g.D.HasNode.node c.args.id) in
    let kept = c.forget.ensures ∙ ap (kept_without g.D.HasNode.node c.args.id) c.as_mut_slice.ensures.value in
    let len = c.as_mut_slice.ensures.len in
    let items = with_items_is c.self.inside.slots c.forget.new.slots
    (ap length kept ∙ size ∙ ap length (sym c.as_mut_slice.ensures.value) ∙ len) ∙ kept in
    subst (IsStanding g.D.HasNode.node c.recover.new.self c.self.inside.service c.self.inside.next_ticket) (sym items)
    (standing g.D.HasNode.node c.self.inside.role c.self.inside.container c.self.inside.service
    c.self.inside.next_ticket c.self.inside.slots.items c.self.invariant c.args.id c.in-Some.owner has
    c.recover.new.self c.recover.result _ _ (λ before value answer after said. search rules)
    c.mode.result c.mode.ensures c.recover.ensures.recovered)

pub returns-in-Some-clause-recovered : goal.returns-in-Some-clause-recovered
returns-in-Some-clause-recovered g c =
    let has = subst (λ slots. HasOwner g.D.HasNode.node slots c.args.id c.in-Some.owner) c.as_slice.ensures.value c.in-Some.ensures.found in
    let size = length-map c.self.inside.slots.items (kept_without_node g.D.HasNode.node c.args.id) in
    let kept = c.forget.ensures ∙ ap (kept_without g.D.HasNode.node c.args.id) c.as_mut_slice.ensures.value in
    let len = c.as_mut_slice.ensures.len in
    let items = with_items_is c.self.inside.slots c.forget.new.slots
    (ap length kept ∙ size ∙ ap length (sym c.as_mut_slice.ensures.value) ∙ len) ∙ kept in
    ap (λ slots. register_in c.self.inside.service c.self.inside.role slots c.recover.new.self.locked c.self.inside.next_ticket) items
    ∙ recovers g.D.HasNode.node c.self.inside.role c.self.inside.container c.self.inside.service
    c.self.inside.next_ticket c.self.inside.slots.items c.self.invariant c.args.id c.in-Some.owner has
    c.recover.new.self c.recover.result _ _ (λ before value answer after said. search rules)
    c.mode.result c.mode.ensures c.recover.ensures.recovered
    ∙ ap (recovered g.D.HasNode.node c.args.id) c.self.view_is

pub returns-in-Some-clause-handles : goal.returns-in-Some-clause-handles
returns-in-Some-clause-handles g c =
    subst (KeepsOrLoses c.args.self.now) (sym (returns-in-Some-clause-recovered g c))
    (KeepsOrLoses-recovered g.D.HasNode.node c.args.id c.args.self.now)

pub returns-in_default-clause-recovered : goal.returns-in_default-clause-recovered
returns-in_default-clause-recovered g c =
    let none = subst (λ r. IfNone r (HasNoOwner g.D.HasNode.node c.as_slice.result.now c.args.id))
    (none_since c.owner_of.result c.in_default.not-Some) c.owner_of.ensures.none in
    let nobody = subst (λ slots. HasNoOwner g.D.HasNode.node slots c.args.id) c.as_slice.ensures.value none in
    rw (← c.self.view_is) (sym (recovered-none g.D.HasNode.node c.args.id _ (none-without g.D.HasNode.node c.args.id c.self.inside.slots.items nobody)))
