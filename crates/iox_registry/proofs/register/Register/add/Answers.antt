use Rattle.std.proofs.Common.{◌≡◌, ◌<◌, None, length, sym, subst, ◌∙◌}
use Rattle.iox_container.specs.Containers as container
use Rattle.iox_registry.specs.Registers.{add_refusal}
use Rattle.iox_registry.specs.Standing.{IsOwnerFor, register_in}
use Rattle.iox_registry.proofs.AddLemmas.{adds-register, at_ok, container-open, ok_since, standing}
use Rattle.iox_registry.proofs.RegisterLemmas.{KeepsOrLoses-Adds, details-added, none_since}
use Rattle.iox_registry.proofs.register.Register.add.Goals as goal

pub unwrap-entry-requires : goal.unwrap-entry-requires
unwrap-entry-requires g c =
    let allowed = subst (λ r. add_refusal r ≡ None) (sym c.self.view_is)
    (sym c.add_refusal.ensures ∙ none_since c.add_refusal.result c.in_default.not-Some) in
    ok_since c.add.result (container.add_refusal c.self.inside.container) c.add.ensures.refused
    (container-open g.D.HasNode.node c.self.inside.role c.self.inside.container c.self.inside.service
    c.self.inside.next_ticket c.self.inside.slots.items c.self.invariant allowed)

pub invariant_of-self : goal.invariant_of-self
invariant_of-self g c =
    let allowed = subst (λ r. add_refusal r ≡ None) (sym c.self.view_is)
    (sym c.add_refusal.ensures ∙ none_since c.add_refusal.result c.in_default.not-Some) in
    let owner = subst (λ id. IsOwnerFor g.D.HasNode.node c.self.inside.slots.items id c.self.inside.next_ticket c.owner_for-owner.result) c.node_id.ensures
    (subst (λ slots. IsOwnerFor g.D.HasNode.node slots c.node_id.result c.self.inside.next_ticket c.owner_for-owner.result) c.as_slice.ensures.value c.owner_for-owner.ensures) in
    let adds = at_ok c.add.result c.unwrap-entry.result
    (λ handle. container.Adds tt c.owner_for-owner.result c.self.inside.container handle c.add.new.self) c.unwrap-entry.ensures c.add.ensures.added in
    let within = at_ok c.add.result c.unwrap-entry.result (λ handle. handle.index < length c.add.new.self.slots) c.unwrap-entry.ensures c.add.ensures.within in
    rw (c.index.ensures) (standing g.D.HasNode.node c.self.inside.role c.self.inside.container c.self.inside.service
    c.self.inside.next_ticket c.self.inside.slots.items c.self.invariant allowed
    c.args.details c.owner_for-owner.result c.unwrap-entry.result c.add.new.self owner adds within)

pub returns-clause-added : goal.returns-clause-added
returns-clause-added g c =
    let allowed = subst (λ r. add_refusal r ≡ None) (sym c.self.view_is)
    (sym c.add_refusal.ensures ∙ none_since c.add_refusal.result c.in_default.not-Some) in
    let owner = subst (λ id. IsOwnerFor g.D.HasNode.node c.self.inside.slots.items id c.self.inside.next_ticket c.owner_for-owner.result) c.node_id.ensures
    (subst (λ slots. IsOwnerFor g.D.HasNode.node slots c.node_id.result c.self.inside.next_ticket c.owner_for-owner.result) c.as_slice.ensures.value c.owner_for-owner.ensures) in
    let adds = at_ok c.add.result c.unwrap-entry.result
    (λ handle. container.Adds tt c.owner_for-owner.result c.self.inside.container handle c.add.new.self) c.unwrap-entry.ensures c.add.ensures.added in
    let within = at_ok c.add.result c.unwrap-entry.result (λ handle. handle.index < length c.add.new.self.slots) c.unwrap-entry.ensures c.add.ensures.within in
    rw (c.index.ensures, ← c.self.view_is) (adds-register g.D.HasNode.node c.self.inside.role c.self.inside.container c.self.inside.service
    c.self.inside.next_ticket c.self.inside.slots.items c.self.invariant allowed
    c.args.details c.owner_for-owner.result c.unwrap-entry.result c.add.new.self owner adds within)

pub returns-clause-has : goal.returns-clause-has
returns-clause-has g c = details-added _ _ _ _ (returns-clause-added g c)

pub returns-clause-handles : goal.returns-clause-handles
returns-clause-handles g c = KeepsOrLoses-Adds _ _ _ _ (returns-clause-added g c)
