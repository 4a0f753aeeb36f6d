use Rattle.std.proofs.Common.{◌≡◌, false, is_some, ap, sym, subst, refl, ◌∙◌}
use Rattle.iox_container.specs.Leaving.{Frees}
use Rattle.iox_container.specs.Containers.{entry_of}
use Rattle.iox_registry.specs.Registers.{Removes, details_of}
use Rattle.iox_registry.specs.Standing.{handle_in, register_in}
use Rattle.iox_registry.proofs.HandleLemmas.{KeepsOrLoses-same}
use Rattle.iox_registry.proofs.RegisterLemmas.{KeepsOrLoses-Removes, details-removed, handle-is, spent}
use Rattle.iox_registry.proofs.ReleaseLemmas.{removes, same-told, standing}
use Rattle.iox_registry.proofs.register.Register.release.Goals as goal

pub invariant_of-self-in-Ok : goal.invariant_of-self-in-Ok
invariant_of-self-in-Ok g c =
    let own = sym c.is_own.ensures ∙ c.if-not-is_own.false in
    let same = handle-is c.args.self.now c.args.handle c.handle.inside.service c.handle.inside.role c.handle.inside.ticket
    c.handle.inside.entry c.handle.view_is c.handle.invariant own in
    let service : c.handle.inside.entry.container_id ≡ c.self.inside.service = same.1 ∙ ap (λ r. r.service) (sym c.self.view_is) in
    rw (c.index.ensures) (standing g.D.HasNode.node c.self.inside.role c.self.inside.container c.self.inside.service
    c.self.inside.next_ticket c.self.inside.slots.items c.self.invariant c.handle.inside.entry service
    c.remove.new.self c.in-Ok.field-0 c.mode.result c.mode.ensures c.in-Ok.ensures.removed c.in-Ok.ensures.had)

pub returns-in-Err-clause-handles : goal.returns-in-Err-clause-handles
returns-in-Err-clause-handles g c = rw (c.in-Err.ensures.unchanged, ← c.self.view_is) (KeepsOrLoses-same _)

pub returns-in-Err-clause-refused : goal.returns-in-Err-clause-refused
returns-in-Err-clause-refused g c =
    let own = sym c.is_own.ensures ∙ c.if-not-is_own.false in
    let same = handle-is c.args.self.now c.args.handle c.handle.inside.service c.handle.inside.role c.handle.inside.ticket
    c.handle.inside.entry c.handle.view_is c.handle.invariant own in
    let service : c.handle.inside.entry.container_id ≡ c.self.inside.service = same.1 ∙ ap (λ r. r.service) (sym c.self.view_is) in
    let told = same-told g.D.HasNode.node c.self.inside.role c.self.inside.container c.self.inside.service
    c.self.inside.next_ticket c.self.inside.slots.items c.self.invariant c.handle.inside.entry service in
    let none : is_some (details_of c.args.self.now c.args.handle) ≡ false =
    ap (λ h. is_some (details_of c.args.self.now h)) same.0
    ∙ subst (λ r. is_some (details_of r (handle_in r.service r.role c.handle.inside.entry.ticket c.handle.inside.entry)) ≡ false) c.self.view_is
    (sym told ∙ ap is_some c.in-Err.ensures.refused) in
    spent c.args.self.now c.args.handle own none

pub returns-in-Ok-clause-released : goal.returns-in-Ok-clause-released
returns-in-Ok-clause-released g c =
    let own = sym c.is_own.ensures ∙ c.if-not-is_own.false in
    let same = handle-is c.args.self.now c.args.handle c.handle.inside.service c.handle.inside.role c.handle.inside.ticket
    c.handle.inside.entry c.handle.view_is c.handle.invariant own in
    let service : c.handle.inside.entry.container_id ≡ c.self.inside.service = same.1 ∙ ap (λ r. r.service) (sym c.self.view_is) in
    rw (c.index.ensures, same.0, ← c.self.view_is) (removes g.D.HasNode.node c.self.inside.role c.self.inside.container c.self.inside.service
    c.self.inside.next_ticket c.self.inside.slots.items c.self.invariant c.handle.inside.entry service
    c.remove.new.self c.in-Ok.field-0 c.mode.result c.mode.ensures c.in-Ok.ensures.removed c.in-Ok.ensures.had)

pub returns-in-Ok-clause-gone : goal.returns-in-Ok-clause-gone
returns-in-Ok-clause-gone g c = details-removed _ _ _ (returns-in-Ok-clause-released g c)

pub returns-in-Ok-clause-handles : goal.returns-in-Ok-clause-handles
returns-in-Ok-clause-handles g c = KeepsOrLoses-Removes _ _ _ (returns-in-Ok-clause-released g c)
