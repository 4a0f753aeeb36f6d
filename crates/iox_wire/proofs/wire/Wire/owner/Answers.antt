use Rattle.std.specs.Prelude.{IfSome}
use Rattle.std.proofs.Common.{◌≡◌, Some, ap, subst, sym, ◌∙◌}
use Rattle.iox_wire_weaves.specs.Wires.{WireData}
use Rattle.iox_wire.proofs.Owners.{no_owner, owner_is}
use Rattle.iox_wire.proofs.wire.Wire.owner.Goals as goal

pub returns-in-Some-clause-there : goal.returns-in-Some-clause-there
returns-in-Some-clause-there c =
    subst (λ o. IfSome c.member_of.result (λ x. o ≡ Some x.now))
    (sym (owner_is c.args.self.now c.self.inside.places c.args.port c.in-Some.node (ap (λ (w : WireData). w.plan) c.self.view_is) c.in-Some.ensures))
    c.member_of.ensures.there

pub returns-in-Some-clause-none : goal.returns-in-Some-clause-none
returns-in-Some-clause-none c none =
    owner_is c.args.self.now c.self.inside.places c.args.port c.in-Some.node (ap (λ (w : WireData). w.plan) c.self.view_is) c.in-Some.ensures
    ∙ c.member_of.ensures.none none

pub returns-in-None-clause-none : goal.returns-in-None-clause-none
returns-in-None-clause-none c none =
    no_owner c.args.self.now c.self.inside.places c.args.port (ap (λ (w : WireData). w.plan) c.self.view_is) c.in-None.ensures
