use Rattle.std.specs.Prelude.{◌≡◌, false}
use Rattle.std.proofs.Common.{subst, sym}
use Rattle.iox_model.specs.declared.kind.Role.TheVariants as roles
use Rattle.iox_hub.specs.Hubs.{HubState}
use Rattle.iox_hub.specs.Reads.{message_in}
use Rattle.iox_hub.proofs.FillingCalls.{fill_call, loan_in, looked_of, looked_slot, looked_suits, looked_within}
use Rattle.iox_hub.proofs.FillingWays.{as_it_is, assumed_hub, assumed_loan}
use Rattle.iox_hub.proofs.hub.Hub.assume_response_init.Goals as goal

pub fill_loan-place-requires-clause-loan : goal.fill_loan-place-requires-clause-loan
fill_loan-place-requires-clause-loan g c = loan_in roles.Server c.self.invariant c.args.self.now c.self.view_is c.args.node c.args.number c.requires.has

pub responses_in-requires : goal.responses_in-requires
responses_in-requires g c =
    let call = fill_call roles.Server c.self.invariant c.args.self.now c.self.view_is c.args.node c.args.number c.requires.has c.fill_loan-place.ensures in
    record { there = looked_within call _ _ (as_it_is call); responses = looked_of call _ _ (as_it_is call) }

pub known_in-requires : goal.known_in-requires
known_in-requires g c =
    let call = fill_call roles.Server c.self.invariant c.args.self.now c.self.view_is c.args.node c.args.number c.requires.has c.fill_loan-place.ensures in
    looked_slot call _ _ (as_it_is call) false _ c.responses_in.ensures

pub invariant_of-self : goal.invariant_of-self
invariant_of-self g c =
    let call = fill_call roles.Server c.self.invariant c.args.self.now c.self.view_is c.args.node c.args.number c.requires.has c.fill_loan-place.ensures in
    let suits = looked_suits call _ _ (as_it_is call) false _ c.responses_in.ensures _ (c.known_in.ensures g.P.Payload.MANY) in
    assumed_hub call suits
    (subst (λ (d : HubState). (message_in d c.args.node c.args.number).filled ≡ (message_in d c.args.node c.args.number).elements) (sym c.self.view_is)
    (c.is_filled.ensures.filled.0 c.if-not-is_filled.false))

pub returns-clause-filled : goal.returns-clause-filled
returns-clause-filled g c =
    let call = fill_call roles.Server c.self.invariant c.args.self.now c.self.view_is c.args.node c.args.number c.requires.has c.fill_loan-place.ensures in
    let suits = looked_suits call _ _ (as_it_is call) false _ c.responses_in.ensures _ (c.known_in.ensures g.P.Payload.MANY) in
    rw (← c.self.view_is) (assumed_loan call suits
    (subst (λ (d : HubState). (message_in d c.args.node c.args.number).filled ≡ (message_in d c.args.node c.args.number).elements) (sym c.self.view_is)
    (c.is_filled.ensures.filled.0 c.if-not-is_filled.false)))
