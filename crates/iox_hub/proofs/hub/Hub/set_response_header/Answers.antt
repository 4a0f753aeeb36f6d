use Rattle.std.specs.Prelude.{false}
use Rattle.iox_model.specs.declared.kind.Role.TheVariants as roles
use Rattle.iox_hub.proofs.FillingCalls.{fill_call, fill_of, fill_within, loan_in, looked_of, looked_slot, looked_suits, looked_within}
use Rattle.iox_hub.proofs.FillingWays.{header_hub, header_loan}
use Rattle.iox_hub.proofs.hub.Hub.set_response_header.Goals as goal

pub fill_loan-place-requires-clause-loan : goal.fill_loan-place-requires-clause-loan
fill_loan-place-requires-clause-loan g c = loan_in roles.Server c.self.invariant c.args.self.now c.self.view_is c.args.node c.args.number c.requires.has

pub set_response_header_in-requires-clause-responses : goal.set_response_header_in-requires-clause-responses
set_response_header_in-requires-clause-responses g c =
    fill_of (fill_call roles.Server c.self.invariant c.args.self.now c.self.view_is c.args.node c.args.number c.requires.has c.fill_loan-place.ensures)

pub set_response_header_in-requires-clause-there : goal.set_response_header_in-requires-clause-there
set_response_header_in-requires-clause-there g c =
    fill_within (fill_call roles.Server c.self.invariant c.args.self.now c.self.view_is c.args.node c.args.number c.requires.has c.fill_loan-place.ensures)

pub responses_in-requires : goal.responses_in-requires
responses_in-requires g c =
    let call = fill_call roles.Server c.self.invariant c.args.self.now c.self.view_is c.args.node c.args.number c.requires.has c.fill_loan-place.ensures in
    record { there = looked_within call _ _ c.set_response_header_in.ensures; responses = looked_of call _ _ c.set_response_header_in.ensures }

pub known_in-requires : goal.known_in-requires
known_in-requires g c =
    let call = fill_call roles.Server c.self.invariant c.args.self.now c.self.view_is c.args.node c.args.number c.requires.has c.fill_loan-place.ensures in
    looked_slot call _ _ c.set_response_header_in.ensures false _ c.responses_in.ensures

pub invariant_of-self : goal.invariant_of-self
invariant_of-self g c =
    let call = fill_call roles.Server c.self.invariant c.args.self.now c.self.view_is c.args.node c.args.number c.requires.has c.fill_loan-place.ensures in
    let suits = looked_suits call _ _ c.set_response_header_in.ensures false _ c.responses_in.ensures _ (c.known_in.ensures g.P.Payload.MANY) in
    header_hub call (g.PH.Words.words c.args.user) _ c.set_response_header_in.ensures suits

pub returns : goal.returns
returns g c =
    let call = fill_call roles.Server c.self.invariant c.args.self.now c.self.view_is c.args.node c.args.number c.requires.has c.fill_loan-place.ensures in
    let suits = looked_suits call _ _ c.set_response_header_in.ensures false _ c.responses_in.ensures _ (c.known_in.ensures g.P.Payload.MANY) in
    rw (← c.self.view_is) (header_loan call (g.PH.Words.words c.args.user) _ c.set_response_header_in.ensures suits)
