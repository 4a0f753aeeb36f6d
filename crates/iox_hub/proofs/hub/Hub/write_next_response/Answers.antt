use Rattle.std.specs.Prelude.{false, ◌<◌}
use Rattle.std.proofs.Common.{subst, sym}
use Rattle.iox_model.specs.declared.kind.Role.TheVariants as roles
use Rattle.iox_hub.specs.Hubs.{HubState}
use Rattle.iox_hub.specs.Reads.{message_in}
use Rattle.iox_hub.proofs.FillingCalls.{fill_call, fill_of, fill_within, loan_in, looked_of, looked_slot, looked_suits, looked_within}
use Rattle.iox_hub.proofs.FillingWays.{next_hub, next_loan, room_there}
use Rattle.iox_hub.proofs.hub.Hub.write_next_response.Goals as goal

pub fill_loan-place-requires-clause-loan : goal.fill_loan-place-requires-clause-loan
fill_loan-place-requires-clause-loan g c = loan_in roles.Server c.self.invariant c.args.self.now c.self.view_is c.args.node c.args.number c.requires.has

pub write_next_response_in-requires-clause-responses : goal.write_next_response_in-requires-clause-responses
write_next_response_in-requires-clause-responses g c =
    fill_of (fill_call roles.Server c.self.invariant c.args.self.now c.self.view_is c.args.node c.args.number c.requires.has c.fill_loan-place.ensures)

pub write_next_response_in-requires-clause-there : goal.write_next_response_in-requires-clause-there
write_next_response_in-requires-clause-there g c =
    fill_within (fill_call roles.Server c.self.invariant c.args.self.now c.self.view_is c.args.node c.args.number c.requires.has c.fill_loan-place.ensures)

pub write_next_response_in-requires-clause-room : goal.write_next_response_in-requires-clause-room
write_next_response_in-requires-clause-room g c =
    room_there (fill_call roles.Server c.self.invariant c.args.self.now c.self.view_is c.args.node c.args.number c.requires.has c.fill_loan-place.ensures)
    (subst (λ (d : HubState). (message_in d c.args.node c.args.number).filled < (message_in d c.args.node c.args.number).elements) (sym c.self.view_is) c.requires.room)

pub responses_in-requires : goal.responses_in-requires
responses_in-requires g c =
    let call = fill_call roles.Server c.self.invariant c.args.self.now c.self.view_is c.args.node c.args.number c.requires.has c.fill_loan-place.ensures in
    record { there = looked_within call _ _ c.write_next_response_in.ensures; responses = looked_of call _ _ c.write_next_response_in.ensures }

pub known_in-requires : goal.known_in-requires
known_in-requires g c =
    let call = fill_call roles.Server c.self.invariant c.args.self.now c.self.view_is c.args.node c.args.number c.requires.has c.fill_loan-place.ensures in
    looked_slot call _ _ c.write_next_response_in.ensures false _ c.responses_in.ensures

pub invariant_of-self : goal.invariant_of-self
invariant_of-self g c =
    let call = fill_call roles.Server c.self.invariant c.args.self.now c.self.view_is c.args.node c.args.number c.requires.has c.fill_loan-place.ensures in
    let suits = looked_suits call _ _ c.write_next_response_in.ensures false _ c.responses_in.ensures _ (c.known_in.ensures g.P.Payload.MANY) in
    next_hub call (g.P.Element.Words.words c.args.value) _
    (subst (λ (d : HubState). (message_in d c.args.node c.args.number).filled < (message_in d c.args.node c.args.number).elements) (sym c.self.view_is) c.requires.room) c.write_next_response_in.ensures suits

pub returns : goal.returns
returns g c =
    let call = fill_call roles.Server c.self.invariant c.args.self.now c.self.view_is c.args.node c.args.number c.requires.has c.fill_loan-place.ensures in
    let suits = looked_suits call _ _ c.write_next_response_in.ensures false _ c.responses_in.ensures _ (c.known_in.ensures g.P.Payload.MANY) in
    rw (← c.self.view_is) (next_loan call (g.P.Element.Words.words c.args.value) _
    (subst (λ (d : HubState). (message_in d c.args.node c.args.number).filled < (message_in d c.args.node c.args.number).elements) (sym c.self.view_is) c.requires.room) c.write_next_response_in.ensures suits)
