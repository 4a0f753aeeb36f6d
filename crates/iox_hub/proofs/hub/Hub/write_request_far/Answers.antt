use Rattle.std.specs.Prelude.{◌≡◌, ◌∷◌, [], flat_map}
use Rattle.std.proofs.Common.{subst, sym}
use Rattle.iox_model.specs.declared.kind.Role.TheVariants as roles
use Rattle.iox_hub.specs.Hubs.{HubState}
use Rattle.iox_hub.specs.Reads.{message_in}
use Rattle.iox_hub.proofs.KeepingLoans.{write_keeps}
use Rattle.iox_hub.proofs.LendingWriteCalls.{call_equal, call_hub, call_left, call_of, call_whole, call_within, call_written, write_call}
use Rattle.iox_hub.proofs.LendingWrites.{is_loan_there, length_fits, loan_named}
use Rattle.iox_hub.proofs.hub.Hub.write_request_far.Goals as goal

pub write_one_far-place-requires-clause-loan : goal.write_one_far-place-requires-clause-loan
write_one_far-place-requires-clause-loan g c =
    is_loan_there roles.Client c.self.invariant c.args.node c.args.number
    (loan_named roles.Client c.self.invariant c.args.self.now c.self.view_is c.args.node c.args.number c.requires.has)

pub write_one_far-place-requires-clause-fits : goal.write_one_far-place-requires-clause-fits
write_one_far-place-requires-clause-fits g c =
    length_fits roles.Client c.self.invariant c.args.node c.args.number
    (loan_named roles.Client c.self.invariant c.args.self.now c.self.view_is c.args.node c.args.number c.requires.has)
    1 (subst (λ (d : HubState). (message_in d c.args.node c.args.number).elements ≡ 1) (sym c.self.view_is) c.requires.one)

pub write_one_request_in-requires-clause-requests : goal.write_one_request_in-requires-clause-requests
write_one_request_in-requires-clause-requests g c =
    call_of (write_call roles.Client c.self.invariant c.args.self.now c.self.view_is c.args.node c.args.number c.requires.has c.write_one_far-place.ensures)

pub write_one_request_in-requires-clause-there : goal.write_one_request_in-requires-clause-there
write_one_request_in-requires-clause-there g c =
    call_within (write_call roles.Client c.self.invariant c.args.self.now c.self.view_is c.args.node c.args.number c.requires.has c.write_one_far-place.ensures)

pub write_one_request_in-requires-clause-one : goal.write_one_request_in-requires-clause-one
write_one_request_in-requires-clause-one g c =
    sym (call_equal (write_call roles.Client c.self.invariant c.args.self.now c.self.view_is c.args.node c.args.number c.requires.has c.write_one_far-place.ensures))

pub invariant_of-self : goal.invariant_of-self
invariant_of-self g c =
    call_hub (write_call roles.Client c.self.invariant c.args.self.now c.self.view_is c.args.node c.args.number c.requires.has c.write_one_far-place.ensures) (flat_map g.Q.Element.Words.words (c.args.value ∷ [])) _ c.write_one_request_in.ensures

pub returns-clause-written : goal.returns-clause-written
returns-clause-written g c =
    let call = write_call roles.Client c.self.invariant c.args.self.now c.self.view_is c.args.node c.args.number c.requires.has c.write_one_far-place.ensures in
    let words = flat_map g.Q.Element.Words.words (c.args.value ∷ []) in
    rw (← c.self.view_is) (record {
      left = call_left call words c.write_one_request_in.new.words.pools c.write_one_request_in.ensures;
      whole = call_whole call words c.write_one_request_in.new.words.pools c.write_one_request_in.ensures;
      has = call_written call words c.write_one_request_in.new.words.pools c.write_one_request_in.ensures;
      keeps = write_keeps call c.write_one_request_in.new.words.pools _ c.write_one_request_in.ensures;
    })
