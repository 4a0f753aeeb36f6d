use Rattle.std.specs.Prelude.{flat_map}
use Rattle.iox_model.specs.declared.kind.Role.TheVariants as roles
use Rattle.iox_hub.proofs.KeepingLoans.{other_write_keeps, write_keeps}
use Rattle.iox_hub.proofs.LendingWriteCalls.{call_equal, call_hub, call_left, call_of, call_whole, call_within, call_written, other_has, other_hub, other_left, other_whole, write_call}
use Rattle.iox_hub.proofs.LendingWrites.{is_loan_there, loan_named}
use Rattle.iox_hub.proofs.hub.Hub.write_request.Goals as goal

pub write_loan-written-requires-clause-loan : goal.write_loan-written-requires-clause-loan
write_loan-written-requires-clause-loan g c =
    is_loan_there roles.Client c.self.invariant c.args.node c.args.number
    (loan_named roles.Client c.self.invariant c.args.self.now c.self.view_is c.args.node c.args.number c.requires.has)

pub write_request_in-requires-clause-requests : goal.write_request_in-requires-clause-requests
write_request_in-requires-clause-requests g c =
    call_of (write_call roles.Client c.self.invariant c.args.self.now c.self.view_is c.args.node c.args.number c.requires.has c.in-Done.ensures)

pub write_request_in-requires-clause-there : goal.write_request_in-requires-clause-there
write_request_in-requires-clause-there g c =
    call_within (write_call roles.Client c.self.invariant c.args.self.now c.self.view_is c.args.node c.args.number c.requires.has c.in-Done.ensures)

pub write_request_in-requires-clause-equal : goal.write_request_in-requires-clause-equal
write_request_in-requires-clause-equal g c =
    call_equal (write_call roles.Client c.self.invariant c.args.self.now c.self.view_is c.args.node c.args.number c.requires.has c.in-Done.ensures)

pub invariant_of-self : goal.invariant_of-self
invariant_of-self g c =
    call_hub (write_call roles.Client c.self.invariant c.args.self.now c.self.view_is c.args.node c.args.number c.requires.has c.in-Done.ensures) (flat_map g.Q.Element.Words.words c.args.values.now) _ c.write_request_in.ensures

pub invariant_of-self-in_default : goal.invariant_of-self-in_default
invariant_of-self-in_default g c =
    other_hub c.write_loan-written.result c.in_default.not-Done
    (write_call roles.Client c.self.invariant c.args.self.now c.self.view_is c.args.node c.args.number c.requires.has c.write_loan-written.ensures)

pub returns-in-Done-clause-left : goal.returns-in-Done-clause-left
returns-in-Done-clause-left g c =
    let call = write_call roles.Client c.self.invariant c.args.self.now c.self.view_is c.args.node c.args.number c.requires.has c.in-Done.ensures in
    rw (← c.self.view_is) (call_left call (flat_map g.Q.Element.Words.words c.args.values.now) _ c.write_request_in.ensures)

pub returns-in-Done-clause-whole : goal.returns-in-Done-clause-whole
returns-in-Done-clause-whole g c =
    let call = write_call roles.Client c.self.invariant c.args.self.now c.self.view_is c.args.node c.args.number c.requires.has c.in-Done.ensures in
    rw (← c.self.view_is) (call_whole call (flat_map g.Q.Element.Words.words c.args.values.now) _ c.write_request_in.ensures)

pub returns-in-Done-clause-has : goal.returns-in-Done-clause-has
returns-in-Done-clause-has g c =
    let call = write_call roles.Client c.self.invariant c.args.self.now c.self.view_is c.args.node c.args.number c.requires.has c.in-Done.ensures in
    rw (← c.self.view_is) (call_written call (flat_map g.Q.Element.Words.words c.args.values.now) _ c.write_request_in.ensures)

pub returns-in-Done-clause-keeps : goal.returns-in-Done-clause-keeps
returns-in-Done-clause-keeps g c =
    let call = write_call roles.Client c.self.invariant c.args.self.now c.self.view_is c.args.node c.args.number c.requires.has c.in-Done.ensures in
    rw (← c.self.view_is) (write_keeps call _ _ c.write_request_in.ensures)

pub returns-in_default : goal.returns-in_default
returns-in_default g c =
    let call = write_call roles.Client c.self.invariant c.args.self.now c.self.view_is c.args.node c.args.number c.requires.has c.write_loan-written.ensures in
    rw (← c.self.view_is) (record {
      left = other_left (flat_map g.Q.Element.Words.words c.args.values.now) c.write_loan-written.result c.in_default.not-Done call;
      whole = other_whole (flat_map g.Q.Element.Words.words c.args.values.now) c.write_loan-written.result c.in_default.not-Done call;
      has = other_has (flat_map g.Q.Element.Words.words c.args.values.now) c.write_loan-written.result c.in_default.not-Done call;
      keeps = other_write_keeps c.write_loan-written.result c.in_default.not-Done call;
    })
