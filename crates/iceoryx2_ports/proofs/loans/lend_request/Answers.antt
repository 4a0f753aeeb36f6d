use Rattle.std.proofs.Common.{ap, sym, ◌∙◌}
use Rattle.iox_model.specs.declared.reply.Reply.TheVariants as replies
use Rattle.iox_tables.specs.HubLoans.Loans.{loan_call}
use Rattle.iox_hub_laws.specs.Lends.{refusal_of, reply_of_loan}
use Rattle.iox_hub_laws.specs.LoanRefusal.TheVariants as refusals
use Rattle.iox_hub_laws.specs.Lent.TheVariants as lents
use Rattle.iceoryx2_ports.proofs.LoanLimits.{lends_one_more, loan_never_wants, refused_at_limit, result_of}
use Rattle.iceoryx2_ports.proofs.Reaching.{loan_keeps_room}
use Rattle.iceoryx2_ports.proofs.Staying.{loan_asks_as_before}
use Rattle.iceoryx2_ports.proofs.Telling.{called_as}
use Rattle.iceoryx2_ports.proofs.Lent.{lends_by_client, lends_quietly}
use Rattle.iceoryx2_ports.proofs.Remaining.{loan_keeps_requests}
use Rattle.iceoryx2_ports.proofs.SameShapes.{same_shapes}
use Rattle.iceoryx2_ports.proofs.loans.lend_request.Goals as goal

pub returns-in-Refused-CallsSpent-clause-whole : goal.returns-in-Refused-CallsSpent-clause-whole
returns-in-Refused-CallsSpent-clause-whole g c =
    called_as c.args.hub.now c.lend_request.new.hub c.args.node (loan_call c.args.uninit c.args.client c.args.elements)
    (replies.Refused (refusal_of c.in-Refused-CallsSpent.field-0)) (replies.Refused (refusal_of refusals.CallsSpent))
    (ap (λ r. replies.Refused (refusal_of r)) c.in-Refused-CallsSpent.field-0-is) c.in-Refused-CallsSpent.ensures.whole

pub returns-in-Refused-WrongLength-clause-whole : goal.returns-in-Refused-WrongLength-clause-whole
returns-in-Refused-WrongLength-clause-whole g c =
    called_as c.args.hub.now c.lend_request.new.hub c.args.node (loan_call c.args.uninit c.args.client c.args.elements)
    (replies.Refused (refusal_of c.in-Refused-WrongLength.field-0)) (replies.Refused (refusal_of refusals.WrongLength))
    (ap (λ r. replies.Refused (refusal_of r)) c.in-Refused-WrongLength.field-0-is) c.in-Refused-WrongLength.ensures.whole

pub returns-in-Refused-ExceedsMaxLoanSize-clause-whole : goal.returns-in-Refused-ExceedsMaxLoanSize-clause-whole
returns-in-Refused-ExceedsMaxLoanSize-clause-whole g c =
    called_as c.args.hub.now c.lend_request.new.hub c.args.node (loan_call c.args.uninit c.args.client c.args.elements)
    (replies.Refused (refusal_of c.in-Refused-ExceedsMaxLoanSize.field-0)) (replies.Refused (refusal_of refusals.ExceedsMaxLoanSize))
    (ap (λ r. replies.Refused (refusal_of r)) c.in-Refused-ExceedsMaxLoanSize.field-0-is) c.in-Refused-ExceedsMaxLoanSize.ensures.whole

pub returns-in-Refused-ExceedsMaxLoans-clause-whole : goal.returns-in-Refused-ExceedsMaxLoans-clause-whole
returns-in-Refused-ExceedsMaxLoans-clause-whole g c =
    called_as c.args.hub.now c.lend_request.new.hub c.args.node (loan_call c.args.uninit c.args.client c.args.elements)
    (replies.Refused (refusal_of c.in-Refused-ExceedsMaxLoans.field-0)) (replies.Refused (refusal_of refusals.ExceedsMaxLoans))
    (ap (λ r. replies.Refused (refusal_of r)) c.in-Refused-ExceedsMaxLoans.field-0-is) c.in-Refused-ExceedsMaxLoans.ensures.whole

pub returns-in-Refused-WantOfMemory-clause-whole : goal.returns-in-Refused-WantOfMemory-clause-whole
returns-in-Refused-WantOfMemory-clause-whole g c =
    called_as c.args.hub.now c.lend_request.new.hub c.args.node (loan_call c.args.uninit c.args.client c.args.elements)
    (replies.Refused (refusal_of c.in-Refused-WantOfMemory.field-0)) (replies.Refused (refusal_of refusals.WantOfMemory))
    (ap (λ r. replies.Refused (refusal_of r)) c.in-Refused-WantOfMemory.field-0-is) c.in-Refused-WantOfMemory.ensures.whole

pub returns-in-Handle-clause-asks : goal.returns-in-Handle-clause-asks
returns-in-Handle-clause-asks g c =
    loan_asks_as_before c.args.hub.now c.lend_request.new.hub c.args.node c.args.uninit c.args.client c.args.elements (reply_of_loan c.lend_request.result)
    c.lend_request.ensures.whole

pub returns-in-OutOfMemory-clause-asks : goal.returns-in-OutOfMemory-clause-asks
returns-in-OutOfMemory-clause-asks g c =
    loan_asks_as_before c.args.hub.now c.lend_request.new.hub c.args.node c.args.uninit c.args.client c.args.elements (reply_of_loan c.lend_request.result)
    c.lend_request.ensures.whole

pub returns-in-Handle-clause-room : goal.returns-in-Handle-clause-room
returns-in-Handle-clause-room g c =
    loan_keeps_room c.args.hub.now c.lend_request.new.hub c.args.node c.args.uninit c.args.client c.args.elements (reply_of_loan c.lend_request.result)
    c.lend_request.ensures.whole

pub returns-in-OutOfMemory-clause-room : goal.returns-in-OutOfMemory-clause-room
returns-in-OutOfMemory-clause-room g c =
    loan_keeps_room c.args.hub.now c.lend_request.new.hub c.args.node c.args.uninit c.args.client c.args.elements (reply_of_loan c.lend_request.result)
    c.lend_request.ensures.whole

pub returns-in-Handle-clause-counted : goal.returns-in-Handle-clause-counted
returns-in-Handle-clause-counted g c =
    lends_one_more c.args.hub.now c.lend_request.new.hub c.is_in_order.ensures c.is_in_order-in-Handle.ensures c.args.node c.args.client c.args.elements
    c.args.uninit c.in-Handle.loan.number c.requires.has c.in-Handle.ensures.answers c.in-Handle.ensures.whole

pub returns-in-Handle-clause-past : goal.returns-in-Handle-clause-past
returns-in-Handle-clause-past g c =
    refused_at_limit c.args.hub.now c.is_in_order.ensures c.args.node c.args.client c.args.elements (lents.Handle c.in-Handle.loan) c.requires.has
    c.in-Handle.ensures.answers

pub returns-in-OutOfMemory-clause-past : goal.returns-in-OutOfMemory-clause-past
returns-in-OutOfMemory-clause-past g c =
    refused_at_limit c.args.hub.now c.is_in_order.ensures c.args.node c.args.client c.args.elements lents.OutOfMemory c.requires.has
    c.in-OutOfMemory.ensures.answers

pub returns-in-Refused-CallsSpent-clause-past : goal.returns-in-Refused-CallsSpent-clause-past
returns-in-Refused-CallsSpent-clause-past g c =
    λ all.
    ap (λ r. result_of (lents.Refused r)) (sym c.in-Refused-CallsSpent.field-0-is)
    ∙ refused_at_limit c.args.hub.now c.is_in_order.ensures c.args.node c.args.client c.args.elements (lents.Refused c.in-Refused-CallsSpent.field-0) c.requires.has
    c.in-Refused-CallsSpent.ensures.answers all

pub returns-in-Refused-WrongLength-clause-past : goal.returns-in-Refused-WrongLength-clause-past
returns-in-Refused-WrongLength-clause-past g c =
    λ all.
    ap (λ r. result_of (lents.Refused r)) (sym c.in-Refused-WrongLength.field-0-is)
    ∙ refused_at_limit c.args.hub.now c.is_in_order.ensures c.args.node c.args.client c.args.elements (lents.Refused c.in-Refused-WrongLength.field-0) c.requires.has
    c.in-Refused-WrongLength.ensures.answers all

pub returns-in-Refused-ExceedsMaxLoanSize-clause-past : goal.returns-in-Refused-ExceedsMaxLoanSize-clause-past
returns-in-Refused-ExceedsMaxLoanSize-clause-past g c =
    λ all.
    ap (λ r. result_of (lents.Refused r)) (sym c.in-Refused-ExceedsMaxLoanSize.field-0-is)
    ∙ refused_at_limit c.args.hub.now c.is_in_order.ensures c.args.node c.args.client c.args.elements (lents.Refused c.in-Refused-ExceedsMaxLoanSize.field-0) c.requires.has
    c.in-Refused-ExceedsMaxLoanSize.ensures.answers all

pub returns-in-Refused-WantOfMemory-clause-past : goal.returns-in-Refused-WantOfMemory-clause-past
returns-in-Refused-WantOfMemory-clause-past g c =
    λ all.
    ap (λ r. result_of (lents.Refused r)) (sym c.in-Refused-WantOfMemory.field-0-is)
    ∙ refused_at_limit c.args.hub.now c.is_in_order.ensures c.args.node c.args.client c.args.elements (lents.Refused c.in-Refused-WantOfMemory.field-0) c.requires.has
    c.in-Refused-WantOfMemory.ensures.answers all

pub returns-in-Handle-clause-quiet : goal.returns-in-Handle-clause-quiet
returns-in-Handle-clause-quiet g c =
    lends_quietly c.args.hub.now c.lend_request.new.hub c.is_in_order.ensures c.args.node c.args.client c.args.elements c.args.uninit c.in-Handle.loan.number
    c.requires.has c.in-Handle.ensures.whole c.lend_request.ensures.comes
    (loan_keeps_room c.args.hub.now c.lend_request.new.hub c.args.node c.args.uninit c.args.client c.args.elements (reply_of_loan c.lend_request.result)
    c.lend_request.ensures.whole)

pub returns-in-Handle-clause-requests : goal.returns-in-Handle-clause-requests
returns-in-Handle-clause-requests g c =
    loan_keeps_requests c.args.hub.now c.lend_request.new.hub c.args.node c.args.uninit c.args.client c.args.elements (reply_of_loan c.lend_request.result)
    c.lend_request.ensures.whole

pub returns-in-OutOfMemory-clause-requests : goal.returns-in-OutOfMemory-clause-requests
returns-in-OutOfMemory-clause-requests g c =
    loan_keeps_requests c.args.hub.now c.lend_request.new.hub c.args.node c.args.uninit c.args.client c.args.elements (reply_of_loan c.lend_request.result)
    c.lend_request.ensures.whole

pub returns-in-Handle-clause-shapes : goal.returns-in-Handle-clause-shapes
returns-in-Handle-clause-shapes g c =
    same_shapes c.args.hub.now c.lend_request.new.hub c.args.node (loan_call c.args.uninit c.args.client c.args.elements) (reply_of_loan c.lend_request.result)
    c.lend_request.ensures.whole

pub returns-in-OutOfMemory-clause-shapes : goal.returns-in-OutOfMemory-clause-shapes
returns-in-OutOfMemory-clause-shapes g c =
    same_shapes c.args.hub.now c.lend_request.new.hub c.args.node (loan_call c.args.uninit c.args.client c.args.elements) (reply_of_loan c.lend_request.result)
    c.lend_request.ensures.whole

pub returns-in-OutOfMemory-clause-within : goal.returns-in-OutOfMemory-clause-within
returns-in-OutOfMemory-clause-within g c = λ can. absurd (c.in-OutOfMemory.ensures.within can.port can.there can.limits can.pools)

pub returns-in-Refused-CallsSpent-clause-within : goal.returns-in-Refused-CallsSpent-clause-within
returns-in-Refused-CallsSpent-clause-within g c = λ can. absurd (c.in-Refused-CallsSpent.ensures.within can.port can.there can.limits can.pools)

pub returns-in-Refused-WrongLength-clause-within : goal.returns-in-Refused-WrongLength-clause-within
returns-in-Refused-WrongLength-clause-within g c = λ can. absurd (c.in-Refused-WrongLength.ensures.within can.port can.there can.limits can.pools)

pub returns-in-Refused-ExceedsMaxLoanSize-clause-within : goal.returns-in-Refused-ExceedsMaxLoanSize-clause-within
returns-in-Refused-ExceedsMaxLoanSize-clause-within g c = λ can. absurd (c.in-Refused-ExceedsMaxLoanSize.ensures.within can.port can.there can.limits can.pools)

pub returns-in-Refused-ExceedsMaxLoans-clause-within : goal.returns-in-Refused-ExceedsMaxLoans-clause-within
returns-in-Refused-ExceedsMaxLoans-clause-within g c = λ can. absurd (c.in-Refused-ExceedsMaxLoans.ensures.within can.port can.there can.limits can.pools)

pub returns-in-Refused-WantOfMemory-clause-within : goal.returns-in-Refused-WantOfMemory-clause-within
returns-in-Refused-WantOfMemory-clause-within g c = λ can. absurd (c.in-Refused-WantOfMemory.ensures.within can.port can.there can.limits can.pools)

pub returns-in-Refused-WantOfMemory-clause-never : goal.returns-in-Refused-WantOfMemory-clause-never
returns-in-Refused-WantOfMemory-clause-never g c =
    λ short e.
    loan_never_wants c.args.hub.now c.is_in_order.ensures c.args.node c.args.client c.args.elements c.in-Refused-WantOfMemory.field-0
    c.in-Refused-WantOfMemory.field-0-is c.requires.has c.in-Refused-WantOfMemory.ensures.answers short

pub returns-in-Handle-clause-asker : goal.returns-in-Handle-clause-asker
returns-in-Handle-clause-asker g c =
    lends_by_client c.args.hub.now c.lend_request.new.hub c.is_in_order.ensures c.args.node c.args.client c.args.elements c.args.uninit c.in-Handle.loan.number
    c.requires.has c.in-Handle.ensures.whole
