use Rattle.std.specs.Prelude.{◌≡◌, false, refl}
use Rattle.std.proofs.Common.{ap, subst}
use Rattle.iox_model.specs.declared.call.Call.TheVariants.{Loan}
use Rattle.iox_model.specs.declared.reply.Refusal.TheVariants as refusals
use Rattle.iox_model.specs.declared.reply.Reply.TheVariants as replies
use Rattle.iox_hub.specs.Asking.{refusal_of}
use Rattle.iox_hub.specs.Lends.{reply_of_loan}
use Rattle.iox_hub.specs.Lent.{Lent}
use Rattle.iox_hub.specs.Lent.TheVariants.{Refused}
use Rattle.iox_hub.specs.LoanRefusal.TheVariants.{WantOfMemory}
use Rattle.iox_model.specs.declared.kind.Kind.{Kind}
use Rattle.iox_hub.specs.Hubs.{HasValue}
use Rattle.iox_port_commands.specs.Applying.{MustGrowIn}
use Rattle.iox_port_commands.proofs.Growing.{active_grows, client_grows}
use Rattle.iox_port_commands.proofs.Calling.{called_if, lacking_if, loan_stays, on_err, refused}
use Rattle.iox_port_commands.proofs.lending.loan.Goals as goal

pub returns-in-Ok-Client-default-clause-whole : goal.returns-in-Ok-Client-default-clause-whole
returns-in-Ok-Client-default-clause-whole g c =
    called_if c.args.hub.now c.lend_request.new.self c.args.node (Loan c.args.number c.args.elements) c.lent.result
    (reply_of_loan c.lend_request.result) c.lent.ensures.reply c.lend_request.ensures.whole

pub returns-in-Ok-Client-default-clause-wanting : goal.returns-in-Ok-Client-default-clause-wanting
returns-in-Ok-Client-default-clause-wanting g c =
    lacking_if c.args.hub.now c.lend_request.new.self c.args.node (Loan c.args.number c.args.elements) c.lent.result (reply_of_loan c.lend_request.result)
    (on_err c.lent.result (c.lend_request.result ≡ Refused WantOfMemory) (reply_of_loan c.lend_request.result ≡ replies.Refused refusals.WantOfMemory)
    (λ e. ap (λ (l : Lent). reply_of_loan l) e) c.lent.ensures.wanting) c.lend_request.ensures.whole

pub returns-in-Ok-Client-default-clause-unchanged : goal.returns-in-Ok-Client-default-clause-unchanged
returns-in-Ok-Client-default-clause-unchanged g c =
    on_err c.lent.result (c.lend_request.result ≡ Refused WantOfMemory) (c.lend_request.new.self ≡ c.args.hub.now)
    (loan_stays c.args.hub.now c.lend_request.new.self c.args.hub.now.request false c.args.elements c.lend_request.result c.lend_request.ensures.left) c.lent.ensures.wanting

pub returns-in-Ok-ActiveRequest-default-clause-whole : goal.returns-in-Ok-ActiveRequest-default-clause-whole
returns-in-Ok-ActiveRequest-default-clause-whole g c =
    called_if c.args.hub.now c.lend_response.new.self c.args.node (Loan c.args.number c.args.elements) c.lent-in-Ok-ActiveRequest-default.result
    (reply_of_loan c.lend_response.result) c.lent-in-Ok-ActiveRequest-default.ensures.reply c.lend_response.ensures.whole

pub returns-in-Ok-ActiveRequest-default-clause-wanting : goal.returns-in-Ok-ActiveRequest-default-clause-wanting
returns-in-Ok-ActiveRequest-default-clause-wanting g c =
    lacking_if c.args.hub.now c.lend_response.new.self c.args.node (Loan c.args.number c.args.elements) c.lent-in-Ok-ActiveRequest-default.result (reply_of_loan c.lend_response.result)
    (on_err c.lent-in-Ok-ActiveRequest-default.result (c.lend_response.result ≡ Refused WantOfMemory) (reply_of_loan c.lend_response.result ≡ replies.Refused refusals.WantOfMemory)
    (λ e. ap (λ (l : Lent). reply_of_loan l) e) c.lent-in-Ok-ActiveRequest-default.ensures.wanting) c.lend_response.ensures.whole

pub returns-in-Ok-ActiveRequest-default-clause-unchanged : goal.returns-in-Ok-ActiveRequest-default-clause-unchanged
returns-in-Ok-ActiveRequest-default-clause-unchanged g c =
    on_err c.lent-in-Ok-ActiveRequest-default.result (c.lend_response.result ≡ Refused WantOfMemory) (c.lend_response.new.self ≡ c.args.hub.now)
    (loan_stays c.args.hub.now c.lend_response.new.self c.args.hub.now.response false c.args.elements c.lend_response.result c.lend_response.ensures.left) c.lent-in-Ok-ActiveRequest-default.ensures.wanting

pub returns-in-Ok-Client-default-clause-grows : goal.returns-in-Ok-Client-default-clause-grows
returns-in-Ok-Client-default-clause-grows g c =
    on_err c.lent.result (c.lend_request.result ≡ Refused WantOfMemory) (MustGrowIn c.args.hub.now c.args.node c.args.number c.args.elements)
    (λ e. client_grows c.args.hub.now c.is_in_order.ensures c.args.node c.args.number c.args.elements
    (subst (λ (kind : Kind). HasValue c.args.hub.now c.args.node c.args.number kind) c.in-Ok-Client-default.field-0-0-is c.in-Ok-Client-default.ensures.has)
    (c.lend_request.ensures.memory e)) c.lent.ensures.wanting

pub returns-in-Ok-ActiveRequest-default-clause-grows : goal.returns-in-Ok-ActiveRequest-default-clause-grows
returns-in-Ok-ActiveRequest-default-clause-grows g c =
    on_err c.lent-in-Ok-ActiveRequest-default.result (c.lend_response.result ≡ Refused WantOfMemory) (MustGrowIn c.args.hub.now c.args.node c.args.number c.args.elements)
    (λ e. active_grows c.args.hub.now c.is_in_order.ensures c.args.node c.args.number c.args.elements
    (subst (λ (kind : Kind). HasValue c.args.hub.now c.args.node c.args.number kind) c.in-Ok-ActiveRequest-default.field-0-0-is c.in-Ok-ActiveRequest-default.ensures.has)
    (c.lend_response.ensures.memory e)) c.lent-in-Ok-ActiveRequest-default.ensures.wanting

pub returns-in-Err-clause-whole : goal.returns-in-Err-clause-whole
returns-in-Err-clause-whole g c =
    refused c.args.hub.now c.args.node (Loan c.args.number c.args.elements)
    c.not_begun.result (replies.Refused (refusal_of c.in-Err.reason)) refl refl c.not_begun.ensures.reply c.in-Err.ensures.refused
