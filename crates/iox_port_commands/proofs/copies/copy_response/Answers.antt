use Rattle.std.specs.Prelude.{◌≡◌, flat_map, length, refl}
use Rattle.std.proofs.Common.{ap, subst}
use Rattle.iox_model.specs.declared.call.Call.TheVariants.{SendCopy}
use Rattle.iox_model.specs.declared.kind.Role.TheVariants as roles
use Rattle.iox_model.specs.declared.reply.Refusal.TheVariants as refusals
use Rattle.iox_model.specs.declared.reply.Reply.TheVariants as replies
use Rattle.iox_hub.specs.Asking.{refusal_of}
use Rattle.iox_hub.specs.Answers.{reply_of_copy}
use Rattle.iox_hub.specs.Answered.{Answered}
use Rattle.iox_hub.specs.Answered.TheVariants.{Refused}
use Rattle.iox_hub.specs.LoanRefusal.TheVariants.{WantOfMemory}
use Rattle.iox_hub.specs.Lending.{payload_of}
use Rattle.iox_model.specs.declared.kind.Kind.{Kind}
use Rattle.iox_hub.specs.Hubs.{HasValue}
use Rattle.iox_port_commands.specs.Applying.{MustGrowIn}
use Rattle.iox_port_commands.proofs.Growing.{active_grows}
use Rattle.iox_port_commands.proofs.Calling.{called_if, lacking_if, on_err, refused, response_stays}
use Rattle.iox_port_commands.proofs.copies.copy_response.Goals as goal

pub returns-in-Ok-ActiveRequest-default-clause-whole : goal.returns-in-Ok-ActiveRequest-default-clause-whole
returns-in-Ok-ActiveRequest-default-clause-whole g c =
    called_if c.args.hub.now c.copy_response.new.self c.args.node
    (SendCopy c.args.number (payload_of roles.Server (length c.args.values.now) (flat_map g.P.Element.Words.words c.args.values.now))) c.answered.result
    (reply_of_copy c.copy_response.result) c.answered.ensures.reply c.copy_response.ensures.whole

pub returns-in-Ok-ActiveRequest-default-clause-wanting : goal.returns-in-Ok-ActiveRequest-default-clause-wanting
returns-in-Ok-ActiveRequest-default-clause-wanting g c =
    lacking_if c.args.hub.now c.copy_response.new.self c.args.node
    (SendCopy c.args.number (payload_of roles.Server (length c.args.values.now) (flat_map g.P.Element.Words.words c.args.values.now))) c.answered.result (reply_of_copy c.copy_response.result)
    (on_err c.answered.result (c.copy_response.result ≡ Refused WantOfMemory) (reply_of_copy c.copy_response.result ≡ replies.Refused refusals.WantOfMemory)
    (λ e. ap (λ (r : Answered). reply_of_copy r) e) c.answered.ensures.wanting) c.copy_response.ensures.whole

pub returns-in-Ok-ActiveRequest-default-clause-unchanged : goal.returns-in-Ok-ActiveRequest-default-clause-unchanged
returns-in-Ok-ActiveRequest-default-clause-unchanged g c =
    on_err c.answered.result (c.copy_response.result ≡ Refused WantOfMemory) (c.copy_response.new.self ≡ c.args.hub.now)
    (response_stays c.args.hub.now c.copy_response.new.self (length c.args.values.now) (flat_map g.P.Element.Words.words c.args.values.now) c.copy_response.result c.copy_response.ensures.left) c.answered.ensures.wanting

pub returns-in-Ok-ActiveRequest-default-clause-grows : goal.returns-in-Ok-ActiveRequest-default-clause-grows
returns-in-Ok-ActiveRequest-default-clause-grows g c =
    on_err c.answered.result (c.copy_response.result ≡ Refused WantOfMemory) (MustGrowIn c.args.hub.now c.args.node c.args.number (length c.args.values.now))
    (λ e. active_grows c.args.hub.now c.is_in_order.ensures c.args.node c.args.number (length c.args.values.now)
    (subst (λ (kind : Kind). HasValue c.args.hub.now c.args.node c.args.number kind) c.in-Ok-ActiveRequest-default.field-0-0-is c.in-Ok-ActiveRequest-default.ensures.has)
    (c.copy_response.ensures.memory e)) c.answered.ensures.wanting

pub returns-in-Err-clause-whole : goal.returns-in-Err-clause-whole
returns-in-Err-clause-whole g c =
    refused c.args.hub.now c.args.node (SendCopy c.args.number (payload_of roles.Server (length c.args.values.now) (flat_map g.P.Element.Words.words c.args.values.now)))
    c.not_begun.result (replies.Refused (refusal_of c.in-Err.reason)) refl refl c.not_begun.ensures.reply c.in-Err.ensures.refused
