use Rattle.std.specs.Prelude.{◌≡◌, flat_map, length, refl}
use Rattle.std.proofs.Common.{ap, subst}
use Rattle.iox_model.specs.declared.call.Call.TheVariants.{SendCopy}
use Rattle.iox_model.specs.declared.kind.Role.TheVariants as roles
use Rattle.iox_model.specs.declared.reply.Refusal.TheVariants as refusals
use Rattle.iox_model.specs.declared.reply.Reply.TheVariants as replies
use Rattle.iox_hub.specs.Asking.{refusal_of}
use Rattle.iox_hub.specs.Copies.{reply_of_copy}
use Rattle.iox_hub.specs.Copied.{Copied}
use Rattle.iox_hub.specs.Copied.TheVariants.{Refused}
use Rattle.iox_hub.specs.LoanRefusal.TheVariants.{WantOfMemory}
use Rattle.iox_hub.specs.Lending.{payload_of}
use Rattle.iox_model.specs.declared.kind.Kind.{Kind}
use Rattle.iox_hub.specs.Hubs.{HasValue}
use Rattle.iox_port_commands.specs.Applying.{MustGrowIn}
use Rattle.iox_port_commands.proofs.Growing.{client_grows}
use Rattle.iox_port_commands.proofs.Calling.{called_if, lacking_if, on_err, refused, request_stays}
use Rattle.iox_port_commands.proofs.copies.copy_request.Goals as goal

pub returns-in-Ok-Client-default-clause-whole : goal.returns-in-Ok-Client-default-clause-whole
returns-in-Ok-Client-default-clause-whole g c =
    called_if c.args.hub.now c.copy_request.new.self c.args.node
    (SendCopy c.args.number (payload_of roles.Client (length c.args.values.now) (flat_map g.Q.Element.Words.words c.args.values.now))) c.copied.result
    (reply_of_copy c.copy_request.result) c.copied.ensures.reply c.copy_request.ensures.whole

pub returns-in-Ok-Client-default-clause-wanting : goal.returns-in-Ok-Client-default-clause-wanting
returns-in-Ok-Client-default-clause-wanting g c =
    lacking_if c.args.hub.now c.copy_request.new.self c.args.node
    (SendCopy c.args.number (payload_of roles.Client (length c.args.values.now) (flat_map g.Q.Element.Words.words c.args.values.now))) c.copied.result (reply_of_copy c.copy_request.result)
    (on_err c.copied.result (c.copy_request.result ≡ Refused WantOfMemory) (reply_of_copy c.copy_request.result ≡ replies.Refused refusals.WantOfMemory)
    (λ e. ap (λ (r : Copied). reply_of_copy r) e) c.copied.ensures.wanting) c.copy_request.ensures.whole

pub returns-in-Ok-Client-default-clause-unchanged : goal.returns-in-Ok-Client-default-clause-unchanged
returns-in-Ok-Client-default-clause-unchanged g c =
    on_err c.copied.result (c.copy_request.result ≡ Refused WantOfMemory) (c.copy_request.new.self ≡ c.args.hub.now)
    (request_stays c.args.hub.now c.copy_request.new.self (length c.args.values.now) (flat_map g.Q.Element.Words.words c.args.values.now) c.copy_request.result c.copy_request.ensures.left) c.copied.ensures.wanting

pub returns-in-Ok-Client-default-clause-grows : goal.returns-in-Ok-Client-default-clause-grows
returns-in-Ok-Client-default-clause-grows g c =
    on_err c.copied.result (c.copy_request.result ≡ Refused WantOfMemory) (MustGrowIn c.args.hub.now c.args.node c.args.number (length c.args.values.now))
    (λ e. client_grows c.args.hub.now c.is_in_order.ensures c.args.node c.args.number (length c.args.values.now)
    (subst (λ (kind : Kind). HasValue c.args.hub.now c.args.node c.args.number kind) c.in-Ok-Client-default.field-0-0-is c.in-Ok-Client-default.ensures.has)
    (c.copy_request.ensures.memory e)) c.copied.ensures.wanting

pub returns-in-Err-clause-whole : goal.returns-in-Err-clause-whole
returns-in-Err-clause-whole g c =
    refused c.args.hub.now c.args.node (SendCopy c.args.number (payload_of roles.Client (length c.args.values.now) (flat_map g.Q.Element.Words.words c.args.values.now)))
    c.not_begun.result (replies.Refused (refusal_of c.in-Err.reason)) refl refl c.not_begun.ensures.reply c.in-Err.ensures.refused
