use Rattle.std.specs.Prelude.{refl}
use Rattle.iox_model.specs.declared.call.Call.TheVariants.{HasRequests}
use Rattle.iox_model.specs.declared.reply.Reply.TheVariants as replies
use Rattle.iox_hub.specs.Asking.{refusal_of}
use Rattle.iox_port_commands.proofs.Calling.{refused}
use Rattle.iox_port_commands.proofs.questions.has_requests.Goals as goal

pub returns-in-Err-clause-whole : goal.returns-in-Err-clause-whole
returns-in-Err-clause-whole g c =
    refused c.args.hub.now c.args.node (HasRequests c.args.number)
    c.not_begun.result (replies.Refused (refusal_of c.in-Err.reason)) refl refl c.not_begun.ensures.reply c.in-Err.ensures.refused
