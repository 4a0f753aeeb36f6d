use Rattle.std.specs.Prelude.{flat_map, length, refl}
use Rattle.iox_model.specs.declared.call.Call.TheVariants.{Write}
use Rattle.iox_model.specs.declared.kind.Role.TheVariants as roles
use Rattle.iox_model.specs.declared.reply.Reply.TheVariants as replies
use Rattle.iox_hub.specs.Asking.{refusal_of}
use Rattle.iox_hub.specs.Lending.{payload_of}
use Rattle.iox_port_commands.proofs.Calling.{refused}
use Rattle.iox_port_commands.proofs.writing.write_request.Goals as goal

pub returns-in-Err-clause-whole : goal.returns-in-Err-clause-whole
returns-in-Err-clause-whole g c =
    refused c.args.hub.now c.args.node (Write c.args.number (payload_of roles.Client (length c.args.values.now) (flat_map g.Q.Element.Words.words c.args.values.now)))
    c.not_begun.result (replies.Refused (refusal_of c.in-Err.reason)) refl refl c.not_begun.ensures.reply c.in-Err.ensures.refused
