use Rattle.std.specs.Option.{option_map}
use Rattle.std.proofs.lemmas.Result.{IfOk-weaker, on_err_weaker}
use Rattle.iox_model.specs.declared.reply.Reply.TheVariants.{Refused}
use Rattle.iox_model.specs.Commands.{Create}
use Rattle.iox_model.specs.Makings.{port_reply}
use Rattle.iox_hub.specs.MadePorts.{refusal_of}
use Rattle.iox_hub.specs.HandlerWords.{shown_by}
use Rattle.iox_hub.specs.Making.{options_with}
use Rattle.iox_port_commands.specs.Applying.{IsReplied}
use Rattle.iox_port_commands.specs.Telling.{IsTheReply}
use Rattle.iox_port_commands.proofs.Calling.{asked}
use Rattle.iox_port_commands.proofs.Making.{wanting}
use Rattle.iox_port_commands.proofs.makings.make_port.Goals as goal

pub returns-in-Ok-clause-whole : goal.returns-in-Ok-clause-whole
returns-in-Ok-clause-whole g c =
    asked c.args.hub.now c.make_port.new.self c.args.node (Create c.args.role c.args.id (options_with c.args.options (option_map (shown_by g.H.Backpressure.action) c.args.handler))) c.made.result
    (port_reply c.args.role c.in-Ok.number) c.made.ensures.reply c.in-Ok.ensures.whole

pub returns-in-Err-clause-whole : goal.returns-in-Err-clause-whole
returns-in-Err-clause-whole g c =
    IfOk-weaker c.not_made.result (λ reply. IsTheReply reply (Refused (refusal_of c.args.role c.in-Err.reason)))
    (λ reply. IsReplied c.args.hub.now c.args.node (Create c.args.role c.args.id (options_with c.args.options (option_map (shown_by g.H.Backpressure.action) c.args.handler))) reply c.make_port.new.self)
    (λ reply is. asked c.args.hub.now c.make_port.new.self c.args.node (Create c.args.role c.args.id (options_with c.args.options (option_map (shown_by g.H.Backpressure.action) c.args.handler))) reply
    (Refused (refusal_of c.args.role c.in-Err.reason)) is c.in-Err.ensures.whole)
    c.not_made.ensures.reply

pub returns-in-Err-clause-wanting : goal.returns-in-Err-clause-wanting
returns-in-Err-clause-wanting g c =
    on_err_weaker c.not_made.result
    (λ reason. wanting c.args.hub.now c.make_port.new.self c.args.node c.args.role c.args.id (options_with c.args.options (option_map (shown_by g.H.Backpressure.action) c.args.handler)) c.in-Err.reason reason c.in-Err.ensures.whole)
    c.not_made.ensures.wanting
