use Rattle.std.proofs.Common.{ap, sym}
use Rattle.iox_model.specs.declared.call.Call.TheVariants as calls
use Rattle.iox_model.specs.declared.reply.Reply.TheVariants as replies
use Rattle.iceoryx2_ports.proofs.Telling.{called_as}
use Rattle.iceoryx2_ports.proofs.active_request.ActiveRequest+Q+QH+One+E+PH.loan.Goals as goal

pub returns-in-Ok-clause-whole : goal.returns-in-Ok-clause-whole
returns-in-Ok-clause-whole g c =
    called_as c.args.hub.now c.lend_response.new.hub c.args.self.now.node (calls.Loan c.args.self.now.number 1) (replies.Handle c.in-Ok.number)
    (replies.Handle c.new.result.number) (ap replies.Handle (sym c.new.ensures.number)) c.in-Ok.ensures.whole
