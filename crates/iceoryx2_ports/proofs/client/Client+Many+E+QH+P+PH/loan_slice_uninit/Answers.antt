use Rattle.std.specs.Prelude.{ℕ}
use Rattle.std.proofs.Common.{ap, subst₂, sym}
use Rattle.iox_model.specs.declared.call.Call.TheVariants as calls
use Rattle.iox_model.specs.declared.reply.Reply.TheVariants as replies
use Rattle.iceoryx2_ports.specs.Asking.{LendsQuietly}
use Rattle.iceoryx2_ports.proofs.Telling.{called_as}
use Rattle.iceoryx2_ports.proofs.client.Client+Many+E+QH+P+PH.loan_slice_uninit.Goals as goal

pub returns-in-Ok-clause-whole : goal.returns-in-Ok-clause-whole
returns-in-Ok-clause-whole g c =
    called_as c.args.hub.now c.lend_request.new.hub c.args.self.now.node (calls.LoanUninit c.args.self.now.number c.args.elements) (replies.Handle c.in-Ok.number)
    (replies.Handle c.new.result.number) (ap replies.Handle (sym c.new.ensures.number)) c.in-Ok.ensures.whole

pub returns-in-Ok-clause-quiet : goal.returns-in-Ok-clause-quiet
returns-in-Ok-clause-quiet g c =
    subst₂ (λ (i n : ℕ). LendsQuietly c.args.hub.now c.args.self.now.number c.lend_request.new.hub i n) (sym c.new.ensures.node) (sym c.new.ensures.number)
    c.in-Ok.ensures.quiet
