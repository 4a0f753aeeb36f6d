use Rattle.iox_model.specs.declared.call.Call.TheVariants.{HasResponse}
use Rattle.iox_model.specs.declared.reply.Reply.TheVariants.{Answer}
use Rattle.iox_hub.proofs.GoesOn.{whole_of_hub}
use Rattle.iox_hub.proofs.Named.{pending_of_hub}
use Rattle.iox_hub.proofs.hub.Hub.has_response.Goals as goal

pub returns : goal.returns
returns g c =
    rw (← c.self.view_is)
    (record { whole = whole_of_hub c.self.invariant c.self.inside.control c.args.node (HasResponse c.args.number) (Answer c.has_response.result) c.has_response.ensures.whole })

pub has_response-requires-clause-pending : goal.has_response-requires-clause-pending
has_response-requires-clause-pending g c = pending_of_hub c.self.invariant c.args.self.now c.self.view_is c.args.node c.args.number c.requires.has
