use Rattle.iox_model.specs.declared.call.Call.TheVariants.{HasRequests}
use Rattle.iox_model.specs.declared.reply.Reply.TheVariants.{Answer}
use Rattle.iox_hub.proofs.GoesOn.{whole_of_hub}
use Rattle.iox_hub.proofs.Named.{server_of_hub}
use Rattle.iox_hub.proofs.hub.Hub.has_requests.Goals as goal

pub returns : goal.returns
returns g c =
    rw (← c.self.view_is)
    (record { whole = whole_of_hub c.self.invariant c.self.inside.control c.args.node (HasRequests c.args.server) (Answer c.has_requests.result) c.has_requests.ensures.whole })

pub has_requests-requires-clause-server : goal.has_requests-requires-clause-server
has_requests-requires-clause-server g c = server_of_hub c.self.invariant c.args.self.now c.self.view_is c.args.node c.args.server c.requires.has
