use Rattle.iox_model.specs.declared.call.Call.TheVariants.{IsConnected}
use Rattle.iox_model.specs.declared.reply.Reply.TheVariants.{Answer}
use Rattle.iox_hub.proofs.GoesOn.{whole_of_hub}
use Rattle.iox_hub.proofs.SendingHubs.{either_of_hub}
use Rattle.iox_hub.proofs.hub.Hub.is_connected.Goals as goal

pub returns : goal.returns
returns g c =
    rw (← c.self.view_is)
    (record { whole = whole_of_hub c.self.invariant c.self.inside.control c.args.node (IsConnected c.args.number) (Answer c.is_connected.result) c.is_connected.ensures.whole })

pub is_connected-requires-clause-handle : goal.is_connected-requires-clause-handle
is_connected-requires-clause-handle g c = either_of_hub c.self.invariant c.args.self.now c.self.view_is c.args.node c.args.number c.requires.has
