use Rattle.iox_model.specs.declared.call.Call.TheVariants.{HasHint}
use Rattle.iox_model.specs.declared.reply.Reply.TheVariants.{Answer}
use Rattle.iox_hub.proofs.GoesOn.{whole_of_hub}
use Rattle.iox_hub.proofs.SendingHubs.{active_of_hub}
use Rattle.iox_hub.proofs.hub.Hub.has_hint.Goals as goal

pub returns : goal.returns
returns g c =
    rw (← c.self.view_is)
    (record { whole = whole_of_hub c.self.invariant c.self.inside.control c.args.node (HasHint c.args.number) (Answer c.has_hint.result) c.has_hint.ensures.whole })

pub has_hint-requires-clause-handle : goal.has_hint-requires-clause-handle
has_hint-requires-clause-handle g c = active_of_hub c.self.invariant c.args.self.now c.self.view_is c.args.node c.args.number c.requires.has
