use Rattle.iox_model.specs.declared.call.Call.TheVariants.{Receive}
use Rattle.iox_control.specs.Replies.{reply_of_receive}
use Rattle.iox_hub.proofs.Fitting.{fits_response}
use Rattle.iox_hub.proofs.GoesOn.{hub_goes_on, whole_of_hub}
use Rattle.iox_hub.proofs.Named.{pending_of_hub}
use Rattle.iox_hub.proofs.ReceivedValues.{response_is_value}
use Rattle.iox_lanes.specs.declared.wanted.Wanted.TheVariants.{Of}
use Rattle.iox_tables.specs.HubStates.Receives.{visits_at}
use Rattle.iox_tables.specs.HubStates.Tables.{labels_of}
use Rattle.iox_hub.proofs.KeepingCalls.{got_is_new, response_keeps}
use Rattle.iox_hub.proofs.hub.Hub.receive_response.Goals as goal

pub invariant_of-self : goal.invariant_of-self
invariant_of-self g c =
    hub_goes_on _ c.receive_response.new.self c.args.node (Receive c.args.number) (reply_of_receive c.receive_response.result)
    c.self.invariant c.receive_response.ensures.order
    (fits_response _ c.self.inside.control.tables c.receive_response.new.self.tables c.self.invariant.words c.self.invariant.control.order c.args.node c.args.number
    (pending_of_hub c.self.invariant c.args.self.now c.self.view_is c.args.node c.args.number c.requires.has)
    (c.receive_response.ensures.left
    (pending_of_hub c.self.invariant c.args.self.now c.self.view_is c.args.node c.args.number c.requires.has).handle
    (pending_of_hub c.self.invariant c.args.self.now c.self.view_is c.args.node c.args.number c.requires.has).named.there))
    c.receive_response.ensures.whole

pub returns-clause-whole : goal.returns-clause-whole
returns-clause-whole g c =
    rw (← c.self.view_is)
    (whole_of_hub c.self.invariant c.receive_response.new.self c.args.node (Receive c.args.number) (reply_of_receive c.receive_response.result) c.receive_response.ensures.whole)

pub receive_response-requires-clause-pending : goal.receive_response-requires-clause-pending
receive_response-requires-clause-pending g c = pending_of_hub c.self.invariant c.args.self.now c.self.view_is c.args.node c.args.number c.requires.has

pub returns-clause-has : goal.returns-clause-has
returns-clause-has g c =
    response_is_value c.self.inside.control c.receive_response.new.self c.args.node c.receive_response.result
    c.self.invariant.control c.receive_response.ensures.order c.args.number
    (pending_of_hub c.self.invariant c.args.self.now c.self.view_is c.args.node c.args.number c.requires.has)
    c.receive_response.ensures.left c.receive_response.ensures.reply

pub returns-clause-keeps : goal.returns-clause-keeps
returns-clause-keeps g c =
    rw (← c.self.view_is)
    (response_keeps c.self.invariant c.receive_response.new.self c.receive_response.ensures.order c.args.node c.args.number
    (pending_of_hub c.self.invariant c.args.self.now c.self.view_is c.args.node c.args.number c.requires.has) c.receive_response.ensures.left)

pub returns-clause-new : goal.returns-clause-new
returns-clause-new g c =
    rw (← c.self.view_is)
    (let pending = pending_of_hub c.self.invariant c.args.self.now c.self.view_is c.args.node c.args.number c.requires.has in
    let l = labels_of c.self.inside.control.tables.pools pending.handle.pool pending.handle.slot in
    got_is_new c.self.invariant c.args.node (visits_at c.self.inside.control.tables pending.handle.port l.lane (Of l.request))
    c.receive_response.result (c.receive_response.ensures.reply pending.handle pending.named.there))
