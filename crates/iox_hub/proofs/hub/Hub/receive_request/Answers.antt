use Rattle.iox_model.specs.declared.call.Call.TheVariants.{Receive}
use Rattle.iox_control.specs.Replies.{reply_of_receive}
use Rattle.iox_hub.proofs.Fitting.{fits_request}
use Rattle.iox_hub.proofs.GoesOn.{hub_goes_on, whole_of_hub}
use Rattle.iox_hub.proofs.KeepingCalls.{got_is_new, request_keeps}
use Rattle.iox_hub.proofs.Named.{server_of_hub}
use Rattle.iox_hub.proofs.ReceivedValues.{request_is_value}
use Rattle.iox_tables.specs.HubStates.Receives.{visits_at, wanted_by_server}
use Rattle.iox_hub.proofs.hub.Hub.receive_request.Goals as goal

pub invariant_of-self : goal.invariant_of-self
invariant_of-self g c =
    hub_goes_on _ c.receive_request.new.self c.args.node (Receive c.args.server) (reply_of_receive c.receive_request.result)
    c.self.invariant c.receive_request.ensures.order
    (fits_request _ c.self.inside.control.tables c.receive_request.new.self.tables c.self.invariant.words c.self.invariant.control.order c.args.node c.args.server
    (server_of_hub c.self.invariant c.args.self.now c.self.view_is c.args.node c.args.server c.requires.has) c.receive_request.ensures.left)
    c.receive_request.ensures.whole

pub returns-clause-whole : goal.returns-clause-whole
returns-clause-whole g c =
    rw (← c.self.view_is)
    (whole_of_hub c.self.invariant c.receive_request.new.self c.args.node (Receive c.args.server) (reply_of_receive c.receive_request.result) c.receive_request.ensures.whole)

pub receive_request-requires-clause-server : goal.receive_request-requires-clause-server
receive_request-requires-clause-server g c = server_of_hub c.self.invariant c.args.self.now c.self.view_is c.args.node c.args.server c.requires.has

pub returns-clause-has : goal.returns-clause-has
returns-clause-has g c =
    request_is_value c.self.inside.control c.receive_request.new.self c.args.node c.receive_request.result
    c.self.invariant.control c.receive_request.ensures.order c.args.server c.receive_request.ensures.left c.receive_request.ensures.reply

pub returns-clause-keeps : goal.returns-clause-keeps
returns-clause-keeps g c =
    rw (← c.self.view_is)
    (request_keeps c.self.invariant c.receive_request.new.self c.receive_request.ensures.order c.args.node c.args.server c.receive_request.ensures.left)

pub returns-clause-new : goal.returns-clause-new
returns-clause-new g c =
    rw (← c.self.view_is)
    (got_is_new c.self.invariant c.args.node
    (visits_at c.self.inside.control.tables c.args.server 0 (wanted_by_server c.self.inside.control.tables.settings.fire_and_forget))
    c.receive_request.result c.receive_request.ensures.reply)
