use Rattle.std.specs.Prelude.{flat_map, length, refl}
use Rattle.iox_model.specs.declared.call.Call.TheVariants.{Write}
use Rattle.iox_model.specs.declared.kind.Kind.TheVariants.{RequestMut}
use Rattle.iox_model.specs.declared.kind.Role.TheVariants as roles
use Rattle.iox_hub_laws.specs.Fills.{reply_of_write}
use Rattle.iox_hub_laws.specs.Lending.{payload_of}
use Rattle.iceoryx2_ports.proofs.Aside.{loan_asks_as_always}
use Rattle.iceoryx2_ports.proofs.Coming.{write_brings_nothing}
use Rattle.iceoryx2_ports.proofs.Reaching.{keeps_room}
use Rattle.iceoryx2_ports.proofs.Filled.{write_asks_as}
use Rattle.iceoryx2_ports.proofs.Remaining.{write_keeps_requests}
use Rattle.iceoryx2_ports.proofs.SameShapes.{same_shapes}
use Rattle.iceoryx2_ports.proofs.request_mut.RequestMut.set_payload_from_slice.Goals as goal

pub returns-in-Done-clause-comes : goal.returns-in-Done-clause-comes
returns-in-Done-clause-comes g c =
    write_brings_nothing c.args.hub.now c.write_request.new.self c.args.self.now.node c.args.self.now.number
    (payload_of roles.Client (length c.args.values.now) (flat_map g.Q.Element.Words.words c.args.values.now)) (reply_of_write c.write_request.result)
    c.write_request.ensures.whole

pub returns-in-Done-clause-asks : goal.returns-in-Done-clause-asks
returns-in-Done-clause-asks g c =
    loan_asks_as_always c.args.hub.now c.write_request.new.self c.args.self.now.node
    (Write c.args.self.now.number (payload_of roles.Client (length c.args.values.now) (flat_map g.Q.Element.Words.words c.args.values.now)))
    (reply_of_write c.write_request.result) refl c.write_request.ensures.whole RequestMut refl c.requires.has

pub returns-in-Done-clause-room : goal.returns-in-Done-clause-room
returns-in-Done-clause-room g c =
    keeps_room c.args.hub.now c.write_request.new.self c.args.self.now.node
    (Write c.args.self.now.number (payload_of roles.Client (length c.args.values.now) (flat_map g.Q.Element.Words.words c.args.values.now)))
    (reply_of_write c.write_request.result) refl c.write_request.ensures.whole

pub returns-in-Done-clause-asker : goal.returns-in-Done-clause-asker
returns-in-Done-clause-asker g c =
    write_asks_as c.args.hub.now c.write_request.new.self c.args.self.now.node c.args.self.now.number
    (payload_of roles.Client (length c.args.values.now) (flat_map g.Q.Element.Words.words c.args.values.now)) (reply_of_write c.write_request.result)
    c.write_request.ensures.whole RequestMut refl c.requires.has

pub returns-in-WrongLength-clause-asker : goal.returns-in-WrongLength-clause-asker
returns-in-WrongLength-clause-asker g c =
    write_asks_as c.args.hub.now c.write_request.new.self c.args.self.now.node c.args.self.now.number
    (payload_of roles.Client (length c.args.values.now) (flat_map g.Q.Element.Words.words c.args.values.now)) (reply_of_write c.write_request.result)
    c.write_request.ensures.whole RequestMut refl c.requires.has

pub returns-in-Done-clause-requests : goal.returns-in-Done-clause-requests
returns-in-Done-clause-requests g c =
    write_keeps_requests c.args.hub.now c.write_request.new.self c.args.self.now.node c.args.self.now.number
    (payload_of roles.Client (length c.args.values.now) (flat_map g.Q.Element.Words.words c.args.values.now)) (reply_of_write c.write_request.result)
    c.write_request.ensures.whole RequestMut refl c.requires.has

pub returns-in-WrongLength-clause-requests : goal.returns-in-WrongLength-clause-requests
returns-in-WrongLength-clause-requests g c =
    write_keeps_requests c.args.hub.now c.write_request.new.self c.args.self.now.node c.args.self.now.number
    (payload_of roles.Client (length c.args.values.now) (flat_map g.Q.Element.Words.words c.args.values.now)) (reply_of_write c.write_request.result)
    c.write_request.ensures.whole RequestMut refl c.requires.has

pub returns-in-Done-clause-shapes : goal.returns-in-Done-clause-shapes
returns-in-Done-clause-shapes g c =
    same_shapes c.args.hub.now c.write_request.new.self c.args.self.now.node (Write c.args.self.now.number (payload_of roles.Client (length c.args.values.now) (flat_map g.Q.Element.Words.words c.args.values.now))) (reply_of_write c.write_request.result)
    c.write_request.ensures.whole
