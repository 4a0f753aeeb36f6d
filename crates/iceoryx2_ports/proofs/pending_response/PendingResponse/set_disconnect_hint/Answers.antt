use Rattle.std.specs.Prelude.{refl}
use Rattle.iox_model.specs.declared.call.Call.TheVariants.{SetHint}
use Rattle.iox_model.specs.declared.reply.Reply.TheVariants.{Done}
use Rattle.iceoryx2_ports.proofs.Staying.{asks_as_before}
use Rattle.iceoryx2_ports.proofs.Unclosed.{hint_keeps_requests}
use Rattle.iceoryx2_ports.proofs.Hinting.{hint_brings_nothing, hint_keeps_room}
use Rattle.iceoryx2_ports.proofs.SameShapes.{same_shapes}
use Rattle.iceoryx2_ports.proofs.pending_response.PendingResponse.set_disconnect_hint.Goals as goal

pub returns-clause-asks : goal.returns-clause-asks
returns-clause-asks g c =
    asks_as_before c.args.hub.now c.set_hint.new.self c.args.self.now.node (SetHint c.args.self.now.number) Done refl
    c.set_hint.ensures.whole

pub returns-clause-requests : goal.returns-clause-requests
returns-clause-requests g c =
    hint_keeps_requests c.args.hub.now c.set_hint.new.self c.args.self.now.node c.args.self.now.number Done c.set_hint.ensures.whole

pub returns-clause-shapes : goal.returns-clause-shapes
returns-clause-shapes g c =
    same_shapes c.args.hub.now c.set_hint.new.self c.args.self.now.node (SetHint c.args.self.now.number) Done
    c.set_hint.ensures.whole

pub returns-clause-comes : goal.returns-clause-comes
returns-clause-comes g c =
    hint_brings_nothing c.args.hub.now c.set_hint.new.self c.args.self.now.node c.args.self.now.number Done c.set_hint.ensures.whole

pub returns-clause-room : goal.returns-clause-room
returns-clause-room g c =
    hint_keeps_room c.args.hub.now c.set_hint.new.self c.args.self.now.node c.args.self.now.number Done c.set_hint.ensures.whole
