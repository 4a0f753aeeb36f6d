use Rattle.std.specs.Prelude.{flat_map, length}
use Rattle.iox_control_request_copies.specs.declared.copied.Copied.TheVariants.{To}
use Rattle.iox_hub.proofs.CopyingRequests.{client_is_there, copy_awaited, copy_call, copy_hub, copy_never_wants, copy_of, copy_room, copy_whole, copy_within, other_has, other_hub, other_left, other_whole}
use Rattle.iox_hub.proofs.CopyingWords.{asked_is}
use Rattle.iox_hub.proofs.GrowingRoom.{client_rooms}
use Rattle.iox_hub.proofs.KeepingCopies.{other_request_keeps, request_keeps_all}
use Rattle.iox_hub.proofs.LendingNamed.{client_of_hub}
use Rattle.iox_hub.proofs.hub.Hub.copy_request_in_room.Goals as goal

pub unreachable-requires : goal.unreachable-requires
unreachable-requires g c =
    client_is_there c.self.inside.control.tables c.args.node c.args.client
    (client_of_hub c.self.invariant c.args.self.now c.self.view_is c.args.node c.args.client c.requires.has)
    c.ports.result.now.ports c.ports.ensures.ports c.find.result c.find.ensures c.in_default.is

pub copy_request_in-requires-clause-requests : goal.copy_request_in-requires-clause-requests
copy_request_in-requires-clause-requests g c =
    copy_of c.self.invariant (length c.args.values.now) (flat_map g.Q.Element.Words.words c.args.values.now) c.args.node c.args.client c.copy_request-copied.new.control c.in-To.number c.in-To.servers c.in-To.place
    (copy_call c.self.invariant c.args.client c.ports.result.now.ports c.ports.ensures.ports c.find.result c.find.ensures c.in-Some.port c.in-Some.is _ c.find-handler.ensures
    c.asked_of-asked.result (length c.args.values.now) (flat_map g.Q.Element.Words.words c.args.values.now) c.args.node c.copy_request-copied.new.control (To c.in-To.number c.in-To.servers c.in-To.place)
    (asked_is g.Q.Payload.MANY g.Q.Element.Words.WORDS g.Q.Element.Words.words g.QH.Words.words c.self.inside.request (length c.args.values.now) c.asked_of-asked.result c.asked_of-asked.ensures)
    (client_of_hub c.self.invariant c.args.self.now c.self.view_is c.args.node c.args.client c.requires.has)
    c.in-To.ensures.left c.in-To.ensures.order c.in-To.ensures.whole)

pub copy_request_in-requires-clause-there : goal.copy_request_in-requires-clause-there
copy_request_in-requires-clause-there g c =
    copy_within c.self.invariant (length c.args.values.now) (flat_map g.Q.Element.Words.words c.args.values.now) c.args.node c.args.client c.copy_request-copied.new.control c.in-To.number c.in-To.servers c.in-To.place
    (copy_call c.self.invariant c.args.client c.ports.result.now.ports c.ports.ensures.ports c.find.result c.find.ensures c.in-Some.port c.in-Some.is _ c.find-handler.ensures
    c.asked_of-asked.result (length c.args.values.now) (flat_map g.Q.Element.Words.words c.args.values.now) c.args.node c.copy_request-copied.new.control (To c.in-To.number c.in-To.servers c.in-To.place)
    (asked_is g.Q.Payload.MANY g.Q.Element.Words.WORDS g.Q.Element.Words.words g.QH.Words.words c.self.inside.request (length c.args.values.now) c.asked_of-asked.result c.asked_of-asked.ensures)
    (client_of_hub c.self.invariant c.args.self.now c.self.view_is c.args.node c.args.client c.requires.has)
    c.in-To.ensures.left c.in-To.ensures.order c.in-To.ensures.whole)

pub copy_request_in-requires-clause-room : goal.copy_request_in-requires-clause-room
copy_request_in-requires-clause-room g c =
    copy_room c.self.invariant (length c.args.values.now) (flat_map g.Q.Element.Words.words c.args.values.now) c.args.node c.args.client c.copy_request-copied.new.control c.in-To.number c.in-To.servers c.in-To.place
    (copy_call c.self.invariant c.args.client c.ports.result.now.ports c.ports.ensures.ports c.find.result c.find.ensures c.in-Some.port c.in-Some.is _ c.find-handler.ensures
    c.asked_of-asked.result (length c.args.values.now) (flat_map g.Q.Element.Words.words c.args.values.now) c.args.node c.copy_request-copied.new.control (To c.in-To.number c.in-To.servers c.in-To.place)
    (asked_is g.Q.Payload.MANY g.Q.Element.Words.WORDS g.Q.Element.Words.words g.QH.Words.words c.self.inside.request (length c.args.values.now) c.asked_of-asked.result c.asked_of-asked.ensures)
    (client_of_hub c.self.invariant c.args.self.now c.self.view_is c.args.node c.args.client c.requires.has)
    c.in-To.ensures.left c.in-To.ensures.order c.in-To.ensures.whole)
    c.args.spare
    (client_rooms c.args.self.now c.self.view_is c.args.node c.args.client (length c.args.values.now) c.args.spare c.requires.room)

pub invariant_of-self : goal.invariant_of-self
invariant_of-self g c =
    copy_hub c.self.invariant (length c.args.values.now) (flat_map g.Q.Element.Words.words c.args.values.now) c.args.node c.args.client c.copy_request-copied.new.control c.in-To.number c.in-To.servers c.in-To.place
    (copy_call c.self.invariant c.args.client c.ports.result.now.ports c.ports.ensures.ports c.find.result c.find.ensures c.in-Some.port c.in-Some.is _ c.find-handler.ensures
    c.asked_of-asked.result (length c.args.values.now) (flat_map g.Q.Element.Words.words c.args.values.now) c.args.node c.copy_request-copied.new.control (To c.in-To.number c.in-To.servers c.in-To.place)
    (asked_is g.Q.Payload.MANY g.Q.Element.Words.WORDS g.Q.Element.Words.words g.QH.Words.words c.self.inside.request (length c.args.values.now) c.asked_of-asked.result c.asked_of-asked.ensures)
    (client_of_hub c.self.invariant c.args.self.now c.self.view_is c.args.node c.args.client c.requires.has)
    c.in-To.ensures.left c.in-To.ensures.order c.in-To.ensures.whole) _ c.copy_request_in.ensures

pub invariant_of-self-in_default-copied : goal.invariant_of-self-in_default-copied
invariant_of-self-in_default-copied g c =
    other_hub c.self.invariant (length c.args.values.now) (flat_map g.Q.Element.Words.words c.args.values.now) c.args.node c.args.client c.copy_request-copied.new.control c.copy_request-copied.result c.in_default-copied.not-To
    (copy_call c.self.invariant c.args.client c.ports.result.now.ports c.ports.ensures.ports c.find.result c.find.ensures c.in-Some.port c.in-Some.is _ c.find-handler.ensures
    c.asked_of-asked.result (length c.args.values.now) (flat_map g.Q.Element.Words.words c.args.values.now) c.args.node c.copy_request-copied.new.control c.copy_request-copied.result
    (asked_is g.Q.Payload.MANY g.Q.Element.Words.WORDS g.Q.Element.Words.words g.QH.Words.words c.self.inside.request (length c.args.values.now) c.asked_of-asked.result c.asked_of-asked.ensures)
    (client_of_hub c.self.invariant c.args.self.now c.self.view_is c.args.node c.args.client c.requires.has)
    c.copy_request-copied.ensures.left c.copy_request-copied.ensures.order c.copy_request-copied.ensures.whole)

pub returns-in-To-clause-reply : goal.returns-in-To-clause-reply
returns-in-To-clause-reply g c =
    rw (← c.self.view_is)
    (copy_call c.self.invariant c.args.client c.ports.result.now.ports c.ports.ensures.ports c.find.result c.find.ensures c.in-Some.port c.in-Some.is _ c.find-handler.ensures
    c.asked_of-asked.result (length c.args.values.now) (flat_map g.Q.Element.Words.words c.args.values.now) c.args.node c.copy_request-copied.new.control (To c.in-To.number c.in-To.servers c.in-To.place)
    (asked_is g.Q.Payload.MANY g.Q.Element.Words.WORDS g.Q.Element.Words.words g.QH.Words.words c.self.inside.request (length c.args.values.now) c.asked_of-asked.result c.asked_of-asked.ensures)
    (client_of_hub c.self.invariant c.args.self.now c.self.view_is c.args.node c.args.client c.requires.has)
    c.in-To.ensures.left c.in-To.ensures.order c.in-To.ensures.whole).reply

pub returns-in-To-clause-whole : goal.returns-in-To-clause-whole
returns-in-To-clause-whole g c =
    rw (← c.self.view_is) (copy_whole c.self.invariant (length c.args.values.now) (flat_map g.Q.Element.Words.words c.args.values.now) c.args.node c.args.client c.copy_request-copied.new.control c.in-To.number c.in-To.servers c.in-To.place
    (copy_call c.self.invariant c.args.client c.ports.result.now.ports c.ports.ensures.ports c.find.result c.find.ensures c.in-Some.port c.in-Some.is _ c.find-handler.ensures
    c.asked_of-asked.result (length c.args.values.now) (flat_map g.Q.Element.Words.words c.args.values.now) c.args.node c.copy_request-copied.new.control (To c.in-To.number c.in-To.servers c.in-To.place)
    (asked_is g.Q.Payload.MANY g.Q.Element.Words.WORDS g.Q.Element.Words.words g.QH.Words.words c.self.inside.request (length c.args.values.now) c.asked_of-asked.result c.asked_of-asked.ensures)
    (client_of_hub c.self.invariant c.args.self.now c.self.view_is c.args.node c.args.client c.requires.has)
    c.in-To.ensures.left c.in-To.ensures.order c.in-To.ensures.whole) _ c.copy_request_in.ensures)

pub returns-in-To-clause-has : goal.returns-in-To-clause-has
returns-in-To-clause-has g c =
    copy_awaited c.self.invariant (length c.args.values.now) (flat_map g.Q.Element.Words.words c.args.values.now) c.args.node c.args.client c.copy_request-copied.new.control c.in-To.number c.in-To.servers c.in-To.place
    (copy_call c.self.invariant c.args.client c.ports.result.now.ports c.ports.ensures.ports c.find.result c.find.ensures c.in-Some.port c.in-Some.is _ c.find-handler.ensures
    c.asked_of-asked.result (length c.args.values.now) (flat_map g.Q.Element.Words.words c.args.values.now) c.args.node c.copy_request-copied.new.control (To c.in-To.number c.in-To.servers c.in-To.place)
    (asked_is g.Q.Payload.MANY g.Q.Element.Words.WORDS g.Q.Element.Words.words g.QH.Words.words c.self.inside.request (length c.args.values.now) c.asked_of-asked.result c.asked_of-asked.ensures)
    (client_of_hub c.self.invariant c.args.self.now c.self.view_is c.args.node c.args.client c.requires.has)
    c.in-To.ensures.left c.in-To.ensures.order c.in-To.ensures.whole) _ c.copy_request_in.ensures

pub returns-in-To-clause-keeps : goal.returns-in-To-clause-keeps
returns-in-To-clause-keeps g c =
    rw (← c.self.view_is) (request_keeps_all c.self.invariant (length c.args.values.now) (flat_map g.Q.Element.Words.words c.args.values.now) c.args.node c.args.client c.copy_request-copied.new.control c.in-To.number c.in-To.servers c.in-To.place
    (copy_call c.self.invariant c.args.client c.ports.result.now.ports c.ports.ensures.ports c.find.result c.find.ensures c.in-Some.port c.in-Some.is _ c.find-handler.ensures
    c.asked_of-asked.result (length c.args.values.now) (flat_map g.Q.Element.Words.words c.args.values.now) c.args.node c.copy_request-copied.new.control (To c.in-To.number c.in-To.servers c.in-To.place)
    (asked_is g.Q.Payload.MANY g.Q.Element.Words.WORDS g.Q.Element.Words.words g.QH.Words.words c.self.inside.request (length c.args.values.now) c.asked_of-asked.result c.asked_of-asked.ensures)
    (client_of_hub c.self.invariant c.args.self.now c.self.view_is c.args.node c.args.client c.requires.has)
    c.in-To.ensures.left c.in-To.ensures.order c.in-To.ensures.whole) _ _ c.copy_request_in.ensures)

pub returns-in_default-copied : goal.returns-in_default-copied
returns-in_default-copied g c =
    rw (← c.self.view_is) (record {
      reply = (copy_call c.self.invariant c.args.client c.ports.result.now.ports c.ports.ensures.ports c.find.result c.find.ensures c.in-Some.port c.in-Some.is _ c.find-handler.ensures
          c.asked_of-asked.result (length c.args.values.now) (flat_map g.Q.Element.Words.words c.args.values.now) c.args.node c.copy_request-copied.new.control c.copy_request-copied.result
          (asked_is g.Q.Payload.MANY g.Q.Element.Words.WORDS g.Q.Element.Words.words g.QH.Words.words c.self.inside.request (length c.args.values.now) c.asked_of-asked.result c.asked_of-asked.ensures)
          (client_of_hub c.self.invariant c.args.self.now c.self.view_is c.args.node c.args.client c.requires.has)
          c.copy_request-copied.ensures.left c.copy_request-copied.ensures.order c.copy_request-copied.ensures.whole).reply;
      left = other_left c.self.invariant (length c.args.values.now) (flat_map g.Q.Element.Words.words c.args.values.now) c.args.node c.args.client c.copy_request-copied.new.control c.copy_request-copied.result c.in_default-copied.not-To
          (copy_call c.self.invariant c.args.client c.ports.result.now.ports c.ports.ensures.ports c.find.result c.find.ensures c.in-Some.port c.in-Some.is _ c.find-handler.ensures
          c.asked_of-asked.result (length c.args.values.now) (flat_map g.Q.Element.Words.words c.args.values.now) c.args.node c.copy_request-copied.new.control c.copy_request-copied.result
          (asked_is g.Q.Payload.MANY g.Q.Element.Words.WORDS g.Q.Element.Words.words g.QH.Words.words c.self.inside.request (length c.args.values.now) c.asked_of-asked.result c.asked_of-asked.ensures)
          (client_of_hub c.self.invariant c.args.self.now c.self.view_is c.args.node c.args.client c.requires.has)
          c.copy_request-copied.ensures.left c.copy_request-copied.ensures.order c.copy_request-copied.ensures.whole);
      whole = other_whole c.self.invariant (length c.args.values.now) (flat_map g.Q.Element.Words.words c.args.values.now) c.args.node c.args.client c.copy_request-copied.new.control c.copy_request-copied.result c.in_default-copied.not-To
          (copy_call c.self.invariant c.args.client c.ports.result.now.ports c.ports.ensures.ports c.find.result c.find.ensures c.in-Some.port c.in-Some.is _ c.find-handler.ensures
          c.asked_of-asked.result (length c.args.values.now) (flat_map g.Q.Element.Words.words c.args.values.now) c.args.node c.copy_request-copied.new.control c.copy_request-copied.result
          (asked_is g.Q.Payload.MANY g.Q.Element.Words.WORDS g.Q.Element.Words.words g.QH.Words.words c.self.inside.request (length c.args.values.now) c.asked_of-asked.result c.asked_of-asked.ensures)
          (client_of_hub c.self.invariant c.args.self.now c.self.view_is c.args.node c.args.client c.requires.has)
          c.copy_request-copied.ensures.left c.copy_request-copied.ensures.order c.copy_request-copied.ensures.whole);
      memory = copy_never_wants c.self.invariant (length c.args.values.now) (flat_map g.Q.Element.Words.words c.args.values.now) c.args.node c.args.client c.copy_request-copied.new.control c.copy_request-copied.result
          (copy_call c.self.invariant c.args.client c.ports.result.now.ports c.ports.ensures.ports c.find.result c.find.ensures c.in-Some.port c.in-Some.is _ c.find-handler.ensures
          c.asked_of-asked.result (length c.args.values.now) (flat_map g.Q.Element.Words.words c.args.values.now) c.args.node c.copy_request-copied.new.control c.copy_request-copied.result
          (asked_is g.Q.Payload.MANY g.Q.Element.Words.WORDS g.Q.Element.Words.words g.QH.Words.words c.self.inside.request (length c.args.values.now) c.asked_of-asked.result c.asked_of-asked.ensures)
          (client_of_hub c.self.invariant c.args.self.now c.self.view_is c.args.node c.args.client c.requires.has)
          c.copy_request-copied.ensures.left c.copy_request-copied.ensures.order c.copy_request-copied.ensures.whole);
      has = other_has c.self.invariant (length c.args.values.now) (flat_map g.Q.Element.Words.words c.args.values.now) c.args.node c.args.client c.copy_request-copied.new.control c.copy_request-copied.result c.in_default-copied.not-To;
      keeps = other_request_keeps c.self.invariant (length c.args.values.now) (flat_map g.Q.Element.Words.words c.args.values.now) c.args.node c.args.client c.copy_request-copied.new.control c.copy_request-copied.result c.in_default-copied.not-To
          (copy_call c.self.invariant c.args.client c.ports.result.now.ports c.ports.ensures.ports c.find.result c.find.ensures c.in-Some.port c.in-Some.is _ c.find-handler.ensures
          c.asked_of-asked.result (length c.args.values.now) (flat_map g.Q.Element.Words.words c.args.values.now) c.args.node c.copy_request-copied.new.control c.copy_request-copied.result
          (asked_is g.Q.Payload.MANY g.Q.Element.Words.WORDS g.Q.Element.Words.words g.QH.Words.words c.self.inside.request (length c.args.values.now) c.asked_of-asked.result c.asked_of-asked.ensures)
          (client_of_hub c.self.invariant c.args.self.now c.self.view_is c.args.node c.args.client c.requires.has)
          c.copy_request-copied.ensures.left c.copy_request-copied.ensures.order c.copy_request-copied.ensures.whole);
    })

pub returns-in-To-clause-memory : goal.returns-in-To-clause-memory
returns-in-To-clause-memory g c =
    copy_never_wants c.self.invariant (length c.args.values.now) (flat_map g.Q.Element.Words.words c.args.values.now) c.args.node c.args.client c.copy_request-copied.new.control (To c.in-To.number c.in-To.servers c.in-To.place)
    (copy_call c.self.invariant c.args.client c.ports.result.now.ports c.ports.ensures.ports c.find.result c.find.ensures c.in-Some.port c.in-Some.is _ c.find-handler.ensures
    c.asked_of-asked.result (length c.args.values.now) (flat_map g.Q.Element.Words.words c.args.values.now) c.args.node c.copy_request-copied.new.control (To c.in-To.number c.in-To.servers c.in-To.place)
    (asked_is g.Q.Payload.MANY g.Q.Element.Words.WORDS g.Q.Element.Words.words g.QH.Words.words c.self.inside.request (length c.args.values.now) c.asked_of-asked.result c.asked_of-asked.ensures)
    (client_of_hub c.self.invariant c.args.self.now c.self.view_is c.args.node c.args.client c.requires.has)
    c.in-To.ensures.left c.in-To.ensures.order c.in-To.ensures.whole)
