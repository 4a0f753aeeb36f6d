use Rattle.std.specs.Prelude.{flat_map, length}
use Rattle.std.proofs.Common.{sym, ◌∙◌}
use Rattle.iox_control.specs.Entries.{handle_state}
use Rattle.iox_hub.proofs.CopyingResponses.{answer_call, answer_never_wants, none_is, other_hub, other_left, other_whole, put_hub, put_left, put_of, put_room, put_whole, put_within}
use Rattle.iox_hub.proofs.CopyingWords.{asked_is}
use Rattle.iox_hub.proofs.GrowingRoom.{active_rooms}
use Rattle.iox_hub.proofs.KeepingCopies.{other_response_keeps, response_keeps_all}
use Rattle.iox_hub.proofs.LendingNamed.{active_of_hub}
use Rattle.iox_hub.proofs.hub.Hub.copy_response_in_room.Goals as goal

pub copy_response-answered-requires-clause-active : goal.copy_response-answered-requires-clause-active
copy_response-answered-requires-clause-active g c =
    active_of_hub c.self.invariant c.args.self.now c.self.view_is c.args.node c.args.number c.requires.has

pub copy_response_in-requires-clause-responses : goal.copy_response_in-requires-clause-responses
copy_response_in-requires-clause-responses g c =
    put_of c.self.invariant (length c.args.values.now) (flat_map g.P.Element.Words.words c.args.values.now) c.args.node c.args.number c.copy_response-answered.new.control c.copy_response-answered.result c.in-Some-place_of.place (sym c.place_of.ensures ∙ c.in-Some-place_of.is)
    (answer_call c.self.invariant (handle_state c.in-Some.entry) c.args.node c.args.number c.in-Some.ensures c.fails_at_client-fails.result c.fails_at_client-fails.ensures
    c.asked_of-asked.result (length c.args.values.now) (flat_map g.P.Element.Words.words c.args.values.now) c.copy_response-answered.new.control c.copy_response-answered.result
    (asked_is g.P.Payload.MANY g.P.Element.Words.WORDS g.P.Element.Words.words g.PH.Words.words c.self.inside.response (length c.args.values.now) c.asked_of-asked.result c.asked_of-asked.ensures)
    (active_of_hub c.self.invariant c.args.self.now c.self.view_is c.args.node c.args.number c.requires.has)
    c.copy_response-answered.ensures.left c.copy_response-answered.ensures.order c.copy_response-answered.ensures.whole)

pub copy_response_in-requires-clause-there : goal.copy_response_in-requires-clause-there
copy_response_in-requires-clause-there g c =
    put_within c.self.invariant (length c.args.values.now) (flat_map g.P.Element.Words.words c.args.values.now) c.args.node c.args.number c.copy_response-answered.new.control c.copy_response-answered.result c.in-Some-place_of.place (sym c.place_of.ensures ∙ c.in-Some-place_of.is)
    (answer_call c.self.invariant (handle_state c.in-Some.entry) c.args.node c.args.number c.in-Some.ensures c.fails_at_client-fails.result c.fails_at_client-fails.ensures
    c.asked_of-asked.result (length c.args.values.now) (flat_map g.P.Element.Words.words c.args.values.now) c.copy_response-answered.new.control c.copy_response-answered.result
    (asked_is g.P.Payload.MANY g.P.Element.Words.WORDS g.P.Element.Words.words g.PH.Words.words c.self.inside.response (length c.args.values.now) c.asked_of-asked.result c.asked_of-asked.ensures)
    (active_of_hub c.self.invariant c.args.self.now c.self.view_is c.args.node c.args.number c.requires.has)
    c.copy_response-answered.ensures.left c.copy_response-answered.ensures.order c.copy_response-answered.ensures.whole)

pub copy_response_in-requires-clause-room : goal.copy_response_in-requires-clause-room
copy_response_in-requires-clause-room g c =
    put_room c.self.invariant (length c.args.values.now) (flat_map g.P.Element.Words.words c.args.values.now) c.args.node c.args.number c.copy_response-answered.new.control c.copy_response-answered.result c.in-Some-place_of.place (sym c.place_of.ensures ∙ c.in-Some-place_of.is)
    (answer_call c.self.invariant (handle_state c.in-Some.entry) c.args.node c.args.number c.in-Some.ensures c.fails_at_client-fails.result c.fails_at_client-fails.ensures
    c.asked_of-asked.result (length c.args.values.now) (flat_map g.P.Element.Words.words c.args.values.now) c.copy_response-answered.new.control c.copy_response-answered.result
    (asked_is g.P.Payload.MANY g.P.Element.Words.WORDS g.P.Element.Words.words g.PH.Words.words c.self.inside.response (length c.args.values.now) c.asked_of-asked.result c.asked_of-asked.ensures)
    (active_of_hub c.self.invariant c.args.self.now c.self.view_is c.args.node c.args.number c.requires.has)
    c.copy_response-answered.ensures.left c.copy_response-answered.ensures.order c.copy_response-answered.ensures.whole)
    c.args.spare
    (active_rooms c.args.self.now c.self.view_is c.args.node c.args.number (length c.args.values.now) c.args.spare c.requires.room)

pub invariant_of-self : goal.invariant_of-self
invariant_of-self g c =
    put_hub c.self.invariant (length c.args.values.now) (flat_map g.P.Element.Words.words c.args.values.now) c.args.node c.args.number c.copy_response-answered.new.control c.copy_response-answered.result c.in-Some-place_of.place (sym c.place_of.ensures ∙ c.in-Some-place_of.is)
    (answer_call c.self.invariant (handle_state c.in-Some.entry) c.args.node c.args.number c.in-Some.ensures c.fails_at_client-fails.result c.fails_at_client-fails.ensures
    c.asked_of-asked.result (length c.args.values.now) (flat_map g.P.Element.Words.words c.args.values.now) c.copy_response-answered.new.control c.copy_response-answered.result
    (asked_is g.P.Payload.MANY g.P.Element.Words.WORDS g.P.Element.Words.words g.PH.Words.words c.self.inside.response (length c.args.values.now) c.asked_of-asked.result c.asked_of-asked.ensures)
    (active_of_hub c.self.invariant c.args.self.now c.self.view_is c.args.node c.args.number c.requires.has)
    c.copy_response-answered.ensures.left c.copy_response-answered.ensures.order c.copy_response-answered.ensures.whole) _ c.copy_response_in.ensures

pub invariant_of-self-in_default-place_of : goal.invariant_of-self-in_default-place_of
invariant_of-self-in_default-place_of g c =
    other_hub c.self.invariant (length c.args.values.now) (flat_map g.P.Element.Words.words c.args.values.now) c.args.node c.args.number c.copy_response-answered.new.control c.copy_response-answered.result (none_is c.self.invariant (length c.args.values.now) (flat_map g.P.Element.Words.words c.args.values.now) c.args.node c.args.number c.copy_response-answered.new.control c.copy_response-answered.result (sym c.place_of.ensures ∙ c.in_default-place_of.is))
    (answer_call c.self.invariant (handle_state c.in-Some.entry) c.args.node c.args.number c.in-Some.ensures c.fails_at_client-fails.result c.fails_at_client-fails.ensures
    c.asked_of-asked.result (length c.args.values.now) (flat_map g.P.Element.Words.words c.args.values.now) c.copy_response-answered.new.control c.copy_response-answered.result
    (asked_is g.P.Payload.MANY g.P.Element.Words.WORDS g.P.Element.Words.words g.PH.Words.words c.self.inside.response (length c.args.values.now) c.asked_of-asked.result c.asked_of-asked.ensures)
    (active_of_hub c.self.invariant c.args.self.now c.self.view_is c.args.node c.args.number c.requires.has)
    c.copy_response-answered.ensures.left c.copy_response-answered.ensures.order c.copy_response-answered.ensures.whole)

pub returns-in-Some-place_of : goal.returns-in-Some-place_of
returns-in-Some-place_of g c =
    rw (← c.self.view_is) (record {
      reply = (answer_call c.self.invariant (handle_state c.in-Some.entry) c.args.node c.args.number c.in-Some.ensures c.fails_at_client-fails.result c.fails_at_client-fails.ensures
          c.asked_of-asked.result (length c.args.values.now) (flat_map g.P.Element.Words.words c.args.values.now) c.copy_response-answered.new.control c.copy_response-answered.result
          (asked_is g.P.Payload.MANY g.P.Element.Words.WORDS g.P.Element.Words.words g.PH.Words.words c.self.inside.response (length c.args.values.now) c.asked_of-asked.result c.asked_of-asked.ensures)
          (active_of_hub c.self.invariant c.args.self.now c.self.view_is c.args.node c.args.number c.requires.has)
          c.copy_response-answered.ensures.left c.copy_response-answered.ensures.order c.copy_response-answered.ensures.whole).reply;
      left = put_left c.self.invariant (length c.args.values.now) (flat_map g.P.Element.Words.words c.args.values.now) c.args.node c.args.number c.copy_response-answered.new.control c.copy_response-answered.result c.in-Some-place_of.place (sym c.place_of.ensures ∙ c.in-Some-place_of.is)
          (answer_call c.self.invariant (handle_state c.in-Some.entry) c.args.node c.args.number c.in-Some.ensures c.fails_at_client-fails.result c.fails_at_client-fails.ensures
          c.asked_of-asked.result (length c.args.values.now) (flat_map g.P.Element.Words.words c.args.values.now) c.copy_response-answered.new.control c.copy_response-answered.result
          (asked_is g.P.Payload.MANY g.P.Element.Words.WORDS g.P.Element.Words.words g.PH.Words.words c.self.inside.response (length c.args.values.now) c.asked_of-asked.result c.asked_of-asked.ensures)
          (active_of_hub c.self.invariant c.args.self.now c.self.view_is c.args.node c.args.number c.requires.has)
          c.copy_response-answered.ensures.left c.copy_response-answered.ensures.order c.copy_response-answered.ensures.whole) _ c.copy_response_in.ensures;
      whole = put_whole c.self.invariant (length c.args.values.now) (flat_map g.P.Element.Words.words c.args.values.now) c.args.node c.args.number c.copy_response-answered.new.control c.copy_response-answered.result c.in-Some-place_of.place (sym c.place_of.ensures ∙ c.in-Some-place_of.is)
          (answer_call c.self.invariant (handle_state c.in-Some.entry) c.args.node c.args.number c.in-Some.ensures c.fails_at_client-fails.result c.fails_at_client-fails.ensures
          c.asked_of-asked.result (length c.args.values.now) (flat_map g.P.Element.Words.words c.args.values.now) c.copy_response-answered.new.control c.copy_response-answered.result
          (asked_is g.P.Payload.MANY g.P.Element.Words.WORDS g.P.Element.Words.words g.PH.Words.words c.self.inside.response (length c.args.values.now) c.asked_of-asked.result c.asked_of-asked.ensures)
          (active_of_hub c.self.invariant c.args.self.now c.self.view_is c.args.node c.args.number c.requires.has)
          c.copy_response-answered.ensures.left c.copy_response-answered.ensures.order c.copy_response-answered.ensures.whole) _ c.copy_response_in.ensures;
      memory = answer_never_wants c.self.invariant (length c.args.values.now) (flat_map g.P.Element.Words.words c.args.values.now) c.args.node c.args.number c.copy_response-answered.new.control c.copy_response-answered.result
          (answer_call c.self.invariant (handle_state c.in-Some.entry) c.args.node c.args.number c.in-Some.ensures c.fails_at_client-fails.result c.fails_at_client-fails.ensures
          c.asked_of-asked.result (length c.args.values.now) (flat_map g.P.Element.Words.words c.args.values.now) c.copy_response-answered.new.control c.copy_response-answered.result
          (asked_is g.P.Payload.MANY g.P.Element.Words.WORDS g.P.Element.Words.words g.PH.Words.words c.self.inside.response (length c.args.values.now) c.asked_of-asked.result c.asked_of-asked.ensures)
          (active_of_hub c.self.invariant c.args.self.now c.self.view_is c.args.node c.args.number c.requires.has)
          c.copy_response-answered.ensures.left c.copy_response-answered.ensures.order c.copy_response-answered.ensures.whole);
      keeps = response_keeps_all c.self.invariant (length c.args.values.now) (flat_map g.P.Element.Words.words c.args.values.now) c.args.node c.args.number c.copy_response-answered.new.control c.copy_response-answered.result c.in-Some-place_of.place (sym c.place_of.ensures ∙ c.in-Some-place_of.is)
          (answer_call c.self.invariant (handle_state c.in-Some.entry) c.args.node c.args.number c.in-Some.ensures c.fails_at_client-fails.result c.fails_at_client-fails.ensures
          c.asked_of-asked.result (length c.args.values.now) (flat_map g.P.Element.Words.words c.args.values.now) c.copy_response-answered.new.control c.copy_response-answered.result
          (asked_is g.P.Payload.MANY g.P.Element.Words.WORDS g.P.Element.Words.words g.PH.Words.words c.self.inside.response (length c.args.values.now) c.asked_of-asked.result c.asked_of-asked.ensures)
          (active_of_hub c.self.invariant c.args.self.now c.self.view_is c.args.node c.args.number c.requires.has)
          c.copy_response-answered.ensures.left c.copy_response-answered.ensures.order c.copy_response-answered.ensures.whole) _ _ c.copy_response_in.ensures;
    })

pub returns-in_default-place_of : goal.returns-in_default-place_of
returns-in_default-place_of g c =
    rw (← c.self.view_is) (record {
      reply = (answer_call c.self.invariant (handle_state c.in-Some.entry) c.args.node c.args.number c.in-Some.ensures c.fails_at_client-fails.result c.fails_at_client-fails.ensures
          c.asked_of-asked.result (length c.args.values.now) (flat_map g.P.Element.Words.words c.args.values.now) c.copy_response-answered.new.control c.copy_response-answered.result
          (asked_is g.P.Payload.MANY g.P.Element.Words.WORDS g.P.Element.Words.words g.PH.Words.words c.self.inside.response (length c.args.values.now) c.asked_of-asked.result c.asked_of-asked.ensures)
          (active_of_hub c.self.invariant c.args.self.now c.self.view_is c.args.node c.args.number c.requires.has)
          c.copy_response-answered.ensures.left c.copy_response-answered.ensures.order c.copy_response-answered.ensures.whole).reply;
      left = other_left c.self.invariant (length c.args.values.now) (flat_map g.P.Element.Words.words c.args.values.now) c.args.node c.args.number c.copy_response-answered.new.control c.copy_response-answered.result (none_is c.self.invariant (length c.args.values.now) (flat_map g.P.Element.Words.words c.args.values.now) c.args.node c.args.number c.copy_response-answered.new.control c.copy_response-answered.result (sym c.place_of.ensures ∙ c.in_default-place_of.is))
          (answer_call c.self.invariant (handle_state c.in-Some.entry) c.args.node c.args.number c.in-Some.ensures c.fails_at_client-fails.result c.fails_at_client-fails.ensures
          c.asked_of-asked.result (length c.args.values.now) (flat_map g.P.Element.Words.words c.args.values.now) c.copy_response-answered.new.control c.copy_response-answered.result
          (asked_is g.P.Payload.MANY g.P.Element.Words.WORDS g.P.Element.Words.words g.PH.Words.words c.self.inside.response (length c.args.values.now) c.asked_of-asked.result c.asked_of-asked.ensures)
          (active_of_hub c.self.invariant c.args.self.now c.self.view_is c.args.node c.args.number c.requires.has)
          c.copy_response-answered.ensures.left c.copy_response-answered.ensures.order c.copy_response-answered.ensures.whole);
      whole = other_whole c.self.invariant (length c.args.values.now) (flat_map g.P.Element.Words.words c.args.values.now) c.args.node c.args.number c.copy_response-answered.new.control c.copy_response-answered.result (none_is c.self.invariant (length c.args.values.now) (flat_map g.P.Element.Words.words c.args.values.now) c.args.node c.args.number c.copy_response-answered.new.control c.copy_response-answered.result (sym c.place_of.ensures ∙ c.in_default-place_of.is))
          (answer_call c.self.invariant (handle_state c.in-Some.entry) c.args.node c.args.number c.in-Some.ensures c.fails_at_client-fails.result c.fails_at_client-fails.ensures
          c.asked_of-asked.result (length c.args.values.now) (flat_map g.P.Element.Words.words c.args.values.now) c.copy_response-answered.new.control c.copy_response-answered.result
          (asked_is g.P.Payload.MANY g.P.Element.Words.WORDS g.P.Element.Words.words g.PH.Words.words c.self.inside.response (length c.args.values.now) c.asked_of-asked.result c.asked_of-asked.ensures)
          (active_of_hub c.self.invariant c.args.self.now c.self.view_is c.args.node c.args.number c.requires.has)
          c.copy_response-answered.ensures.left c.copy_response-answered.ensures.order c.copy_response-answered.ensures.whole);
      memory = answer_never_wants c.self.invariant (length c.args.values.now) (flat_map g.P.Element.Words.words c.args.values.now) c.args.node c.args.number c.copy_response-answered.new.control c.copy_response-answered.result
          (answer_call c.self.invariant (handle_state c.in-Some.entry) c.args.node c.args.number c.in-Some.ensures c.fails_at_client-fails.result c.fails_at_client-fails.ensures
          c.asked_of-asked.result (length c.args.values.now) (flat_map g.P.Element.Words.words c.args.values.now) c.copy_response-answered.new.control c.copy_response-answered.result
          (asked_is g.P.Payload.MANY g.P.Element.Words.WORDS g.P.Element.Words.words g.PH.Words.words c.self.inside.response (length c.args.values.now) c.asked_of-asked.result c.asked_of-asked.ensures)
          (active_of_hub c.self.invariant c.args.self.now c.self.view_is c.args.node c.args.number c.requires.has)
          c.copy_response-answered.ensures.left c.copy_response-answered.ensures.order c.copy_response-answered.ensures.whole);
      keeps = other_response_keeps c.self.invariant (length c.args.values.now) (flat_map g.P.Element.Words.words c.args.values.now) c.args.node c.args.number c.copy_response-answered.new.control c.copy_response-answered.result (none_is c.self.invariant (length c.args.values.now) (flat_map g.P.Element.Words.words c.args.values.now) c.args.node c.args.number c.copy_response-answered.new.control c.copy_response-answered.result (sym c.place_of.ensures ∙ c.in_default-place_of.is))
          (answer_call c.self.invariant (handle_state c.in-Some.entry) c.args.node c.args.number c.in-Some.ensures c.fails_at_client-fails.result c.fails_at_client-fails.ensures
          c.asked_of-asked.result (length c.args.values.now) (flat_map g.P.Element.Words.words c.args.values.now) c.copy_response-answered.new.control c.copy_response-answered.result
          (asked_is g.P.Payload.MANY g.P.Element.Words.WORDS g.P.Element.Words.words g.PH.Words.words c.self.inside.response (length c.args.values.now) c.asked_of-asked.result c.asked_of-asked.ensures)
          (active_of_hub c.self.invariant c.args.self.now c.self.view_is c.args.node c.args.number c.requires.has)
          c.copy_response-answered.ensures.left c.copy_response-answered.ensures.order c.copy_response-answered.ensures.whole);
    })
