-- What holds of all messages of a hub, whatever history led to the state that it shows.
use Rattle.std.specs.Prelude.{◌≡◌, ℕ, ◌++◌, false, true, Some, IsTrue}
use Rattle.iox_model.specs.declared.call.Call.TheVariants.{Receive}
use Rattle.iox_model.specs.declared.kind.Kind.TheVariants.{ActiveRequest, Response}
use Rattle.iox_model.specs.declared.reply.Reply.TheVariants as replies
use Rattle.iox_model.specs.declared.way.Way.{Way}
use Rattle.iox_model.specs.Handles.{TheHandle, ThePort, is_received, own_state, subject, way_of}
use Rattle.iox_model.specs.Maps.{AreDistinct}
use Rattle.iox_model.specs.Messages.{Message, names, serials_of}
use Rattle.iox_model.specs.States.{Handle, Port, State}
use Rattle.iox_model.specs.WholeCalls.{IsWholeCall}
use Rattle.iox_laws.specs.MessageLaws.Deliveries.{messages_put_on, messages_taken_from}
use Rattle.iox_laws.specs.MessageLaws.Holdings.{CameBy}
use Rattle.iox_laws.specs.MessageLaws.Lists.{GivesThese, IsOneOf}
use Rattle.iox_laws.specs.MessageLaws.Origins.{WasSent}
use Rattle.iox_tables.specs.HubStates.Tables.{HandleState}
use Rattle.iox_tables.specs.HubStates.Wirings.{handle_in}
use Rattle.iox_hub.specs.Hubs.{HubState, IsReached, state_of_hub}
use Rattle.iox_hub_laws.specs.Shown.{beats_of, handle_of, shown}

-- On each way no message was delivered twice, and none was taken twice.
pub record ComeAtMostOnce (h : HubState) : Type 0 where
  pub delivered :
      (r : IsReached h) (y : Way) → AreDistinct (serials_of (messages_put_on y (beats_of h r)))
  pub taken :
      (r : IsReached h) (y : Way) → AreDistinct (serials_of (messages_taken_from y (beats_of h r)))

-- On each way, what was taken and what still waits comes in the order of delivery, whole: header,
-- user header and payload.
abbrev pub ComeInOrder : HubState → Type 0
ComeInOrder h =
    (r : IsReached h) (y : Way)
    → GivesThese (messages_put_on y (beats_of h r))
    (messages_taken_from y (beats_of h r) ++ (shown h).waiting y)

-- The message of each received handle was delivered on the handle's way, and taken there, word by
-- word.
abbrev pub AreAsDelivered : HubState → Type 0
AreAsDelivered h =
    (r : IsReached h) (node n : ℕ) (k : HandleState)
    → handle_in h.control.tables.handles node n ≡ Some k → is_received k.kind ≡ true
    → CameBy (way_of (handle_of h k)) (handle_of h k).message (beats_of h r)

-- Each message that was delivered was sent.
abbrev pub WereSent : HubState → Type 0
WereSent h =
    (r : IsReached h) (y : Way) (m : Message) → IsOneOf m (messages_put_on y (beats_of h r))
    → WasSent (state_of_hub r.0 h) r.1 y m

-- What a receive answers next comes at its own request: a response to that of its pending response,
-- and without fire-and-forget a request that its client did not give up.
pub record ComeAtTheirRequest (h : HubState) : Type 0 where
  pub responses :
      (r : IsReached h) (t : State) (node n k : ℕ) (pending : Handle)
      → subject (state_of_hub r.0 h).fixed node n ≡ Some (TheHandle pending)
      → IsWholeCall (state_of_hub r.0 h) node (Receive n) (replies.Handle k) t
      → (g : Handle) × (subject t.fixed node k ≡ Some (TheHandle g))
      × (g.kind ≡ Response) × (g.port ≡ pending.port)
      × (g.message.lane ≡ pending.lane) × (g.message.request ≡ pending.request)
  pub requests :
      (r : IsReached h) (t : State) (node n k : ℕ) (server : Port)
      → subject (state_of_hub r.0 h).fixed node n ≡ Some (ThePort server)
      → IsWholeCall (state_of_hub r.0 h) node (Receive n) (replies.Handle k) t
      → (g : Handle) × (subject t.fixed node k ≡ Some (TheHandle g))
      × (g.kind ≡ ActiveRequest) × (g.port ≡ server.number)
      × (h.control.tables.settings.fire_and_forget ≡ false
      → IsTrue (names (t.request_state (own_state g)) g.request))
