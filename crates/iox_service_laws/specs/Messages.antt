-- What holds of all messages, whatever history led to the state.
use Rattle.std.specs.Prelude.{◌≡◌, ℕ, false, List, ◌++◌, Some, IsTrue}
use Rattle.iox_model.specs.declared.command.Command.TheVariants.{Port}
use Rattle.iox_model.specs.declared.command.PortCommand.TheVariants.{Read, Receive}
use Rattle.iox_model.specs.declared.kind.Kind.TheVariants.{ActiveRequest, Response}
use Rattle.iox_model.specs.declared.reply.Reply.TheVariants as replies
use Rattle.iox_model.specs.declared.way.Way.{Way}
use Rattle.iox_model.specs.Handles.{TheHandle, ThePort, is_received, own_state, subject, way_of}
use Rattle.iox_model.specs.Maps.{AreDistinct}
use Rattle.iox_model.specs.Messages.{Message, names}
use Rattle.iox_model.specs.Runs.{IsReachableState}
use Rattle.iox_model.specs.Services.{IsCommand}
use Rattle.iox_model.specs.States as m
use Rattle.iox_model.specs.States.{Handle, State}
use Rattle.iox_laws.specs.MessageLaws.Deliveries.{messages_put_on}
use Rattle.iox_laws.specs.MessageLaws.Holdings.{CameBy}
use Rattle.iox_laws.specs.MessageLaws.Lists.{IsOneOf}
use Rattle.iox_laws.specs.MessageLaws.Orders.{AreWholeInOrder}
use Rattle.iox_laws.specs.MessageLaws.Origins.{WasSent}
use Rattle.iox_laws.specs.RunLaws.Traces.{beats_of_reached}
use Rattle.iox_laws.specs.WeaveLaws.OrderLaws.{all_put_on, all_taken_from}

-- On each way no message was delivered twice, and none was taken twice.
pub record ComeAtMostOnce (s : State) : Type 0 where
  pub delivered :
      (r : IsReachableState s) (y : Way) → AreDistinct (all_put_on y (beats_of_reached s r))
  pub taken :
      (r : IsReachableState s) (y : Way) → AreDistinct (all_taken_from y (beats_of_reached s r))

-- On each way, what was taken and what still waits comes in the order of delivery, whole.
pub record ComeInOrder (s : State) : Type 0 where
  pub order : (r : IsReachableState s) (y : Way) → AreWholeInOrder y (beats_of_reached s r) s

-- What a handle has that was received was delivered on its way and taken from there, whole. A read
-- answers the words of its handle's message, user header and payload, and changes nothing.
pub record AreAsDelivered (s : State) : Type 0 where
  pub had :
      (r : IsReachableState s) (node : ℕ) (h : Handle)
      → IsOneOf h (s.fixed.handles node) → IsTrue (is_received h.kind)
      → CameBy (way_of h) h.message (beats_of_reached s r)
  pub read :
      (t : State) (node n : ℕ) (words : List ℕ)
      → IsCommand s (Port (Read node n)) (replies.Words words) t
      → (h : Handle) × (subject s.fixed node n ≡ Some (TheHandle h))
      × IsOneOf h (s.fixed.handles node)
      × (words ≡ h.message.user ++ h.message.payload) × (t ≡ s)

-- Each message that was delivered was sent, by some step of the same history.
pub record WereSent (s : State) : Type 0 where
  pub sent :
      (r : IsReachableState s) (y : Way) (m : Message)
      → IsOneOf m (messages_put_on y (beats_of_reached s r)) → WasSent s r y m

-- What a receive answers next comes at its own request: a response to that of its pending response,
-- and without fire-and-forget a request that its client did not give up.
pub record ComeAtTheirRequest (s : State) : Type 0 where
  pub responses :
      (t : State) (node n k : ℕ) (h : Handle) → subject s.fixed node n ≡ Some (TheHandle h)
      → IsCommand s (Port (Receive node n)) (replies.Handle k) t
      → (g : Handle) × (subject t.fixed node k ≡ Some (TheHandle g))
      × (g.kind ≡ Response) × (g.port ≡ h.port)
      × (g.message.lane ≡ h.lane) × (g.message.request ≡ h.request)
  pub requests :
      (t : State) (node n k : ℕ) (p : m.Port) → subject s.fixed node n ≡ Some (ThePort p)
      → IsCommand s (Port (Receive node n)) (replies.Handle k) t
      → (g : Handle) × (subject t.fixed node k ≡ Some (TheHandle g))
      × (g.kind ≡ ActiveRequest) × (g.port ≡ p.number)
      × (s.fixed.limits.fire_and_forget ≡ false
      → IsTrue (names (t.request_state (own_state g)) g.request))
