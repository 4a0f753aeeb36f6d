-- What is read at a receiver was sent by a step of the same history.
use Rattle.std.specs.Prelude.{◌≡◌, ℕ, List, [], ◌∷◌, Option, Some, None, IsTrue, ◌⊎◌}
use Rattle.iox_model.specs.declared.call.Call.TheVariants.{Read}
use Rattle.iox_model.specs.declared.command.Command.TheVariants.{Port}
use Rattle.iox_model.specs.declared.reply.Reply.TheVariants.{Words}
use Rattle.iox_model.specs.declared.way.Way.{Way}
use Rattle.iox_model.specs.Commands.{HubCommand, Create, Use, asking}
use Rattle.iox_model.specs.Handles.{is_received, way_of, subject, TheHandle}
use Rattle.iox_model.specs.Messages.{Message}
use Rattle.iox_model.specs.Runs.{created, ServiceStep, OfService, OfHub, IsHistory, IsReachableState}
use Rattle.iox_model.specs.States.{Handle, Fixed, State}
use Rattle.iox_model.specs.WholeCalls.{IsWholeCall}
use Rattle.iox_laws.specs.RunLaws.Traces.{beats_of_step, beats_of_reached}
use Rattle.iox_laws.specs.MessageLaws.Deliveries.{messages_put_on}
use Rattle.iox_laws.specs.MessageLaws.Lists.{IsOneOf}
use Rattle.iox_laws.specs.MessageLaws.Readings.{words_of}
use Rattle.iox_laws.specs.MessageLaws.Sendings.{sent_message}

-- the message that a step of a service or its hub sends: that of its call, if it is one
abbrev pub sent_by_command : Fixed → ℕ → ℕ → HubCommand → Option Message
sent_by_command f node lane (Use call) = sent_message f node lane call
sent_by_command f node lane (Create role id o) = None

-- the message that a step of a history sends, if it sends one
abbrev pub sent_by_step : Fixed → ℕ → ServiceStep → Option Message
sent_by_step f lane (OfService (Port command) reply) =
    sent_by_command f (asking command).0 lane (asking command).1
sent_by_step f lane (OfHub node command reply) = sent_by_command f node lane command
sent_by_step f lane x = None

-- some step of the history delivers the message on the way, and it is what that step sends
abbrev pub IsSentAlong : Way → Message → (s : State) (xs : List ServiceStep) (t : State)
    → IsHistory s xs t → Type 0
IsSentAlong y m s [] t history = ⊥
IsSentAlong y m s (x ∷ xs) t history =
    (IsOneOf m (messages_put_on y (beats_of_step s x history.0 history.1))
    × ((lane : ℕ) × (sent_by_step s.fixed lane x ≡ Some m)))
    ⊎ IsSentAlong y m history.0 xs t history.2

-- some step of the history that led to the state sent this message on the way
abbrev pub WasSent : (s : State) → IsReachableState s → Way → Message → Type 0
WasSent s reached y m =
    IsSentAlong y m (created reached.limits reached.acts reached.id) reached.steps s reached.history

-- Each message that was delivered was sent.
abbrev pub EachWasSent : Type 0
EachWasSent =
    (s : State) (reached : IsReachableState s) (y : Way) (m : Message)
    → IsOneOf m (messages_put_on y (beats_of_reached s reached)) → WasSent s reached y m

-- What a receiver reads are the words of a message that was sent to it.
abbrev pub ReadAsSent : Type 0
ReadAsSent =
    (s t : State) (reached : IsReachableState s) (node n : ℕ) (h : Handle) (words : List ℕ)
    → subject s.fixed node n ≡ Some (TheHandle h) → IsTrue (is_received h.kind)
    → IsWholeCall s node (Read n) (Words words) t
    → (words ≡ words_of h.message) × WasSent s reached (way_of h) h.message
