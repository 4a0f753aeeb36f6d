-- On a wire: what a call delivers is what it sends, and what is read was sent.
use Rattle.std.specs.Prelude.{◌≡◌, ℕ, List, [], ◌∷◌, Some, IsTrue, ◌⊎◌}
use Rattle.iox_model.specs.declared.call.Call.TheVariants.{Read}
use Rattle.iox_model.specs.declared.call.WireCall.TheVariants as wire_calls
use Rattle.iox_model.specs.declared.reply.Reply.TheVariants.{Words}
use Rattle.iox_model.specs.declared.way.Way.{Way}
use Rattle.iox_model.specs.Commands.{Call}
use Rattle.iox_model.specs.Handles.{is_received, way_of, subject, TheHandle}
use Rattle.iox_model.specs.Loans.{Choice}
use Rattle.iox_model.specs.Messages.{Message}
use Rattle.iox_model.specs.Moments.{Deliver}
use Rattle.iox_model.specs.States.{Handle, State}
use Rattle.iox_model.specs.Weaves.{at_work, IsBeat, IsWeave, World, Beat, Begins, Makes, Ends}
use Rattle.iox_model.specs.WireCalls.{opened}
use Rattle.iox_laws.specs.WeaveLedger.OnceLaws.{IsOnWire}
use Rattle.iox_laws.specs.WeaveLaws.Laws.{IsDuring}
use Rattle.iox_laws.specs.MessageLaws.Deliveries.{messages_put_on}
use Rattle.iox_laws.specs.MessageLaws.Holdings.{CameBy}
use Rattle.iox_laws.specs.MessageLaws.Lists.{IsOneOf}
use Rattle.iox_laws.specs.MessageLaws.Readings.{words_of}
use Rattle.iox_laws.specs.MessageLaws.Sendings.{sent_message}

-- Whatever other nodes do in between, what a call delivers is the message that it sends, as it was
-- when the call began.
abbrev pub CallDeliversWhatIsSent : Type 0
CallDeliversWhatIsSent =
    (w v u : World) (node : ℕ) (call : Call) (c : Choice) (bs : List Beat) (y : Way) (m : Message)
    → IsDuring w node (wire_calls.Port call) c bs v → IsBeat v (Makes node (Deliver y m)) u
    → sent_message w.state.fixed node c.lane call ≡ Some m

-- a call begins that sends the message
abbrev pub BeginsToSend : Message → World → Beat → Type 0
BeginsToSend m w (Begins node (wire_calls.Port call) c) =
    sent_message w.state.fixed node c.lane call ≡ Some m
BeginsToSend m w b = ⊥

-- in the weave such a call begins, and after that the message is delivered on the way
abbrev pub IsSentIn : Way → Message → (w : World) (bs : List Beat) (v : World)
    → IsWeave w bs v → Type 0
IsSentIn y m w [] v weave = ⊥
IsSentIn y m w (b ∷ bs) v weave =
    (BeginsToSend m w b × IsOneOf m (messages_put_on y bs)) ⊎ IsSentIn y m weave.0 bs v weave.2

-- Each message that is delivered on a wire was sent.
abbrev pub EachWasSentOnWires : Type 0
EachWasSentOnWires =
    (s : State) (v : World) (bs : List Beat) (y : Way) (m : Message)
    → (weave : IsWeave (at_work (opened s)) bs v) → IsOneOf m (messages_put_on y bs)
    → IsSentIn y m (at_work (opened s)) bs v weave

-- Whatever other nodes do in between, a receiver reads a message that was sent before the read
-- began, delivered to it and taken there.
abbrev pub ReadOnWiresAsSent : Type 0
ReadOnWiresAsSent =
    (s : State) (w v u : World) (before bs : List Beat) (node n : ℕ) (h : Handle) (c : Choice)
    → (words payload : List ℕ) (on : IsOnWire s before w)
    → subject w.state.fixed node n ≡ Some (TheHandle h) → IsTrue (is_received h.kind)
    → IsDuring w node (wire_calls.Port (Read n)) c bs v
    → IsBeat v (Ends node (Words words) payload) u
    → (words ≡ words_of h.message) × CameBy (way_of h) h.message before
    × IsSentIn (way_of h) h.message (at_work (opened s)) before w on.1
