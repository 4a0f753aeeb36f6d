-- What a call delivers is the message of its send.
use Rattle.std.specs.Prelude.{◌≡◌, ℕ, false, true, List, Option, Some, None}
use Rattle.std.specs.Option.{option_map_or}
use Rattle.iox_model.specs.declared.call.Call.TheVariants.{Send, SendCopy}
use Rattle.iox_model.specs.declared.way.Way.{Way}
use Rattle.iox_model.specs.Commands.{Reply, Call}
use Rattle.iox_model.specs.Handles.{subject, Subject, ThePort, TheHandle}
use Rattle.iox_model.specs.Loans.{next_message, next_request, Order}
use Rattle.iox_model.specs.Messages.{Message}
use Rattle.iox_model.specs.Peers.{port_at}
use Rattle.iox_model.specs.States.{Fixed, State}
use Rattle.iox_model.specs.WholeCalls.{IsWholeCall}
use Rattle.iox_laws.specs.RunLaws.Traces.{beats_of_call}
use Rattle.iox_laws.specs.MessageLaws.Deliveries.{messages_put_on}
use Rattle.iox_laws.specs.MessageLaws.Lists.{IsOneOf}
use Rattle.iox_laws.specs.CallFunctions.Copies.{copied_order}

-- the message of a loan, as it was filled
abbrev pub own_message : Subject → Option Message
own_message (ThePort p) = None
own_message (TheHandle h) = Some h.message

-- the message that these words become: a client's next request, on an open lane, or a server's next
-- response to the request that it received
abbrev pub copied_message : Fixed → ℕ → Order → Subject → Option Message
copied_message f lane o (ThePort p) = Some (next_message f p o lane (next_request f p.number))
copied_message f lane o (TheHandle h) =
    option_map_or (λ p. Some (next_message f p o h.lane h.request)) (port_at f h.port) None

-- the message that a call sends: of the loan that it names, or of the words that it gives; no other
-- call sends one
abbrev pub sent_message : Fixed → ℕ → ℕ → Call → Option Message
sent_message f node lane (Send n) = option_map_or own_message (subject f node n) None
sent_message f node lane (SendCopy n p) =
    option_map_or
    (λ k. option_map_or (copied_message f lane (copied_order k p.words)) (subject f node n) None)
    p.elements None
sent_message f node lane call = None

-- Whatever a call delivers, on any way, is the message that it sends, as it was when the call
-- began.
abbrev pub DeliversWhatIsSent : Type 0
DeliversWhatIsSent =
    (s t : State) (node : ℕ) (call : Call) (reply : Reply) (done : IsWholeCall s node call reply t)
    → (lane : ℕ)
    × ((y : Way) (m : Message)
    → IsOneOf m (messages_put_on y (beats_of_call s node call reply t done))
    → sent_message s.fixed node lane call ≡ Some m)
