-- The calls of a node, as its code is given them.
use Rattle.std.specs.Prelude.{◌≡◌, ◌⊎◌, ℕ, ◌/◌, Bool, true, false, List, length, Option}
use Rattle.iox_model.specs.declared.call.Call as the_call
use Rattle.iox_model.specs.declared.call.Call.TheVariants as calls
use Rattle.iox_model.specs.declared.kind.Role.{Role}
use Rattle.iox_model.specs.Commands.{Call, Payload}
use Rattle.iox_model.specs.Settings.{shape_of}
use Rattle.iox_model.specs.WireCalls.{in_words}
use Rattle.iox_wire_begins.specs.WirePlan.{WirePlan}
use Rattle.iox_wire_begins.specs.Plans.{details_of}
use Rattle.iox_wire_begins.specs.WholeElements.{elements_in, whole_elements}
use Rattle.iox_wire_begins.specs.HandleCalls.{payload_for}
use Rattle.iox_wire_begins.specs.Seat.{Seat}
use Rattle.iox_wire_begins.specs.Asked.{Asked}
use Rattle.iox_wire_begins.specs.Asked.TheVariants as asked
use Rattle.iox_wire_begins.specs.WireTerms.{WireTerms}
use Rattle.iox_wire_begins.specs.Terms.{messages_of}
use Rattle.iox_wire_begins.specs.Tables.{Setting}
use Rattle.iox_wire_nodes.specs.declared.call_at.CallAt.{CallAt}
use Rattle.iox_wire_nodes.specs.declared.call_at.CallAt.TheVariants as at
use Rattle.iox_wire_nodes.specs.declared.handle_call.HandleCall.{HandleCall}
use Rattle.iox_wire_nodes.specs.declared.handle_call.HandleCall.TheVariants as handle_calls
use Rattle.iox_wire_nodes.specs.declared.node_call.NodeCall.{NodeCall}
use Rattle.iox_wire_nodes.specs.declared.node_call.NodeCall.TheVariants as node_calls
use Rattle.iox_wire_nodes.specs.declared.node_call.NodePayload.{NodePayload}

-- ---- payloads

-- the payload of these words of a role's messages: of as many elements as the words are
abbrev pub payload_with : Setting → Role → List ℕ → Payload
payload_with p role words = record {
  role = role;
  elements = whole_elements (shape_of p.limits role) words;
  words = words;
}

-- so it is told
abbrev pub payload_of : Setting → NodePayload → Payload
payload_of p y = payload_with p y.role y.words.now

-- how many elements so many words are, as the plan and the terms of a wire tell
abbrev pub planned_elements : WirePlan → WireTerms → Role → List ℕ → Option ℕ
planned_elements plan t role words =
    elements_in (messages_of t role).many ((details_of plan role).payload.size / 8) (length words)

-- ---- calls

-- the machine's name of a call of a handle
abbrev pub of_handle : HandleCall → ℕ → Call
of_handle handle_calls.Read n = calls.Read n
of_handle handle_calls.Release n = calls.Release n
of_handle handle_calls.IsConnected n = calls.IsConnected n
of_handle handle_calls.SetHint n = calls.SetHint n
of_handle handle_calls.HasHint n = calls.HasHint n
of_handle handle_calls.HasResponse n = calls.HasResponse n

-- and of a call of a port or a handle of that node: a write is of all elements of its loan, if it has
-- just as many words
abbrev pub call_in : Setting → Seat → NodeCall → Call
call_in p x (node_calls.Loan n k) = calls.Loan n k
call_in p x (node_calls.Write n y) = calls.Write n (payload_for p x n y.role y.words.now)
call_in p x (node_calls.Send n) = calls.Send n
call_in p x (node_calls.SendCopy n y) = calls.SendCopy n (payload_of p y)
call_in p x (node_calls.Receive n) = calls.Receive n
call_in p x (node_calls.HasRequests n) = calls.HasRequests n
call_in p x (node_calls.Handle n call) = of_handle call n

-- such a call, its payload as words
abbrev pub call_in_words : NodeCall → the_call.Call (List ℕ)
call_in_words (node_calls.Loan n k) = calls.Loan n k
call_in_words (node_calls.Write n y) = calls.Write n y.words.now
call_in_words (node_calls.Send n) = calls.Send n
call_in_words (node_calls.SendCopy n y) = calls.SendCopy n y.words.now
call_in_words (node_calls.Receive n) = calls.Receive n
call_in_words (node_calls.HasRequests n) = calls.HasRequests n
call_in_words (node_calls.Handle n call) = in_words (of_handle call n)

-- a node is there with such a call under way
abbrev pub IsKeptAt : {P : Type 0} → the_call.Call P → CallAt → Type 0
IsKeptAt (calls.Loan n k) a = a ≡ at.Lends
IsKeptAt (calls.LoanUninit n k) a = a ≡ at.Lends
IsKeptAt (calls.Send n) a = (a ≡ at.SendsRequest) ⊎ (a ≡ at.SendsResponse)
IsKeptAt (calls.SendCopy n y) a = (a ≡ at.CopiesRequest) ⊎ (a ≡ at.CopiesResponse)
IsKeptAt (calls.Receive n) a = a ≡ at.Receives
IsKeptAt call a = a ≡ at.Seats

-- the number of the port or the handle that it names
abbrev pub number_in : NodeCall → ℕ
number_in (node_calls.Loan n k) = n
number_in (node_calls.Write n y) = n
number_in (node_calls.Send n) = n
number_in (node_calls.SendCopy n y) = n
number_in (node_calls.Receive n) = n
number_in (node_calls.HasRequests n) = n
number_in (node_calls.Handle n call) = n

-- what a handle is asked
abbrev pub asked_by : HandleCall → Asked
asked_by handle_calls.Read = asked.Read
asked_by handle_calls.Release = asked.Release
asked_by handle_calls.IsConnected = asked.IsConnected
asked_by handle_calls.SetHint = asked.SetHint
asked_by handle_calls.HasHint = asked.HasHint
asked_by handle_calls.HasResponse = asked.HasResponse

-- and what is asked with a call
abbrev pub asked_in : NodeCall → Asked
asked_in (node_calls.Loan n k) = asked.Loan k
asked_in (node_calls.Write n y) = asked.Write y.role
asked_in (node_calls.Send n) = asked.Send
asked_in (node_calls.SendCopy n y) = asked.SendCopy y.role
asked_in (node_calls.Receive n) = asked.Receive
asked_in (node_calls.HasRequests n) = asked.HasRequests
asked_in (node_calls.Handle n call) = asked_by call

-- ---- which kinds have a call

-- whether ports of some role have it
abbrev pub ports_have : Asked → Bool
ports_have (asked.Loan k) = true
ports_have (asked.SendCopy role) = true
ports_have asked.Receive = true
ports_have asked.HasRequests = true
ports_have call = false

-- whether handles of some kind have it
abbrev pub handles_have : Asked → Bool
handles_have (asked.LoanUninit k) = false
handles_have asked.HasRequests = false
handles_have call = true
