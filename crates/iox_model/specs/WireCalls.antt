-- The calls of a wire, where a payload is only words, and when a wire may open.
use Rattle.iox_model.specs.declared.call.Call as the_call
use Rattle.iox_model.specs.declared.call.WireCall as the_wire_call
use Rattle.iox_model.specs.declared.call.WireCall.TheVariants as wire_calls
use Rattle.iox_model.specs.declared.call.WireCall.TheVariants.{Forget}
use Rattle.std.specs.Prelude.{ℕ, ◌*◌, ◌/◌, ◌^◌, Bool, true, not, ◌&&◌, ◌||◌, if◌then◌else◌, ◌==◌, nat_lt, nat_le, List, [], ◌++◌, length, map, Option, Some, None, is_some}
use Rattle.std.specs.List.{list_any}
use Rattle.iox_model.specs.declared.kind.Role.TheVariants.{Client, Server}
use Rattle.iox_model.specs.declared.call.Call.TheVariants.{Loan, LoanUninit, Write, Send, SendCopy, Receive, Read, Release, IsConnected, SetHint, HasHint, HasRequests, HasResponse}
use Rattle.iox_model.specs.declared.reply.Refusal.TheVariants.{WantOfMemory, MessagesUnderWay, GrowingStrategy, HandlerSet, UnsuitableAlignment, TooManyWords}
use Rattle.iox_model.specs.Runs.{at_rest}
use Rattle.iox_model.specs.Expiries.{waits_between}
use Rattle.iox_model.specs.Settings.{Shape}
use Rattle.iox_model.specs.States.{Fixed, State}
use Rattle.iox_model.specs.Handles.{is_request_loan, subject, Subject, ThePort, TheHandle}
use Rattle.iox_model.specs.WholeCalls.{shape_of_loan}
use Rattle.iox_model.specs.Maps.{is_empty, or_else, refused_if}
use Rattle.iox_model.specs.Commands.{Refusal, Call, WireCall, Payload}

-- how many elements these words are, if they are a whole number of elements
abbrev pub whole_number : ℕ → ℕ → Option ℕ
whole_number width n =
    if width == 0 then (if n == 0 then Some 0 else None)
    else (if (n / width) * width == n then Some (n / width) else None)

-- How many elements these words are. Where elements have no words: none of a list, and 1 where a
-- message has one element.
abbrev pub elements_of : Shape → List ℕ → Option ℕ
elements_of x words =
    if not x.many && ((x.width == 0) && is_empty words) then Some 1
    else whole_number x.width (length words)

-- how many elements the words are that are written into a loan: all its elements, if there are just
-- as many words
abbrev pub elements_for : Shape → ℕ → List ℕ → Option ℕ
elements_for x elements words = if length words == elements * x.width then Some elements else None

-- words given to a call that loans, writes and sends, as a payload of its messages
abbrev pub copied_payload : Fixed → Option Subject → List ℕ → Payload
copied_payload f (Some (ThePort p)) words =
    record { role = Client; elements = elements_of f.limits.request words; words = words }
copied_payload f subject words =
    record { role = Server; elements = elements_of f.limits.response words; words = words }

-- words given to a write, as a payload of the loan's messages
abbrev pub written_payload : Fixed → Option Subject → List ℕ → Payload
written_payload f (Some (TheHandle h)) words = record {
  role = if is_request_loan h.kind then Client else Server;
  elements = elements_for (shape_of_loan f h) h.message.elements words;
  words = words;
}
written_payload f subject words = record { role = Client; elements = None; words = words }

-- the same call with other payloads, made from the number that it names and the payload that it had
abbrev pub with_payloads : {P Q : Type 0} → (write copy : ℕ → P → Q) → the_call.Call P → the_call.Call Q
with_payloads write copy (Loan n k) = Loan n k
with_payloads write copy (LoanUninit n k) = LoanUninit n k
with_payloads write copy (Write n p) = Write n (write n p)
with_payloads write copy (Send n) = Send n
with_payloads write copy (SendCopy n p) = SendCopy n (copy n p)
with_payloads write copy (Receive n) = Receive n
with_payloads write copy (Read n) = Read n
with_payloads write copy (Release n) = Release n
with_payloads write copy (IsConnected n) = IsConnected n
with_payloads write copy (SetHint n) = SetHint n
with_payloads write copy (HasHint n) = HasHint n
with_payloads write copy (HasRequests n) = HasRequests n
with_payloads write copy (HasResponse n) = HasResponse n

-- a call in words, its payload as the node's ports and handles read it
abbrev pub said : Fixed → ℕ → the_call.Call (List ℕ) → Call
said f node =
    with_payloads (λ n. written_payload f (subject f node n)) (λ n. copied_payload f (subject f node n))

-- a call, its payload as words
abbrev pub in_words : Call → the_call.Call (List ℕ)
in_words = with_payloads (λ n p. p.words) (λ n p. p.words)

-- a call of a wire, its payload as words
abbrev pub WordsCall : Type 0
WordsCall = the_wire_call.WireCall (List ℕ)

-- a call in words, its payload as the node's ports and handles read it
abbrev pub said_on_wire : Fixed → ℕ → WordsCall → WireCall
said_on_wire f node (wire_calls.Port call) = wire_calls.Port (said f node call)
said_on_wire f node (Forget dead) = Forget dead

-- a call on a wire, its payload as words
abbrev pub in_wire_words : WireCall → WordsCall
in_wire_words (wire_calls.Port call) = wire_calls.Port (in_words call)
in_wire_words (Forget dead) = Forget dead

-- ---- the opening of a wire

-- whether a message waits for the receiver, from a disconnected sender too
abbrev pub waits_for : State → ℕ → Bool
waits_for s receiver =
    list_any (λ sender. waits_between s sender receiver)
    (map (λ p. p.number) s.fixed.ports ++ s.fixed.expired receiver)

-- whether anything is under way: a handle, a waiting message, or a dead node that was not cleaned
-- up
abbrev pub is_under_way : State → Bool
is_under_way s =
    list_any (λ p. not (is_empty (s.fixed.handles p.node)) || waits_for s p.number) s.fixed.ports
    || list_any (λ m. not m.alive) s.members.nodes

-- whether messages of this shape cannot stand on a wire: a part is aligned to less than a word
abbrev pub is_unsuitable : Shape → Bool
is_unsuitable x =
    nat_lt x.header_part.alignment 8
    || (nat_lt x.user_part.alignment 8 || nat_lt x.element_part.alignment 8)

-- why a wire does not open: the first test that fails; `words` is how many words its map has
abbrev pub wire_refusal : State → ℕ → Bool → Option Refusal
wire_refusal s words memory =
    or_else (refused_if (is_under_way s) MessagesUnderWay)
    (or_else (refused_if (list_any (λ p. p.grows) s.fixed.ports) GrowingStrategy)
    (or_else (refused_if (list_any (λ p. is_some p.handler) s.fixed.ports) HandlerSet)
    (or_else
    (refused_if (is_unsuitable s.fixed.limits.request || is_unsuitable s.fixed.limits.response)
    UnsuitableAlignment)
    (or_else (refused_if (nat_le (2 ^ 64) words) TooManyWords)
    (refused_if (not memory) WantOfMemory)))))

-- the state with which a wire opens: the ports and nodes of the service, and nothing under way
abbrev pub opened : State → State
opened s = at_rest s.members (record (s.fixed) {
  on_wire = true;
  handles = λ n. [];
  handles_made = λ n. 0;
  loans = λ p. 0;
  borrowed = λ w. 0;
  expired = λ p. [];
  forgot = λ n. [];
})
