-- The most accesses of one call on a wire, from the world in which it begins, and the beats until
-- it ends.
use Rattle.std.specs.Prelude.{ℕ, ◌+◌, ◌*◌, if◌then◌else◌, List, length, max}
use Rattle.std.specs.Option.{option_map_or}
use Rattle.iox_model.specs.declared.kind.Role.TheVariants.{Server}
use Rattle.iox_model.specs.declared.kind.Kind.TheVariants.{ActiveRequest, Response}
use Rattle.iox_model.specs.declared.way.Way.{Way}
use Rattle.iox_model.specs.declared.call.Call.TheVariants.{Loan, LoanUninit, Write, Send, SendCopy, Receive, Read, Release, IsConnected, SetHint, HasHint, HasRequests, HasResponse}
use Rattle.iox_model.specs.declared.call.WireCall.TheVariants.{Forget}
use Rattle.iox_model.specs.declared.call.WireCall.TheVariants as wire_calls
use Rattle.iox_model.specs.Receives.{server_ways, pending_ways}
use Rattle.iox_model.specs.Names.{is_port}
use Rattle.iox_model.specs.Releases.{states_of}
use Rattle.iox_model.specs.Weaves.{World, Beat}
use Rattle.iox_model.specs.States.{Fixed}
use Rattle.iox_model.specs.Loans.{request_ways, response_ways}
use Rattle.iox_model.specs.Handles.{same_kind, is_request_loan, subject, kind_of, Subject, ThePort, TheHandle}
use Rattle.iox_laws.specs.WeaveLaws.Tallies.{got_back, taken, failed}
use Rattle.iox_model.specs.Commands.{Call, WireCall, number_of}
use Rattle.iox_model.specs.Responses.{shape_for}
use Rattle.iox_model.specs.Peers.{others}

-- ---- the ways of a call

-- the ways on which the loan of this call gets back
abbrev pub ways_to_lend : Fixed → Subject → List Way
ways_to_lend f (ThePort p) = request_ways f p.node p.number
ways_to_lend f (TheHandle h) = response_ways f h.node h.port

-- how many receivers a send goes to; a response goes to one
abbrev pub count_to_send : Fixed → Subject → ℕ
count_to_send f (ThePort p) = length (others f p.node Server)
count_to_send f (TheHandle h) = if is_request_loan h.kind then length (others f h.node Server) else 1

-- the ways that a receive visits
abbrev pub ways_to_visit : Fixed → Subject → List Way
ways_to_visit f (ThePort p) = server_ways f p
ways_to_visit f (TheHandle h) = pending_ways f h

-- how many request states a call of the handle looks at
abbrev pub states_to_see : Fixed → Subject → ℕ
states_to_see f (ThePort p) = 0
states_to_see f (TheHandle h) = length (states_of f h)

-- ---- accesses

-- how many words the header has: one more for a request than for a response
abbrev pub header_words : Subject → ℕ
header_words (ThePort p) = 7
header_words (TheHandle h) = 6

-- the accesses of a loan, but for what it gets back: two looks a way, and the words of the headers
abbrev pub loan_accesses : Fixed → Subject → ℕ
loan_accesses f x =
    2 * length (ways_to_lend f x) + header_words x + length (shape_for f x).user

-- the accesses of a receive: two looks a way, so many for each message taken, and two for each
-- missed take
abbrev pub receive_accesses : Fixed → Subject → ℕ → List Beat → ℕ
receive_accesses f x node bs =
    2 * length (ways_to_visit f x) + (if is_port (kind_of x) then 16 else 14) * taken node bs
    + 2 * failed (ways_to_visit f x) bs

-- The accesses of a release. An active request is given back, and its request state loaded and
-- closed, once more where a hint came in between. A response is given back.
abbrev pub release_accesses : Fixed → Subject → ℕ
release_accesses f x =
    if same_kind (kind_of x) ActiveRequest then 7
    else (if same_kind (kind_of x) Response then 4 else states_to_see f x)

-- the words that a read loads
abbrev pub words_read : Subject → ℕ
words_read (ThePort p) = 0
words_read (TheHandle h) = length h.message.user + length h.message.payload

-- the most accesses of a call whose moments are among these beats
abbrev pub accesses : Fixed → ℕ → Call → Subject → List Beat → ℕ
accesses f node (Loan n k) x bs = loan_accesses f x + 4 * got_back node bs
accesses f node (LoanUninit n k) x bs = 0
accesses f node (Write n p) x bs = length p.words
accesses f node (Send n) x bs = 9 * count_to_send f x + 4 * got_back node bs
accesses f node (SendCopy n p) x bs =
    loan_accesses f x + length p.words + 9 * count_to_send f x + 4 * got_back node bs
accesses f node (Receive n) x bs = receive_accesses f x node bs
accesses f node (Read n) x bs = words_read x
accesses f node (Release n) x bs = release_accesses f x
accesses f node (IsConnected n) x bs = states_to_see f x
accesses f node (SetHint n) x bs = 2 * states_to_see f x
accesses f node (HasHint n) x bs = states_to_see f x
accesses f node (HasRequests n) x bs = 2 * length (ways_to_visit f x)
accesses f node (HasResponse n) x bs = 2 * length (ways_to_visit f x)

-- the most accesses of a call of a node of a wire; a Forget makes none
abbrev pub accesses_by : Fixed → ℕ → WireCall → List Beat → ℕ
accesses_by f node (wire_calls.Port call) bs =
    option_map_or (λ x. accesses f node call x bs) (subject f node (number_of call)) 0
accesses_by f node (Forget dead) bs = 0

-- the most accesses of a call; at least one
abbrev pub most_accesses : World → ℕ → WireCall → List Beat → ℕ
most_accesses w node call bs = max 1 (accesses_by w.state.fixed node call bs)
