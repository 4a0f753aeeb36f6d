-- How a response is sent, only to the client of its request; and what a loan leads to.
use Rattle.std.specs.Prelude.{ℕ, Bool, true, false, if◌then◌else◌, List, [], ◌∷◌, Option, Some, None}
use Rattle.std.specs.Option.{option_map_or}
use Rattle.iox_model.specs.declared.kind.Role.TheVariants.{Client, Server}
use Rattle.iox_model.specs.declared.way.Way.{Way}
use Rattle.iox_model.specs.declared.way.RequestState.{RequestState}
use Rattle.iox_model.specs.declared.reply.Refusal.TheVariants.{UnknownNumber, WrongLength, OutOfMemory}
use Rattle.iox_model.specs.Doings.{refused, Sending, Loans, Sends, Doing, Ended, Loaning, Asking}
use Rattle.iox_model.specs.Settings.{is_count, Shape}
use Rattle.iox_model.specs.States.{Port, Handle, Fixed, State}
use Rattle.iox_model.specs.Requests.{targets, sending_of, emptying, sends_request}
use Rattle.iox_model.specs.Loans.{loan_of, next_request, request_loan_refusal, response_loan_refusal, memory_refusal, lending_ways, unless_refused, Choice, Order}
use Rattle.iox_model.specs.Handles.{is_request_loan, Subject, ThePort, TheHandle}
use Rattle.iox_model.specs.Maps.{has_number}
use Rattle.iox_model.specs.Messages.{names}
use Rattle.iox_model.specs.Outstandings.{kept, is_dry}
use Rattle.iox_model.specs.Peers.{port_at, others}

-- the send of a response: first a look whether its request is still named; to a client that is gone
-- nothing is sent
abbrev pub sends_response : Fixed → Handle → Bool → Doing
sends_response f h copied =
    if has_number h.client (others f h.node Client)
    then Asking (sending_of f h copied (h.client ∷ []))
    else Ended (Sends h copied 0)

-- after a look at its request state: the send continues to the client, or delivers to nobody
abbrev pub asked : Sending → RequestState → Doing
asked x shown =
    if names shown x.loan.request then emptying x (targets x) else Ended (Sends x.loan x.copied 0)

-- how a send begins, of a request or of a response
abbrev pub sends : Fixed → Handle → Bool → Doing
sends f h copied =
    if is_request_loan h.kind then sends_request f h copied (others f h.node Server)
    else sends_response f h copied

-- a loan that got back all there is: refused exactly if the port keeps as many messages as its pool
-- has
abbrev pub loaned : State → Bool → Handle → Doing
loaned s copies h =
    if is_dry s.fixed h.port (kept s h.port []) then refused OutOfMemory
    else (if copies then sends s.fixed h true else Ended (Loans h))

-- the loan gets back on the ways left, and is then made
abbrev pub loaning : State → Bool → Handle → List Way → Doing
loaning s copies h [] = loaned s copies h
loaning s copies h (w ∷ left) = Loaning copies h (w ∷ left)

-- a loan as it begins: it first gets back on all ways of its port
abbrev pub lending : State → Bool → Handle → Doing
lending s copies h = loaning s copies h (lending_ways s.fixed h)

-- the loan of a request by a client, or its refusal
abbrev pub lends_request : State → Choice → Port → Order → Doing
lends_request s c p o =
    unless_refused (request_loan_refusal s.fixed p o.elements)
    (unless_refused (memory_refusal s c p.number)
    (lending s o.copies (loan_of s.fixed p o p.number c.lane (next_request s.fixed p.number))))

-- the loan of a response to a received request, or its refusal
abbrev pub lends_response : State → Choice → Handle → Port → Order → Doing
lends_response s c h p o =
    unless_refused (response_loan_refusal s.fixed h p o.elements)
    (unless_refused (memory_refusal s c p.number)
    (lending s o.copies (loan_of s.fixed p o h.client h.lane h.request)))

-- the shape of the messages that a port or an active request lends
abbrev pub shape_for : Fixed → Subject → Shape
shape_for f (ThePort p) = f.limits.request
shape_for f (TheHandle h) = f.limits.response

-- how a loan begins, of a client or of an active request
abbrev pub lends_by : State → Choice → Subject → Order → Doing
lends_by s c (ThePort p) o = lends_request s c p o
lends_by s c (TheHandle h) o =
    option_map_or (λ p. lends_response s c h p o) (port_at s.fixed h.port) (refused UnknownNumber)

-- how a loan begins; a length that no message of that role has is refused before all else
abbrev pub lends : State → Choice → Subject → Order → Doing
lends s c x o =
    if is_count (shape_for s.fixed x) o.elements then lends_by s c x o else refused WrongLength

-- how loan, write and send in one begin: refused unless the payload is of whole elements
abbrev pub copies : State → Choice → Subject → Option ℕ → List ℕ → Doing
copies s c x None words = refused WrongLength
copies s c x (Some k) words =
    lends s c x (record { elements = k; filled = k; payload = words; copies = true; uninit = false })

-- what a loan of so many elements is asked for; what it holds is chosen as its call ends
abbrev pub ordered : ℕ → Bool → Order
ordered k uninit =
    record {
      elements = k;
      filled = if uninit then 0 else k;
      payload = [];
      copies = false;
      uninit = uninit;
    }
