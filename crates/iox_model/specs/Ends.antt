-- What a finished call changes and answers.
use Rattle.std.specs.Prelude.{ℕ, Bool, true, false, if◌then◌else◌, ◌==◌, List, map}
use Rattle.iox_model.specs.declared.reply.Reply.TheVariants.{Nothing}
use Rattle.iox_model.specs.Expiries.{released}
use Rattle.iox_model.specs.Forgetting.{forgets_once}
use Rattle.iox_model.specs.Doings.{Outcome, Tells, Loans, Fills, Sends, FailsToSend, Receives, Drops, DropsPort, Forgets}
use Rattle.iox_model.specs.States.{Port, Handle, Fixed, State}
use Rattle.iox_model.specs.Handles.{is_request_loan}
use Rattle.iox_model.specs.Counts.{added, changed, dropped, numbered, lent, called, borrows, gives_up, with_fixed, received_handle, sent_handle, holding}
use Rattle.iox_model.specs.Commands.{Reply}

-- the state once a loan is sent: a request's becomes its pending response, a response's is released
abbrev pub sent_loan : State → Handle → ℕ → State
sent_loan s h count =
    if is_request_loan h.kind then with_fixed s (changed s.fixed (sent_handle h count))
    else released (with_fixed s (dropped s.fixed h)) h.port

-- the fixed part of the state once a call sent the loan that it made: only a request gets a number
-- and a handle
abbrev pub sent_copy : Fixed → Handle → ℕ → Fixed
sent_copy f h count =
    if is_request_loan h.kind then added (numbered f h.node) (sent_handle h count) else f

-- the state after a send that was not refused; `copied` says that the call also made the loan
abbrev pub after_send : State → Handle → Bool → ℕ → State
after_send s h true count = with_fixed s (called (called (lent (sent_copy s.fixed h count) h.port)))
after_send s h false count =
    let t : State = sent_loan s h count in with_fixed t (called t.fixed)

-- the state after a refused send, whose loan is released; a loan that the call made is still
-- counted
abbrev pub after_refused_send : State → Handle → Bool → State
after_refused_send s h true = with_fixed s (called (lent s.fixed h.port))
after_refused_send s h false = released (with_fixed s (dropped s.fixed h)) h.port

-- whether the reply says that there was nothing to receive
abbrev pub is_nothing : Reply → Bool
is_nothing Nothing = true
is_nothing r = false

-- the port; if it has that number, its own value is released
abbrev pub port_dropped : ℕ → Port → Port
port_dropped port p = if p.number == port then record p { held = false } else p

-- The state that a finished call leaves. A new loan holds that payload.
abbrev pub settled : State → ℕ → List ℕ → Outcome → State
settled s node payload (Tells reply) = if is_nothing reply then with_fixed s (called s.fixed) else s
settled s node payload (Loans h) =
    with_fixed s (called (lent (added (numbered s.fixed node) (holding h payload)) h.port))
settled s node payload (Fills h) = with_fixed s (changed s.fixed h)
settled s node payload (Sends h copied count) = after_send s h copied count
settled s node payload (FailsToSend h copied refusal) = after_refused_send s h copied
settled s node payload (Receives x w m) =
    with_fixed s (called (borrows (added (numbered s.fixed node) (received_handle s.fixed node x m)) w))
settled s node payload (Drops h) = released (with_fixed s (gives_up (dropped s.fixed h) h)) h.port
settled s node payload (DropsPort port) =
    released (with_fixed s (record (s.fixed) { ports = map (port_dropped port) s.fixed.ports })) port
settled s node payload (Forgets dead) = forgets_once s node dead
