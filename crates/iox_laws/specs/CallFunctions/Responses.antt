-- The send of a response as a function of lists, with overflow or without.
use Rattle.std.specs.Prelude.{◌≡◌, ℕ, Bool, true, false, ◌&&◌, if◌then◌else◌, [], ◌∷◌, Some}
use Rattle.iox_model.specs.declared.kind.Role.TheVariants.{Client}
use Rattle.iox_model.specs.declared.call.Call.TheVariants.{Send}
use Rattle.iox_model.specs.Commands.{Reply}
use Rattle.iox_model.specs.Doings.{Sending, Outcome, Sends}
use Rattle.iox_model.specs.Handles.{is_request_loan, own_state, subject, TheHandle}
use Rattle.iox_model.specs.Maps.{has_number}
use Rattle.iox_model.specs.Messages.{names}
use Rattle.iox_model.specs.Peers.{role_at, others}
use Rattle.iox_model.specs.Requests.{sending_of}
use Rattle.iox_model.specs.Settings.{overflow_of}
use Rattle.iox_model.specs.States.{Handle, State}
use Rattle.iox_model.specs.WholeCalls.{IsWholeCall}
use Rattle.iox_laws.specs.CallFunctions.Answers.{NoneInHand, answered, unless_misnamed}
use Rattle.iox_laws.specs.CallFunctions.Overflows.{NotOver, sent_over}
use Rattle.iox_laws.specs.CallFunctions.Sends.{sent}

-- a send with overflow, or without
abbrev pub sent_either : State → Sending → Outcome × State
sent_either s x = if x.overflow then sent_over s x else sent s x

-- the client is there and not forgotten, and the state still names the request
abbrev pub is_awaited : State → Handle → Bool
is_awaited s h =
    has_number h.client (others s.fixed h.node Client)
    && names (s.request_state (own_state h)) h.request

-- a response that is awaited goes to its client, another to nobody
abbrev pub responded : State → Handle → Bool → Outcome × State
responded s h copied =
    if is_awaited s h then sent_either s (sending_of s.fixed h copied (h.client ∷ []))
    else (Sends h copied 0, s)

-- the whole call
abbrev pub responded_by : State → ℕ → ℕ → Handle → Reply × State
responded_by s node n h =
    unless_misnamed s node (Send n) (answered s node (responded s h false))

-- What `responded_by` says is a whole call, where nothing is in hand and, with overflow, on its way
-- not one too many waits, as it is between whole calls.
abbrev pub EachResponseSendIsWhole : Type 0
EachResponseSendIsWhole =
    (s : State) (node n : ℕ) (h : Handle) → subject s.fixed node n ≡ Some (TheHandle h)
    → is_request_loan h.kind ≡ false → NoneInHand s
    → (overflow_of s.fixed.limits (role_at s.fixed h.port) ≡ true → NotOver s (own_state h ∷ []))
    → IsWholeCall s node (Send n) (responded_by s node n h).0 (responded_by s node n h).1
