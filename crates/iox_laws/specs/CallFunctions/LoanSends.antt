-- The send of any loan as a function of lists: of a request or a response, with overflow or without.
use Rattle.std.specs.Prelude.{◌≡◌, ℕ, Bool, true, false, if◌then◌else◌, List, [], ◌∷◌, map, Some}
use Rattle.iox_model.specs.declared.kind.Role.TheVariants.{Server}
use Rattle.iox_model.specs.declared.way.Way.{Way}
use Rattle.iox_model.specs.declared.call.Call.TheVariants.{Send}
use Rattle.iox_model.specs.Commands.{Reply}
use Rattle.iox_model.specs.Doings.{Outcome}
use Rattle.iox_model.specs.Handles.{is_request_loan, own_state, subject, TheHandle}
use Rattle.iox_model.specs.Maps.{AreDistinctWays}
use Rattle.iox_model.specs.Messages.{request_way}
use Rattle.iox_model.specs.Peers.{role_at, others}
use Rattle.iox_model.specs.Settings.{overflow_of}
use Rattle.iox_model.specs.States.{Handle, Fixed, State}
use Rattle.iox_model.specs.WholeCalls.{IsWholeCall}
use Rattle.iox_laws.specs.CallFunctions.Answers.{NoneInHand, answered, unless_misnamed, of_handle}
use Rattle.iox_laws.specs.CallFunctions.Overflows.{NotOver, sent_over_to}
use Rattle.iox_laws.specs.CallFunctions.Responses.{responded}
use Rattle.iox_laws.specs.CallFunctions.Sends.{sent_to}

-- a request goes to all servers that the node did not forget
abbrev pub requested : State → Handle → Bool → Outcome × State
requested s h copied =
    let servers : List ℕ = others s.fixed h.node Server in
    if overflow_of s.fixed.limits (role_at s.fixed h.port) then sent_over_to s h copied servers
    else sent_to s h copied servers

-- a request goes to all servers, a response to the client of its request
abbrev pub sent_of : State → Handle → Bool → Outcome × State
sent_of s h copied =
    if is_request_loan h.kind then requested s h copied else responded s h copied

-- the whole call
abbrev pub loan_sent_by : State → ℕ → ℕ → Reply × State
loan_sent_by s node n =
    unless_misnamed s node (Send n)
    (answered s node (of_handle s (subject s.fixed node n) (λ h. sent_of s h false)))

-- the ways on which a loan is sent
abbrev pub sending_ways : Fixed → Handle → List Way
sending_ways f h =
    if is_request_loan h.kind then map (request_way h.port) (others f h.node Server)
    else own_state h ∷ []

-- The loan may be sent: its ways differ, and with overflow on none of them one too many waits.
pub record MaySend (s : State) (h : Handle) : Type 0 where
  pub apart : AreDistinctWays (sending_ways s.fixed h)
  pub within :
      overflow_of s.fixed.limits (role_at s.fixed h.port) ≡ true
      → NotOver s (sending_ways s.fixed h)

-- What `loan_sent_by` says is a whole call, where nothing is in hand and the loan may be sent, as it
-- is between whole calls.
abbrev pub EachLoanSendIsWhole : Type 0
EachLoanSendIsWhole =
    (s : State) (node n : ℕ) → NoneInHand s
    → ((h : Handle) → subject s.fixed node n ≡ Some (TheHandle h) → MaySend s h)
    → IsWholeCall s node (Send n) (loan_sent_by s node n).0 (loan_sent_by s node n).1
