-- What a refused command leaves unchanged.
use Rattle.std.specs.Prelude.{◌≡◌, ℕ, not, ◌&&◌, ◌||◌, if◌then◌else◌, ◌==◌, List, ◌++◌, Option, Some, IsTrue}
use Rattle.std.specs.Option.{option_map_or}
use Rattle.iox_model.specs.UniqueSystemId.{UniqueSystemId}
use Rattle.iox_model.specs.declared.call.Call.TheVariants.{Loan, LoanUninit, Send, SendCopy, Receive}
use Rattle.iox_model.specs.declared.command.Command.TheVariants.{Join}
use Rattle.iox_model.specs.declared.command.Command.TheVariants as commands
use Rattle.iox_model.specs.declared.reply.Refusal.TheVariants.{OutOfMemory, ExceedsMaxActiveRequests, UnableToDeliver, ExceedsMaxBorrows}
use Rattle.iox_model.specs.declared.reply.Reply.TheVariants.{Refused}
use Rattle.iox_model.specs.declared.way.Way.{Way}
use Rattle.iox_model.specs.Commands.{Refusal, Call, HubCommand, Create, Use, Command, asking, number_of}
use Rattle.iox_model.specs.Counts.{dropped, lent, called, with_fixed}
use Rattle.iox_model.specs.Expiries.{released}
use Rattle.iox_model.specs.Handles.{handle_at, subject, Subject, ThePort, TheHandle}
use Rattle.iox_model.specs.Makings.{IsHubCommand}
use Rattle.iox_model.specs.Maps.{is_empty, has_number}
use Rattle.iox_model.specs.Messages.{serials_of, Message}
use Rattle.iox_model.specs.Peers.{is_counted_on}
use Rattle.iox_model.specs.Runs.{IsReachableState}
use Rattle.iox_model.specs.Services.{IsCommand}
use Rattle.iox_model.specs.States.{Handle, State}

-- A refused join changes nothing: no node is added, and the next number is unchanged.
abbrev pub RefusedJoinsChangeNothing : Type 0
RefusedJoinsChangeNothing =
    (s t : State) (id : UniqueSystemId) (asked : Option Refusal) (r : Refusal)
    → IsCommand s (Join id asked) (Refused r) t → t ≡ s

-- ---- what three refusals change

-- The port got back some of what was given back to it, oldest first, and that is no longer
-- outstanding. All else is unchanged.
pub record GotBack (s : State) (port : ℕ) (t : State) : Type 0 where
  pub members : t.members ≡ s.members
  pub fixed : t.fixed ≡ s.fixed
  pub waiting : t.waiting ≡ s.waiting
  pub in_hand : t.in_hand ≡ s.in_hand
  pub request_state : t.request_state ≡ s.request_state
  pub back : (w : Way) → (ks : List ℕ) × IsTrue (is_empty ks || (w.sender == port))
      × (s.returned w ≡ ks ++ t.returned w)
      × ((k : ℕ) → t.delivered w k ≡ (s.delivered w k && not (has_number k ks)))

-- The port took some of the messages that wait for it, oldest first, found them stale, and gave
-- them back to the senders that still count them. All else is unchanged.
pub record DroppedStale (s : State) (port : ℕ) (t : State) : Type 0 where
  pub members : t.members ≡ s.members
  pub fixed : t.fixed ≡ s.fixed
  pub in_hand : t.in_hand ≡ s.in_hand
  pub delivered : t.delivered ≡ s.delivered
  pub request_state : t.request_state ≡ s.request_state
  pub stale : (w : Way) → (ms : List Message) × IsTrue (is_empty ms || (w.receiver == port))
      × (s.waiting w ≡ ms ++ t.waiting w)
      × (t.returned w
      ≡ (if is_counted_on s.fixed w then s.returned w ++ serials_of ms else s.returned w))

-- the port that a call names, or whose handle it names
abbrev pub port_of : Subject → ℕ
port_of (ThePort p) = p.number
port_of (TheHandle h) = h.port

-- the port whose call it is
abbrev pub port_called : State → ℕ → Call → ℕ
port_called s node call = option_map_or port_of (subject s.fixed node (number_of call)) 0

-- the state once a refused call that made its own loan counted the loan and itself
abbrev pub counted : State → ℕ → State
counted s port = with_fixed s (called (lent s.fixed port))

-- the state once a refused send released its loan
abbrev pub given_up : State → Handle → State
given_up s h = released (with_fixed s (dropped s.fixed h)) h.port

-- ---- which refusal changes what

-- What a refused call leaves: the state unchanged, but in these cases.
abbrev pub RefusalLeaves : State → ℕ → Call → Refusal → State → Type 0
-- a loan gets back what it can before it finds no memory
RefusalLeaves s node (Loan n k) OutOfMemory t = GotBack s (port_called s node (Loan n k)) t
RefusalLeaves s node (LoanUninit n k) OutOfMemory t =
    GotBack s (port_called s node (LoanUninit n k)) t
RefusalLeaves s node (SendCopy n p) OutOfMemory t =
    GotBack s (port_called s node (SendCopy n p)) t
-- a send gets back what it can before it fails
RefusalLeaves s node (SendCopy n p) ExceedsMaxActiveRequests t =
    let port : ℕ = port_called s node (SendCopy n p) in
    (u : State) × GotBack s port u × (t ≡ counted u port)
RefusalLeaves s node (SendCopy n p) UnableToDeliver t =
    let port : ℕ = port_called s node (SendCopy n p) in
    (u : State) × GotBack s port u × (t ≡ counted u port)
RefusalLeaves s node (Send n) ExceedsMaxActiveRequests t =
    (h : Handle) × (handle_at s.fixed node n ≡ Some h) × (t ≡ given_up s h)
RefusalLeaves s node (Send n) UnableToDeliver t =
    (h : Handle) × (handle_at s.fixed node n ≡ Some h)
    × (u : State) × GotBack s h.port u × (t ≡ given_up u h)
-- a receive drops stale messages before it sees one that it may not have
RefusalLeaves s node (Receive n) ExceedsMaxBorrows t =
    DroppedStale s (port_called s node (Receive n)) t
RefusalLeaves s node call r t = t ≡ s

-- what a refused port command leaves: a making the state unchanged, a call what its refusal leaves
abbrev pub PortRefusalLeaves : State → ℕ → HubCommand → Refusal → State → Type 0
PortRefusalLeaves s node (Create role id options) r t = t ≡ s
PortRefusalLeaves s node (Use call) r t = RefusalLeaves s node call r t

-- what a refused command of the service leaves: the state unchanged, but for calls of ports
abbrev pub CommandRefusalLeaves : State → Command → Refusal → State → Type 0
CommandRefusalLeaves s (commands.Port command) r t =
    PortRefusalLeaves s (asking command).0 (asking command).1 r t
CommandRefusalLeaves s command r t = t ≡ s

-- Each refused command of a port leaves the state as `PortRefusalLeaves` says.
abbrev pub RefusedPortCommandLeaves : Type 0
RefusedPortCommandLeaves =
    (s t : State) (node : ℕ) (command : HubCommand) (r : Refusal) → IsReachableState s
    → IsHubCommand s node command (Refused r) t → PortRefusalLeaves s node command r t

-- Each refused command of a service leaves the state as `CommandRefusalLeaves` says.
abbrev pub RefusedCommandLeaves : Type 0
RefusedCommandLeaves =
    (s t : State) (command : Command) (r : Refusal) → IsReachableState s
    → IsCommand s command (Refused r) t → CommandRefusalLeaves s command r t
