-- What holds of a node's handles and of its call under way, as far as it loans and sends.
use Rattle.std.specs.Prelude.{◌≡◌, ℕ, ◌<◌, Bool, true, false, ◌||◌, List, map, Option, Some, None, ⊤}
use Rattle.iox_model.specs.declared.kind.Kind.{Kind}
use Rattle.iox_model.specs.declared.way.Way.{Way}
use Rattle.iox_model.specs.Doings.{Receiver, Sending, Outcome, Tells, Loans, Fills, Sends, FailsToSend, Receives, Drops, DropsPort, Forgets, Doing, Ended, Loaning, Asking, Emptying, Looking, Opening, Delivering, Evicted, Visiting, Again, Judging, Stale, Closing, Returning, Leaving, Checking, Hinting, Seeking}
use Rattle.iox_model.specs.Settings.{is_client, other_role, borrow_limit_of, overflow_of}
use Rattle.iox_model.specs.States.{Port, Handle}
use Rattle.iox_model.specs.Messages.{Message}
use Rattle.iox_model.specs.Requests.{targets}
use Rattle.iox_model.specs.Handles.{is_request_loan, is_response_loan}
use Rattle.iox_laws.proofs.WeaveLedger.Lists.{IsAmong, NoRepeats}
use Rattle.iox_laws.proofs.WeaveLedger.Views.{View, IsAt, role_in, forgot_in}

abbrev pub is_loan : Kind → Bool
is_loan k = is_request_loan k || is_response_loan k

-- a loan is its port's own message, on the lane of its request, of the port's role
pub record IsMade (ports : List Port) (h : Handle) : Type 0 where
  pub sender : h.message.sender ≡ h.port
  pub lane : h.message.lane ≡ h.lane
  pub role : is_request_loan h.kind ≡ is_client (role_in ports h.port)

pub record FitsHandles (v : View) (n : ℕ) : Type 0 where
  pub apart : NoRepeats (map (λ h. h.number) v.handles)
  pub below : (h : Handle) → IsAmong h v.handles → h.number < v.next
  pub of_node : (h : Handle) → IsAmong h v.handles → h.node ≡ n
  pub of_port : (h : Handle) → IsAmong h v.handles → IsAt v.ports h.port n
  pub made : (h : Handle) → IsAmong h v.handles → is_loan h.kind ≡ true → IsMade v.ports h
  -- each loan has a serial of its own, of those that its port lent
  pub lent : (h : Handle) → IsAmong h v.handles → is_loan h.kind ≡ true → h.message.serial < v.loans h.port
  pub alone : (g h : Handle) → IsAmong g v.handles → IsAmong h v.handles → is_loan g.kind ≡ true → is_loan h.kind ≡ true
      → g.port ≡ h.port → g.message.serial ≡ h.message.serial → g.number ≡ h.number

-- a loan that its call made has the next serial and the next number; another is a handle
abbrev pub Stands : View → Handle → Bool → Type 0
Stands v h true = (h.message.serial ≡ v.loans h.port) × (h.number ≡ v.next)
Stands v h false = IsAmong h v.handles

pub record FitsLoan (v : View) (n : ℕ) (h : Handle) (copied : Bool) : Type 0 where
  pub of_node : h.node ≡ n
  pub of_port : IsAt v.ports h.port n
  pub loan : is_loan h.kind ≡ true
  pub made : IsMade v.ports h
  pub stands : Stands v h copied

pub record FitsSending (v : View) (n : ℕ) (x : Sending) : Type 0 where
  pub loan : FitsLoan v n x.loan x.copied
  pub apart : NoRepeats x.to
  pub known : (q : ℕ) → IsAmong q x.to → forgot_in v q ≡ false
  pub over : x.overflow ≡ overflow_of v.limits (role_in v.ports x.loan.port)

-- a handle that is filled stays the loan that it was
pub record IsFilled (v : View) (n : ℕ) (h : Handle) : Type 0 where
  pub old : Handle
  pub among : IsAmong old v.handles
  pub number : h.number ≡ old.number
  pub port : h.port ≡ old.port
  pub serial : h.message.serial ≡ old.message.serial
  pub was_loan : is_loan old.kind ≡ true
  pub of_node : h.node ≡ n
  pub is_loan_still : is_loan h.kind ≡ true
  pub made : IsMade v.ports h

-- a message that waits on a way is its sender's, and a response is on its lane
abbrev pub OnWay : List Port → Way → Message → Type 0
OnWay ports y m = (m.sender ≡ y.sender) × (is_client (role_in ports y.sender) ≡ false → m.lane ≡ y.lane)

-- a pending response takes from servers, a server from lane 0
abbrev pub TakesOn : View → Receiver → Way → Type 0
TakesOn v x w =
    (w.receiver ≡ x.port) × (is_client x.role ≡ true → is_client (role_in v.ports w.sender) ≡ false) × (is_client x.role ≡ false → w.lane ≡ 0)

abbrev pub limit_in : View → Way → ℕ
limit_in v w = borrow_limit_of v.limits (other_role (role_in v.ports w.receiver))

-- the receiver may have one more
abbrev pub IsBelow : View → Way → Type 0
IsBelow v w = v.borrowed w < limit_in v w

abbrev pub Has : View → Receiver → Way → Message → Type 0
Has v x w m = TakesOn v x w × IsBelow v w × OnWay v.ports w m

abbrev pub FitsOutcome : View → ℕ → Outcome → Type 0
FitsOutcome v n (Tells reply) = ⊤
FitsOutcome v n (Loans h) = FitsLoan v n h true
FitsOutcome v n (Fills h) = IsFilled v n h
FitsOutcome v n (Sends h copied count) = FitsLoan v n h copied
FitsOutcome v n (FailsToSend h copied refusal) = FitsLoan v n h copied
FitsOutcome v n (Receives x w m) = IsAt v.ports x.port n × Has v x w m
FitsOutcome v n (Drops h) = IsAmong h v.handles
FitsOutcome v n (DropsPort port) = ⊥
FitsOutcome v n (Forgets dead) = ⊤

pub record FitsLeft (x : Sending) (left : List Way) : Type 0 where
  pub apart : NoRepeats left
  pub among : (w : Way) → IsAmong w left → IsAmong w (targets x)

abbrev pub FitsLast : Sending → Option Way → Type 0
FitsLast x None = ⊤
FitsLast x (Some w) = (x.overflow ≡ true) × IsAmong w (targets x)

abbrev pub VisitsOwn : View → ℕ → Receiver → List Way → Type 0
VisitsOwn v n x left = IsAt v.ports x.port n × ((w : Way) → IsAmong w left → TakesOn v x w)

abbrev pub FitsDoing : View → ℕ → Doing → Type 0
FitsDoing v n (Ended o) = FitsOutcome v n o
FitsDoing v n (Loaning copies h left) = FitsLoan v n h true
FitsDoing v n (Asking x) = FitsSending v n x
FitsDoing v n (Emptying x left) = FitsSending v n x
FitsDoing v n (Looking x left full) = FitsSending v n x
FitsDoing v n (Opening x left full) = FitsSending v n x
FitsDoing v n (Delivering x last left count) = FitsSending v n x × FitsLeft x left × FitsLast x last
FitsDoing v n (Evicted x w left count) = FitsSending v n x × FitsLeft x left × FitsLast x (Some w)
FitsDoing v n (Visiting x left seen) = VisitsOwn v n x left
FitsDoing v n (Again x w left seen) = VisitsOwn v n x left × TakesOn v x w × IsBelow v w
FitsDoing v n (Judging x w m left seen) = VisitsOwn v n x left × Has v x w m
FitsDoing v n (Stale x w m left seen) = VisitsOwn v n x left × Has v x w m
FitsDoing v n (Closing h left) = IsAmong h v.handles
FitsDoing v n (Returning h) = IsAmong h v.handles
FitsDoing v n (Leaving h) = IsAmong h v.handles
FitsDoing v n (Checking h hinted left) = ⊤
FitsDoing v n (Hinting h left) = ⊤
FitsDoing v n (Seeking left) = ⊤
