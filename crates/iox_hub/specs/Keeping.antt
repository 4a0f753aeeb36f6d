-- What of the values of nodes stays as it is in a call, and which values are new.
use Rattle.std.specs.Prelude.{◌≡◌, ◌≢◌, ℕ, IsSome, ⊤}
use Rattle.iox_control.specs.declared.received.Received.{Received}
use Rattle.iox_control.specs.declared.received.Received.TheVariants as received
use Rattle.iox_control_request_copies.specs.Lent.{Lent}
use Rattle.iox_control_request_copies.specs.Lent.TheVariants.{Handle, Refused, OutOfMemory}
use Rattle.iox_tables.specs.HubStates.Wirings.{handle_in}
use Rattle.iox_tables.specs.HubLoans.Questions.{kind_in}
use Rattle.iox_hub.specs.Hubs.{HubState}
use Rattle.iox_hub.specs.Reads.{message_in}
use Rattle.iox_hub.specs.Sending.{HasNothing}

-- ---- what stays

-- The node's value of that number is as it was: it is of the same kind, it names the same port and
-- message, and its message carries the same.
pub record IsSame (old : HubState) (node n : ℕ) (new : HubState) : Type 0 where
  pub kind : kind_in new.control.tables node n ≡ kind_in old.control.tables node n
  pub handle :
      handle_in new.control.tables.handles node n ≡ handle_in old.control.tables.handles node n
  pub message : message_in new node n ≡ message_in old node n

-- Each value of a node of which that is so is as it was.
abbrev pub Keeps : (ℕ → ℕ → Type 0) → HubState → HubState → Type 0
Keeps P old new =
    (node n : ℕ) → P node n → IsSome (kind_in old.control.tables node n) → IsSame old node n new

-- Each value of each node is as it was.
abbrev pub KeepsAll : HubState → HubState → Type 0
KeepsAll old new = Keeps (λ node n. ⊤) old new

-- Messages have the same shapes as before: what they are made of, and what they carry at first.
pub record HaveSameShapes (old new : HubState) : Type 0 where
  pub request : new.request ≡ old.request
  pub response : new.response ≡ old.response

-- it is another value than that node's of that number
abbrev pub IsOther : ℕ → ℕ → ℕ → ℕ → Type 0
IsOther node n a m = a ≡ node → m ≢ n

-- Each value but that node's of that number is as it was.
abbrev pub KeepsOthers : HubState → ℕ → ℕ → HubState → Type 0
KeepsOthers old node n new = Keeps (IsOther node n) old new

-- What each of two calls keeps, one after the other, they keep together.
abbrev pub KeepingComposes : Type 0
KeepingComposes =
    (first second third : HubState) (node n other m : ℕ) → KeepsOthers first node n second
    → KeepsOthers second other m third
    → Keeps (λ a i. IsOther node n a i × IsOther other m a i) first third

-- ---- what is new

-- what a receive gave, if it gave something, was nothing of the node's before
abbrev pub IsNew : HubState → ℕ → Received → Type 0
IsNew old node (received.Handle n) = HasNothing old node n
IsNew old node received.Nothing = ⊤
IsNew old node received.AtLimit = ⊤

-- so was a loan, if it is made
abbrev pub IsNewLoan : HubState → ℕ → Lent → Type 0
IsNewLoan old node (Handle l) = HasNothing old node l.number
IsNewLoan old node (Refused r) = ⊤
IsNewLoan old node OutOfMemory = ⊤
