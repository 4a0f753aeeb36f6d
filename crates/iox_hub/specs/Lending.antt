-- Loans of a hub, what is written to them, and what they carry then.
use Rattle.std.specs.Prelude.{◌≡◌, ◌≢◌, ℕ, Bool, true, false, if◌then◌else◌, List, [], Option, Some, option_map, slice_set, unwrap_or, ⊤}
use Rattle.iox_store.specs.Stored.{StoredMessage, filled_with, lent_filled, lent_uninit, with_stored}
use Rattle.iox_model.specs.declared.kind.Role.{Role}
use Rattle.iox_model.specs.Commands.{Payload}
use Rattle.iox_model.specs.declared.call.Call.TheVariants.{Write}
use Rattle.iox_model.specs.declared.kind.Kind.{Kind}
use Rattle.iox_model.specs.Loans.{kind_of_loan}
use Rattle.iox_model.specs.Names.{suits}
use Rattle.iox_model.specs.Settings.{Shape}
use Rattle.iox_model.specs.WholeCalls.{IsWholeCall}
use Rattle.iox_tables.specs.HubStates.States.{Given, state_shown}
use Rattle.iox_tables.specs.HubStates.Tables.{HandleState}
use Rattle.iox_tables.specs.HubStates.Wirings.{handle_in}
use Rattle.iox_control.specs.Controls.{ControlState, IsControl}
use Rattle.iox_control_request_copies.specs.Fills.{Writes, given_written, reply_of_write}
use Rattle.iox_control_request_copies.specs.Lends.{IsAskedOf}
use Rattle.iox_control_request_copies.specs.Asked.{Asked}
use Rattle.iox_control_request_copies.specs.Lent.{Lent}
use Rattle.iox_control_request_copies.specs.Lent.TheVariants.{Handle, Refused, OutOfMemory}
use Rattle.iox_control_request_copies.specs.Written.{Written}
use Rattle.iox_control_request_copies.specs.Written.TheVariants.{Done, WrongLength}
use Rattle.iox_hub.specs.Hubs.{HasValue, HubState, with_control}
use Rattle.iox_hub.specs.declared.shape.MessageShape.{MessageShape}
use Rattle.iox_hub.specs.Reads.{message_in}
use Rattle.iox_hub.specs.Shapes.{shape_of}
use Rattle.iox_hub.specs.Fits.{carried_in}
use Rattle.iox_hub.specs.Words.{Carried, stored_in}

-- ---- words

-- what the messages of a pool carry, with another one in that slot
abbrev pub with_carried : ℕ → StoredMessage → Carried → Carried
with_carried k z c = record c { contents = with_stored c.contents k z }

-- what the messages of all pools carry, with another one in that slot of the pool in this place
abbrev pub with_message : List (Option Carried) → ℕ → ℕ → StoredMessage → List (Option Carried)
with_message words pool k z =
    slice_set words pool (option_map (with_carried k z) (carried_in words pool))

-- ---- loans

-- What is asked of a loan of such messages: so many elements, unfilled or not.
pub record IsAskedFor {E H : Type 0} (many : Bool) (width : ℕ) (words : E → List ℕ)
    (user_words : H → List ℕ) (m : MessageShape E H) (k : ℕ) (uninit : Bool) (a : Asked) : Type 0
  where
    pub count : a.elements ≡ k
    pub unfilled : a.uninit ≡ uninit
    pub asked : IsAskedOf (shape_of many width words user_words m) a

-- what a message carries once it is lent for so many elements: the default user header, and no
-- element or the default of each
abbrev pub first_stored : Shape → Bool → ℕ → StoredMessage → StoredMessage
first_stored shape uninit k x =
    if uninit then lent_uninit x k shape.user else lent_filled x k shape.user (unwrap_or shape.default [])

-- The node has the new loan, which carries just that.
pub record IsFresh (h : HubState) (node n : ℕ) (role : Role) (shape : Shape) (uninit : Bool) (k : ℕ)
    : Type 0 where
  pub value : HasValue h node n (kind_of_loan role uninit)
  pub message : message_in h node n ≡ first_stored shape uninit k (message_in h node n)

-- the node has the loan, if it is made
abbrev pub HasLent : HubState → ℕ → Role → Shape → Bool → ℕ → Lent → Type 0
HasLent h node role shape uninit k (Handle l) = IsFresh h node l.number role shape uninit k
HasLent h node role shape uninit k (Refused r) = ⊤
HasLent h node role shape uninit k OutOfMemory = ⊤

-- What a loan leaves of words: one message is lent, if the loan is made. A refusal leaves all as it
-- is.
abbrev pub LeavesLent : HubState → Shape → Bool → ℕ → Lent → HubState → Type 0
LeavesLent old shape uninit k (Handle l) new =
    new
    ≡ record old {
      control = new.control;
      words = with_message old.words l.pool l.slot
          (first_stored shape uninit k (stored_in old.words l.pool l.slot));
    }
LeavesLent old shape uninit k (Refused r) new = new ≡ old
LeavesLent old shape uninit k OutOfMemory new = new ≡ with_control old new.control

-- ---- writes

-- In the tables, so many elements were written to the node's loan of that number, and it came to
-- this. It is one call of the machine.
pub record IsWrite (old : ControlState) (node n count : ℕ) (new : ControlState) (result : Written)
    : Type 0
  where
    pub left :
        (j : HandleState) → handle_in old.tables.handles node n ≡ Some j
        → Writes old j (Some count) result new
    pub order : IsControl new
    pub whole :
        (x : Given) (j : HandleState) (p : Payload)
        → handle_in old.tables.handles node n ≡ Some j → suits false (Write n p) j.kind ≡ true
        → p.elements ≡ Some count
        → IsWholeCall (state_shown x old.tables) node (Write n p) (reply_of_write result)
        (state_shown (given_written x old.tables j p.words result) new.tables)

-- so many elements of that role, with these words
abbrev pub payload_of : Role → ℕ → List ℕ → Payload
payload_of role count words = record { role = role; elements = Some count; words = words }

-- What a write leaves of words: the loan's message is filled, or nothing changes.
abbrev pub LeavesWritten : HubState → List ℕ → Written → HubState → Type 0
LeavesWritten old words (Done place) new =
    new
    ≡ record old {
      control = new.control;
      words = with_message old.words place.pool place.slot
          (filled_with (stored_in old.words place.pool place.slot) words);
    }
LeavesWritten old words WrongLength new = new ≡ old

-- So many elements were written, as many as the loan has: it is of that kind now, and carries them.
pub record IsWritten (old : HubState) (node n : ℕ) (kind : Kind) (count : ℕ) (words : List ℕ)
    (new : HubState) : Type 0 where
  pub fits : (message_in old node n).elements ≡ count
  pub value : HasValue new node n kind
  pub message : message_in new node n ≡ filled_with (message_in old node n) words

-- a write comes to this, or the loan has not so many elements
abbrev pub HasWritten : HubState → ℕ → ℕ → Kind → ℕ → List ℕ → Written → HubState → Type 0
HasWritten old node n kind count words (Done place) new = IsWritten old node n kind count words new
HasWritten old node n kind count words WrongLength new = (message_in old node n).elements ≢ count
