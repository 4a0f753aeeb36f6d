-- What the write of a loan of one element comes to in a hub.
use Rattle.std.specs.Prelude.{ℕ, List}
use Rattle.iox_model.specs.declared.call.Call.TheVariants.{Write}
use Rattle.iox_model.specs.declared.kind.Kind.{Kind}
use Rattle.iox_model.specs.declared.kind.Role.{Role}
use Rattle.iox_model.specs.declared.reply.Reply.TheVariants.{Done}
use Rattle.iox_model.specs.WholeCalls.{IsWholeCall}
use Rattle.iox_tables.specs.HubStates.States.{Given}
use Rattle.iox_control_request_copies.specs.Place.{Place}
use Rattle.iox_control_request_copies.specs.Written.TheVariants as written
use Rattle.iox_hub.specs.Hubs.{HubState, state_of_hub}
use Rattle.iox_hub.specs.Keeping.{KeepsOthers}
use Rattle.iox_hub.specs.Lending.{IsWritten, LeavesWritten, payload_of}

-- One element with these words is written to the loan of that role and number, whose message lies in
-- that place. It is of that kind then.
pub record WritesOne
    (old : HubState) (node n : ℕ) (role : Role) (kind : Kind) (words : List ℕ) (place : Place)
    (new : HubState)
    : Type 0 where
  pub left : LeavesWritten old words (written.Done place) new
  pub whole :
      (x : Given)
      → IsWholeCall (state_of_hub x old) node (Write n (payload_of role 1 words)) Done
      (state_of_hub x new)
  pub has : IsWritten old node n kind 1 words new
  pub keeps : KeepsOthers old node n new
