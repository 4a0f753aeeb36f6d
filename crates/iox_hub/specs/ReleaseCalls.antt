-- What the release of a handle comes to in a hub.
use Rattle.std.specs.Prelude.{◌≡◌, ℕ, Some}
use Rattle.iox_model.specs.declared.call.Call.TheVariants.{Release}
use Rattle.iox_model.specs.declared.kind.Kind.{Kind}
use Rattle.iox_model.specs.declared.reply.Reply.TheVariants.{Done}
use Rattle.iox_model.specs.WholeCalls.{IsWholeCall}
use Rattle.iox_tables.specs.HubStates.States.{Given}
use Rattle.iox_tables.specs.HubStates.Tables.{HandleState, PortState, port_in}
use Rattle.iox_tables.specs.HubStates.Wirings.{handle_in}
use Rattle.iox_control_releasing.specs.Goings.{StaysTidy}
use Rattle.iox_hub.specs.Hubs.{HubState, state_of_hub, with_control}
use Rattle.iox_hub.specs.Keeping.{KeepsOthers}
use Rattle.iox_hub.specs.Releases.{StillHas}
use Rattle.iox_hub.specs.Sending.{HasNothing, with_words_left}

-- The node's handle of that number, which may be of that kind by now, is released.
pub record ReleasesHandle (old : HubState) (node n : ℕ) (kind : Kind) (new : HubState) : Type 0 where
  pub had : StillHas old node n kind
  -- words go only with their pools: that of its message, and that of its port
  pub left :
      (h : HandleState) → handle_in old.control.tables.handles node n ≡ Some h
      → (p : PortState) → port_in old.control.tables.ports h.port ≡ Some p
      → new ≡ with_words_left (with_words_left (with_control old new.control) h.pool) p.pool
  pub whole :
      (x : Given)
      → IsWholeCall (state_of_hub x old) node (Release n) Done (state_of_hub x new)
  pub gone : HasNothing new node n
  pub keeps : KeepsOthers old node n new
  pub tidy : StaysTidy old.control.tables new.control.tables
