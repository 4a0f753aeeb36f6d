-- What the release of a typed handle or port comes to.
use Rattle.std.specs.Prelude.{◌≡◌, ℕ, false}
use Rattle.iox_model.specs.declared.kind.Kind.{Kind}
use Rattle.iox_model.specs.declared.kind.Kind.TheVariants.{PendingResponse}
use Rattle.iox_model.specs.Handles.{same_kind}
use Rattle.iox_model.specs.Values.{IsRelease}
use Rattle.iox_tables.specs.HubStates.States.{Given}
use Rattle.iox_hub_laws.specs.Hubs.{HubState, state_of_hub}
use Rattle.iox_hub_laws.specs.Keeping.{HaveSameShapes, KeepsOthers}
use Rattle.iox_hub_laws.specs.Releases.{StillHas}
use Rattle.iox_hub_laws.specs.Sending.{HasNothing}
use Rattle.iox_hub_laws.specs.Sends.{NothingComes}
use Rattle.iceoryx2_ports.specs.Idling.{KeepsIdle}
use Rattle.iceoryx2_ports.specs.Keeping.{KeepsAsking, KeepsOthersAsking}
use Rattle.iceoryx2_ports.specs.Opens.{LeavesOpen}
use Rattle.iceoryx2_ports.specs.Reaching.{KeepsRoom}
use Rattle.iceoryx2_ports.specs.Streams.{AddsNothing}

-- A value of that kind is released: what it stands for is gone, if the node still has that, though a
-- command may have filled it; else nothing changes. All other values are as they were, nothing comes
-- where nothing waited or is added to what is waiting, who had room or was idle still has it or is, and
-- other open requests are open still. Only the release of a pending response ends one.
pub record IsReleased (old : HubState) (node n : ℕ) (kind : Kind) (new : HubState) : Type 0 where
  pub whole : (x : Given) → IsRelease (state_of_hub x old) node n kind (state_of_hub x new)
  pub gone : StillHas old node n kind → HasNothing new node n
  pub unchanged : (StillHas old node n kind → ⊥) → new ≡ old
  pub keeps : KeepsOthers old node n new
  pub shapes : HaveSameShapes old new
  pub asks : KeepsOthersAsking old node n new
  pub asking : same_kind kind PendingResponse ≡ false → KeepsAsking old new
  pub comes : NothingComes old new
  pub adds : AddsNothing old new
  pub room : KeepsRoom old new
  pub idle : KeepsIdle old new
  pub requests : LeavesOpen old node n kind new
