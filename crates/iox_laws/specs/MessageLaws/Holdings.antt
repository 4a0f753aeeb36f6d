-- What a receiver has was delivered to it.
use Rattle.std.specs.Prelude.{ℕ, List, IsTrue}
use Rattle.iox_model.specs.declared.way.Way.{Way}
use Rattle.iox_model.specs.Handles.{is_received, way_of}
use Rattle.iox_model.specs.Messages.{Message}
use Rattle.iox_model.specs.Runs.{IsReachableState}
use Rattle.iox_model.specs.States.{Handle, State}
use Rattle.iox_model.specs.Weaves.{World, Beat}
use Rattle.iox_laws.specs.WeaveLedger.OnceLaws.{IsOnWire}
use Rattle.iox_laws.specs.RunLaws.Traces.{beats_of_reached}
use Rattle.iox_laws.specs.MessageLaws.Deliveries.{messages_put_on, messages_taken_from}
use Rattle.iox_laws.specs.MessageLaws.Lists.{IsOneOf}

-- the beats delivered this message on the way, and took it from there
pub record CameBy (y : Way) (m : Message) (bs : List Beat) : Type 0 where
  pub delivered : IsOneOf m (messages_put_on y bs)
  pub taken : IsOneOf m (messages_taken_from y bs)

-- In each reachable state, the message of a receiver's handle was delivered on its way and taken
-- from there, whole.
abbrev pub HadAsDelivered : Type 0
HadAsDelivered =
    (s : State) (reached : IsReachableState s) (node : ℕ) (h : Handle)
    → IsOneOf h (s.fixed.handles node) → IsTrue (is_received h.kind)
    → CameBy (way_of h) h.message (beats_of_reached s reached)

-- In each world of a wire, the message of a receiver's handle was delivered on its way and taken
-- from there, whole.
abbrev pub HadAsDeliveredOnWires : Type 0
HadAsDeliveredOnWires =
    (s : State) (v : World) (bs : List Beat) (node : ℕ) (h : Handle) → IsOnWire s bs v
    → IsOneOf h (v.state.fixed.handles node) → IsTrue (is_received h.kind)
    → CameBy (way_of h) h.message bs
