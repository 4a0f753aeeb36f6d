-- What is received came to its receiver, on its lane, and a response names its request.
use Rattle.std.specs.Prelude.{◌≡◌, ℕ, Some, IsTrue}
use Rattle.iox_model.specs.declared.way.Way.{Way}
use Rattle.iox_model.specs.Doings.{Receiver, Receives, Ended}
use Rattle.iox_model.specs.Settings.{is_client}
use Rattle.iox_model.specs.Messages.{Message}
use Rattle.iox_model.specs.Weaves.{World}
use Rattle.iox_laws.specs.WeaveWorlds.Worlds.{IsReachable}

-- In every reachable world, what a receive is to hand out came to the receiver's port on its lane.
-- If a pending response receives it, it names its request.
abbrev pub ReceivesItsOwn : Type 0
ReceivesItsOwn =
    (w : World) (node : ℕ) (x : Receiver) (y : Way) (m : Message)
    → IsReachable w → w.doing node ≡ Some (Ended (Receives x y m))
    → (y.receiver ≡ x.port) × (y.lane ≡ x.lane)
    × (IsTrue (is_client x.role) → m.request ≡ x.request)
