-- After a Forget nothing is outstanding to the dead.
use Rattle.std.specs.Prelude.{◌≡◌, ℕ, List, [], IsTrue}
use Rattle.iox_model.specs.declared.way.Way.{Way}
use Rattle.iox_model.specs.Forgetting.{has_forgotten, goes_to_dead}
use Rattle.iox_model.specs.Weaves.{World, Beat}
use Rattle.iox_model.specs.States.{State}
use Rattle.iox_model.specs.Outstandings.{outstanding_on}
use Rattle.iox_laws.specs.WeaveLedger.OnceLaws.{IsOnWire}

-- Once a node forgot a dead one, nothing is ever outstanding on a way from the node's ports to
-- those of the dead one.
abbrev pub NothingToTheDead : Type 0
NothingToTheDead =
    (s : State) (v : World) (bs : List Beat) (node dead : ℕ) (y : Way) → IsOnWire s bs v
    → IsTrue (has_forgotten v.state.fixed node dead)
    → IsTrue (goes_to_dead v.state.fixed node dead y) → outstanding_on v.state y ≡ []
