-- Where the pool of a loan decides: once all that was given back is got back.
use Rattle.std.specs.Prelude.{◌≡◌, ℕ, Bool, List, [], None, IsTrue}
use Rattle.iox_model.specs.declared.way.Way.{Way}
use Rattle.iox_model.specs.Begins.{start}
use Rattle.iox_model.specs.Commands.{Call}
use Rattle.iox_model.specs.Doings.{Loaning}
use Rattle.iox_model.specs.Loans.{Choice}
use Rattle.iox_model.specs.Maps.{has_way}
use Rattle.iox_model.specs.Moments.{Moment}
use Rattle.iox_model.specs.Names.{misnamed}
use Rattle.iox_model.specs.States.{Handle, State}
use Rattle.iox_model.specs.WholeCalls.{moved_by, left_by, MayCome}
use Rattle.iox_model.specs.Runs.{IsReachableState}

-- From a reachable state, these moments led a call of the node to a loan that got back all there
-- is. On the ways that it has yet to visit nothing is left to get back.
pub record GotAllBack (now : State) (node : ℕ) (copies : Bool) (h : Handle) : Type 0 where
  pub first : State
  pub reached : IsReachableState first
  pub call : Call
  pub named : misnamed first.fixed node call ≡ None
  pub choice : Choice
  pub moments : List Moment
  pub come : MayCome first node (start first node choice call) moments
  pub now_is : now ≡ moved_by first moments
  pub ways : List Way
  pub lends : left_by first node (start first node choice call) moments ≡ Loaning copies h ways
  pub none : (y : Way) → IsTrue (has_way y ways) → now.returned y ≡ []
