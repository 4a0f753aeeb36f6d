-- Never stuck: a call under way of a living node has a moment that may come, or may end.
use Rattle.std.specs.Prelude.{◌≡◌, ℕ, List, Some, None, ◌⊎◌}
use Rattle.iox_model.specs.Doings.{Doing}
use Rattle.iox_model.specs.Weaves.{IsBeat, World, Makes, Ends}
use Rattle.iox_model.specs.Joins.{not_living}
use Rattle.iox_model.specs.Moments.{Moment}
use Rattle.iox_model.specs.Commands.{Reply}
use Rattle.iox_laws.specs.WeaveWorlds.Worlds.{IsReachable}

-- some moment of the node's call may come
abbrev pub MayMove : World → ℕ → Type 0
MayMove w node = (m : Moment) × (v : World) × IsBeat w (Makes node m) v

-- the node's call may end
abbrev pub MayEnd : World → ℕ → Type 0
MayEnd w node =
    (reply : Reply) × (payload : List ℕ) × (v : World) × IsBeat w (Ends node reply payload) v

-- In every reachable world, the call of a living node may make a moment or may end.
abbrev pub NeverStuck : Type 0
NeverStuck =
    (w : World) (node : ℕ) (d : Doing)
    → IsReachable w → not_living w.state node ≡ None → w.doing node ≡ Some d
    → MayMove w node ⊎ MayEnd w node
