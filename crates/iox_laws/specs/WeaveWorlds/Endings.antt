-- A living node can end its call without any other node.
use Rattle.std.specs.Prelude.{◌≡◌, ℕ, List, [], ◌∷◌, ◌++◌, map, Some, None}
use Rattle.iox_model.specs.Doings.{Doing}
use Rattle.iox_model.specs.Weaves.{IsWeave, World, Makes, Ends}
use Rattle.iox_model.specs.Joins.{not_living}
use Rattle.iox_model.specs.Moments.{Moment}
use Rattle.iox_model.specs.Commands.{Reply}
use Rattle.iox_laws.specs.WeaveWorlds.Worlds.{IsReachable}

-- In every reachable world, some moments of a living node's call lead to its end, with no beat of
-- another node in between. No call waits for another node.
abbrev pub EachComesToItsEnd : Type 0
EachComesToItsEnd =
    (w : World) (node : ℕ) (d : Doing)
    → IsReachable w → not_living w.state node ≡ None → w.doing node ≡ Some d
    → (ms : List Moment) × (reply : Reply) × (payload : List ℕ) × (v : World)
    × IsWeave w (map (Makes node) ms ++ Ends node reply payload ∷ []) v
