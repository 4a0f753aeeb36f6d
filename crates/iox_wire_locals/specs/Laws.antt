-- A node whose call is under way has something to do, and may visit its ways in any order; words
-- tell request states.
use Rattle.std.specs.Prelude.{◌≡◌, ℕ, ◌^◌, ◌<◌, true, List, [], ◌∷◌, Some}
use Rattle.iox_model.specs.declared.way.RequestState.{RequestState}
use Rattle.iox_model.specs.declared.way.RequestState.TheVariants.{Closed, Named}
use Rattle.iox_model.specs.declared.way.Way.{Way}
use Rattle.iox_model.specs.Maps.{has_way, without_way, not_in, AreDistinctWays}
use Rattle.iox_model.specs.States.{Fixed}
use Rattle.iox_model.specs.Doings.{Doing}
use Rattle.iox_wire_moments.specs.MomentsOf.{Pools}
use Rattle.iox_wire_locals.specs.declared.local.Local.{Local}
use Rattle.iox_wire_locals.specs.Tables.{Setting}
use Rattle.iox_wire_locals.specs.Locals.{state_word, state_told}
use Rattle.iox_wire_locals.specs.Begins.{is_busy}
use Rattle.iox_wire_locals.specs.Doings.{doing_of}

-- A busy node has something to do in the machine.
abbrev pub BusyNodesHaveSomethingToDo : Type 0
BusyNodesHaveSomethingToDo =
    (p : Setting) (f : Fixed) (held : Pools) (node : ℕ) (local : Local) → is_busy local ≡ true
    → (d : Doing) × (doing_of p f held node local ≡ Some d)

-- Ways may be visited in any order: what the machine has left is what was not visited.
abbrev pub VisitsGoOn : Type 0
VisitsGoOn =
    (ways visited : List Way) (w : Way) → AreDistinctWays ways
    → without_way w (not_in visited ways) ≡ not_in (w ∷ visited) ways

-- And nothing is left once all were.
abbrev pub VisitsEnd : Type 0
VisitsEnd =
    (ways visited : List Way) → ((w : Way) → has_way w ways ≡ true → has_way w visited ≡ true)
    → not_in visited ways ≡ []

-- ids of requests run below 2 ^ 62
abbrev pub HasSmallId : RequestState → Type 0
HasSmallId Closed = Unit {0}
HasSmallId (Named id hinted) = id < 2 ^ 62

-- The word of a request state tells that state.
abbrev pub WordsTellStates : Type 0
WordsTellStates = (shown : RequestState) → HasSmallId shown → state_told (state_word shown) ≡ shown
