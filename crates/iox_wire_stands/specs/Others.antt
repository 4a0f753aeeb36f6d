-- What a beat of another node, and a death, leave.
use Rattle.std.specs.Prelude.{◌≡◌, ℕ, false, ◌==◌, List, None}
use Rattle.iox_model.specs.Joins.{not_living}
use Rattle.iox_model.specs.Weaves.{Beat, Dies, IsBeat, World}
use Rattle.iox_laws.specs.WeaveLaws.Laws.{node_of_beat}
use Rattle.iox_laws.specs.WeaveWorlds.Worlds.{IsReachable}
use Rattle.iox_wire_moments.specs.MomentsOf.{Pools}
use Rattle.iox_wire_locals.specs.declared.seat.Seat.{Seat}
use Rattle.iox_wire_locals.specs.BeginLaws.{Counts}
use Rattle.iox_wire_locals.specs.Tables.{Setting}
use Rattle.iox_wire_laws.specs.WireKeeping.Readiness.{ShowsDoing}
use Rattle.iox_wire_laws.specs.WireRegions.OwnedBegins.{LayoutFits}
use Rattle.iox_wire_stands.specs.Nodes.{NodeStands}
use Rattle.iox_wire_stands.specs.Runs.{GoesOnBy, Run}
use Rattle.iox_wire_stands.specs.Stands.{OwnersAre, Player, Stands}

-- A beat of another node leaves all that is so of a living node, where slots hold what they held.
abbrev pub OthersLeaveNodes : Type 0
OthersLeaveNodes =
    (p : Setting) (held : Pools) (w u : World) (b : Beat) (x : Seat)
    → IsReachable w → IsBeat w b u → (x.node == node_of_beat b) ≡ false
    → not_living u.state x.node ≡ None → LayoutFits p w.state.fixed → OwnersAre p w.state.fixed
    → Counts p x w.state held → ShowsDoing p held w x
    → NodeStands p held w.state x → NodeStands p held u.state x

-- Once a node died, the same words and nodes stand for the run with that beat, and slots hold what
-- they held.
abbrev pub DeathsKeep : Type 0
DeathsKeep =
    (p : Setting) (words : List ℕ) (players : ℕ → Player) (r : Run) (n : ℕ) (u : World)
    (stands : Stands p words players r)
    → IsBeat r.last (Dies n) u
    → (next : Run) × GoesOnBy r (Dies n) next × (next.last ≡ u)
    × (later : Stands p words players next)
    × (later.held ≡ stands.held) × (later.contents ≡ stands.contents)
