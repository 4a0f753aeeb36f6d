-- What a node names still stands after a beat of another node.
use Rattle.std.specs.Prelude.{◌≡◌, ◌==◌, false, None}
use Rattle.iox_model.specs.Joins.{not_living}
use Rattle.iox_model.specs.Weaves.{World, Beat, IsBeat}
use Rattle.iox_laws.specs.WeaveLaws.Laws.{node_of_beat}
use Rattle.iox_laws.specs.WeaveWorlds.Worlds.{IsReachable}
use Rattle.iox_wire_locals.specs.declared.seat.Seat.{Seat}
use Rattle.iox_wire_locals.specs.Tables.{Setting}
use Rattle.iox_wire_laws.specs.WireRegions.OwnedBegins.{LayoutFits}
use Rattle.iox_wire_laws.specs.WireHolding.SlotsKnown.{NamesStand}

-- A beat of another node leaves what a living node names.
abbrev pub OthersLeaveNames : Type 0
OthersLeaveNames =
    (p : Setting) (w u : World) (b : Beat) (x : Seat)
    → IsReachable w → IsBeat w b u → (x.node == node_of_beat b) ≡ false
    → not_living u.state x.node ≡ None → LayoutFits p w.state.fixed
    → NamesStand p w.state.fixed x → NamesStand p u.state.fixed x
