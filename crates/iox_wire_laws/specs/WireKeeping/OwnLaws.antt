-- What a node knows and counts stays so, whatever it does itself and whatever others do.
use Rattle.std.specs.Prelude.{◌≡◌, ℕ, true, false, ◌==◌, List, Some}
use Rattle.iox_model.specs.Commands.{WireCall}
use Rattle.iox_model.specs.Ends as ends
use Rattle.iox_model.specs.Moments.{Moment, moved}
use Rattle.iox_model.specs.Peers.{node_of_port}
use Rattle.iox_model.specs.States.{Fixed, State}
use Rattle.iox_model.specs.Weaves.{World, Beat, IsBeat}
use Rattle.iox_laws.specs.WeaveLaws.Laws.{node_of_beat}
use Rattle.iox_laws.specs.WeaveWorlds.Worlds.{IsReachable}
use Rattle.iox_wire_moments.specs.MomentsOf.{Pools}
use Rattle.iox_wire_locals.specs.declared.local.Ending.{Ending}
use Rattle.iox_wire_locals.specs.declared.local.Local.{Local}
use Rattle.iox_wire_locals.specs.declared.local.Local.TheVariants.{LendStores}
use Rattle.iox_wire_locals.specs.declared.seat.Seat.{Seat}
use Rattle.iox_wire_locals.specs.Tables.{Setting}
use Rattle.iox_wire_locals.specs.Known.{known}
use Rattle.iox_wire_locals.specs.Doings.{outcome_of, doing_of}
use Rattle.iox_wire_locals.specs.Begins.{begin}
use Rattle.iox_wire_locals.specs.Steps.{advance, accessed, closed}
use Rattle.iox_wire_locals.specs.Knowing.{Knows}
use Rattle.iox_wire_locals.specs.BeginLaws.{Counts}
use Rattle.iox_wire_locals.specs.EndLaws.{EndReliesOn}
use Rattle.iox_wire_laws.specs.WireKeeping.OwnParts.{KeepsOwn}
use Rattle.iox_wire_laws.specs.WireKeeping.Readiness.{ShowsDoing}

-- ---- what the node does itself

-- The begin of a call changes nothing of the node's own part.
abbrev pub BeginsKeepOwn : Type 0
BeginsKeepOwn = (p : Setting) (x : Seat) (call : WireCall) → KeepsOwn x (begin p x call)

-- Nor does an access.
abbrev pub StepsKeepOwn : Type 0
StepsKeepOwn =
    (p : Setting) (x : Seat) (seen : ℕ) → KeepsOwn x (advance p (accessed x) x.local seen)

-- What a node counts is so as long as its own part is the same, whatever moments come.
abbrev pub OwnStaysCounted : Type 0
OwnStaysCounted =
    (p : Setting) (x y : Seat) (s : State) (m : Moment) (held : Pools)
    → KeepsOwn x y → Counts p x s held → Counts p y s held × Counts p y (moved s m) held

-- The end of its call leaves what it counts as the machine does.
abbrev pub EndsKeepCounts : Type 0
EndsKeepCounts =
    (p : Setting) (x : Seat) (s : State) (held : Pools) (payload : List ℕ) (ending : Ending)
    → Counts p x s held → EndReliesOn p x held payload ending
    → Counts p (closed p x (Some ending))
    (ends.settled s x.node payload (outcome_of p held x.node ending)) held

-- ---- what others do

-- a loan that its call is to send, too, is one of the node's own ports
abbrev pub LendsByOwn : Setting → Seat → Local → Type 0
LendsByOwn p x (LendStores o slot next) =
    o.copies ≡ true → (node_of_port (known p x) o.port ≡ x.node) × ((p.port o.port).node ≡ x.node)
LendsByOwn p x local = Unit {0}

-- What a node knows decides what its place stands for, whatever else is fixed in the machine.
abbrev pub PlacesAreKnown : Type 0
PlacesAreKnown =
    (p : Setting) (x : Seat) (f g : Fixed) (held : Pools)
    → Knows p x f held → Knows p x g held → LendsByOwn p x x.local
    → doing_of p f held x.node x.local ≡ doing_of p g held x.node x.local

-- A beat of another node leaves what a node counts, and what its place stands for.
abbrev pub OthersKeepCounts : Type 0
OthersKeepCounts =
    (p : Setting) (held : Pools) (w u : World) (b : Beat) (x : Seat)
    → IsReachable w → IsBeat w b u → (x.node == node_of_beat b) ≡ false
    → Counts p x w.state held → ShowsDoing p held w x
    → Counts p x u.state held × ShowsDoing p held u x
