-- What a call owns so that no beat of another node takes it away: also where it closes request
-- states, which are then those of its node's own clients.
use Rattle.std.specs.Prelude.{◌≡◌, ℕ, ◌==◌, false, ◌∷◌, None}
use Rattle.iox_model.specs.declared.way.RequestState.{RequestState}
use Rattle.iox_model.specs.declared.way.Way.{Way}
use Rattle.iox_model.specs.Commands.{WireCall}
use Rattle.iox_model.specs.Joins.{not_living}
use Rattle.iox_model.specs.States.{Fixed}
use Rattle.iox_model.specs.Weaves.{World, Beat, IsBeat}
use Rattle.iox_laws.specs.WeaveLaws.Laws.{node_of_beat}
use Rattle.iox_laws.specs.WeaveWorlds.Worlds.{IsReachable}
use Rattle.iox_wire_moments.specs.MomentsOf.{Pools}
use Rattle.iox_wire_locals.specs.declared.local.Local.{Local}
use Rattle.iox_wire_locals.specs.declared.local.Local.TheVariants.{ReleaseCloses}
use Rattle.iox_wire_locals.specs.declared.seat.Seat.{Seat}
use Rattle.iox_wire_locals.specs.Begins.{begin}
use Rattle.iox_wire_locals.specs.Tables.{Setting}
use Rattle.iox_wire_laws.specs.WireKeeping.Readiness.{IsReady}
use Rattle.iox_wire_laws.specs.WireShows.OwnedCalls.{Each}
use Rattle.iox_wire_laws.specs.WireRegions.OwnedWords.{Owns}
use Rattle.iox_wire_laws.specs.WireRegions.OwnedBegins.{LayoutFits}
use Rattle.iox_wire_laws.specs.WireRegions.OwnedWordLaws.{StayOwners, GoOnAsOwners}

-- the receiver of the way is a port of the node
abbrev pub IsOfNode : Setting → ℕ → Way → Type 0
IsOfNode p node y = p.layout.owner y.receiver ≡ node

-- the request states that a release has left to close are those of its node's own clients
abbrev pub ClosesOwn : Setting → ℕ → Local → Type 0
ClosesOwn p node (ReleaseCloses e w left) = Each (IsOfNode p node) (w ∷ left)
ClosesOwn p node local = Unit {0}

-- What the call owns at its place, and that it closes only request states of its own clients.
pub record OwnsFirmly (p : Setting) (node : ℕ) (f : Fixed) (shown : Way → RequestState)
    (local : Local) : Type 0 where
  pub owns : Owns p node f shown local
  pub closes : ClosesOwn p node local

-- A beat of another node leaves what a living node's call owns firmly, wherever it is.
abbrev pub OthersLeaveFirm : Type 0
OthersLeaveFirm =
    (p : Setting) (w u : World) (b : Beat) (n : ℕ) (local : Local)
    → IsReachable w → IsBeat w b u → (n == node_of_beat b) ≡ false
    → not_living u.state n ≡ None → LayoutFits p w.state.fixed
    → OwnsFirmly p n w.state.fixed w.state.request_state local
    → OwnsFirmly p n u.state.fixed u.state.request_state local

-- After an access of its own the call owns its next place as firmly.
abbrev pub FirmOwnersStay : Type 0
FirmOwnersStay = StayOwners OwnsFirmly

-- Where the call of a living node owns its place firmly, it continues, and owns its next place as
-- firmly.
abbrev pub FirmOwnersGoOn : Type 0
FirmOwnersGoOn = GoOnAsOwners OwnsFirmly

-- Whatever call a ready node begins, it closes only request states of its own clients: so a call
-- that begins as the owner of its first place owns it firmly.
abbrev pub CallsBeginFirmly : Type 0
CallsBeginFirmly =
    (p : Setting) (held : Pools) (w : World) (x : Seat) (call : WireCall)
    → LayoutFits p w.state.fixed → IsReady p held w x
    → Owns p x.node w.state.fixed w.state.request_state (begin p x call).local
    → OwnsFirmly p x.node w.state.fixed w.state.request_state (begin p x call).local
