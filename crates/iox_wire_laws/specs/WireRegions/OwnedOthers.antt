-- What a call owns it still owns after a beat of another node.
use Rattle.std.specs.Prelude.{◌≡◌, ℕ, ◌==◌, false, None}
use Rattle.iox_model.specs.Joins.{not_living}
use Rattle.iox_model.specs.Weaves.{World, Beat, IsBeat}
use Rattle.iox_laws.specs.WeaveLaws.Laws.{node_of_beat}
use Rattle.iox_laws.specs.WeaveWorlds.Worlds.{IsReachable}
use Rattle.iox_wire_locals.specs.declared.local.Local.{Local}
use Rattle.iox_wire_locals.specs.declared.local.Local.TheVariants.{ReleaseCloses}
use Rattle.iox_wire_locals.specs.Tables.{Setting}
use Rattle.iox_wire_laws.specs.WireRegions.OwnedWords.{Owns}
use Rattle.iox_wire_laws.specs.WireRegions.OwnedBegins.{LayoutFits}

-- the place is not one at which a release closes its request states
abbrev pub ClosesNothing : Local → Type 0
ClosesNothing (ReleaseCloses e w left) = ⊥
ClosesNothing local = Unit {0}

-- A beat of another node leaves what a living node's call owns, wherever it is but where it closes
-- request states.
abbrev pub OthersLeaveOwned : Type 0
OthersLeaveOwned =
    (p : Setting) (w u : World) (b : Beat) (n : ℕ) (local : Local)
    → IsReachable w → IsBeat w b u → (n == node_of_beat b) ≡ false
    → not_living u.state n ≡ None → LayoutFits p w.state.fixed → ClosesNothing local
    → Owns p n w.state.fixed w.state.request_state local
    → Owns p n u.state.fixed u.state.request_state local
