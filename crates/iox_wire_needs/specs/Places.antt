-- The slots and lanes that a call's place names.
use Rattle.std.specs.Prelude.{◌≡◌, ℕ, None, List}
use Rattle.iox_model.specs.Joins.{not_living}
use Rattle.iox_wire_copies.specs.CopyCalls.{TellsOfLane}
use Rattle.iox_wire_keeps.specs.Local.{Local}
use Rattle.iox_wire_loans.specs.Aims.{TellsOfSlot}
use Rattle.iox_wire_receives.specs.Aims.{TellsOfSource}
use Rattle.iox_wire_keeps.specs.Tables.{Setting}
use Rattle.iox_wire_keeps.specs.Runs.{Run}
use Rattle.iox_wire_keeps.specs.Stands.{Player}
use Rattle.iox_wire_keeps.specs.WireStands.{WireStands}

-- a slot that the call took is one of its pool, and the lane that a header tells, or that a request
-- in the making has, one of its client
abbrev pub InPools : Setting → Local → Type 0
InPools p local = TellsOfSource p local × TellsOfSlot p local × TellsOfLane p local

-- So it is of each living node.
abbrev pub PlacesAreInPools : Type 0
PlacesAreInPools =
    (p : Setting) (words : List ℕ) (players : ℕ → Player) (r : Run) (n : ℕ)
    → WireStands p words players r → not_living r.last.state n ≡ None
    → InPools p (players n).seat.local
