-- Which slots of a living node's port have the messages that the machine keeps of it.
use Rattle.std.specs.Prelude.{◌≡◌, ℕ, List, None}
use Rattle.iox_model.specs.Joins.{not_living}
use Rattle.iox_model.specs.Keeping.{kept_in}
use Rattle.iox_wire_locals.specs.Known.{free_slots}
use Rattle.iox_wire_locals.specs.Tables.{Setting}
use Rattle.iox_wire_laws.specs.WireHolding.SlotsKnown.{IsPortOfSeat}
use Rattle.iox_wire_laws.specs.WireKeeping.PoolSlots.{used_serial}
use Rattle.iox_wire_laws.specs.WireSlots.Slots.{SlotsFit}
use Rattle.iox_wire_needs.specs.Runs.{Run}
use Rattle.iox_wire_needs.specs.Stands.{Player, seats_of}
use Rattle.iox_wire_needs.specs.WireStands.{WireStands}

-- Wherever a wire stands, the pool of each port of a living node fits what the machine keeps of that port.
-- Each message that the port keeps has a slot of its own, which the node has in use, and no other slot is in
-- use. The slots that the node lists as free are all others of the pool, each once. So it is of the node as
-- it is shown, wherever it is in its call.
abbrev pub PoolsFitWhatIsKept : Type 0
PoolsFitWhatIsKept =
    (p : Setting) (words : List ℕ) (players : ℕ → Player) (r : Run) (n port : ℕ)
    (wire : WireStands p words players r)
    → not_living r.last.state n ≡ None
    → let x = seats_of p players n in
    IsPortOfSeat p x port
    → SlotsFit (p.port port).pool (used_serial wire.stands.held x port) (free_slots x port)
    (kept_in r.last port)
