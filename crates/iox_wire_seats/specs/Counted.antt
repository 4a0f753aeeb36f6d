-- How many of its messages a port keeps, how many are outstanding on a way, and which serials its slots
-- hold, as its desk tells.
use Rattle.std.specs.Prelude.{ℕ, ◌-◌, ◌==◌, List, Option, find, length, slice_index}
use Rattle.std.specs.Option.{option_map_or}
use Rattle.iox_model.specs.declared.way.Way.{Way}
use Rattle.iox_model.specs.Maps.{same_way}
use Rattle.iox_wire_locals.specs.declared.table.Desk.{Desk}
use Rattle.iox_wire_locals.specs.declared.table.Recorded.{Recorded}

-- as many slots are recorded on the way; none where there is no record of it
abbrev pub count_recorded : Way → List Recorded → ℕ
count_recorded w recorded =
    option_map_or (λ r. length r.slots) (find (λ r. same_way r.way w) recorded) 0

-- as many messages of the desk's port were delivered on the way and not got back
abbrev pub outstanding_at : Way → Desk → ℕ
outstanding_at w d = count_recorded w d.recorded

-- as many slots of the desk are not free
abbrev pub kept_at : Desk → ℕ
kept_at d = length d.uses - length d.free

-- the serial of the last loan that took the slot
abbrev pub serial_at : ℕ → Desk → ℕ
serial_at slot d = slice_index d.serials slot

-- the desk of that port
abbrev pub desk_of : ℕ → List Desk → Option Desk
desk_of port desks = find (λ d. d.port == port) desks
