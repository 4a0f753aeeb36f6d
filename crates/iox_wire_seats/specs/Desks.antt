-- One desk for each port of a node.
use Rattle.std.specs.Prelude.{◌≡◌, ◌==◌, ◌<◌, ℕ, true, false, List, [], ◌∷◌, length, slice_index}
use Rattle.std.specs.Prelude.{◌+◌, ◌^◌, find}
use Rattle.iox_model.specs.declared.way.Way.{Way}
use Rattle.std.specs.Option.{option_map_or}
use Rattle.iox_wire_locals.specs.declared.table.Entry.{Entry}
use Rattle.iox_wire_locals.specs.declared.table.Desk.{Desk}
use Rattle.iox_wire_seats.specs.Records.{HasFewer}

-- none of these is the desk of that port
abbrev pub AreOfOtherPorts : ℕ → List Desk → Type 0
AreOfOtherPorts port [] = Unit {0}
AreOfOtherPorts port (d ∷ ds) = ((d.port == port) ≡ false) × AreOfOtherPorts port ds

-- no two of these are desks of one port
abbrev pub AreOfDifferentPorts : List Desk → Type 0
AreOfDifferentPorts [] = Unit {0}
AreOfDifferentPorts (d ∷ ds) = AreOfOtherPorts d.port ds × AreOfDifferentPorts ds

-- the message of the entry has a use at this desk, and there is room for its lane
abbrev pub IsHeldAt : Entry → Desk → Type 0
IsHeldAt e d = (0 < slice_index d.uses e.slot) × (length d.free_lanes < length d.uses)

-- the desk of the entry's port may give its message up
abbrev pub MayGiveUp : Entry → List Desk → Type 0
MayGiveUp e [] = Unit {0}
MayGiveUp e (d ∷ ds) = ((d.port == e.port) ≡ true → IsHeldAt e d) × MayGiveUp e ds

-- the desk of that port may count one loan more
abbrev pub MayCount : ℕ → List Desk → Type 0
MayCount port [] = Unit {0}
MayCount port (d ∷ ds) = ((d.port == port) ≡ true → d.loans + 1 < 2 ^ 64) × MayCount port ds

-- so it is at the desk of that port
abbrev pub AtDesk : (Desk → Type 0) → ℕ → List Desk → Type 0
AtDesk P port [] = Unit {0}
AtDesk P port (d ∷ ds) = ((d.port == port) ≡ true → P d) × AtDesk P port ds

-- the slot of that port is in use
abbrev pub IsUsed : (port slot : ℕ) → List Desk → Type 0
IsUsed port slot desks = AtDesk (λ d. 0 < slice_index d.uses slot) port desks

-- The message of a slot may be delivered on the way: the slot is in use, may be so once more, and
-- on the way fewer slots are outstanding than the pool has.
pub record MayDeliverAt (w : Way) (slot : ℕ) (d : Desk) : Type 0 where
  pub used : 0 < slice_index d.uses slot
  pub fits : slice_index d.uses slot + 1 < 2 ^ 64
  pub fewer : HasFewer (length d.uses) w d.recorded

-- so may that of the port
abbrev pub MayDeliver : ℕ → Way → ℕ → List Desk → Type 0
MayDeliver port w slot desks = AtDesk (MayDeliverAt w slot) port desks

-- the free slots of a port
abbrev pub free_at : ℕ → List Desk → List ℕ
free_at port desks = option_map_or (λ d. d.free) (find (λ d. d.port == port) desks) []
