-- The messages that a port keeps are those in its slots in use, and the pool's slots fit them.
use Rattle.std.specs.Prelude.{◌≡◌, ℕ, ◌<◌, true, not, ◌&&◌, if◌then◌else◌, nat_lt, List, [], ◌∷◌, Option, Some, None}
use Rattle.iox_model.specs.declared.way.Way.{Way}
use Rattle.iox_model.specs.Keeping.{kept_in}
use Rattle.iox_model.specs.Maps.{has_number, is_empty, AreDistinct}
use Rattle.iox_model.specs.Outstandings.{kept, is_dry}
use Rattle.iox_model.specs.Peers.{port_at}
use Rattle.iox_model.specs.States.{Port}
use Rattle.iox_model.specs.Weaves.{World}
use Rattle.iox_wire_laws.specs.WireSlots.Slots.{SlotsFit}
use Rattle.iox_wire_moments.specs.MomentsOf.{Pools}
use Rattle.iox_wire_locals.specs.declared.seat.Seat.{Seat}
use Rattle.iox_wire_locals.specs.Tables.{Setting}
use Rattle.iox_wire_locals.specs.declared.table.NewLoan.{NewLoan}
use Rattle.iox_wire_locals.specs.Desks.{delivers, at_desk}
use Rattle.iox_wire_locals.specs.Known.{free_slots}
use Rattle.iox_wire_locals.specs.Courses.{takes_slot}
use Rattle.iox_wire_locals.specs.BeginLaws.{Counts}
use Rattle.iox_wire_laws.specs.WireKeeping.Readiness.{ShowsDoing}
use Rattle.iox_wire_laws.specs.WireKeeping.UsedSlots.{serials_in, slots_in_call, slots_used, PortFits}

-- The messages that a port keeps are those in its slots in use.
abbrev pub KeptAreUsed : Type 0
KeptAreUsed =
    (p : Setting) (held : Pools) (w : World) (x : Seat) (port k : ℕ)
    → Counts p x w.state held → ShowsDoing p held w x → PortFits held w.state x port
    → has_number k (kept_in w port)
    ≡ has_number k (serials_in held port (slots_used x port))

-- ---- the pool

-- The slots in use are the pool's, no two hold the same message, and all others are free.
pub record PoolFits (held : Pools) (x : Seat) (port pool : ℕ) : Type 0 where
  pub within : (slot : ℕ) → has_number slot (slots_used x port) ≡ true → slot < pool
  pub apart : (i j : ℕ) → has_number i (slots_used x port) ≡ true
      → has_number j (slots_used x port) ≡ true
      → (held port i).serial ≡ (held port j).serial → i ≡ j
  pub free_once : AreDistinct (free_slots x port)
  pub free : (slot : ℕ) → has_number slot (free_slots x port)
      ≡ (nat_lt slot pool && not (has_number slot (slots_used x port)))

-- the serial of a slot in use
abbrev pub used_serial : Pools → Seat → ℕ → ℕ → Option ℕ
used_serial held x port slot =
    if has_number slot (slots_used x port) then Some (held port slot).serial else None

-- So the pool's slots fit what the port keeps.
abbrev pub SlotsAreFit : Type 0
SlotsAreFit =
    (p : Setting) (held : Pools) (w : World) (x : Seat) (port pool : ℕ)
    → Counts p x w.state held → ShowsDoing p held w x → PortFits held w.state x port
    → PoolFits held x port pool
    → SlotsFit pool (used_serial held x port) (free_slots x port) (kept_in w port)

-- Where the call under way has no slot yet, the port's pool has no message left exactly if no slot
-- is free: a loan decides by its own free slots.
abbrev pub PoolsAreTold : Type 0
PoolsAreTold =
    (p : Setting) (held : Pools) (w : World) (x : Seat) (port : ℕ) (q : Port)
    → Counts p x w.state held → ShowsDoing p held w x → PortFits held w.state x port
    → port_at w.state.fixed port ≡ Some q → PoolFits held x port q.pool
    → slots_in_call port x.local ≡ []
    → is_dry w.state.fixed port (kept w.state port []) ≡ is_empty (free_slots x port)

-- A loan that takes the first free slot leaves a pool that fits, where that slot holds a message of
-- its own.
abbrev pub PicksFit : Type 0
PicksFit =
    (held : Pools) (x : Seat) (o : NewLoan) (slot : ℕ) (free : List ℕ) (pool : ℕ)
    → PoolFits held x o.port pool → slots_in_call o.port x.local ≡ []
    → free_slots x o.port ≡ slot ∷ free
    → ((j : ℕ) → has_number j (slots_used x o.port) ≡ true
    → (held o.port j).serial ≡ (held o.port slot).serial → ⊥)
    → PoolFits held (takes_slot x o (slot ∷ free)) o.port pool

-- A delivery of a message in a slot in use leaves a pool that fits, and frees no slot.
abbrev pub DeliveriesFit : Type 0
DeliveriesFit =
    (held : Pools) (x : Seat) (w : Way) (slot pool : ℕ)
    → PoolFits held x w.sender pool → has_number slot (slots_used x w.sender) ≡ true
    → PoolFits held (at_desk x w.sender (delivers w slot)) w.sender pool
