-- The slots of a port's pool: which serial each one holds, and which of them are free.
use Rattle.std.specs.Prelude.{◌≡◌, ℕ, ◌+◌, ◌<◌, Bool, true, if◌then◌else◌, List, [], ◌∷◌, length, Option, Some, None}
use Rattle.iox_model.specs.declared.reply.Refusal.TheVariants.{OutOfMemory}
use Rattle.iox_model.specs.declared.way.Way.{Way}
use Rattle.iox_model.specs.Doings.{refused, Loans, Ended, Loaning}
use Rattle.iox_model.specs.Keeping.{kept_in}
use Rattle.iox_model.specs.Maps.{has_number, is_empty, AreDistinct}
use Rattle.iox_model.specs.Outstandings.{is_dry}
use Rattle.iox_model.specs.Peers.{port_at, node_of_port}
use Rattle.iox_model.specs.Responses.{sends, loaned}
use Rattle.iox_model.specs.States.{Port, Handle, Fixed}
use Rattle.iox_model.specs.Weaves.{World}

-- no two slots hold the same serial
abbrev pub TellsApart : (ℕ → Option ℕ) → Type 0
TellsApart serial_in = (i j k : ℕ) → serial_in i ≡ Some k → serial_in j ≡ Some k → i ≡ j

-- Each message that a port keeps is in a slot of its own. The free slots are those of its pool that
-- hold none, each listed once.
pub record SlotsFit (pool : ℕ) (serial_in : ℕ → Option ℕ) (free kept : List ℕ) : Type 0 where
  -- no two slots hold the same message
  pub apart : TellsApart serial_in
  pub within : (slot k : ℕ) → serial_in slot ≡ Some k → slot < pool
  -- the free slots are exactly those of the pool that hold none, each listed once
  pub free_once : AreDistinct free
  pub free_is :
      (slot : ℕ) → has_number slot free ≡ true → (slot < pool) × (serial_in slot ≡ None)
  pub is_free : (slot : ℕ) → slot < pool → serial_in slot ≡ None → has_number slot free ≡ true
  -- the kept messages are exactly those that a slot holds, each listed once
  pub kept_once : AreDistinct kept
  pub kept_is : (k : ℕ) → has_number k kept ≡ true → (slot : ℕ) × (serial_in slot ≡ Some k)
  pub is_kept : (slot k : ℕ) → serial_in slot ≡ Some k → has_number k kept ≡ true

-- Free slots and kept messages are together as many as the pool has.
abbrev pub FreeAndKeptAreThePool : Type 0
FreeAndKeptAreThePool =
    (pool : ℕ) (serial_in : ℕ → Option ℕ) (free kept : List ℕ) → SlotsFit pool serial_in free kept
    → length free + length kept ≡ pool

-- The pool of a port has no message left exactly if no slot is free.
abbrev pub DryIfNoneIsFree : Type 0
DryIfNoneIsFree =
    (f : Fixed) (port : ℕ) (p : Port) (serial_in : ℕ → Option ℕ) (free kept : List ℕ)
    → port_at f port ≡ Some p → SlotsFit p.pool serial_in free kept
    → is_dry f port kept ≡ is_empty free

-- Once a loan got back all there is, it is refused if no slot of its port is free. Else it is made,
-- whichever free slot it takes.
abbrev pub PoolsDecideByFreeSlots : Type 0
PoolsDecideByFreeSlots =
    (w : World) (node : ℕ) (copies : Bool) (h : Handle) (left : List Way) (p : Port)
    (serial_in : ℕ → Option ℕ) (free : List ℕ)
    → w.doing node ≡ Some (Loaning copies h left) → node_of_port w.state.fixed h.port ≡ node
    → port_at w.state.fixed h.port ≡ Some p
    → SlotsFit p.pool serial_in free (kept_in w h.port)
    → (free ≡ [] → loaned w.state copies h ≡ refused OutOfMemory)
    × ((slot : ℕ) (others : List ℕ) → free ≡ slot ∷ others
    → loaned w.state copies h ≡ (if copies then sends w.state.fixed h true else Ended (Loans h)))
