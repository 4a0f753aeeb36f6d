-- The slot of a loan in the making belongs only to its call.
use Rattle.std.specs.Prelude.{◌≡◌, ℕ, true, false, ◌==◌, ◌&&◌, List, ◌++◌, flat_map, Some}
use Rattle.iox_model.specs.Handles.{is_own}
use Rattle.iox_model.specs.Maps.{has_number}
use Rattle.iox_model.specs.States.{State}
use Rattle.iox_wire_moments.specs.MomentsOf.{Pools}
use Rattle.iox_wire_locals.specs.declared.local.Local.{Local}
use Rattle.iox_wire_locals.specs.declared.local.Local.TheVariants.{LendStores}
use Rattle.iox_wire_locals.specs.declared.seat.Seat.{Seat}
use Rattle.iox_wire_locals.specs.declared.table.Entry.{Entry}
use Rattle.iox_wire_locals.specs.Knowing.{Knows}
use Rattle.iox_wire_locals.specs.StepLaws.{ReliesOn}
use Rattle.iox_wire_locals.specs.Steps.{advance, accessed}
use Rattle.iox_wire_locals.specs.Tables.{Setting, entry_at}
use Rattle.iox_wire_laws.specs.WireKeeping.PoolSlots.{PoolFits}
use Rattle.iox_wire_laws.specs.WireKeeping.Records.{recorded_of}
use Rattle.iox_wire_laws.specs.WireKeeping.UsedSlots.{slots_held}
use Rattle.iox_wire_laws.specs.WireShows.OwnedCalls.{LimitsAreKnown, WordsTell}
use Rattle.iox_wire_laws.specs.WireRegions.OwnedWords.{Owns}

-- the slots of a port that handles hold, or that are recorded on ways
abbrev pub slots_elsewhere : Seat → ℕ → List ℕ
slots_elsewhere x port = slots_held x port ++ flat_map (λ r. r.slots) (recorded_of x port)

-- no handle of the port and no way has the slot into which a loan's words are stored
abbrev pub HasOwnSlot : Seat → Local → Type 0
HasOwnSlot x (LendStores o slot next) = has_number slot (slots_elsewhere x o.port) ≡ false
HasOwnSlot x local = Unit {0}

-- the pools of the node's own ports fit
abbrev pub OwnPoolsFit : Setting → Pools → Seat → Type 0
OwnPoolsFit p held x =
    (port : ℕ) → p.layout.owner port ≡ x.node → PoolFits held x port (p.port port).pool

-- A loan takes a slot that nothing else of its port has, and nothing else has it while its words
-- are stored.
abbrev pub LoansHaveOwnSlots : Type 0
LoansHaveOwnSlots =
    (p : Setting) (held : Pools) (s : State) (x : Seat) (seen : ℕ)
    → Owns p x.node s.fixed s.request_state x.local → HasOwnSlot x x.local → OwnPoolsFit p held x
    → Knows p x s.fixed held → LimitsAreKnown p x s.fixed
    → ReliesOn p (accessed x) s held x.local seen → WordsTell p x.local seen
    → let y = advance p (accessed x) x.local seen in HasOwnSlot y y.local

-- So what is stored there is no message of another handle of the port.
abbrev pub OwnSlotsAreNoHandles : Type 0
OwnSlotsAreNoHandles =
    (x : Seat) (port slot : ℕ) (e : Entry) → has_number slot (slots_elsewhere x port) ≡ false
    → entry_at e.number x.table ≡ Some e → (is_own e.kind && (e.port == port)) ≡ true
    → e.slot ≡ slot → ⊥
