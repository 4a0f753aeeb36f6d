-- What a port keeps: exactly the slots of its pool that have holders.
use Rattle.std.specs.Prelude.{◌≡◌, ℕ, Bool, true, ◌||◌, nat_lt, Some}
use Rattle.iox_model.specs.Handles.{is_own, is_received}
use Rattle.iox_tables.specs.HubStates.Tables.{HandleState, HubTables, PortState, SlotState, port_in, slot_at}
use Rattle.iox_tables.specs.HubStates.Ends.{OfEachHandle}
use Rattle.iox_tables.specs.HubBooks.Hubs.{AreInOrder}
use Rattle.iox_tables.specs.HubLoans.Pools.{is_slot_kept}

-- the handle is a loan, a pending response, or of a received message; a port's own value has no
-- handle
abbrev pub HasMessage : HandleState → Type 0
HasMessage h = (is_own h.kind || is_received h.kind) ≡ true

-- it is so of each handle
abbrev pub HaveMessages : HubTables → Type 0
HaveMessages t = OfEachHandle HasMessage t.handles

-- somebody has the slot
abbrev pub has_holder : SlotState → Bool
has_holder s = nat_lt 0 s.holders

-- A port keeps a slot of its pool exactly where somebody has it.
abbrev pub HeldSlotsAreKept : Type 0
HeldSlotsAreKept =
    (t : HubTables) (n k : ℕ) (p : PortState) → AreInOrder t → HaveMessages t
    → port_in t.ports n ≡ Some p → is_slot_kept t p k ≡ has_holder (slot_at t.pools p.pool k)
