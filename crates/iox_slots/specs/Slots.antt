-- What happens to one slot, and to one slot of a pool.
use Rattle.std.specs.Prelude.{ℕ, ◌+◌, ◌-◌, Bool, not, List, slice_get, slice_set, replicate}
use Rattle.std.specs.Option.{option_map_or}
use Rattle.iox_types.specs.declared.identifiers.system_id.UniqueSystemId.{UniqueSystemId}
use Rattle.iox_tables.specs.HubStates.Tables.{SlotState, PoolState, no_slot, is_free}

-- ---- one slot

-- one more has it
abbrev pub held : SlotState → SlotState
held s = record s { holders = s.holders + 1 }

-- one less has it; where nobody has it, it stays
abbrev pub let_go : SlotState → SlotState
let_go s = record s { holders = s.holders - 1 }

-- another message is in the slot, for those who have the slot
abbrev pub written : ℕ → ℕ → ℕ → ℕ → SlotState → SlotState
written serial lane request elements s =
    record {
      serial = serial;
      lane = lane;
      request = request;
      elements = elements;
      holders = s.holders;
    }

-- another message is in the slot, on the lane of the one before
abbrev pub rewritten : ℕ → ℕ → ℕ → SlotState → SlotState
rewritten serial request elements s = written serial s.lane request elements s

-- that message, which one has
abbrev pub taken : ℕ → ℕ → ℕ → ℕ → SlotState
taken serial lane request elements =
    record { serial = serial; lane = lane; request = request; elements = elements; holders = 1 }

-- ---- one pool

-- so many slots, all free
abbrev pub new_pool : ℕ → UniqueSystemId → UniqueSystemId → ℕ → PoolState
new_pool port node_id port_id size = record {
  port = port;
  node_id = node_id;
  port_id = port_id;
  slots = replicate size no_slot;
}

-- the slot of that number
abbrev pub slot_in : List SlotState → ℕ → SlotState
slot_in slots k = option_map_or (λ s. s) (slice_get slots k) no_slot

-- there is such a slot, and somebody has it
abbrev pub is_taken : List SlotState → ℕ → Bool
is_taken slots k = not (is_free (slot_in slots k))

-- the pool after a change of the slot of that number; the same where there is no such slot
abbrev pub with_slot_of : (SlotState → SlotState) → PoolState → ℕ → PoolState
with_slot_of f p k =
    option_map_or (λ s. record p { slots = slice_set p.slots k (f s) }) (slice_get p.slots k) p
