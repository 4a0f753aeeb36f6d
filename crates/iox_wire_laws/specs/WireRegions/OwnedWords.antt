-- What a node owns at each place of its call, also where it accesses words of messages.
use Rattle.std.specs.Prelude.{◌≡◌, ℕ, ◌*◌, ◌<◌, ◌≤◌, true, false, List, [], ◌∷◌, length}
use Rattle.iox_model.specs.declared.kind.Role.TheVariants.{Client, Server}
use Rattle.iox_model.specs.declared.way.RequestState.{RequestState}
use Rattle.iox_model.specs.declared.way.Way.{Way}
use Rattle.iox_model.specs.Handles.{is_request_loan}
use Rattle.iox_model.specs.Maps.{has_number}
use Rattle.iox_model.specs.Peers.{others}
use Rattle.iox_model.specs.States.{Fixed}
use Rattle.iox_word_map.specs.WordMaps.{IsResponseWay}
use Rattle.iox_wire_locals.specs.declared.local.Delivery.{Delivery}
use Rattle.iox_wire_locals.specs.declared.local.Local.{Local}
use Rattle.iox_wire_locals.specs.declared.local.Local.TheVariants.{LendEmpties, LendStores, Writes, Reads}
use Rattle.iox_wire_locals.specs.declared.seat.Seat.{Seat}
use Rattle.iox_wire_locals.specs.declared.table.Entry.{Entry}
use Rattle.iox_wire_locals.specs.declared.table.NewLoan.{NewLoan}
use Rattle.iox_wire_locals.specs.Known.{free_slots}
use Rattle.iox_wire_locals.specs.NewLoans.{entry_in, loan_words}
use Rattle.iox_wire_locals.specs.Tables.{Setting, port_shape, state_in, words_to_read}
use Rattle.iox_wire_laws.specs.WireShows.OwnedCalls.{Each, OwnsCall, OwnsSend, SendsOn}
use Rattle.iox_wire_laws.specs.WireRegions.Regions.{HasRegion, words_of_longest, words_of_message}

-- ---- sends

-- the send of a loan to these ports
abbrev pub send_to : Entry → List ℕ → Delivery
send_to e to = record { loan = e; copied = true; to = to }

-- What the send owns with which a call continues that made its loan: a request goes to all servers
-- that the node did not forget, a response to its client, unless that is forgotten.
pub record OwnsCopy (p : Setting) (node : ℕ) (f : Fixed) (e : Entry) : Type 0 where
  pub request : is_request_loan e.kind ≡ true
      → OwnsSend p node f (send_to e (others f node Server))
  pub response : is_request_loan e.kind ≡ false → has_number e.client (others f node Client) ≡ true
      → OwnsSend p node f (send_to e (e.client ∷ [])) × IsResponseWay p.layout.sizes (state_in e)

-- ---- loans

-- a loan gets back what was delivered on its own port's way
abbrev pub LendsOn : Setting → ℕ → Fixed → NewLoan → Way → Type 0
LendsOn p node f o y = SendsOn p node f y × (y.sender ≡ o.port)

-- a request has a lane of its client; there is none while all lanes are in use
abbrev pub HasLane : Setting → NewLoan → Type 0
HasLane p o = is_request_loan o.kind ≡ true → o.lane < p.layout.sizes.lanes o.port

-- A loan in the making has room in each slot of its port's pool. If it is to be sent in the same
-- call and has a lane, the node owns that send, whichever slot the loan takes.
pub record OwnsLoan (p : Setting) (node : ℕ) (f : Fixed) (o : NewLoan) : Type 0 where
  pub region : HasRegion p o.port
  pub room : length (loan_words p o) ≤ words_of_longest p o.port
  pub copy : o.copies ≡ true → HasLane p o → (slot : ℕ) → OwnsCopy p node f (entry_in o slot)

-- ---- entries

-- an entry's message has a slot in its sender's pool, and room there
pub record HasSlot (p : Setting) (e : Entry) : Type 0 where
  pub region : HasRegion p e.sender
  pub in_pool : e.slot < (p.port e.sender).pool
  pub room : words_of_message p e.sender e.elements ≤ words_of_longest p e.sender

-- ---- places

-- What the call owns at its place: a loan has its ways, and then a lane and a slot with room for its
-- words; a write has room in its own slot, a read has its message's words in a slot. All else is
-- OwnsCall.
abbrev pub Owns : Setting → ℕ → Fixed → (Way → RequestState) → Local → Type 0
Owns p node f shown (LendEmpties o w place left) =
    OwnsLoan p node f o × Each (LendsOn p node f o) (w ∷ left)
Owns p node f shown (LendStores o slot next) =
    OwnsLoan p node f o × (slot < (p.port o.port).pool) × (next < length (loan_words p o))
    × HasLane p o
Owns p node f shown (Writes e words next) =
    HasSlot p e × (e.sender ≡ e.port)
    × (length words ≤ e.elements * (port_shape p e.sender).width) × (next < length words)
Owns p node f shown (Reads e words) = HasSlot p e × (length words < words_to_read p e)
Owns p node f shown local = OwnsCall p node f shown local

-- the free slots of each port are of its pool
abbrev pub FreeSlotsAreThePools : Setting → Seat → Type 0
FreeSlotsAreThePools p x =
    (port slot : ℕ) → has_number slot (free_slots x port) ≡ true → slot < (p.port port).pool
