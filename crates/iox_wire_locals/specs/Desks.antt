-- How loans, deliveries and releases change what a node keeps of a port.
use Rattle.std.specs.Prelude.{ℕ, ◌+◌, ◌-◌, ◌||◌, if◌then◌else◌, ◌==◌, List, [], ◌∷◌, ◌++◌, map, flat_map, slice_index, slice_set}
use Rattle.iox_model.specs.declared.kind.Kind.TheVariants.{PendingResponse}
use Rattle.iox_model.specs.declared.way.Way.{Way}
use Rattle.iox_model.specs.Handles.{same_kind, is_request_loan, is_received}
use Rattle.iox_model.specs.Maps.{has_number, without_number, same_way}
use Rattle.iox_wire_locals.specs.declared.table.Entry.{Entry}
use Rattle.iox_wire_locals.specs.declared.table.NewLoan.{NewLoan}
use Rattle.iox_wire_locals.specs.declared.table.Recorded.{Recorded}
use Rattle.iox_wire_locals.specs.declared.table.Desk.{Desk}
use Rattle.iox_wire_locals.specs.declared.table.Borrowed.{Borrowed}
use Rattle.iox_wire_locals.specs.declared.seat.Seat.{Seat}
use Rattle.iox_wire_locals.specs.Tables.{way_in}

-- ---- slots

-- a slot has that many uses; without one it is free
abbrev pub with_uses : ℕ → ℕ → Desk → Desk
with_uses slot n d = record d {
  uses = slice_set d.uses slot n;
  free = if n == 0 then d.free ++ slot ∷ [] else d.free;
}

-- a slot has one use more
abbrev pub uses_more : ℕ → Desk → Desk
uses_more slot d = with_uses slot (slice_index d.uses slot + 1) d

-- a slot has one use less
abbrev pub uses_less : ℕ → Desk → Desk
uses_less slot d = with_uses slot (slice_index d.uses slot - 1) d

-- each of these slots has one use less
abbrev pub all_less : List ℕ → Desk → Desk
all_less [] d = d
all_less (slot ∷ slots) d = all_less slots (uses_less slot d)

-- a new loan takes its slot, of which these stay free, and its lane
abbrev pub picks : NewLoan → ℕ → List ℕ → Desk → Desk
picks o slot free d = record d {
  serials = slice_set d.serials slot o.serial;
  uses = slice_set d.uses slot 1;
  free = free;
  free_lanes = without_number o.lane d.free_lanes;
}

-- one more loan succeeded
abbrev pub counts_loan : Desk → Desk
counts_loan d = record d { loans = d.loans + 1 }

-- ---- what is outstanding

-- the slots recorded on a way are these now
abbrev pub with_slots : Way → (List ℕ → List ℕ) → Recorded → Recorded
with_slots w change r = if same_way r.way w then record r { slots = change r.slots } else r

-- a slot was delivered on the way
abbrev pub delivers : Way → ℕ → Desk → Desk
delivers w slot d =
    uses_more slot
    (record d { recorded = map (with_slots w (λ slots. slots ++ slot ∷ [])) d.recorded })

-- it was got back
abbrev pub gets_back : Way → ℕ → Desk → Desk
gets_back w slot d =
    uses_less slot (record d { recorded = map (with_slots w (without_number slot)) d.recorded })

-- the slots of a record, if its way leads to one of these ports
abbrev pub slots_to : List ℕ → Recorded → List ℕ
slots_to ports r = if has_number r.way.receiver ports then r.slots else []

-- a record without its slots, if its way leads to one of these ports
abbrev pub without_slots_to : List ℕ → Recorded → Recorded
without_slots_to ports r = if has_number r.way.receiver ports then record r { slots = [] } else r

-- nothing is outstanding to these ports any more
abbrev pub forgets_ports : List ℕ → Desk → Desk
forgets_ports ports d =
    record (all_less (flat_map (slots_to ports) d.recorded) d) {
      recorded = map (without_slots_to ports) d.recorded;
    }

-- ---- what is released

-- a loaned request and a pending response have a lane
abbrev pub lanes_back : Entry → List ℕ → List ℕ
lanes_back e lanes =
    if is_request_loan e.kind || same_kind e.kind PendingResponse then lanes ++ e.lane ∷ []
    else lanes

-- the entry's own message has one use less, and its lane is free
abbrev pub gives_up : Entry → Desk → Desk
gives_up e d = uses_less e.slot (record d { free_lanes = lanes_back e d.free_lanes })

-- ---- of a seat

-- a desk, changed if it is that port's
abbrev pub on_desk : ℕ → (Desk → Desk) → Desk → Desk
on_desk port change d = if d.port == port then change d else d

-- the seat with that change of the desk of a port
abbrev pub at_desk : Seat → ℕ → (Desk → Desk) → Seat
at_desk x port change = record x { desks = map (on_desk port change) x.desks }

-- a count, changed if it is that way's
abbrev pub with_count : Way → (ℕ → ℕ) → Borrowed → Borrowed
with_count w change b = if same_way b.way w then record b { count = change b.count } else b

-- the seat with that change of the count of a way
abbrev pub at_count : Seat → Way → (ℕ → ℕ) → Seat
at_count x w change = record x { borrowed = map (with_count w change) x.borrowed }

-- an entry is released: what was received is no more borrowed, what is the port's own has a use
-- less
abbrev pub releases_message : Seat → Entry → Seat
releases_message x e =
    if is_received e.kind then at_count x (way_in e) (λ n. n - 1) else at_desk x e.port (gives_up e)
