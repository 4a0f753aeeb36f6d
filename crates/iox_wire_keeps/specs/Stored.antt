-- Which slots hold their messages: all that living nodes and queues name, but for the one that a
-- node stores.
use Rattle.iox_wire_calls.specs.Ending.TheVariants as endings
use Rattle.iox_wire_calls.specs.NewLoan.{NewLoan}
use Rattle.iox_wire_calls.specs.Entry.{Entry}
use Rattle.iox_model.specs.Weaves.{Dies, IsBeat, World}
use Rattle.iox_wire_calls.specs.FarSlots.{IsInPool}
use Rattle.iox_model.specs.Joins.{not_living}
use Rattle.iox_wire_calls.specs.Local.TheVariants.{Ends, LendEmpties, LendStores, Reads, ReceiveAsks, ReceiveLoads, Writes}
use Rattle.iox_wire_calls.specs.Following.{CallMessage, Sent, Taken, message_at}
use Rattle.std.specs.Prelude.{List, None, [], false, length, replicate, true, ℕ, ◌*◌, ◌++◌, ◌<◌, ◌^◌, ◌≡◌, ◌≤◌}
use Rattle.iox_model.specs.Peers.{is_counted_on}
use Rattle.iox_wire_calls.specs.Tables.{Setting, port_shape, words_before_payload}
use Rattle.iox_wire_calls.specs.StoredMessages.{AreFirst, HasMessage, HoldsMessage, StandFrom, header_in, words_in}
use Rattle.iox_model.specs.declared.way.Way.{Way}
use Rattle.iox_wire_calls.specs.LoanSlots.{WordsAreTold}
use Rattle.iox_wire_calls.specs.Local.{Local}
use Rattle.iox_wire_calls.specs.Places.{CallFits}
use Rattle.iox_word_map.specs.WordMaps.{IsWay, MessageQueue, total_words}
use Rattle.iox_wire_calls.specs.Nodes.{NodeStands}
use Rattle.iox_wire_calls.specs.Openings.{opened_seat}
use Rattle.iox_model.specs.States.{Fixed, State}
use Rattle.iox_wire_calls.specs.Stands.{AreNumbered, OwnersAre, word_of}
use Rattle.iox_wire_calls.specs.OwnedBegins.{LayoutFits}
use Rattle.iox_model.specs.Maps.{has_number}
use Rattle.iox_model.specs.Settings.{is_client, other_role}
use Rattle.iox_wire_calls.specs.MomentsOf.{Pools}
use Rattle.iox_wire_calls.specs.Programs.{Program, program_access}
use Rattle.iox_wire_calls.specs.SlotsKnown.{HasEntry}
use Rattle.iox_wire_calls.specs.Shows.{ShowsWorld}
use Rattle.iox_wire_calls.specs.Seat.{Seat}
use Rattle.iox_wire_calls.specs.Fits.{WireContents, WordsFit}
use Rattle.iox_wire_calls.specs.Locals.{program_of}
use Rattle.iox_steps.specs.Accesses.{seen_by}
use Rattle.iox_wire_calls.specs.NewLoans.{entry_in, loan_words}
use Rattle.iox_model.specs.Handles.{is_response_loan}
use Rattle.iox_model.specs.Messages.{Message}

-- ---- slots

-- a message has a small id, a request is on a lane of its client, and a word holds the serial
abbrev pub IsAddressed : Setting → (port : ℕ) → Message → Type 0
IsAddressed p port m =
    (m.request < 2 ^ 62) × (is_client (p.port port).role ≡ true → m.lane < p.layout.sizes.lanes port)
    × (m.serial < 2 ^ 64)

-- The message of a slot has the shape of its port, on a lane that it may have, and its words stand
-- in the slot.
pub record IsStored (p : Setting) (held : Pools) (c : WireContents) (port slot : ℕ) : Type 0 where
  pub fits : HasMessage p held port slot
  pub words : HoldsMessage p held c port slot
  pub addressed : IsAddressed p port (held port slot)

-- the place stores the words of this slot, or has just stored them
abbrev pub StoresAt : Local → (port slot : ℕ) → Type 0
StoresAt (Ends (endings.Lends o own)) port slot = (port ≡ o.port) × (slot ≡ own)
StoresAt (Ends (endings.Fills e words)) port slot = (port ≡ e.port) × (slot ≡ e.slot)
StoresAt (LendStores o own next) port slot = (port ≡ o.port) × (slot ≡ own)
StoresAt (Writes e words next) port slot = (port ≡ e.port) × (slot ≡ e.slot)
StoresAt local port slot = ⊥

-- the place writes the entry's message, or has just written it
abbrev pub IsWritten : Local → Entry → Type 0
IsWritten (Ends (endings.Fills k words)) e = k ≡ e
IsWritten (Writes k words next) e = k ≡ e
IsWritten local e = ⊥

-- ---- entries

-- An entry has a small id, and a loan of a response is on a lane of its client.
pub record EntrySuits (p : Setting) (e : Entry) : Type 0 where
  pub small : e.request < 2 ^ 62
  pub lane : is_response_loan e.kind ≡ true
      → (has_number e.client p.layout.sizes.clients ≡ true) × (e.lane < p.layout.sizes.lanes e.client)

-- ---- loans

-- a loan is no longer than its port allows, has its payload if it is sent at once, will be an entry
-- as it may be, and has a serial that a word holds
abbrev pub LoanFits : Setting → NewLoan → Type 0
LoanFits p o =
    (o.elements ≤ (p.port o.port).longest)
    × (o.copies ≡ true → length o.payload ≡ o.elements * (port_shape p o.port).width)
    × (o.copies ≡ false → o.payload ≡ []) × ((slot : ℕ) → EntrySuits p (entry_in o slot))
    × (o.serial < 2 ^ 64)

-- ---- a call

-- what a call took, or lent and sends itself, is stored
abbrev pub CallIsStored : Setting → Pools → WireContents → CallMessage → Type 0
CallIsStored p held c (Taken w slot) = IsStored p held c w.sender slot
CallIsStored p held c (Sent e true) =
    IsStored p held c e.sender e.slot × ((held e.sender e.slot).elements ≡ e.elements)
    × EntrySuits p e
CallIsStored p held c other = Unit {0}

-- the words before the payload of a message stand in the slot of the entry, and so many of these
-- words behind them; they will be the payload
abbrev pub StandsWritten : Setting → Pools → WireContents → Entry → List ℕ → ℕ → Type 0
StandsWritten p held c e words count =
    HasMessage p held e.port e.slot × IsAddressed p e.port (held e.port e.slot)
    × StandFrom p c e.port e.slot 0 (words_in p held e.port e.slot) (words_before_payload p e.port)
    × StandFrom p c e.port e.slot (words_before_payload p e.port) words count
    × (length words ≡ e.elements * (port_shape p e.port).width)

-- how far the words of a place are stored, or loaded
abbrev pub GoesThrough : Setting → Pools → WireContents → Local → Type 0
GoesThrough p held c (LendEmpties o w place left) = LoanFits p o
GoesThrough p held c (LendStores o slot next) =
    LoanFits p o × StandFrom p c o.port slot 0 (loan_words p o) next
GoesThrough p held c (Ends (endings.Lends o slot)) =
    LoanFits p o × (o.copies ≡ false)
    × StandFrom p c o.port slot 0 (loan_words p o) (length (loan_words p o))
GoesThrough p held c (Writes e words next) = StandsWritten p held c e words next
GoesThrough p held c (Ends (endings.Fills e words)) =
    StandsWritten p held c e words (length words)
GoesThrough p held c (Reads e words) =
    AreFirst words ((held e.sender e.slot).user ++ (held e.sender e.slot).payload)
GoesThrough p held c (ReceiveLoads v w slot header left waiting) =
    AreFirst header (header_in p held w.sender slot)
GoesThrough p held c (ReceiveAsks v w slot header left waiting) =
    header ≡ header_in p held w.sender slot
GoesThrough p held c (Ends (endings.Receives v w slot header)) =
    (header ≡ header_in p held w.sender slot) × ((p.port w.sender).role ≡ other_role v.role)
GoesThrough p held c local = Unit {0}

-- ---- nodes and queues

-- What is so of a living node: the messages of its entries are stored, but for the one that it
-- stores, and as long as the entries say; so is what its call has. (What a release gave back is in no
-- pool any more.)
pub record HoldsStored (p : Setting) (held : Pools) (c : WireContents) (x : Seat) : Type 0 where
  pub entries : (e : Entry) → HasEntry x e → IsInPool p e.sender e.slot
      → (IsWritten x.local e → ⊥) → IsStored p held c e.sender e.slot
  pub lengths : (e : Entry) → HasEntry x e → IsInPool p e.sender e.slot
      → (held e.sender e.slot).elements ≡ e.elements
  pub suits : (e : Entry) → HasEntry x e → IsInPool p e.sender e.slot → EntrySuits p e
  pub call : CallIsStored p held c (message_at x.local)
  pub place : GoesThrough p held c x.local

-- what is waiting on a way is stored, as long as the sender counts there
abbrev pub WhatWaitsIsStored : Setting → Pools → WireContents → Fixed → Type 0
WhatWaitsIsStored p held c f =
    (y : Way) (slot : ℕ) → IsWay p.layout.sizes y → is_counted_on f y ≡ true
    → has_number slot (c.queues (MessageQueue y)).waiting ≡ true → IsStored p held c y.sender slot

-- So it is of all living nodes, and on all ways.
pub record SlotsHoldMessages (p : Setting) (held : Pools) (c : WireContents) (seats : ℕ → Seat)
    (s : State) : Type 0 where
  pub waiting : WhatWaitsIsStored p held c s.fixed
  pub nodes : (n : ℕ) → not_living s n ≡ None → HoldsStored p held c (seats n)

-- ---- as a wire opens, and as nodes die

-- Nothing is named as a wire opens.
abbrev pub OpenedSlotsHoldMessages : Type 0
OpenedSlotsHoldMessages =
    (p : Setting) (held : Pools) (c : WireContents) (programs : ℕ → Program) (s : State)
    → WordsFit p.layout (word_of (replicate (total_words p.layout.sizes) 0)) programs c
    → SlotsHoldMessages p held c (opened_seat p) s

-- The death of a node leaves all others.
abbrev pub DeathsLeaveSlots : Type 0
DeathsLeaveSlots =
    (p : Setting) (held : Pools) (c : WireContents) (seats : ℕ → Seat) (w u : World) (n : ℕ)
    → IsBeat w (Dies n) u → SlotsHoldMessages p held c seats w.state
    → SlotsHoldMessages p held c seats u.state

-- ---- what it tells

-- A step of a living node is told the words of messages: headers that it loads, and what it reads.
abbrev pub StoredWordsAreTold : Type 0
StoredWordsAreTold =
    (p : Setting) (held : Pools) (word : ℕ → ℕ) (c : WireContents) (seats : ℕ → Seat) (w : World)
    (n : ℕ)
    → ShowsWorld p held word c seats w → not_living w.state n ≡ None
    → LayoutFits p w.state.fixed → OwnersAre p w.state.fixed → AreNumbered p
    → let x = seats n in
    NodeStands p held w.state x → CallFits p x → HoldsStored p held c x
    → WordsAreTold p held w.state x
    (seen_by (program_access p.layout (program_of p x.local)) word) x.local
