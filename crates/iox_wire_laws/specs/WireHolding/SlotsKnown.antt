-- What is known of the pools of a living node's ports, and of its entries and its place. Where that
-- is known of all living nodes, nobody names a slot that is free.
use Rattle.std.specs.Prelude.{◌≡◌, ℕ, ◌<◌, ◌≤◌, ◌⊎◌, Bool, true, false, Some, None}
use Rattle.iox_model.specs.Handles.{is_own, is_received}
use Rattle.iox_model.specs.Joins.{not_living}
use Rattle.iox_model.specs.Maps.{has_number}
use Rattle.iox_model.specs.Peers.{forgot_port, node_of_port}
use Rattle.iox_model.specs.States.{Fixed, State}
use Rattle.iox_model.specs.Weaves.{World}
use Rattle.iox_word_map.specs.WordMaps.{IsWay}
use Rattle.iox_wire_words.specs.Fits.{WireContents}
use Rattle.iox_wire_moments.specs.MomentsOf.{Pools}
use Rattle.iox_wire_locals.specs.declared.local.Ending.{Ending}
use Rattle.iox_wire_locals.specs.declared.local.Ending.TheVariants as endings
use Rattle.iox_wire_locals.specs.declared.local.Local.{Local}
use Rattle.iox_wire_locals.specs.declared.local.Local.TheVariants.{Ends, Writes, SendAsks, SendEmpties, SendLooks, SendOpens, SendPushes, SendEvicts, SendGetsBack, SendEnds, ReceiveLoads, ReceiveAsks, ReceiveReturns, Reads, ReleaseCloses, ReleaseReturns, ReleaseLooks, ReleaseExchanges, Checks, Hints, HintExchanges}
use Rattle.iox_wire_locals.specs.declared.seat.Seat.{Seat}
use Rattle.iox_wire_locals.specs.declared.table.Entry.{Entry}
use Rattle.iox_wire_locals.specs.Known.{free_slots}
use Rattle.iox_wire_locals.specs.Tables.{Setting, entry_at, way_in}
use Rattle.iox_wire_laws.specs.WireKeeping.PoolSlots.{PoolFits}
use Rattle.iox_wire_laws.specs.WireKeeping.Shows.{ShowsWorld}
use Rattle.iox_wire_laws.specs.WireKeeping.UsedSlots.{PortFits}
use Rattle.iox_wire_laws.specs.WireShows.OwnedCalls.{ReceivesOn}
use Rattle.iox_wire_laws.specs.WireRegions.OwnedBegins.{LayoutFits}
use Rattle.iox_wire_laws.specs.WireHolding.HeldSteps.{FreeSlotsAreUnnamed}

-- ---- of pools

-- the port is one of the wire, and the node's own
abbrev pub IsPortOfSeat : Setting → Seat → ℕ → Type 0
IsPortOfSeat p x port =
    (has_number port p.layout.sizes.ports ≡ true) × (p.layout.owner port ≡ x.node)

-- The pools of the node's ports fit, and no two slots of one hold messages of one serial.
pub record SlotsKnown (p : Setting) (held : Pools) (s : State) (x : Seat) : Type 0 where
  -- only a port of the node has free slots at its desks
  pub desks : (port slot : ℕ) → has_number slot (free_slots x port) ≡ true → IsPortOfSeat p x port
  pub pools : (port : ℕ) → IsPortOfSeat p x port → PoolFits held x port (p.port port).pool
  pub ports : (port : ℕ) → IsPortOfSeat p x port → PortFits held s x port
  pub apart : (port i j : ℕ) → IsPortOfSeat p x port
      → i < (p.port port).pool → j < (p.port port).pool
      → (held port i).serial ≡ (held port j).serial → i ≡ j

-- ---- of entries

-- An entry holds a message of its own port, or one that came on a way of its sender.
pub record EntryFits (p : Setting) (e : Entry) : Type 0 where
  pub own : is_received e.kind ≡ false → (is_own e.kind ≡ true) × (e.sender ≡ e.port)
  pub received : is_received e.kind ≡ true
      → ((way_in e).sender ≡ e.sender) × IsWay p.layout.sizes (way_in e)

-- the entry is one of the node's
abbrev pub HasEntry : Seat → Entry → Type 0
HasEntry x e = entry_at e.number x.table ≡ Some e

-- A message that was given back is put aside: its entry names a slot that is none of the pool's.
abbrev pub IsAside : Setting → Entry → Type 0
IsAside p e = (p.port e.sender).pool ≤ e.slot

-- ---- of places

-- what a send sends is an entry of the node, or the loan that the same call made by the node's port
abbrev pub SendsOwnEntry : Fixed → Seat → Entry → Bool → Type 0
SendsOwnEntry f x e true = (e.sender ≡ e.port) × (node_of_port f e.port ≡ x.node)
SendsOwnEntry f x e false = HasEntry x e

-- what a call ends with is an entry of the node, or what it took on a way to its port; what it
-- drops is put aside, unless it forgot the sender
abbrev pub EndingStands : Setting → Fixed → Seat → Ending → Type 0
EndingStands p f x (endings.Fills e words) = HasEntry x e
EndingStands p f x (endings.Sends e copied count) = SendsOwnEntry f x e copied
EndingStands p f x (endings.FailsToSend e copied r) = SendsOwnEntry f x e copied
EndingStands p f x (endings.Receives v w slot header) = ReceivesOn p x.node f w
EndingStands p f x (endings.Drops e) =
    HasEntry x e
    × (is_received e.kind ≡ true → IsAside p e ⊎ (forgot_port f x.node e.sender ≡ true))
EndingStands p f x ending = Unit {0}

-- so it is at each place; a release that gave its message back has put it aside
abbrev pub PlaceStands : Setting → Fixed → Seat → Local → Type 0
PlaceStands p f x (Ends ending) = EndingStands p f x ending
PlaceStands p f x (Writes e words next) = HasEntry x e
PlaceStands p f x (SendAsks d) = SendsOwnEntry f x d.loan d.copied
PlaceStands p f x (SendEmpties d w place left) = SendsOwnEntry f x d.loan d.copied
PlaceStands p f x (SendLooks d w place left full) = SendsOwnEntry f x d.loan d.copied
PlaceStands p f x (SendOpens d w left full) = SendsOwnEntry f x d.loan d.copied
PlaceStands p f x (SendPushes d last w place left count) = SendsOwnEntry f x d.loan d.copied
PlaceStands p f x (SendEvicts d w place left count) = SendsOwnEntry f x d.loan d.copied
PlaceStands p f x (SendGetsBack d w place left count) = SendsOwnEntry f x d.loan d.copied
PlaceStands p f x (SendEnds d last count) = SendsOwnEntry f x d.loan d.copied
PlaceStands p f x (ReceiveLoads v w slot header left waiting) = ReceivesOn p x.node f w
PlaceStands p f x (ReceiveAsks v w slot header left waiting) = ReceivesOn p x.node f w
PlaceStands p f x (ReceiveReturns v w slot place left waiting) = ReceivesOn p x.node f w
PlaceStands p f x (Reads e words) = HasEntry x e
PlaceStands p f x (ReleaseCloses e w left) = HasEntry x e
PlaceStands p f x (ReleaseReturns e place) = HasEntry x e
PlaceStands p f x (ReleaseLooks e) = HasEntry x e × IsAside p e
PlaceStands p f x (ReleaseExchanges e old) = HasEntry x e × IsAside p e
PlaceStands p f x (Checks e hinted w left) = HasEntry x e
PlaceStands p f x (Hints e w left) = HasEntry x e
PlaceStands p f x (HintExchanges e w left) = HasEntry x e
PlaceStands p f x local = Unit {0}

-- What a node names stands: its entries, and what the place of its call names.
pub record NamesStand (p : Setting) (f : Fixed) (x : Seat) : Type 0 where
  pub entries : (e : Entry) → HasEntry x e → EntryFits p e
  pub place : PlaceStands p f x x.local

-- ---- the law

-- In a shown world in which what living nodes name stands, nobody names a slot that is free at a
-- desk of a living node.
abbrev pub FreeSlotsAreNobodys : Type 0
FreeSlotsAreNobodys =
    (p : Setting) (held : Pools) (word : ℕ → ℕ) (c : WireContents) (seats : ℕ → Seat) (w : World)
    (n : ℕ)
    → ShowsWorld p held word c seats w → LayoutFits p w.state.fixed
    → ((k : ℕ) → not_living w.state k ≡ None → NamesStand p w.state.fixed (seats k))
    → not_living w.state n ≡ None → SlotsKnown p held w.state (seats n)
    → FreeSlotsAreUnnamed p c seats w.state (seats n)
