-- Which slots nodes and queues name. A slot that nobody names may hold any message.
use Rattle.std.specs.Prelude.{◌≡◌, ℕ, Bool, true, false, ◌&&◌, ◌==◌, None}
use Rattle.std.specs.List.{list_any}
use Rattle.iox_model.specs.declared.way.Way.{Way}
use Rattle.iox_model.specs.Joins.{not_living}
use Rattle.iox_model.specs.Maps.{has_number}
use Rattle.iox_model.specs.Messages.{Message}
use Rattle.iox_model.specs.Peers.{is_counted_on}
use Rattle.iox_model.specs.States.{State}
use Rattle.iox_model.specs.Weaves.{World}
use Rattle.iox_word_map.specs.WordMaps.{MessageQueue, ReturningQueue, IsWay}
use Rattle.iox_wire_words.specs.Fits.{WireContents}
use Rattle.iox_wire_moments.specs.MomentsOf.{Pools}
use Rattle.iox_wire_locals.specs.declared.local.Ending.{Ending}
use Rattle.iox_wire_locals.specs.declared.local.Ending.TheVariants as endings
use Rattle.iox_wire_locals.specs.declared.local.Local.{Local}
use Rattle.iox_wire_locals.specs.declared.local.Local.TheVariants.{Ends, Writes, SendAsks, SendEmpties, SendLooks, SendOpens, SendPushes, SendEvicts, SendGetsBack, SendEnds, ReceiveLoads, ReceiveAsks, ReceiveReturns, Reads, ReleaseCloses, ReleaseReturns, ReleaseLooks, ReleaseExchanges, Checks, Hints, HintExchanges}
use Rattle.iox_wire_locals.specs.declared.seat.Seat.{Seat}
use Rattle.iox_wire_locals.specs.Tables.{Setting}
use Rattle.iox_wire_laws.specs.WireKeeping.Shows.{ShowsWorld}
use Rattle.iox_wire_laws.specs.WireKeeping.Writes.{is_slot_of}
use Rattle.iox_wire_laws.specs.WireHolding.Holding.{held_with}

-- ---- by a node

-- the slot of what came on a way is this one
abbrev pub is_slot_on : Way → (own port slot : ℕ) → Bool
is_slot_on w own port slot = (port == w.sender) && (slot == own)

-- whether the end of a call names the slot's message
abbrev pub ending_names : Ending → (port slot : ℕ) → Bool
ending_names (endings.Fills e words) port slot = is_slot_of e port slot
ending_names (endings.Sends e copied count) port slot = is_slot_of e port slot
ending_names (endings.FailsToSend e copied r) port slot = is_slot_of e port slot
ending_names (endings.Receives v w own header) port slot = is_slot_on w own port slot
ending_names (endings.Drops e) port slot = is_slot_of e port slot
ending_names ending port slot = false

-- whether the place of a call does
abbrev pub place_names : Local → (port slot : ℕ) → Bool
place_names (Ends ending) port slot = ending_names ending port slot
place_names (Writes e words next) port slot = is_slot_of e port slot
place_names (SendAsks d) port slot = is_slot_of d.loan port slot
place_names (SendEmpties d w place left) port slot = is_slot_of d.loan port slot
place_names (SendLooks d w place left full) port slot = is_slot_of d.loan port slot
place_names (SendOpens d w left full) port slot = is_slot_of d.loan port slot
place_names (SendPushes d last w place left count) port slot = is_slot_of d.loan port slot
place_names (SendEvicts d w place left count) port slot = is_slot_of d.loan port slot
place_names (SendGetsBack d w place left count) port slot = is_slot_of d.loan port slot
place_names (SendEnds d last count) port slot = is_slot_of d.loan port slot
place_names (ReceiveLoads v w own header left waiting) port slot = is_slot_on w own port slot
place_names (ReceiveAsks v w own header left waiting) port slot = is_slot_on w own port slot
place_names (ReceiveReturns v w own place left waiting) port slot = is_slot_on w own port slot
place_names (Reads e words) port slot = is_slot_of e port slot
place_names (ReleaseCloses e w left) port slot = is_slot_of e port slot
place_names (ReleaseReturns e place) port slot = is_slot_of e port slot
place_names (ReleaseLooks e) port slot = is_slot_of e port slot
place_names (ReleaseExchanges e old) port slot = is_slot_of e port slot
place_names (Checks e hinted w left) port slot = is_slot_of e port slot
place_names (Hints e w left) port slot = is_slot_of e port slot
place_names (HintExchanges e w left) port slot = is_slot_of e port slot
place_names local port slot = false

-- No queue of a way on which the sender counts has the slot in it.
pub record IsOnNoWay (p : Setting) (c : WireContents) (s : State) (port slot : ℕ) : Type 0 where
  pub waiting : (y : Way) → IsWay p.layout.sizes y → is_counted_on s.fixed y ≡ true
      → y.sender ≡ port → has_number slot (c.queues (MessageQueue y)).waiting ≡ false
  pub in_hand : (y : Way) → IsWay p.layout.sizes y → is_counted_on s.fixed y ≡ true
      → y.sender ≡ port → has_number slot (c.queues (MessageQueue y)).hand ≡ false
  pub returned : (y : Way) → IsWay p.layout.sizes y → is_counted_on s.fixed y ≡ true
      → y.sender ≡ port → has_number slot (c.queues (ReturningQueue y)).waiting ≡ false

-- Neither does a living node name it, by an entry or by the place of its call.
pub record IsUnnamed (p : Setting) (c : WireContents) (seats : ℕ → Seat) (s : State)
    (port slot : ℕ) : Type 0 where
  pub ways : IsOnNoWay p c s port slot
  pub entries : (n : ℕ) → not_living s n ≡ None
      → list_any (λ e. is_slot_of e port slot) (seats n).table ≡ false
  pub places : (n : ℕ) → not_living s n ≡ None → place_names (seats n).local port slot ≡ false

-- Where words and seats show a world, they show it with any message of the port in a slot that
-- nobody names.
abbrev pub UnnamedSlotsMayChange : Type 0
UnnamedSlotsMayChange =
    (p : Setting) (held : Pools) (word : ℕ → ℕ) (c : WireContents) (seats : ℕ → Seat) (w : World)
    (port slot : ℕ) (m : Message)
    → ShowsWorld p held word c seats w → IsUnnamed p c seats w.state port slot → m.sender ≡ port
    → ShowsWorld p (held_with held port slot m) word c seats w
