-- The slot beyond a pool into which a node puts aside what it gave back: nobody names it.
use Rattle.std.specs.Prelude.{◌≡◌, ℕ, ◌<◌, ◌⊎◌, true, None}
use Rattle.iox_model.specs.declared.way.Way.{Way}
use Rattle.iox_model.specs.Joins.{not_living}
use Rattle.iox_model.specs.Maps.{has_number}
use Rattle.iox_model.specs.Peers.{is_counted_on}
use Rattle.iox_model.specs.States.{State}
use Rattle.iox_model.specs.Weaves.{World}
use Rattle.iox_word_map.specs.WordMaps.{IsWay, MessageQueue, ReturningQueue}
use Rattle.iox_wire_words.specs.Fits.{WireContents}
use Rattle.iox_wire_moments.specs.MomentsOf.{Pools}
use Rattle.iox_wire_locals.specs.declared.local.Ending.{Ending}
use Rattle.iox_wire_locals.specs.declared.local.Ending.TheVariants as endings
use Rattle.iox_wire_locals.specs.declared.local.Local.{Local}
use Rattle.iox_wire_locals.specs.declared.local.Local.TheVariants.{Ends, SendAsks, SendEmpties, SendLooks, SendOpens, SendPushes, SendEvicts, SendGetsBack, SendEnds, ReceiveLoads, ReceiveAsks, ReceiveReturns}
use Rattle.iox_wire_locals.specs.declared.seat.Seat.{Seat}
use Rattle.iox_wire_locals.specs.declared.table.Entry.{Entry}
use Rattle.iox_wire_locals.specs.Tables.{Setting}
use Rattle.iox_wire_laws.specs.WireKeeping.Shows.{ShowsWorld}
use Rattle.iox_wire_laws.specs.WireHolding.Aside.{slot_aside}
use Rattle.iox_wire_laws.specs.WireHolding.Named.{IsUnnamed}
use Rattle.iox_wire_laws.specs.WireHolding.SlotsKnown.{HasEntry, NamesStand}

-- the slot is one of its port's pool
abbrev pub IsInPool : Setting → (port slot : ℕ) → Type 0
IsInPool p port slot = slot < (p.port port).pool

-- Queues have only slots of their senders' pools.
pub record QueuesHaveSlots (p : Setting) (c : WireContents) (s : State) : Type 0 where
  pub waiting : (y : Way) (slot : ℕ) → IsWay p.layout.sizes y → is_counted_on s.fixed y ≡ true
      → has_number slot (c.queues (MessageQueue y)).waiting ≡ true → IsInPool p y.sender slot
  pub in_hand : (y : Way) (slot : ℕ) → IsWay p.layout.sizes y → is_counted_on s.fixed y ≡ true
      → has_number slot (c.queues (MessageQueue y)).hand ≡ true → IsInPool p y.sender slot
  pub returned : (y : Way) (slot : ℕ) → IsWay p.layout.sizes y → is_counted_on s.fixed y ≡ true
      → has_number slot (c.queues (ReturningQueue y)).waiting ≡ true → IsInPool p y.sender slot

-- so has what a call took or sends
abbrev pub EndsInPool : Setting → Ending → Type 0
EndsInPool p (endings.Sends e copied count) = IsInPool p e.sender e.slot
EndsInPool p (endings.FailsToSend e copied r) = IsInPool p e.sender e.slot
EndsInPool p (endings.Receives v w slot header) = IsInPool p w.sender slot
EndsInPool p ending = Unit {0}

-- what the call holds at its place is in a slot of the pool of its sender
abbrev pub TakesFromPool : Setting → Local → Type 0
TakesFromPool p (Ends ending) = EndsInPool p ending
TakesFromPool p (SendAsks d) = IsInPool p d.loan.sender d.loan.slot
TakesFromPool p (SendEmpties d w place left) = IsInPool p d.loan.sender d.loan.slot
TakesFromPool p (SendLooks d w place left full) = IsInPool p d.loan.sender d.loan.slot
TakesFromPool p (SendOpens d w left full) = IsInPool p d.loan.sender d.loan.slot
TakesFromPool p (SendPushes d last w place left count) = IsInPool p d.loan.sender d.loan.slot
TakesFromPool p (SendEvicts d w place left count) = IsInPool p d.loan.sender d.loan.slot
TakesFromPool p (SendGetsBack d w place left count) = IsInPool p d.loan.sender d.loan.slot
TakesFromPool p (SendEnds d last count) = IsInPool p d.loan.sender d.loan.slot
TakesFromPool p (ReceiveLoads v w slot header left waiting) = IsInPool p w.sender slot
TakesFromPool p (ReceiveAsks v w slot header left waiting) = IsInPool p w.sender slot
TakesFromPool p (ReceiveReturns v w slot place left waiting) = IsInPool p w.sender slot
TakesFromPool p local = Unit {0}

-- A node's entries name slots of pools, or their own slot beyond.
pub record NamesSlots (p : Setting) (x : Seat) : Type 0 where
  pub entries : (e : Entry) → HasEntry x e
      → IsInPool p e.sender e.slot ⊎ (e.slot ≡ slot_aside p x.node e)
  pub place : TakesFromPool p x.local

-- Where living nodes and queues name such slots, and a node's entries none but those of pools,
-- nobody names the slot beyond the pool of an entry's sender that is the node's own.
abbrev pub FarSlotsAreUnnamed : Type 0
FarSlotsAreUnnamed =
    (p : Setting) (held : Pools) (word : ℕ → ℕ) (c : WireContents) (seats : ℕ → Seat) (w : World)
    (n : ℕ) (e : Entry)
    → ShowsWorld p held word c seats w
    → ((k : ℕ) → not_living w.state k ≡ None → NamesStand p w.state.fixed (seats k))
    → ((k : ℕ) → not_living w.state k ≡ None → NamesSlots p (seats k))
    → QueuesHaveSlots p c w.state
    → ((q : Entry) → HasEntry (seats n) q → IsInPool p q.sender q.slot)
    → IsUnnamed p c seats w.state e.sender (slot_aside p n e)
