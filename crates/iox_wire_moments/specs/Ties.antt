-- How the queues of a wire agree with what the machine's state says of its ways.
use Rattle.std.specs.Prelude.{◌≡◌, true, if◌then◌else◌, map}
use Rattle.iox_wire_words.specs.Way.{Way}
use Rattle.iox_wire_words.specs.States.{Fixed, State}
use Rattle.iox_wire_words.specs.Peers.{is_counted_on, buffer_on, overflows_on}
use Rattle.iox_steps.specs.declared.site.QueueKind.TheVariants.{Index, Overflowing}
use Rattle.iox_wire_words.specs.WordMaps.{MessageQueue, ReturningQueue, IsWay}
use Rattle.iox_wire_words.specs.Programs.{WireLayout}
use Rattle.iox_wire_words.specs.Fits.{WireContents}
use Rattle.iox_wire_moments.specs.MomentsOf.{Pools, serial_in}

-- the queues are as large as the buffers of their ways, and overflow where messages do
pub record Suits (p : WireLayout) (f : Fixed) : Type 0 where
  -- a queue of messages has the capacity of its way's buffer
  pub buffer : (y : Way) → IsWay p.sizes y → p.capacity (MessageQueue y) ≡ buffer_on f y
  pub kind : (y : Way) → IsWay p.sizes y
      → p.kind (MessageQueue y) ≡ (if overflows_on f y then Overflowing else Index)
  -- a returning queue never overflows
  pub returning : (y : Way) → IsWay p.sizes y → p.kind (ReturningQueue y) ≡ Index

-- Each queue names, by their slots, the messages of its list in the state. This is said only of
-- ways whose sender still counts what it delivers: after a Forget it reuses the slots.
pub record Ties (p : WireLayout) (held : Pools) (c : WireContents) (s : State) : Type 0 where
  -- the messages that wait are those of the slots in the queue of messages
  pub waiting : (y : Way) → IsWay p.sizes y → is_counted_on s.fixed y ≡ true
      → s.waiting y ≡ map (held y.sender) (c.queues (MessageQueue y)).waiting
  -- what is in hand is the message of the slot in hand
  pub in_hand : (y : Way) → IsWay p.sizes y → is_counted_on s.fixed y ≡ true
      → s.in_hand y ≡ map (serial_in held y) (c.queues (MessageQueue y)).hand
  -- the messages given back are those of the slots in the returning queue
  pub returned : (y : Way) → IsWay p.sizes y → is_counted_on s.fixed y ≡ true
      → s.returned y ≡ map (serial_in held y) (c.queues (ReturningQueue y)).waiting
