-- What a node does to the words of a wire: it runs a queue's program, or accesses a request state
-- or a word of a message.
use Rattle.std.specs.Prelude.{ℕ, ◌+◌, Bool, false, if◌then◌else◌}
use Rattle.iox_word_map.specs.Way.{Way}
use Rattle.iox_word_map.specs.Maps.{same_way}
use Rattle.iox_steps.specs.declared.access.Access.{Access}
use Rattle.iox_steps.specs.declared.access.Access.TheVariants.{Local, Load, Store, CompareExchange}
use Rattle.iox_steps.specs.declared.site.QueueKind.{QueueKind}
use Rattle.iox_steps.specs.declared.site.Site.{Site}
use Rattle.iox_steps.specs.declared.side.Pushing.{Pushing}
use Rattle.iox_steps.specs.declared.side.Pushing.TheVariants as pushing
use Rattle.iox_steps.specs.declared.side.Popping.{Popping}
use Rattle.iox_steps.specs.declared.side.Popping.TheVariants as popping
use Rattle.iox_steps.specs.Sides.{pushing_access, pushing_after, popping_access, popping_after}
use Rattle.iox_word_map.specs.WordMaps.{Sizes, WireQueue, MessageQueue, ReturningQueue, Region, QueueWords, StateWord, piece_place}

-- whether two queues are the same
abbrev pub same_queue : WireQueue → WireQueue → Bool
same_queue (MessageQueue v) (MessageQueue w) = same_way v w
same_queue (MessageQueue v) (ReturningQueue w) = false
same_queue (ReturningQueue v) (MessageQueue w) = false
same_queue (ReturningQueue v) (ReturningQueue w) = same_way v w

-- the layout of a wire: its sizes, the kind and capacity of each queue, and the node of each port
pub record WireLayout : Type 0 where
  pub sizes : Sizes
  pub kind : WireQueue → QueueKind
  pub capacity : WireQueue → ℕ
  pub owner : ℕ → ℕ

-- where a queue stands
abbrev pub site_of : WireLayout → WireQueue → Site
site_of p q = record {
  kind = p.kind q;
  base = piece_place p.sizes (QueueWords q);
  capacity = p.capacity q;
}

-- the node that pushes onto this queue: the sender's where messages wait, the receiver's where they
-- return
abbrev pub pusher_of : WireLayout → WireQueue → ℕ
pusher_of p (MessageQueue way) = p.owner way.sender
pusher_of p (ReturningQueue way) = p.owner way.receiver

-- the node that pops from this queue
abbrev pub popper_of : WireLayout → WireQueue → ℕ
popper_of p (MessageQueue way) = p.owner way.receiver
popper_of p (ReturningQueue way) = p.owner way.sender

-- the place of the request state on a way of responses
abbrev pub state_place : WireLayout → Way → ℕ
state_place p way = piece_place p.sizes (StateWord way)

-- the place of the word of that number in a port's region
abbrev pub word_place : WireLayout → ℕ → ℕ → ℕ
word_place p port number = piece_place p.sizes (Region port) + number

-- ---- programs

-- what a node runs on the words
pub data Program : Type 0 where
  Rests : Program
  -- a push, or a look at fullness
  Pushes : (queue : WireQueue) (place : Pushing) → Program
  -- a pop, or a look at emptiness
  Pops : (queue : WireQueue) (place : Popping) → Program
  LoadsState : (way : Way) → Program
  StoresState : (way : Way) (value : ℕ) → Program
  ExchangesState : (way : Way) (old new : ℕ) → Program
  -- an access to the word of that number in a port's region
  LoadsWord : (port number : ℕ) → Program
  StoresWord : (port number value : ℕ) → Program

-- the pushing party of this queue, in a node that runs this program
abbrev pub pushing_in : WireQueue → Program → Pushing
pushing_in q (Pushes r place) = if same_queue q r then place else pushing.AtRest
pushing_in q program = pushing.AtRest

-- the popping party of this queue, in a node that runs this program
abbrev pub popping_in : WireQueue → Program → Popping
popping_in q (Pops r place) = if same_queue q r then place else popping.AtRest
popping_in q program = popping.AtRest

-- the access that a program makes next
abbrev pub program_access : WireLayout → Program → Access
program_access p Rests = Local
program_access p (Pushes q place) = pushing_access (site_of p q) place
program_access p (Pops q place) = popping_access (site_of p q) place
program_access p (LoadsState way) = Load (state_place p way)
program_access p (StoresState way value) = Store (state_place p way) value
program_access p (ExchangesState way old new) = CompareExchange (state_place p way) old new
program_access p (LoadsWord port number) = Load (word_place p port number)
program_access p (StoresWord port number value) = Store (word_place p port number) value

-- the program after an access that found `seen`
abbrev pub program_after : WireLayout → Program → ℕ → Program
program_after p (Pushes q place) seen = Pushes q (pushing_after (site_of p q) place seen)
program_after p (Pops q place) seen = Pops q (popping_after (site_of p q) place seen)
program_after p program seen = Rests
