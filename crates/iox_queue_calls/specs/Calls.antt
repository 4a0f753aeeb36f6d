-- What whole calls answer and leave, in terms of the plain queues, and how many accesses their
-- programs make.
use Rattle.std.specs.Prelude.{◌≡◌, ◌↔◌, ℕ, List, [], ◌∷◌, length, if◌then◌else◌, Bool, IsTrue, Option}
use Rattle.std.specs.Bool.{OnTrue, OnFalse}
use Rattle.iox_queues.specs.BoundedQueues.{BoundedQueue, HasRoom, with_pushed, first, without_first, is_spent, is_full, handed_back, with_overflow}
use Rattle.iox_steps.specs.declared.site.QueueKind.{QueueKind}
use Rattle.iox_steps.specs.declared.site.QueueKind.TheVariants.{Index, Overflowing}
use Rattle.iox_steps.specs.declared.site.Site.{Site}
use Rattle.iox_steps.specs.declared.side.QueueReply.{QueueReply}
use Rattle.iox_steps.specs.declared.side.QueueReply.TheVariants.{Pushed, HandedBack, Popped}
use Rattle.iox_queue_calls.specs.Lists.{values, queue_at}
use Rattle.iox_queue_calls.specs.Alone.{EndsAfter, pusher, popper}

-- a push of this value on this queue answers this and leaves that queue
abbrev pub Pushes : QueueKind → BoundedQueue → ℕ → QueueReply → BoundedQueue → Type 0
Pushes Index queue value (Pushed room) after = (IsTrue room ↔ HasRoom queue)
    × OnTrue room (after ≡ with_pushed queue value) × OnFalse room (after ≡ queue)
Pushes Overflowing queue value (HandedBack out) after = (out ≡ handed_back queue value)
    × (after ≡ with_overflow queue value)
Pushes kind queue value reply after = ⊥

-- a pop of this queue answers this and leaves that queue
abbrev pub Pops : BoundedQueue → Option ℕ → BoundedQueue → Type 0
Pops queue out after = (out ≡ first queue.waiting) × (after ≡ without_first queue)

-- a look at fullness of this queue answers this
abbrev pub LooksFull : BoundedQueue → Bool → Type 0
LooksFull queue full = IsTrue full ↔ (length queue.waiting ≡ queue.capacity)

-- a look at emptiness of this queue answers this
abbrev pub LooksEmpty : BoundedQueue → Bool → Type 0
LooksEmpty queue empty = IsTrue empty ↔ (queue.waiting ≡ [])

-- the accesses of a push: two where nothing is pushed, six where the oldest is pushed out, else
-- four
abbrev pub push_accesses : QueueKind → BoundedQueue → ℕ
push_accesses Index queue = if is_spent queue then 2 else (if is_full queue then 2 else 4)
push_accesses Overflowing queue = if is_spent queue then 2 else (if is_full queue then 6 else 4)

-- the accesses of a pop: two where nothing waits, else four
abbrev pub pop_accesses : List ℕ → ℕ
pop_accesses [] = 2
pop_accesses (oldest ∷ others) = 4

-- a push of the queue in these words answers this and leaves those words
abbrev pub PushesAt : Site → List ℕ → ℕ → QueueReply → List ℕ → Type 0
PushesAt site words value reply after =
    Pushes site.kind (queue_at site words) value reply (queue_at site after)

-- the program of that push, in as many accesses as a push of this queue makes
abbrev pub MakesPush : Site → List ℕ → ℕ → QueueReply → List ℕ → Type 0
MakesPush site words value reply after =
    EndsAfter (push_accesses site.kind (queue_at site words)) site words (pusher value) reply after

-- a pop of the queue in these words answers this and leaves those words
abbrev pub PopsAt : Site → List ℕ → Option ℕ → List ℕ → Type 0
PopsAt site words out after = Pops (queue_at site words) out (queue_at site after)

-- the program of that pop, in as many accesses as a pop of this queue makes
abbrev pub MakesPop : Site → List ℕ → Option ℕ → List ℕ → Type 0
MakesPop site words out after =
    EndsAfter (pop_accesses (values site words)) site words popper (Popped out) after
