-- What whole calls answer and leave, in terms of the plain queue, and how many accesses their
-- programs make.
use Rattle.std.specs.Prelude.{◌≡◌, ◌↔◌, ℕ, ◌+◌, List, [], ◌∷◌, length, if◌then◌else◌, Bool, IsTrue, Option}
use Rattle.std.specs.Bool.{OnTrue, OnFalse}
use Rattle.iox_words.specs.declared.word_list.Words.{Ghosts}
use Rattle.iox_queues.specs.BoundedQueues.{BoundedQueueOf, HasRoom, with_pushed, first, without_first, is_spent, is_full}
use Rattle.iox_cell_queues.specs.declared.site.CellSite.{CellSite}
use Rattle.iox_cell_queues.specs.declared.event.CellReply.TheVariants.{Pushed, Popped}
use Rattle.iox_cell_queues.specs.Lists.{values, queue_at}
use Rattle.iox_cell_queues.specs.Alone.{EndsAfter, pusher, popper}

-- a push of this value on this queue answers whether there was room, and leaves that queue
abbrev pub Pushes : {A : Type 0} → BoundedQueueOf A → A → Bool → BoundedQueueOf A → Type 0
Pushes queue value room after = (IsTrue room ↔ HasRoom queue)
    × OnTrue room (after ≡ with_pushed queue value) × OnFalse room (after ≡ queue)

-- a pop of this queue answers this and leaves that queue
abbrev pub Pops : {A : Type 0} → BoundedQueueOf A → Option A → BoundedQueueOf A → Type 0
Pops queue out after = (out ≡ first queue.waiting) × (after ≡ without_first queue)

-- a look at fullness of this queue answers this
abbrev pub LooksFull : {A : Type 0} → BoundedQueueOf A → Bool → Type 0
LooksFull queue full = IsTrue full ↔ (length queue.waiting ≡ queue.capacity)

-- a look at emptiness of this queue answers this
abbrev pub LooksEmpty : {A : Type 0} → BoundedQueueOf A → Bool → Type 0
LooksEmpty queue empty = IsTrue empty ↔ (queue.waiting ≡ [])

-- the accesses of a push: two where nothing is pushed, else three and one for each word of a value
abbrev pub push_accesses : {A : Type 0} → ℕ → BoundedQueueOf A → ℕ
push_accesses width queue = if is_spent queue then 2 else (if is_full queue then 2 else 3 + width)

-- the accesses of a pop: two where nothing waits, else three and one for each word of a value
abbrev pub pop_accesses : {A : Type 0} → ℕ → List A → ℕ
pop_accesses width [] = 2
pop_accesses width (oldest ∷ others) = 3 + width

module _ {A : Type 0} (W : Ghosts A) (site : CellSite) (list : List ℕ) where
  -- a push of the queue in these words answers whether there was room, and leaves those words
  abbrev pub PushesAt : A → Bool → List ℕ → Type 0
  PushesAt value room after = Pushes (queue_at W site list) value room (queue_at W site after)

  -- the program of that push, in as many accesses as a push of this queue makes
  abbrev pub MakesPush : ℕ → A → Bool → List ℕ → Type 0
  MakesPush width value room after =
      EndsAfter {width = width} W (push_accesses site.width (queue_at W site list)) site list
      (pusher value) (Pushed room) after

  -- a pop of the queue in these words answers this and leaves those words
  abbrev pub PopsAt : Option A → List ℕ → Type 0
  PopsAt out after = Pops (queue_at W site list) out (queue_at W site after)

  -- the program of that pop, in as many accesses as a pop of this queue makes
  abbrev pub MakesPop : ℕ → Option A → List ℕ → Type 0
  MakesPop width out after =
      EndsAfter W (pop_accesses site.width (values W site list)) site list (popper A width)
      (Popped out) after
