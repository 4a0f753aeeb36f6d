-- What one access of a party does to a queue of values.
use Rattle.std.specs.Prelude.{◌≡◌, ℕ, List, Option, Some, None}
use Rattle.iox_steps.specs.Accesses.{seen_by, word_after, IsWithin}
use Rattle.iox_cell_queues.specs.declared.site.CellSite.{CellSite}
use Rattle.iox_cell_queues.specs.declared.side.CellPushing.{CellPushing}
use Rattle.iox_cell_queues.specs.declared.side.CellPopping.{CellPopping}
use Rattle.iox_cell_queues.specs.Cells.{size}
use Rattle.iox_cell_queues.specs.CellSides.{pushing_access, pushing_after, pushing_progress, pushing_event}
use Rattle.iox_cell_queues.specs.CellSides.{popping_access, popping_after, popping_progress, popping_event}
use Rattle.iox_cell_queues.specs.CellEvents.{waiting_after, IsTrueOf}
use Rattle.iox_cell_queues.specs.CellEventLists.{write_after}
use Rattle.iox_cell_queues.specs.CellAnswers.{unpublished, ReplyIsTrue}
use Rattle.iox_cell_queues.specs.CellFits.{write_of, Fits}

module _ {A : Type 0} {width : ℕ} (words : A → List ℕ) (of_words : List ℕ → Option A)
    (site : CellSite) (word : ℕ → ℕ) (waiting : List A) (pushes : CellPushing A)
    (pops : CellPopping width) where
  -- the pushing party's access stays within the queue; its event is true, the words fit after it,
  -- and a reply says what it was
  abbrev pub PushingKeeps : Type 0
  PushingKeeps =
      let access = pushing_access words site pushes in let seen = seen_by access word in
      let event = pushing_event site pushes seen in
      IsWithin site.base (size site) access × IsTrueOf site (write_of site word) waiting event
      × (write_of site (word_after access word) ≡ write_after event (write_of site word))
      × Fits words of_words site (word_after access word) (waiting_after event waiting)
      (pushing_after site pushes seen) pops
      × ReplyIsTrue (unpublished pushes) (pushing_progress site pushes seen) event

  -- the popping party's access stays within the queue; its event is true, the words fit after it,
  -- and a reply says what it was
  abbrev pub PoppingKeeps : Type 0
  PoppingKeeps =
      let access = popping_access site pops in let seen = seen_by access word in
      let event = popping_event of_words site pops seen in
      IsWithin site.base (size site) access × IsTrueOf site (write_of site word) waiting event
      × (write_of site (word_after access word) ≡ write_after event (write_of site word))
      × Fits words of_words site (word_after access word) (waiting_after event waiting)
      pushes (popping_after of_words site pops seen)
      × ReplyIsTrue None (popping_progress of_words site pops seen) event

-- each access of the pushing party keeps its queue, whatever the queue is and wherever in their
-- calls both parties are
abbrev pub EveryPushingKeeps : {A : Type 0} → (A → List ℕ) → (List ℕ → Option A) → Type 0
EveryPushingKeeps {A} words of_words = (width : ℕ) (site : CellSite) (word : ℕ → ℕ)
    (waiting : List A) (pushes : CellPushing A) (pops : CellPopping width)
    → Fits words of_words site word waiting pushes pops
    → PushingKeeps words of_words site word waiting pushes pops

-- each access of the popping party keeps its queue, whatever the queue is and wherever in their
-- calls both parties are
abbrev pub EveryPoppingKeeps : {A : Type 0} → (A → List ℕ) → (List ℕ → Option A) → Type 0
EveryPoppingKeeps {A} words of_words = (width : ℕ) (site : CellSite) (word : ℕ → ℕ)
    (waiting : List A) (pushes : CellPushing A) (pops : CellPopping width)
    → Fits words of_words site word waiting pushes pops
    → PoppingKeeps words of_words site word waiting pushes pops

-- the words of a value that is itself a list of words
abbrev pub own_words : List ℕ → List ℕ
own_words list = list

-- the value that is itself this list of words
abbrev pub own_value : List ℕ → Option (List ℕ)
own_value list = Some list
