-- Why a push stores its words before the write position, and a pop loads them before it stores the
-- read position: what goes wrong the other way round. The queue has one cell of one word.
use Rattle.std.specs.Prelude.{ℕ, true, [], ◌∷◌, slice_index}
use Rattle.iox_words.specs.declared.word_list.Words.{Ghosts}
use Rattle.iox_cell_queues.specs.declared.site.CellSite.{CellSite}
use Rattle.iox_cell_queues.specs.declared.event.CellReply.TheVariants.{Pushed, Popped}
use Rattle.iox_cell_queues.specs.Alone.{EndsAfter, pusher, popper}

-- a queue of one cell, of one word
abbrev pub one_cell : CellSite
one_cell = record { base = 0; capacity = 1; width = 1 }

-- `W` has the words of the values
module _ {A : Type 0} (W : Ghosts A) where
  -- A write position that is stored before its word: a pop that comes between the two stores is
  -- answered by the word that stood in the cell, which nobody pushed.
  abbrev pub PopsAStrayWord : Type 0
  PopsAStrayWord = (stray : ℕ) →
      EndsAfter W 4 one_cell (1 ∷ 0 ∷ stray ∷ []) (popper A 1)
      (Popped (W.of_words (stray ∷ []))) (1 ∷ 1 ∷ stray ∷ [])

  -- A read position that is stored before the word is loaded: a push that comes between the two
  -- finds room, and overwrites the word.
  abbrev pub OverwritesAWord : Type 0
  OverwritesAWord = (old : ℕ) (value : A) →
      EndsAfter {width = 1} W 4 one_cell (1 ∷ 1 ∷ old ∷ []) (pusher value)
      (Pushed true) (2 ∷ 1 ∷ slice_index (W.words value) 0 ∷ [])
