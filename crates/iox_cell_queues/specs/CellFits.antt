-- What the words of a queue of values hold, wherever in their calls its two parties are. `word`
-- reads a word by its place.
use Rattle.std.specs.Prelude.{◌≡◌, ℕ, ◌+◌, ◌^◌, ◌<◌, ◌≤◌, List, [], ◌∷◌, length, map, slice_index, slice_index_or, Option, Some}
use Rattle.iox_steps.specs.declared.push.FullLook.{FullLook}
use Rattle.iox_steps.specs.declared.push.FullLook.TheVariants as full_look
use Rattle.iox_steps.specs.declared.pop.EmptyLook.{EmptyLook}
use Rattle.iox_steps.specs.declared.pop.EmptyLook.TheVariants as empty_look
use Rattle.iox_cell_queues.specs.declared.site.CellSite.{CellSite}
use Rattle.iox_cell_queues.specs.declared.push.CellPush.{CellPush}
use Rattle.iox_cell_queues.specs.declared.push.CellPush.TheVariants as push
use Rattle.iox_cell_queues.specs.declared.pop.CellPop.{CellPop}
use Rattle.iox_cell_queues.specs.declared.pop.CellPop.TheVariants as pop
use Rattle.iox_cell_queues.specs.declared.side.CellPushing.{CellPushing}
use Rattle.iox_cell_queues.specs.declared.side.CellPushing.TheVariants as pushing
use Rattle.iox_cell_queues.specs.declared.side.CellPopping.{CellPopping}
use Rattle.iox_cell_queues.specs.declared.side.CellPopping.TheVariants as popping
use Rattle.iox_cell_queues.specs.Cells.{cell_at}

-- the value has as many words as a cell, and can be read back from them
abbrev pub IsWhole : {A : Type 0} → (A → List ℕ) → (List ℕ → Option A) → ℕ → A → Type 0
IsWhole words of_words width value = (length (words value) ≡ width)
    × (of_words (words value) ≡ Some value)

-- each value of the list has as many words as a cell, and can be read back from them
abbrev pub AreWhole : {A : Type 0} → (A → List ℕ) → (List ℕ → Option A) → ℕ → List A → Type 0
AreWhole words of_words width [] = Unit {0}
AreWhole words of_words width (value ∷ others) = IsWhole words of_words width value
    × AreWhole words of_words width others

-- the first `count` words of a cell are those of the list
abbrev pub HasWords : (ℕ → ℕ) → ℕ → List ℕ → ℕ → Type 0
HasWords word cell list count = (i : ℕ) → i < count → word (cell + i) ≡ slice_index list i

-- the words of the waiting value with this index
abbrev pub item : {A : Type 0} → (A → List ℕ) → List A → ℕ → List ℕ
item words waiting k = slice_index_or (map words waiting) k []

-- the write position
abbrev pub write_of : CellSite → (ℕ → ℕ) → ℕ
write_of site word = word site.base

-- the read position
abbrev pub read_of : CellSite → (ℕ → ℕ) → ℕ
read_of site word = word (site.base + 1)

module _ {A : Type 0} (words : A → List ℕ) (of_words : List ℕ → Option A) (site : CellSite)
    (word : ℕ → ℕ) where
  -- the values that wait stand in the cells, whole, from the read position to the write position
  pub record Ring (waiting : List A) : Type 0 where
    -- from the read position to the write position there are as many positions as values wait
    pub counts : write_of site word ≡ read_of site word + length waiting
    pub bounded : length waiting ≤ site.capacity
    pub whole : AreWhole words of_words site.width waiting
    -- the words of each value stand in the cell of its position
    pub items : (k : ℕ) → k < length waiting
        → HasWords word (cell_at site (read_of site word + k)) (item words waiting k) site.width

  -- what holds of a push that is to publish this value, once `stored` words of it are in its cell
  pub record Publishes (waiting : List A) (value : A) (next stored : ℕ) : Type 0 where
    pub is_next : next ≡ write_of site word + 1
    pub in_range : next < 2 ^ 64
    pub free : length waiting < site.capacity
    pub whole : IsWhole words of_words site.width value
    pub holds : HasWords word (cell_at site (write_of site word)) (words value) stored

  -- what holds of the queue and of what a push found so far
  abbrev pub PushKnows : List A → CellPush A → Type 0
  PushKnows waiting (push.LoadsWrite value) = IsWhole words of_words site.width value
  PushKnows waiting (push.LoadsRead value write) = IsWhole words of_words site.width value
      × (write ≡ write_of site word)
  PushKnows waiting (push.StoresWord value cell next stored) = Publishes waiting value next stored
      × (cell ≡ cell_at site (write_of site word)) × (stored < site.width)
  PushKnows waiting (push.StoresWrite value next) = Publishes waiting value next site.width

  -- what holds of the queue and of what a look at fullness found so far
  abbrev pub FullLookKnows : FullLook → Type 0
  FullLookKnows full_look.LoadsWrite = Unit {0}
  FullLookKnows (full_look.LoadsRead write) = write ≡ write_of site word

  -- what holds of the queue and of what the pushing party found so far
  abbrev pub PushingKnows : List A → CellPushing A → Type 0
  PushingKnows waiting pushing.AtRest = Unit {0}
  PushingKnows waiting (pushing.Pushes push) = PushKnows waiting push
  PushingKnows waiting (pushing.Looks look) = FullLookKnows look

  -- what holds of the queue and of what a pop found so far: its loaded words are the first of the
  -- oldest value
  abbrev pub PopKnows : {width : ℕ} → List A → CellPop width → Type 0
  PopKnows waiting pop.LoadsRead = Unit {0}
  PopKnows waiting (pop.LoadsWrite read) = read ≡ read_of site word
  PopKnows waiting (pop.LoadsWord read cell got loaded) = (read ≡ read_of site word)
      × (0 < length waiting)
      × (cell ≡ cell_at site read) × (loaded < site.width) × (length got ≡ site.width)
      × ((i : ℕ) → i < loaded → slice_index got i ≡ slice_index (item words waiting 0) i)
  PopKnows waiting (pop.StoresRead read got) = (read ≡ read_of site word) × (0 < length waiting)
      × (got ≡ item words waiting 0)

  -- what holds of the queue and of what a look at emptiness found so far
  abbrev pub EmptyLookKnows : EmptyLook → Type 0
  EmptyLookKnows empty_look.LoadsRead = Unit {0}
  EmptyLookKnows (empty_look.LoadsWrite read) = read ≡ read_of site word

  -- what holds of the queue and of what the popping party found so far
  abbrev pub PoppingKnows : {width : ℕ} → List A → CellPopping width → Type 0
  PoppingKnows waiting popping.AtRest = Unit {0}
  PoppingKnows waiting (popping.Pops pop) = PopKnows waiting pop
  PoppingKnows waiting (popping.Looks look) = EmptyLookKnows look

  -- the words and both parties are those of a queue in which these values wait
  pub record Fits {width : ℕ} (waiting : List A) (pushes : CellPushing A)
      (pops : CellPopping width) : Type 0 where
    pub position : write_of site word < 2 ^ 64
    pub ring : Ring waiting
    pub push : PushingKnows waiting pushes
    pub pop : PoppingKnows waiting pops
