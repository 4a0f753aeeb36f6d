-- What the words of a queue hold, wherever in their calls its two parties are. `word` reads a word
-- by its place.
use Rattle.std.specs.Prelude.{◌≡◌, ℕ, ◌+◌, ◌^◌, ◌<◌, ◌≤◌, List, [], ◌∷◌, length, slice_index, Option, Some, None}
use Rattle.iox_steps.specs.declared.site.QueueKind.{QueueKind}
use Rattle.iox_steps.specs.declared.site.QueueKind.TheVariants.{Index, Overflowing}
use Rattle.iox_steps.specs.declared.site.Site.{Site}
use Rattle.iox_steps.specs.declared.push.Push.{Push}
use Rattle.iox_steps.specs.declared.push.Push.TheVariants as push
use Rattle.iox_steps.specs.declared.push.FullLook.{FullLook}
use Rattle.iox_steps.specs.declared.push.FullLook.TheVariants as full_look
use Rattle.iox_steps.specs.declared.pop.Pop.{Pop}
use Rattle.iox_steps.specs.declared.pop.Pop.TheVariants as pop
use Rattle.iox_steps.specs.declared.pop.EmptyLook.{EmptyLook}
use Rattle.iox_steps.specs.declared.pop.EmptyLook.TheVariants as empty_look
use Rattle.iox_steps.specs.declared.side.Pushing.{Pushing}
use Rattle.iox_steps.specs.declared.side.Pushing.TheVariants as pushing
use Rattle.iox_steps.specs.declared.side.Popping.{Popping}
use Rattle.iox_steps.specs.declared.side.Popping.TheVariants as popping
use Rattle.iox_steps.specs.Accesses.{IsPlace}
use Rattle.iox_steps.specs.Sites.{cells, cell_at}

module _ (site : Site) (word : ℕ → ℕ) where
  -- the write position
  abbrev pub write_of : ℕ
  write_of = word site.base

  -- the read position
  abbrev pub read_of : ℕ
  read_of = word (site.base + 1)

  -- the waiting values stand in the cells, from the read position to the write position
  pub record Ring (waiting : List ℕ) : Type 0 where
    -- from the read position to the write position there are as many positions as values wait
    pub counts : write_of ≡ read_of + length waiting
    pub bounded : length waiting ≤ cells site
    -- each value stands in the cell of its position
    pub items : (k : ℕ) → k < length waiting → word (cell_at site (read_of + k)) ≡ slice_index waiting k

  -- what a push that is to publish knows of the room: there is room, or the queue was full at this
  -- read position
  abbrev pub RoomKnows : List ℕ → Option ℕ → Type 0
  RoomKnows waiting None = length waiting < site.capacity
  RoomKnows waiting (Some read) = (site.kind ≡ Overflowing) × (read + site.capacity ≡ write_of)
      × (read ≤ read_of)

  -- nothing is in hand, and at most the capacity waits
  abbrev pub IsWithinCapacity : List ℕ → List ℕ → Type 0
  IsWithinCapacity waiting hand = (hand ≡ []) × (length waiting ≤ site.capacity)

  -- the next write position is this one, and it is a position
  abbrev pub IsNextWrite : ℕ → Type 0
  IsNextWrite next = (next ≡ write_of + 1) × (next < 2 ^ 64)

  -- what holds of the queue and of what a push found so far
  abbrev pub PushKnows : List ℕ → List ℕ → Push → Type 0
  PushKnows waiting hand (push.LoadsWrite value) = IsWithinCapacity waiting hand
  PushKnows waiting hand (push.LoadsRead value write) =
      IsWithinCapacity waiting hand × (write ≡ write_of)
  PushKnows waiting hand (push.StoresCell value cell next full) = IsWithinCapacity waiting hand
      × IsNextWrite next × RoomKnows waiting full × (cell ≡ cell_at site write_of)
  PushKnows waiting hand (push.StoresWrite value next full) =
      IsWithinCapacity waiting hand × IsNextWrite next
      × RoomKnows waiting full × (word (cell_at site write_of) ≡ value)
  PushKnows waiting hand (push.Evicts read) = (hand ≡ []) × (site.kind ≡ Overflowing)
      × (read + (site.capacity + 1) ≡ write_of) × (read ≤ read_of)
  PushKnows waiting hand (push.TakesOld cell) = (hand ≡ word cell ∷ []) × (site.kind ≡ Overflowing)
      × (length waiting ≤ site.capacity) × IsPlace (site.base + 2) (cells site) cell

  -- what holds of the queue and of what a look at fullness found so far
  abbrev pub FullLookKnows : List ℕ → List ℕ → FullLook → Type 0
  FullLookKnows waiting hand full_look.LoadsWrite = IsWithinCapacity waiting hand
  FullLookKnows waiting hand (full_look.LoadsRead write) =
      IsWithinCapacity waiting hand × (write ≡ write_of)

  -- what holds of the queue and of what the pushing party found so far
  abbrev pub PushingKnows : List ℕ → List ℕ → Pushing → Type 0
  PushingKnows waiting hand pushing.AtRest = IsWithinCapacity waiting hand
  PushingKnows waiting hand (pushing.Pushes place) = PushKnows waiting hand place
  PushingKnows waiting hand (pushing.Looks place) = FullLookKnows waiting hand place

  -- a read position that the popping party saw is still the read position, or pushes that overflow
  -- moved it since
  abbrev pub IsSeen : QueueKind → ℕ → Type 0
  IsSeen Index read = read ≡ read_of
  IsSeen Overflowing read = read ≤ read_of

  -- what holds of the queue and of what a pop found so far; an eviction leaves at least one value
  abbrev pub PopKnows : List ℕ → Pop → Type 0
  PopKnows waiting pop.LoadsRead = Unit {0}
  PopKnows waiting (pop.LoadsWrite read) = IsSeen site.kind read × (read < read_of → 0 < length waiting)
  PopKnows waiting (pop.LoadsCell read cell) = IsSeen site.kind read × (0 < length waiting)
      × (cell ≡ cell_at site read)
  PopKnows waiting (pop.Takes read value) = IsSeen site.kind read × (0 < length waiting)
      × (read ≡ read_of → value ≡ slice_index waiting 0)

  -- what holds of the queue and of what a look at emptiness found so far
  abbrev pub EmptyLookKnows : List ℕ → EmptyLook → Type 0
  EmptyLookKnows waiting empty_look.LoadsRead = Unit {0}
  EmptyLookKnows waiting (empty_look.LoadsWrite read) = IsSeen site.kind read
      × (read < read_of → 0 < length waiting)

  -- what holds of the queue and of what the popping party found so far
  abbrev pub PoppingKnows : List ℕ → Popping → Type 0
  PoppingKnows waiting popping.AtRest = Unit {0}
  PoppingKnows waiting (popping.Pops place) = PopKnows waiting place
  PoppingKnows waiting (popping.Looks place) = EmptyLookKnows waiting place

  -- the words and both parties are those of a queue in which `waiting` waits and `hand` is in hand
  pub record Fits (waiting hand : List ℕ) (pushes : Pushing) (pops : Popping) : Type 0 where
    -- an overflowing queue has room for one value at least
    pub some : site.kind ≡ Overflowing → 0 < site.capacity
    pub position : write_of < 2 ^ 64
    pub ring : Ring waiting
    pub push : PushingKnows waiting hand pushes
    pub pop : PoppingKnows waiting pops
