-- What an event does to the list of waiting values, and what it says of that list.
use Rattle.std.specs.Prelude.{◌≡◌, ℕ, ◌+◌, ◌<◌, List, [], ◌∷◌, ◌++◌, length}
use Rattle.iox_steps.specs.declared.site.Site.{Site}
use Rattle.iox_steps.specs.declared.side.QueueEvent.{QueueEvent}
use Rattle.iox_steps.specs.declared.side.QueueEvent.TheVariants.{Quiet, Publish, HandOut, Evict, Learn, SeesEmpty, SeesWaiting, SeesFull, SeesRoom, SeesEnd}
use Rattle.iox_steps.specs.Sites.{cells, last_position}

-- all but the first
abbrev pub rest : List ℕ → List ℕ
rest [] = []
rest (first ∷ others) = others

-- the first, as a list of one or none
abbrev pub front : List ℕ → List ℕ
front [] = []
front (first ∷ others) = first ∷ []

-- the values that wait after an event, oldest first
abbrev pub waiting_after : QueueEvent → List ℕ → List ℕ
waiting_after (Publish value) waiting = waiting ++ value ∷ []
waiting_after (HandOut value) waiting = rest waiting
waiting_after Evict waiting = rest waiting
waiting_after (Learn value) waiting = waiting
waiting_after Quiet waiting = waiting
waiting_after SeesEmpty waiting = waiting
waiting_after SeesWaiting waiting = waiting
waiting_after SeesFull waiting = waiting
waiting_after SeesRoom waiting = waiting
waiting_after SeesEnd waiting = waiting

-- what is in hand after an event: one value or none
abbrev pub hand_after : QueueEvent → List ℕ → List ℕ → List ℕ
hand_after Evict waiting hand = front waiting
hand_after (Learn value) waiting hand = []
hand_after (Publish value) waiting hand = hand
hand_after (HandOut value) waiting hand = hand
hand_after Quiet waiting hand = hand
hand_after SeesEmpty waiting hand = hand
hand_after SeesWaiting waiting hand = hand
hand_after SeesFull waiting hand = hand
hand_after SeesRoom waiting hand = hand
hand_after SeesEnd waiting hand = hand

-- what an event says is true of a queue with this write position, these waiting values and this
-- value in hand
abbrev pub IsTrueOf : Site → ℕ → List ℕ → List ℕ → QueueEvent → Type 0
-- there is a cell, and a position after this one
IsTrueOf site write waiting hand (Publish value) =
    (length waiting < cells site) × (write < last_position)
IsTrueOf site write waiting hand (HandOut value) = waiting ≡ value ∷ rest waiting
IsTrueOf site write waiting hand Evict = (hand ≡ []) × (length waiting ≡ site.capacity + 1)
IsTrueOf site write waiting hand (Learn value) = hand ≡ value ∷ []
IsTrueOf site write waiting hand Quiet = Unit {0}
IsTrueOf site write waiting hand SeesEmpty = waiting ≡ []
IsTrueOf site write waiting hand SeesWaiting = 0 < length waiting
IsTrueOf site write waiting hand SeesFull = length waiting ≡ site.capacity
IsTrueOf site write waiting hand SeesRoom = length waiting < site.capacity
IsTrueOf site write waiting hand SeesEnd = write ≡ last_position
