-- Which call a reply answers.
use Rattle.iox_cell_queues.specs.declared.event.CellReply.{CellReply}
use Rattle.iox_cell_queues.specs.declared.event.CellReply.TheVariants.{Pushed, Full, Popped, Empty}

-- the reply answers a push
abbrev pub IsOfPush : {A : Type 0} → CellReply A → Type 0
IsOfPush (Pushed room) = Unit {0}
IsOfPush reply = ⊥

-- the reply answers a look at fullness
abbrev pub IsOfFullLook : {A : Type 0} → CellReply A → Type 0
IsOfFullLook (Full full) = Unit {0}
IsOfFullLook reply = ⊥

-- the reply answers a pop
abbrev pub IsOfPop : {A : Type 0} → CellReply A → Type 0
IsOfPop (Popped out) = Unit {0}
IsOfPop reply = ⊥

-- the reply answers a look at emptiness
abbrev pub IsOfEmptyLook : {A : Type 0} → CellReply A → Type 0
IsOfEmptyLook (Empty empty) = Unit {0}
IsOfEmptyLook reply = ⊥
