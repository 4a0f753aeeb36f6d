-- Which call a reply answers.
use Rattle.iox_steps.specs.declared.side.QueueReply.{QueueReply}
use Rattle.iox_steps.specs.declared.side.QueueReply.TheVariants.{Full, Popped, Empty}

-- the reply answers a look at fullness
abbrev pub IsOfFullLook : QueueReply → Type 0
IsOfFullLook (Full full) = Unit {0}
IsOfFullLook reply = ⊥

-- the reply answers a pop
abbrev pub IsOfPop : QueueReply → Type 0
IsOfPop (Popped out) = Unit {0}
IsOfPop reply = ⊥

-- the reply answers a look at emptiness
abbrev pub IsOfEmptyLook : QueueReply → Type 0
IsOfEmptyLook (Empty empty) = Unit {0}
IsOfEmptyLook reply = ⊥
