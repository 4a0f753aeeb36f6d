-- In reading order: that the words fit the program of the next place, that ids stay small, that the
-- world after an access and after an end is shown, and that a call owns its next place, alone and
-- together with the next world.
pub mod NextPrograms
pub mod Ids
pub mod StepsShow
pub mod EndsShow
pub mod OwnedCalls
pub mod OwnedSteps
