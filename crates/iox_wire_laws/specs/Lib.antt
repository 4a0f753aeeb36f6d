-- In reading order: slots; what a node keeps; worlds that are shown; regions of words; what a call
-- owns; what slots hold.
pub mod WireSlots
pub mod WireKeeping
pub mod WireShows
pub mod WireRegions
pub mod WireOwners
pub mod WireHolding
