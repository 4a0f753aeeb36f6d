pub mod WireSlots
pub mod WireKeeping
pub mod WireShows
pub mod WireRegions
pub mod WireOwners
pub mod WireHolding
