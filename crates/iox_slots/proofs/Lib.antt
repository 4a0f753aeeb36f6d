pub mod ListLemmas
pub mod FreeListLemmas
pub mod SlotLemmas
pub mod CountLemmas
pub mod OwnLanes
-- for crates above
pub mod PlaceLemmas
pub mod CallerLemmas
pub mod BareLemmas
pub mod FreeSlots
