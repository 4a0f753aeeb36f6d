pub mod Slots
pub mod Pools
pub mod Lanes
-- only for proofs of this crate
pub mod FreeLists
pub mod Places
