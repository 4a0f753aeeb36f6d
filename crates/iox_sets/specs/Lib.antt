pub mod BitSets
pub mod Calls
pub mod CountingBitSets
pub mod Guards
pub mod Heads
pub mod IndexSets
pub mod OwnedIndices
pub mod Refusals
-- only for proofs of this crate
pub mod BitWords
pub mod FreeBits
pub mod FreeLists
pub mod Words
