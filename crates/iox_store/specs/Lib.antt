pub mod Lengths
pub mod Stored
pub mod Answering
-- only for proofs of this crate
pub mod Cells
