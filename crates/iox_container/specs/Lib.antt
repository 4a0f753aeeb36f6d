pub mod Containers
pub mod Handles
pub mod Leaving
pub mod States
pub mod Failures
-- only for proofs of this crate
pub mod Indexing
