pub mod Least
pub mod Tables
pub mod Tallies
pub mod Removals
-- only for proofs of this crate
pub mod Places
pub mod NodeLists
pub mod Memory
