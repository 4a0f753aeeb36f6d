-- In reading order: what a receiver has and what is out on a way, the most accesses of a call, and laws.
pub mod Ledgers
pub mod Tallies
pub mod Bounds
pub mod Laws
pub mod OrderLaws
pub mod WordLaws
pub mod CommandLaws
