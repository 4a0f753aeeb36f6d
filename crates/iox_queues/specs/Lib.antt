pub mod BoundedQueues
pub mod Guards
pub mod Refusals
-- a value that one producer stores
pub mod Values
-- only for proofs of this crate
pub mod Rings
