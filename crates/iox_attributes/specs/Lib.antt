-- a set, what a verifier answers, and how a set is visited
pub mod Sets
pub mod Verifiers
pub mod Visits
-- only for proofs of this crate
pub mod Storage
