pub mod Answers
pub mod Failing
pub mod Handlers
-- only for proofs of this crate: what a trait asks for of its types
pub mod AlwaysLaws
