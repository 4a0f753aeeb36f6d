pub mod EventCases
pub mod Moments
-- what the crates above cite of those below
pub use Rattle.iox_wire_words.proofs.WeaveLaws
pub use Rattle.iox_wire_words.proofs.WeaveLedger
