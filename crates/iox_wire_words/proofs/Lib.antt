pub mod PieceLemmas
pub mod Steps
pub mod Begins
-- what the crates above cite of those below
pub use Rattle.iox_laws.proofs.WeaveLaws
pub use Rattle.iox_laws.proofs.WeaveLedger
