pub mod Lost
pub mod Emptied
pub mod LoanLemmas
pub mod Leads
pub mod Machine
pub mod Made
pub mod Whole
pub mod Left
-- of the send of a response, what crates above may cite
pub use Rattle.iox_control_copies.proofs.Strategies
-- lemmas of loans, for the crates above
pub use Rattle.iox_control_copies.proofs.Foretold
pub use Rattle.iox_control_copies.proofs.Wanting
pub use Rattle.iox_control_copies.proofs.WantingCopies
