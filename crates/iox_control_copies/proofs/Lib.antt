pub mod Pushed
pub mod Kept
pub mod Free
pub mod Lanes
pub mod Seated
pub mod InLine
pub mod Outcomes
pub mod Named
pub mod Sent
pub mod Machine
pub mod Whole
-- of the send of a response, what crates above may cite
pub use Rattle.iox_control_responses.proofs.Strategies
pub use Rattle.iox_control_responses.proofs.Places
pub use Rattle.iox_control_lending.proofs.LaneLemmas
pub use Rattle.iox_control_lending.proofs.LendLemmas
pub use Rattle.iox_control_lending.proofs.PortLemmas
pub use Rattle.iox_control_lending.proofs.SlotLemmas
pub use Rattle.iox_control_lending.proofs.MadeLemmas
-- lemmas of loans, for the crates above
pub use Rattle.iox_control_lending.proofs.Foretold
pub use Rattle.iox_control_lending.proofs.Wanting
pub use Rattle.iox_control_lending.proofs.WantingCopies
