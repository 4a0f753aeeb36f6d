pub mod HubStates
pub mod HubMaking
pub mod HubLoans
pub mod HubBooks
pub mod HubKeeping
pub mod HubLending
-- what the crates above cite of those below
pub use Rattle.iox_lanes.proofs.CallerLemmas
pub use Rattle.iox_lanes.proofs.Visiting
pub use Rattle.iox_laws.proofs.WeaveLaws
