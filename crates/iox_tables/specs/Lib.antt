-- In reading order: the tables and how they show a state; making, loans; what is in order between
-- calls; that starts, makings and loans keep it.
pub mod HubStates
pub mod HubMaking
pub mod HubLoans
pub mod HubBooks
pub mod HubKeeping
pub mod HubLending
-- what the crates above cite of those below
pub use Rattle.iox_lanes.specs.declared.wanted.Label
pub use Rattle.iox_lanes.specs.declared.incoming.Visits
pub use Rattle.iox_lanes.specs.Incomings
pub use Rattle.iox_lanes.specs.Pipes
pub use Rattle.iox_lanes.specs.PipeSteps
pub use Rattle.iox_lanes.specs.Lanes
pub use Rattle.iox_lanes.specs.Visited
pub use Rattle.iox_lanes.specs.Searches
pub use Rattle.iox_lanes.specs.declared.wanted.Wanted
