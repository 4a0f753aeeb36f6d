pub mod InPlace
pub mod Known
pub mod Ports
-- what the crates above cite of those below
pub use Rattle.iox_tables.specs.HubStates
pub use Rattle.iox_tables.specs.HubKeeping
pub use Rattle.iox_tables.specs.HubMaking
pub use Rattle.iox_tables.specs.HubBooks
