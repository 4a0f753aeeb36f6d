pub mod Planned
pub mod Regions
pub mod Layouts
pub mod Stays
pub mod PlanTests
-- what the crates above cite of those below
pub use Rattle.iox_wire_laws.proofs.WireHolding.Aside
pub use Rattle.iox_wire_laws.proofs.WireKeeping.Lookups
pub use Rattle.iox_wire_laws.proofs.WireRegions.OwnedPlaces
