pub mod NameLemmas
pub mod PlaceLemmas
pub mod MemoryLemmas
-- what the crates above cite of those below
pub use Rattle.iox_wire_stops.proofs.Aside
pub use Rattle.iox_wire_stops.proofs.BeginCounts
pub use Rattle.iox_wire_stops.proofs.CountLemmas
pub use Rattle.iox_wire_stops.proofs.EndCounts
pub use Rattle.iox_wire_stops.proofs.HeaderLemmas
pub use Rattle.iox_wire_stops.proofs.Layouts
pub use Rattle.iox_wire_stops.proofs.OwnedPlaces
pub use Rattle.iox_wire_stops.proofs.PairLemmas
pub use Rattle.iox_wire_stops.proofs.PlanLemmas
pub use Rattle.iox_wire_stops.proofs.Planned
pub use Rattle.iox_wire_stops.proofs.Steps
