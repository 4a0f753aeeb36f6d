pub mod OwnStateLemmas
pub mod LaneReturnLemmas
pub mod LaneCounts
pub mod WaitingLemmas
-- what the crates above cite of those below
pub use Rattle.iox_wire_releases.proofs.PlaceLemmas as ReleasesPlaceLemmas
pub use Rattle.iox_wire_ways.proofs.Aside
pub use Rattle.iox_wire_ways.proofs.BeginCounts
pub use Rattle.iox_wire_ways.proofs.CountLemmas
pub use Rattle.iox_wire_ways.proofs.EndCounts
pub use Rattle.iox_wire_ways.proofs.HeaderLemmas
pub use Rattle.iox_wire_ways.proofs.Layouts
pub use Rattle.iox_wire_ways.proofs.Lookups
pub use Rattle.iox_wire_ways.proofs.OwnedPlaces
pub use Rattle.iox_wire_ways.proofs.PairLemmas
pub use Rattle.iox_wire_ways.proofs.PlaceLemmas
pub use Rattle.iox_wire_ways.proofs.PlacesSlotLemmas as SlotLemmas
pub use Rattle.iox_wire_ways.proofs.PlanLemmas
pub use Rattle.iox_wire_ways.proofs.Planned
pub use Rattle.iox_wire_ways.proofs.Steps
