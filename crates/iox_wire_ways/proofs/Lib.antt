pub mod ListLemmas
pub mod HeaderLemmas
pub mod PartLemmas
pub mod ReturnLemmas
pub mod SourceLemmas
pub mod VisitLemmas
pub mod ResponseLemmas
pub mod TargetLemmas
pub mod ResponseTermLemmas
pub mod SlotLemmas
-- what the crates above cite of those below
pub use Rattle.iox_wire_copies.proofs.BeginCounts
pub use Rattle.iox_wire_copies.proofs.CountLemmas
pub use Rattle.iox_wire_copies.proofs.EndCounts
pub use Rattle.iox_wire_messages.proofs.Aside
pub use Rattle.iox_wire_messages.proofs.BeginLemmas
pub use Rattle.iox_wire_messages.proofs.Layouts
pub use Rattle.iox_wire_messages.proofs.Lookups
pub use Rattle.iox_wire_messages.proofs.OwnedPlaces
pub use Rattle.iox_wire_messages.proofs.PairLemmas
pub use Rattle.iox_wire_messages.proofs.PlaceLemmas
pub use Rattle.iox_wire_messages.proofs.PlanLemmas
pub use Rattle.iox_wire_messages.proofs.WayCounts
pub use Rattle.iox_wire_messages.proofs.Planned
pub use Rattle.iox_wire_messages.proofs.SlotLemmas as PlacesSlotLemmas
pub use Rattle.iox_wire_messages.proofs.Steps
pub use Rattle.iox_wire_messages.proofs.WayLemmas
