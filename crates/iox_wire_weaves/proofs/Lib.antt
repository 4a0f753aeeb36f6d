pub mod Lookups
pub mod PortsElsewhere
pub mod FreshDesks
pub mod PlanPorts
pub mod EventsTold
mod RepliesTold
pub mod StepsShown
pub mod DeathsShown
pub mod BeginsShown
pub mod NodesKnown
mod SlotRooms
mod PortSlots
pub mod HandlesStanding
pub mod HandleSums
pub mod CallsSaid
pub mod ReadsWithin
pub mod Opened
pub mod KeptSlots
pub mod LivingDesks
pub mod CountsTold
-- what the crates above cite of those below
pub use Rattle.iox_wire_needs.proofs.AccessesMade
pub use Rattle.iox_wire_needs.proofs.Copying
pub use Rattle.iox_wire_needs.proofs.Counts
pub use Rattle.iox_wire_needs.proofs.GivenUp
pub use Rattle.iox_wire_needs.proofs.OpenedDesks
pub use Rattle.iox_wire_needs.proofs.ReadWords
pub use Rattle.iox_wire_needs.proofs.Tidying
pub use Rattle.iox_wire_needs.proofs.Uses
pub use Rattle.iox_wire_nodes.proofs.BesideLemmas
pub use Rattle.iox_wire_nodes.proofs.CallLemmas
pub use Rattle.iox_wire_nodes.proofs.Layouts
pub use Rattle.iox_wire_nodes.proofs.NameLemmas
pub use Rattle.iox_wire_nodes.proofs.Planned
pub use Rattle.iox_wire_nodes.proofs.PortsKept
pub use Rattle.iox_wire_nodes.proofs.RoomsKept
