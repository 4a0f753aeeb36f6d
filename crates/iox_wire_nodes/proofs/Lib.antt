pub mod ReplyLemmas
pub mod RestLemmas
pub mod BesideLemmas
pub mod ReadyLemmas
pub mod StayLemmas
pub mod NameLemmas
pub mod PortsKept
pub mod CallLemmas
pub mod RoomsKept
-- what the crates above cite of those below
pub use Rattle.iox_wire_begins.proofs.Aside
pub use Rattle.iox_wire_begins.proofs.Layouts
pub use Rattle.iox_wire_begins.proofs.OwnedPlaces
pub use Rattle.iox_wire_begins.proofs.Planned
pub use Rattle.iox_wire_begins.proofs.Steps
pub mod QuietLemmas
