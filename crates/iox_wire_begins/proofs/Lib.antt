pub mod TermLemmas
mod RoomLemmas
-- what the crates above cite of those below
pub use Rattle.iox_wire_handle_calls.proofs.Aside
pub use Rattle.iox_wire_handle_calls.proofs.BeginCounts
pub use Rattle.iox_wire_handle_calls.proofs.CountLemmas
pub use Rattle.iox_wire_handle_calls.proofs.EndCounts
pub use Rattle.iox_wire_handle_calls.proofs.HeaderLemmas
pub use Rattle.iox_wire_handle_calls.proofs.Layouts
pub use Rattle.iox_wire_handle_calls.proofs.OwnedPlaces
pub use Rattle.iox_wire_handle_calls.proofs.PairLemmas
pub use Rattle.iox_wire_handle_calls.proofs.PlanLemmas
pub use Rattle.iox_wire_handle_calls.proofs.Planned
pub use Rattle.iox_wire_handle_calls.proofs.Steps
