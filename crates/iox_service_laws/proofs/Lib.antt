mod Lending
mod Receivers
mod Closing
mod Dead
mod Reading
mod Histories
pub mod OfServices
-- what the crates above cite of those below
pub use Rattle.iox_nodes.proofs.Reaching
pub use Rattle.iox_nodes.proofs.Running
pub use Rattle.iox_nodes.proofs.Leading
pub use Rattle.iox_nodes.proofs.Wanting
