-- In reading order: the reachable worlds of a wire, and what holds in each of them.
pub mod Worlds
pub mod OnWires
pub mod GoingOn
pub mod Endings
pub mod Waits
pub mod Receipts
