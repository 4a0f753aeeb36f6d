-- a node's handles
pub mod Rows
-- how many messages of each way it has
pub mod Counts
-- a desk, what it records on its ways, and the desks of a node
pub mod Slots
pub mod Records
pub mod Desks
-- how many messages of a port they count
pub mod Counted
-- a seat, and the places that it knows of
pub mod Seats
pub mod Aims
-- the event of its next access
pub mod SlotEvents
-- a step without one, after which the call goes on
pub mod QuietSteps
-- what a call leaves there that is kept beside the seat
pub mod Keeps
pub mod Lends
-- only for proofs of this crate: where a party of a queue is
pub mod Places
