-- the parties of a queue, and the machine that plays them
pub mod Queues
pub mod Machines
pub mod Entries
-- parties that are kept in memory between their steps
pub mod Stored
-- only for proofs of this crate
pub mod StoredPlaces
pub mod StoredSides
-- proofs that the laws of the parties' traits need; crates above may cite them too
pub mod QueueLaws
pub mod BeginLaws
