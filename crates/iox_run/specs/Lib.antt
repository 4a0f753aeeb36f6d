-- In reading order: the answers to a script, what the program reads and writes, and its exit status.
pub mod Answers
pub mod Runs
pub mod Statuses
-- only for proofs of this crate
pub mod Cuts
pub mod Standings
