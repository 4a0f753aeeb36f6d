pub mod NewMachines
pub mod EventLemmas
pub mod CellLemmas
pub mod StoredLemmas
pub mod QueueStateLemmas
pub mod PlaysLemmas
pub mod EntryLemmas
