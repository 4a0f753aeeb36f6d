pub mod EntryLemmas
pub mod HandleLemmas
pub mod IndexingLemmas
pub mod InsertLemmas
pub mod KeptLemmas
pub mod RecoveryLemmas
pub mod StateLemmas
pub mod ValueLemmas
