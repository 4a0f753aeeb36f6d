pub mod RingLemmas
pub mod QueueLemmas
pub mod ValueLemmas
