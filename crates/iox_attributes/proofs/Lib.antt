pub mod CountLemmas
pub mod PairLemmas
pub mod SortedLemmas
pub mod ValueLemmas
pub mod VerifierLemmas
