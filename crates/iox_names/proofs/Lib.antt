pub mod TextLemmas
pub mod OrderLemmas
pub mod HashLemmas
