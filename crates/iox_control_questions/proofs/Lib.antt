pub mod NamedLemmas
pub mod ToldLemmas
pub mod RefusedLemmas
