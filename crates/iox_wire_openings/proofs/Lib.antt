pub mod OpenedLemmas
pub mod FewWays
