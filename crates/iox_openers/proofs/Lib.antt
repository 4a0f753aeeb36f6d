pub mod CompatibilityLemmas
pub mod LackLemmas
pub mod AnswerLemmas
pub mod TellingLemmas
