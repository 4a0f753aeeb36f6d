pub mod RefusalLemmas
pub mod LoanLemmas
pub mod EmptyLemmas
pub mod BeginLemmas
pub mod QuietLemmas
