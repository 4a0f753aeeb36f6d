pub mod IdLemmas
mod KeptLemmas
mod CountLemmas
mod StandingLemmas
mod RecoveryLemmas
mod HandleLemmas
pub mod OwnerLemmas
pub mod RegisterLemmas
mod AddLemmas
mod ReleaseLemmas
mod NodeLemmas
pub mod LawLemmas
pub mod NumberLemmas
