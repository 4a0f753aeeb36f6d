pub mod ValueLemmas
pub mod AloneLemmas
pub mod FinishLemmas
pub mod PushChains
pub mod PopChains
pub mod WholeLemmas
pub mod ApartLemmas
