pub mod PlaceLemmas
pub mod StateLemmas
pub mod BeginLemmas
pub mod ReleaseLemmas
