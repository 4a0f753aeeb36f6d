pub mod PlaceLemmas
pub mod SendLemmas
pub mod EndLemmas
pub mod DeliverLemmas
