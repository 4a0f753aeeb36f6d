pub mod RoomLemmas
pub mod RoundLemmas
pub mod EndLemmas
pub mod StartLemmas
pub mod StepLemmas
pub mod LeadLemmas
pub mod PlaceLemmas
pub mod EventLemmas
