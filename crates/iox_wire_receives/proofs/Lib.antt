pub mod PlaceLemmas
pub mod VisitLemmas
pub mod LoadLemmas
pub mod QuietLemmas
