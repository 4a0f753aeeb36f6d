pub mod Starts
pub mod EntryLemmas
pub mod PendingLemmas
pub mod WholeLemmas
pub mod VisitCounts
pub mod ReceiveLemmas
pub mod ReceiveKept
pub mod RequestReceived
pub mod ResponseReceived
pub mod HintKept
pub mod ChangeLemmas
pub mod RoomLemmas
pub mod FittingLemmas
pub mod KnownEntries
mod NearFills
pub mod RemovalLemmas
pub mod KindLemmas
pub mod HeldLemmas
pub mod InPlaceLemmas
mod Closings
mod Writes
pub mod Swaps
