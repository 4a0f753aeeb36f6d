-- the words of a queue, the programs of its parties, and the law of their accesses
pub mod Cells
pub mod CellPrograms
pub mod CellEvents
pub mod CellSides
pub mod CellFits
pub mod CellContents
pub mod CellEventLists
pub mod CellAnswers
pub mod CellAfterCalls
pub mod CellLaws
pub mod CellOwn
-- the machine that plays the two parties
pub mod CellPartySides
pub mod CellParties
pub mod CellQueues
pub mod CellMachines
pub mod CellEntries
-- whole calls
pub mod Lists
pub mod Alone
pub mod Replies
pub mod Calls
pub mod Apart
pub mod SwappedStores
-- only for the code of this crate
pub mod CellReady
pub mod CellSizes
-- proofs that the laws of its parties need; crates above may cite them too
pub mod CellPlaces
pub mod CellRings
pub mod CellKnowledge
pub mod CellPushSteps
pub mod CellPopSteps
pub mod CellRunLemmas
pub mod CellFrames
pub mod CellPlayLemmas
pub mod CellQueueLaws
pub mod CellBeginLaws
