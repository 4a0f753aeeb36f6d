-- In reading order: laws of beats and weaves, worked runs, calls as functions; what is kept, worlds and
-- pools over weaves; then runs, messages, replies, services, and their records and pools.
pub mod WeaveLaws
pub mod WorkedExamples
pub mod CallFunctions
pub mod WeaveLedger
pub mod WeaveWorlds
pub mod WeavePools
pub mod WeaveBeats
pub mod RunLaws
pub mod MessageLaws
pub mod ReplyLaws
pub mod ServiceLaws
pub mod RunLedger
pub mod RunPools
-- what the crates above cite of those below
pub use Rattle.iox_model.specs.UniqueSystemId
pub use Rattle.iox_model.specs.Parts
pub use Rattle.iox_model.specs.BackpressureStrategy
pub use Rattle.iox_model.specs.AllocationStrategy
