-- In reading order: what a node needs as it begins a call, and that its begins are beats; what it
-- counts, and that this stays so; when words and seats show a world, and that each access and each
-- end of a call is a beat or none; what desks record and which slots are in use; what pushes find.
pub mod Readiness
pub mod BeginLaws
pub mod OwnParts
pub mod OwnLaws
pub mod Writes
pub mod Shows
pub mod StepBeats
pub mod EndBeats
pub mod Records
pub mod UsedSlots
pub mod PoolSlots
pub mod FullPushes
pub mod Returns
