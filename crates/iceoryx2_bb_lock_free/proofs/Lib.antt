-- what crates above may cite: of a queue, what an access keeps and what it comes to
pub use Rattle.iox_steps.proofs.PushSteps
pub use Rattle.iox_steps.proofs.PopSteps
pub use Rattle.iox_steps.proofs.Begins
pub use Rattle.iox_steps.proofs.Frames
pub use Rattle.iox_steps.proofs.Writes
pub use Rattle.iox_steps.proofs.ListSteps
pub use Rattle.iox_steps.proofs.Tables
pub use Rattle.iox_steps.proofs.RunLemmas
pub use Rattle.iox_steps.proofs.ResultLemmas
pub use Rattle.iox_steps.proofs.AnswerLemmas
pub use Rattle.iox_steps.proofs.AccessLemmas
pub use Rattle.iox_steps.proofs.Turns
pub use Rattle.iox_steps.proofs.Schedules
pub use Rattle.iox_steps.proofs.Stores
pub use Rattle.iox_steps.proofs.AfterCalls
-- of a machine's queue, that each step is an event
pub use Rattle.iox_queue_steps.proofs.EventLemmas
-- of a queue of values, the same laws
pub use Rattle.iox_cell_queues.specs.CellPushSteps
pub use Rattle.iox_cell_queues.specs.CellPopSteps
pub use Rattle.iox_cell_queues.specs.CellFrames
pub use Rattle.iox_cell_queues.proofs.EventLemmas as CellMomentLemmas
-- of sets, what their lists are
pub use Rattle.iox_sets.proofs.BitSetLemmas
pub use Rattle.iox_sets.proofs.CountLemmas
pub use Rattle.iox_sets.proofs.CallLemmas
