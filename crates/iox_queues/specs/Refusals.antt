-- Why no overflowing queue is made, and the text of that error.
use Rattle.std.specs.Prelude.{ℕ, List, ◌==◌, codes, if◌then◌else◌}
use Rattle.iox_queues.specs.declared.spsc.safely_overflowing_index_queue.new_error.SafelyOverflowingIndexQueueNewError.{SafelyOverflowingIndexQueueNewError}
use Rattle.iox_queues.specs.declared.spsc.safely_overflowing_index_queue.new_error.SafelyOverflowingIndexQueueNewError.TheVariants.{CapacityIsZero, WantOfMemory}

-- the one refusal where no queue of a capacity is made
abbrev pub new_refusal : ℕ → SafelyOverflowingIndexQueueNewError
new_refusal capacity = if capacity == 0 then CapacityIsZero else WantOfMemory

-- the text by which the error is shown
abbrev pub new_error_text : SafelyOverflowingIndexQueueNewError → List ℕ
new_error_text CapacityIsZero = codes "SafelyOverflowingIndexQueueNewError::CapacityIsZero"
new_error_text WantOfMemory = codes "SafelyOverflowingIndexQueueNewError::WantOfMemory"
