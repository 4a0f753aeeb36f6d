-- the words of the clauses, and the types that they name: values as words
pub use Rattle.iox_words.specs.WordLists
pub use Rattle.iox_words.specs.declared.word_list.Words
pub use Rattle.iox_words.specs.declared.zero_copy_send.ZeroCopySend
pub use Rattle.iox_words.specs.declared.callback_progression.CallbackProgression
-- for types of callers: words in parts, or of values that pass a test, and the words of std's types
pub use Rattle.iox_words.specs.WordParts
pub use Rattle.iox_words.specs.WordLaws
pub use Rattle.iox_words.specs.WhereLaws
pub use Rattle.iox_words.specs.Numbers
pub use Rattle.iox_words.specs.NumberLaws
pub use Rattle.iox_words.specs.SignedLaws
pub use Rattle.iox_words.specs.PlainLaws
-- queues
pub use Rattle.iox_queues.specs.BoundedQueues
pub use Rattle.iox_queues.specs.declared.spsc.index_queue.IndexQueue
pub use Rattle.iox_queues.specs.declared.spsc.index_queue.fixed_size.FixedSizeIndexQueue
pub use Rattle.iox_queues.specs.Guards as QueueGuards
pub use Rattle.iox_queues.specs.Refusals as QueueRefusals
pub use Rattle.iox_queues.specs.declared.spsc.safely_overflowing_index_queue.SafelyOverflowingIndexQueue
pub use Rattle.iox_queues.specs.declared.spsc.safely_overflowing_index_queue.fixed_size.FixedSizeSafelyOverflowingIndexQueue
pub use Rattle.iox_queues.specs.declared.spsc.safely_overflowing_index_queue.new_error.SafelyOverflowingIndexQueueNewError
pub use Rattle.iox_queues.specs.declared.spsc.queue.Queue
-- sets
pub use Rattle.iox_sets.specs.BitSets
pub use Rattle.iox_sets.specs.CountingBitSets
pub use Rattle.iox_sets.specs.IndexSets
pub use Rattle.iox_sets.specs.OwnedIndices
pub use Rattle.iox_sets.specs.Guards as IndexGuards
pub use Rattle.iox_sets.specs.Heads
pub use Rattle.iox_sets.specs.Calls
pub use Rattle.iox_sets.specs.Refusals as SetRefusals
pub use Rattle.iox_sets.specs.declared.mpmc.bit_set.BitSet
pub use Rattle.iox_sets.specs.declared.mpmc.bit_set.fixed_size.FixedSizeBitSet
pub use Rattle.iox_sets.specs.declared.mpmc.counting_bit_set.CountingBitSet
pub use Rattle.iox_sets.specs.declared.mpmc.counting_bit_set.fixed_size.FixedSizeCountingBitSet
pub use Rattle.iox_sets.specs.declared.mpmc.counting_bit_set.bit_state.BitState
pub use Rattle.iox_sets.specs.declared.mpmc.unique_index_set.UniqueIndexSet
pub use Rattle.iox_sets.specs.declared.mpmc.unique_index_set.unique_index.UniqueIndex
pub use Rattle.iox_sets.specs.declared.mpmc.unique_index_set.fixed_size.FixedSizeUniqueIndexSet
pub use Rattle.iox_sets.specs.declared.mpmc.unique_index_set.fixed_size_unique_index.FixedSizeUniqueIndex
pub use Rattle.iox_sets.specs.declared.mpmc.unique_index_set.head_details.HeadDetails
pub use Rattle.iox_sets.specs.declared.mpmc.robust_unique_index_set.RobustUniqueIndexSet
pub use Rattle.iox_sets.specs.declared.mpmc.robust_unique_index_set.fixed_size.StaticRobustUniqueIndexSet
pub use Rattle.iox_sets.specs.declared.mpmc.robust_unique_index_set.owner_id.OwnerId
pub use Rattle.iox_sets.specs.declared.mpmc.robust_unique_index_set.owner_id.OwnerIdNewError
pub use Rattle.iox_sets.specs.declared.mpmc.unique_index_set_enums.ReleaseMode
pub use Rattle.iox_sets.specs.declared.mpmc.unique_index_set_enums.ReleaseState
pub use Rattle.iox_sets.specs.declared.mpmc.unique_index_set_enums.UniqueIndexSetAcquireFailure
pub use Rattle.iox_sets.specs.declared.mpmc.unique_index_set_enums.UniqueIndexSetNewError
-- containers
pub use Rattle.iox_container.specs.Containers
pub use Rattle.iox_container.specs.Handles as ContainerHandles
pub use Rattle.iox_container.specs.Leaving
pub use Rattle.iox_container.specs.States as ContainerStates
pub use Rattle.iox_container.specs.Failures as ContainerFailures
pub use Rattle.iox_container.specs.declared.mpmc.container.Container
pub use Rattle.iox_container.specs.declared.mpmc.container.fixed_size.FixedSizeContainer
pub use Rattle.iox_container.specs.declared.mpmc.container.entries.Entry as ContainerEntry
pub use Rattle.iox_container.specs.declared.mpmc.container.container_handle.ContainerHandle
pub use Rattle.iox_container.specs.declared.mpmc.container.container_state.ContainerState
pub use Rattle.iox_container.specs.declared.mpmc.container.failures.ContainerAddFailure
pub use Rattle.iox_container.specs.declared.mpmc.container.failures.ContainerRemoveError
-- the machine, and the queue that it plays
pub use Rattle.iox_steps.specs.Accesses
pub use Rattle.iox_steps.specs.MachineStates
pub use Rattle.iox_steps.specs.Entries
pub use Rattle.iox_steps.specs.MachineParties
pub use Rattle.iox_steps.specs.Sites
pub use Rattle.iox_steps.specs.Pushes
pub use Rattle.iox_steps.specs.Pops
pub use Rattle.iox_steps.specs.Replies
pub use Rattle.iox_steps.specs.Events
pub use Rattle.iox_steps.specs.EventLists
pub use Rattle.iox_steps.specs.Sides
pub use Rattle.iox_steps.specs.Fits
pub use Rattle.iox_steps.specs.Contents
pub use Rattle.iox_steps.specs.AfterCalls
pub use Rattle.iox_steps.specs.Answers
pub use Rattle.iox_steps.specs.Laws
pub use Rattle.iox_steps.specs.Stores
pub use Rattle.iox_steps.specs.Results
pub use Rattle.iox_queue_steps.specs.Queues
pub use Rattle.iox_queue_steps.specs.Machines
pub use Rattle.iox_queue_steps.specs.Entries as QueueEntries
pub use Rattle.iox_steps.specs.declared.access.Access
pub use Rattle.iox_steps.specs.declared.access.Progress
pub use Rattle.iox_steps.specs.declared.access.Next
pub use Rattle.iox_steps.specs.declared.access.Party
pub use Rattle.iox_steps.specs.declared.error.MachineError
pub use Rattle.iox_steps.specs.declared.machine.Entry
pub use Rattle.iox_steps.specs.declared.machine.Machine
pub use Rattle.iox_steps.specs.declared.machine_party.MachineParty
pub use Rattle.iox_steps.specs.declared.site.QueueKind
pub use Rattle.iox_steps.specs.declared.site.Site
pub use Rattle.iox_steps.specs.declared.push.Push
pub use Rattle.iox_steps.specs.declared.push.PushReply
pub use Rattle.iox_steps.specs.declared.push.FullLook
pub use Rattle.iox_steps.specs.declared.pop.Pop
pub use Rattle.iox_steps.specs.declared.pop.EmptyLook
pub use Rattle.iox_steps.specs.declared.side.QueueEvent
pub use Rattle.iox_steps.specs.declared.side.QueueReply
pub use Rattle.iox_steps.specs.declared.side.Pushing
pub use Rattle.iox_steps.specs.declared.side.Popping
pub use Rattle.iox_queue_steps.specs.declared.queue.Side
pub use Rattle.iox_queue_steps.specs.declared.queue.Call
pub use Rattle.iox_queue_steps.specs.declared.party.QueueParty
pub use Rattle.iox_queue_steps.specs.declared.machine.QueueMachine
-- whole calls on the words of a queue
pub use Rattle.iox_queue_calls.specs.Lists as QueueLists
pub use Rattle.iox_queue_calls.specs.Alone
pub use Rattle.iox_queue_calls.specs.Calls as QueueCalls
pub use Rattle.iox_queue_calls.specs.Apart as QueueApart
-- a queue whose parties are kept in memory
pub use Rattle.iox_queue_steps.specs.Stored as StoredParties
pub use Rattle.iox_queue_steps.specs.declared.stored.answer.StepAnswer
pub use Rattle.iox_queue_steps.specs.declared.stored.pusher.StoredPusher
pub use Rattle.iox_queue_steps.specs.declared.stored.popper.StoredPopper
pub use Rattle.iox_queue_steps.specs.declared.stored.queue.StoredQueue
-- the same for a queue of values of several words
pub use Rattle.iox_cell_queues.specs.Cells
pub use Rattle.iox_cell_queues.specs.CellPrograms
pub use Rattle.iox_cell_queues.specs.CellEvents
pub use Rattle.iox_cell_queues.specs.CellSides
pub use Rattle.iox_cell_queues.specs.CellFits
pub use Rattle.iox_cell_queues.specs.CellContents
pub use Rattle.iox_cell_queues.specs.CellEventLists
pub use Rattle.iox_cell_queues.specs.CellAnswers
pub use Rattle.iox_cell_queues.specs.CellAfterCalls
pub use Rattle.iox_cell_queues.specs.CellLaws
pub use Rattle.iox_cell_queues.specs.CellOwn
pub use Rattle.iox_cell_queues.specs.CellReady
pub use Rattle.iox_cell_queues.specs.declared.event.CellEvent
pub use Rattle.iox_cell_queues.specs.declared.event.CellReply
pub use Rattle.iox_cell_queues.specs.declared.site.CellSite
pub use Rattle.iox_cell_queues.specs.declared.push.CellPush
pub use Rattle.iox_cell_queues.specs.declared.pop.CellPop
pub use Rattle.iox_cell_queues.specs.declared.side.CellPushing
pub use Rattle.iox_cell_queues.specs.declared.side.CellPopping
pub use Rattle.iox_cell_queues.specs.CellPartySides
pub use Rattle.iox_cell_queues.specs.CellParties
pub use Rattle.iox_cell_queues.specs.CellQueues
pub use Rattle.iox_cell_queues.specs.CellMachines
pub use Rattle.iox_cell_queues.specs.CellEntries
pub use Rattle.iox_cell_queues.specs.CellSizes
pub use Rattle.iox_cell_queues.specs.declared.machine.CellMachine
pub use Rattle.iox_cell_queues.specs.declared.queue.CellParty
pub use Rattle.iox_cell_queues.specs.declared.queue.CellSide
pub use Rattle.iox_cell_queues.specs.declared.queue.CellCall
pub use Rattle.iox_cell_queues.specs.Lists as CellLists
pub use Rattle.iox_cell_queues.specs.Alone as CellAlone
pub use Rattle.iox_cell_queues.specs.Calls as CellCalls
pub use Rattle.iox_cell_queues.specs.Apart as CellApart
pub use Rattle.iox_cell_queues.specs.SwappedStores
-- bits, counts and values as steps
pub use Rattle.iox_set_steps.specs.Turns as SetTurns
pub use Rattle.iox_set_steps.specs.Kinds
pub use Rattle.iox_set_steps.specs.SitedMachines
pub use Rattle.iox_set_steps.specs.Sites as SetSites
pub use Rattle.iox_set_steps.specs.Bits
pub use Rattle.iox_set_steps.specs.BitPrograms
pub use Rattle.iox_set_steps.specs.BitPlays
pub use Rattle.iox_set_steps.specs.BitCalls
pub use Rattle.iox_set_steps.specs.BitMachines
pub use Rattle.iox_set_steps.specs.BitEntries
pub use Rattle.iox_set_steps.specs.Counts
pub use Rattle.iox_set_steps.specs.CountPrograms
pub use Rattle.iox_set_steps.specs.CountPlays
pub use Rattle.iox_set_steps.specs.CountCalls
pub use Rattle.iox_set_steps.specs.CountMachines
pub use Rattle.iox_set_steps.specs.CountEntries
pub use Rattle.iox_set_steps.specs.Values as StepValues
pub use Rattle.iox_set_steps.specs.AtomicPrograms
pub use Rattle.iox_set_steps.specs.AtomicPlays
pub use Rattle.iox_set_steps.specs.AtomicCalls
pub use Rattle.iox_set_steps.specs.AtomicMachines
pub use Rattle.iox_set_steps.specs.TypedValues
pub use Rattle.iox_set_steps.specs.AtomicEntries
pub use Rattle.iox_set_steps.specs.TypedWords
pub use Rattle.iox_set_steps.specs.declared.bit_set.machine.BitSetMachine
pub use Rattle.iox_set_steps.specs.declared.counting_bit_set.machine.CountingBitSetMachine
pub use Rattle.iox_set_steps.specs.declared.unrestricted_atomic.machine.AtomicMachine
pub use Rattle.iox_set_steps.specs.declared.unrestricted_atomic.value_machine.ValueMachine
-- a value for one thread
pub use Rattle.iox_queues.specs.Values as AtomicValues
pub use Rattle.iox_queues.specs.declared.spmc.unrestricted_atomic.UnrestrictedAtomic
