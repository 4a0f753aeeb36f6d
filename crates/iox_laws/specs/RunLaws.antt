-- In reading order: what runs did, what is answered, and what holds in every reachable state.
pub mod Traces
pub mod Answering
pub mod Resting
pub mod Moving
pub mod TraceLaws
pub mod Receiving
pub mod Dying
-- an example
pub mod WorkedTraces
