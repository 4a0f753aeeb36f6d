pub mod WorkedRunsHold
pub mod WorkedWeavesHold
pub mod Shapes
pub mod WorkedStepsHold
