pub mod Cells
pub mod Lanes
pub mod Marks
pub mod Searches
pub mod Pipes
pub mod PipeSteps
pub mod Visited
pub mod Incomings
