-- Examples, in reading order: a service of two nodes, its runs, and weaves of its wire.
pub mod Examples
pub mod WorkedRuns
pub mod ExpiredRuns
pub mod WorkedSteps
pub mod WorkedWeaves
pub mod EvictionWeaves
