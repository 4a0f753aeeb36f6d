pub mod WorkedScripts
pub mod RunAnswers
pub mod RunSteps
pub mod RunFaults
pub mod RunPlaying
pub mod RunReads
