-- what a wire is told beside its plan
pub mod Terms
