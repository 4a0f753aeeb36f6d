pub mod Listed
pub mod Answering
pub mod Failures
pub mod Shown
