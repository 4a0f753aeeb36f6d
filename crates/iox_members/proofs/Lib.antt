pub mod Kept
pub mod Stepping
pub mod Joining
pub mod Registered
pub mod Among
pub mod Keeping
