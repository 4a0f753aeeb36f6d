pub mod Settings
pub mod Entries
pub mod Controls
pub mod Replies
pub mod Fittings
pub mod Removals
pub mod Receives
