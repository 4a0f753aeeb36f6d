pub mod Lists
pub mod Alone
pub mod Replies
pub mod Calls
pub mod Apart
