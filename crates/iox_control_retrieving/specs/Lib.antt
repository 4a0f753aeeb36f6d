pub mod Alone
pub mod Retrieving
