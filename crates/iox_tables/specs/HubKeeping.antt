-- In reading order: what the making of a port asks, that tables stay in order, an example.
pub mod Connected
pub mod Keeps
pub mod Hubs
pub mod Worked
