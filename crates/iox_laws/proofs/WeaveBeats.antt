pub mod LiveWays
pub mod Rooms
pub mod Fresh
pub mod GetBacks
