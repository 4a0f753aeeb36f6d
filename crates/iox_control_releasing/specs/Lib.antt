pub mod LettingGo
pub mod Goings
pub mod Named
pub mod Endings
pub mod Ends
pub mod Releases
