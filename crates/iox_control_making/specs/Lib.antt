pub mod Bounds
pub mod Sizes
pub mod Links
pub mod Making
pub mod Parts
