pub mod Comparing
pub mod Serving
