pub mod Agreeing
pub mod Free
