-- In reading order: what ports keep between calls, where a pool decides, that a loan finds a
-- message, and that no smaller pool suffices.
pub mod PoolsRest
pub mod Decisions
pub mod Finding
pub mod TightRests
