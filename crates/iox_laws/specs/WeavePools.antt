-- In reading order: what a port needs, that a loan then finds a message, and that no smaller pool
-- suffices.
pub mod PoolLaws
pub mod TightPools
