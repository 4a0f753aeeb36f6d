-- what an identifier and a header are, how types are described, where a message's parts stand, and
-- the limits of a service
pub mod Identifiers
pub mod PortIds
pub mod Headers
pub mod Details
pub mod Compatibility
pub mod Places
pub mod Parts
pub mod Layouts
pub mod PoolSizes
pub mod FirstLimits
-- only for proofs of this crate: what a trait asks for of its types
pub mod IdentifierLaws
pub mod HeaderLaws
