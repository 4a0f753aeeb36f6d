-- what is registered with a service; what calls make of it. `Visits` of iox_attributes says when a
-- callback is called
pub mod Registers
pub mod Changes
pub mod RegisteredPorts
pub mod DynamicConfigs
-- only for proofs of this crate
pub mod Standing
-- how refusals are told, for the crates above
pub use Rattle.iox_sets.specs.Refusals
