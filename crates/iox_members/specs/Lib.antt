-- In reading order: the nodes that are kept, how they are registered, and what a call does to them.
pub mod Nodes
pub mod Registering
pub mod Steps
-- what clauses of nodes cite of registers, for the crates above
pub use Rattle.iox_registry.specs.Registers
