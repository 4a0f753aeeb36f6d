-- In reading order: what a plan says of the wire, and the layout that it describes; why no map is
-- made; the laws of such layouts
pub mod Plans
pub mod Refusals
pub mod PlanLaws
-- only for proofs of this crate: sums over ports, and the fields of a map
pub mod PortSums
pub mod MapFields
-- what the crates above cite of those below
pub use Rattle.iox_wire_words.specs.Programs
