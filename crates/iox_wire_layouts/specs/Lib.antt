-- In reading order: when a plan is that of a machine's ports and of a wire's setting, and that its
-- layout then has what the laws of a wire ask.
pub mod PlansOf
pub mod LayoutLaws
-- what the crates above cite of those below
pub use Rattle.iox_wire_laws.specs.WireKeeping.Shows
pub use Rattle.iox_wire_seats.specs.Counts
pub use Rattle.iox_wire_seats.specs.Desks
pub use Rattle.iox_wire_seats.specs.Records
pub use Rattle.iox_wire_seats.specs.Rows
