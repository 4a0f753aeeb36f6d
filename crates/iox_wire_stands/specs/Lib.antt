-- In reading order: a run of a wire, and what a node was asked and answered; what is so of a living
-- node at its place; when words and nodes stand for a run; a wire as it opens; what follows, and
-- what stays so as nodes die and as other nodes make beats; accesses, begins, and of an end some
-- fields of its own node.
pub mod Runs
pub mod Following
pub mod Nodes
pub mod Stands
pub mod Openings
pub mod Others
pub mod FollowingLaws
pub mod NamesLaws
pub mod SendsLaws
pub mod NodeLaws
pub mod QueuesLaws
pub mod StepLaws
pub mod BeginLaws
pub mod EndLaws
-- what the crates above cite of those below
pub use Rattle.iox_wire_layouts.specs.Counts
pub use Rattle.iox_wire_layouts.specs.Desks
pub use Rattle.iox_wire_layouts.specs.Records
pub use Rattle.iox_wire_layouts.specs.Rows
