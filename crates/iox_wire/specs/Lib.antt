-- calls and replies, as a wire keeps them
pub mod Replies
-- what a wire keeps to, beside that it shows a run
pub mod Kept
-- how a call begins
pub mod Begun
-- and what a schedule leads to
pub mod Schedules
-- why no wire is made
pub mod NewRefusals
-- what the crates above cite of those below
pub use Rattle.iox_wire_weaves.specs.Wires
