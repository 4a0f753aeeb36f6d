-- In reading order: what the accesses of nodes bound; slots that hold their messages, and what that
-- tells; that a slot which is stored belongs only to its call; accesses, ends and begins; serials that desks
-- tell; all of it on a wire, as it opens, after deaths, after each step, and as calls begin; and what
-- the slots hold that an access names.
pub mod Bounds
pub mod Stored
pub mod Alone
pub mod Accesses
pub mod MessageEnds
pub mod Serials
pub mod WireStands
pub mod MessageBegins
pub mod NamedSlots
-- what the crates above cite of those below
pub use Rattle.iox_wire_calls.specs.Aside
pub use Rattle.iox_wire_calls.specs.Begins
pub use Rattle.iox_wire_calls.specs.Borrowed
pub use Rattle.iox_wire_calls.specs.CallsStand
pub use Rattle.iox_wire_calls.specs.Counts
pub use Rattle.iox_wire_calls.specs.Courses
pub use Rattle.iox_wire_calls.specs.Delivery
pub use Rattle.iox_wire_calls.specs.Desk
pub use Rattle.iox_wire_calls.specs.Desks as LocalsDesks
pub use Rattle.iox_wire_calls.specs.Doings
pub use Rattle.iox_wire_calls.specs.Ending
pub use Rattle.iox_wire_calls.specs.Entry
pub use Rattle.iox_wire_calls.specs.Findings
pub use Rattle.iox_wire_calls.specs.Fits
pub use Rattle.iox_wire_calls.specs.Following
pub use Rattle.iox_wire_calls.specs.FollowingLaws
pub use Rattle.iox_wire_calls.specs.Known
pub use Rattle.iox_wire_calls.specs.Lanes
pub use Rattle.iox_wire_calls.specs.Laws
pub use Rattle.iox_wire_calls.specs.Lendings
pub use Rattle.iox_wire_calls.specs.Local
pub use Rattle.iox_wire_calls.specs.Locals
pub use Rattle.iox_wire_calls.specs.MomentsOf
pub use Rattle.iox_wire_calls.specs.NewLoan
pub use Rattle.iox_wire_calls.specs.NewLoans
pub use Rattle.iox_wire_calls.specs.Nodes
pub use Rattle.iox_wire_calls.specs.Openings
pub use Rattle.iox_wire_calls.specs.OwnedWords
pub use Rattle.iox_wire_calls.specs.Places
pub use Rattle.iox_wire_calls.specs.PoolSlots
pub use Rattle.iox_wire_calls.specs.Programs
pub use Rattle.iox_wire_calls.specs.Readiness
pub use Rattle.iox_wire_calls.specs.ReceiveCourses
pub use Rattle.iox_wire_calls.specs.Recorded
pub use Rattle.iox_wire_calls.specs.Records
pub use Rattle.iox_wire_calls.specs.Rows
pub use Rattle.iox_wire_calls.specs.Runs
pub use Rattle.iox_wire_calls.specs.Seat
pub use Rattle.iox_wire_calls.specs.SeatsDesks as Desks
pub use Rattle.iox_wire_calls.specs.SeatsRecords
pub use Rattle.iox_wire_calls.specs.Settlements
pub use Rattle.iox_wire_calls.specs.Shows
pub use Rattle.iox_wire_calls.specs.SlotsKnown
pub use Rattle.iox_wire_calls.specs.Stands
pub use Rattle.iox_wire_calls.specs.StateMoments
pub use Rattle.iox_wire_calls.specs.Steps
pub use Rattle.iox_wire_calls.specs.Tables
pub use Rattle.iox_wire_calls.specs.UsedSlots
pub use Rattle.iox_wire_calls.specs.Uses
pub use Rattle.iox_wire_calls.specs.UsesLaws
pub use Rattle.iox_wire_calls.specs.Visit
pub use Rattle.iox_wire_calls.specs.WholeSteps
