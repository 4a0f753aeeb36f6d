-- In reading order: own messages of handles; a call that is over but for its end, and what the end
-- keeps of its node; that what it is told is needed; what it keeps of all that stands; slots that no
-- pool has; whole steps; those at request states or that give back, which need be told little; and
-- what ends are told by what stands before them.
pub mod OwnMessages
pub mod Over
pub mod OverLaws
pub mod Needed
pub mod WholeEnds
pub mod FarMessages
pub mod WholeSteps
pub mod StateSteps
pub mod ReturnSteps
pub mod Told
-- what the crates above cite of those below
pub use Rattle.iox_wire_laws.specs.WireHolding.Aside
pub use Rattle.iox_wire_laws.specs.WireHolding.FarSlots
pub use Rattle.iox_wire_laws.specs.WireHolding.HeldSteps
pub use Rattle.iox_wire_laws.specs.WireHolding.Holding
pub use Rattle.iox_wire_laws.specs.WireHolding.Named
pub use Rattle.iox_wire_laws.specs.WireHolding.SlotsKnown
pub use Rattle.iox_wire_laws.specs.WireKeeping.OwnParts
pub use Rattle.iox_wire_laws.specs.WireKeeping.PoolSlots
pub use Rattle.iox_wire_laws.specs.WireKeeping.Readiness
pub use Rattle.iox_wire_laws.specs.WireKeeping.Records
pub use Rattle.iox_wire_laws.specs.WireKeeping.Shows
pub use Rattle.iox_wire_laws.specs.WireKeeping.UsedSlots
pub use Rattle.iox_wire_laws.specs.WireKeeping.Writes
pub use Rattle.iox_wire_laws.specs.WireOwners.Pushes
pub use Rattle.iox_wire_laws.specs.WireOwners.Releases
pub use Rattle.iox_wire_laws.specs.WireOwners.SentStates
pub use Rattle.iox_wire_laws.specs.WireRegions.OwnedBegins
pub use Rattle.iox_wire_laws.specs.WireRegions.OwnedWords
pub use Rattle.iox_wire_laws.specs.WireRegions.Regions
pub use Rattle.iox_wire_laws.specs.WireRegions.StoredMessages
pub use Rattle.iox_wire_laws.specs.WireShows.OwnedCalls
pub use Rattle.iox_wire_locals.specs.BeginLaws
pub use Rattle.iox_wire_locals.specs.Begins
pub use Rattle.iox_wire_locals.specs.Courses
pub use Rattle.iox_wire_locals.specs.Desks
pub use Rattle.iox_wire_locals.specs.Doings
pub use Rattle.iox_wire_locals.specs.Findings
pub use Rattle.iox_wire_locals.specs.Knowing
pub use Rattle.iox_wire_locals.specs.Known
pub use Rattle.iox_wire_locals.specs.Lendings
pub use Rattle.iox_wire_locals.specs.Locals
pub use Rattle.iox_wire_locals.specs.NewLoans
pub use Rattle.iox_wire_locals.specs.ReceiveCourses
pub use Rattle.iox_wire_locals.specs.ReceiveFindings
pub use Rattle.iox_wire_locals.specs.Settlements
pub use Rattle.iox_wire_locals.specs.StateMoments
pub use Rattle.iox_wire_locals.specs.StepLaws
pub use Rattle.iox_wire_locals.specs.Steps
pub use Rattle.iox_wire_locals.specs.Stored
pub use Rattle.iox_wire_locals.specs.Tables
pub use Rattle.iox_wire_locals.specs.WorkedCalls
pub use Rattle.iox_wire_locals.specs.declared.local.CallRefusal
pub use Rattle.iox_wire_locals.specs.declared.local.Delivery
pub use Rattle.iox_wire_locals.specs.declared.local.Ending
pub use Rattle.iox_wire_locals.specs.declared.local.Local
pub use Rattle.iox_wire_locals.specs.declared.local.Visit
pub use Rattle.iox_wire_locals.specs.declared.seat.Seat
pub use Rattle.iox_wire_locals.specs.declared.table.Borrowed
pub use Rattle.iox_wire_locals.specs.declared.table.Desk
pub use Rattle.iox_wire_locals.specs.declared.table.Entry
pub use Rattle.iox_wire_locals.specs.declared.table.NewLoan
pub use Rattle.iox_wire_locals.specs.declared.table.Recorded
pub use Rattle.iox_wire_moments.specs.MomentsOf
pub use Rattle.iox_wire_pools.specs.Uses
pub use Rattle.iox_wire_pools.specs.UsesLaws
pub use Rattle.iox_wire_stands.specs.BeginLaws as StandsBeginLaws
pub use Rattle.iox_wire_stands.specs.Counts
pub use Rattle.iox_wire_stands.specs.Desks as SeatsDesks
pub use Rattle.iox_wire_stands.specs.EndLaws
pub use Rattle.iox_wire_stands.specs.Following
pub use Rattle.iox_wire_stands.specs.FollowingLaws
pub use Rattle.iox_wire_stands.specs.NamesLaws
pub use Rattle.iox_wire_stands.specs.NodeLaws
pub use Rattle.iox_wire_stands.specs.Nodes
pub use Rattle.iox_wire_stands.specs.Openings
pub use Rattle.iox_wire_stands.specs.Records as SeatsRecords
pub use Rattle.iox_wire_stands.specs.Rows
pub use Rattle.iox_wire_stands.specs.Runs
pub use Rattle.iox_wire_stands.specs.Stands
pub use Rattle.iox_wire_words.specs.Fits
pub use Rattle.iox_wire_words.specs.Laws
pub use Rattle.iox_wire_words.specs.Programs
