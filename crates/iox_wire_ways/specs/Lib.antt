-- the ports and the ways that a call visits
pub mod Visits
-- what a server's receive is told about them
pub mod RequestSources
-- and that of a pending response
pub mod ResponseSources
-- what the send of a request is told about its servers
pub mod RequestTargets
-- where the messages of a port stand
pub mod PlannedSlots
-- what the crates above cite of those below
pub use Rattle.iox_wire_copies.specs.Aims as SendsAims
pub use Rattle.iox_wire_copies.specs.Copies
pub use Rattle.iox_wire_copies.specs.CopyAims
pub use Rattle.iox_wire_copies.specs.Copiers
pub use Rattle.iox_wire_copies.specs.CopyCalls
pub use Rattle.iox_wire_copies.specs.Dispatches
pub use Rattle.iox_wire_copies.specs.LendReply
pub use Rattle.iox_wire_copies.specs.Lender
pub use Rattle.iox_wire_copies.specs.Lenders
pub use Rattle.iox_wire_copies.specs.Loans
pub use Rattle.iox_wire_copies.specs.LoansAims
pub use Rattle.iox_wire_copies.specs.RequestDispatches
pub use Rattle.iox_wire_copies.specs.RequestReply
pub use Rattle.iox_wire_copies.specs.RequestSendsAims
pub use Rattle.iox_wire_copies.specs.RequestTerms
pub use Rattle.iox_wire_copies.specs.RespondReply
pub use Rattle.iox_wire_copies.specs.ResponseCopies
pub use Rattle.iox_wire_copies.specs.ResponseTerms
pub use Rattle.iox_wire_copies.specs.SlotPlaces
pub use Rattle.iox_wire_copies.specs.Target
pub use Rattle.iox_wire_copies.specs.Targets
pub use Rattle.iox_wire_copies.specs.declared.at.CopyReply
pub use Rattle.iox_wire_copies.specs.declared.at.ResponseCopyReply
pub use Rattle.iox_wire_messages.specs.Aims
pub use Rattle.iox_wire_messages.specs.Begins
pub use Rattle.iox_wire_messages.specs.Courses
pub use Rattle.iox_wire_messages.specs.Desk
pub use Rattle.iox_wire_messages.specs.Desks
pub use Rattle.iox_wire_messages.specs.Entry
pub use Rattle.iox_wire_messages.specs.Fits
pub use Rattle.iox_wire_messages.specs.Known
pub use Rattle.iox_wire_messages.specs.Laws
pub use Rattle.iox_wire_messages.specs.Lendings
pub use Rattle.iox_wire_messages.specs.Lends
pub use Rattle.iox_wire_messages.specs.Local
pub use Rattle.iox_wire_messages.specs.Locals
pub use Rattle.iox_wire_messages.specs.MapFields
pub use Rattle.iox_wire_messages.specs.MessagePlaces
pub use Rattle.iox_wire_messages.specs.PlanPort
pub use Rattle.iox_wire_messages.specs.Plans
pub use Rattle.iox_wire_messages.specs.PlansOf
pub use Rattle.iox_wire_messages.specs.PortPlaces
pub use Rattle.iox_wire_messages.specs.Programs
pub use Rattle.iox_wire_messages.specs.ReceiveCourses
pub use Rattle.iox_wire_messages.specs.Refusals
pub use Rattle.iox_wire_messages.specs.Seat
pub use Rattle.iox_wire_messages.specs.SeatReply
pub use Rattle.iox_wire_messages.specs.Seats
pub use Rattle.iox_wire_messages.specs.Shows
pub use Rattle.iox_wire_messages.specs.StateMoments
pub use Rattle.iox_wire_messages.specs.Steps
pub use Rattle.iox_wire_messages.specs.Stop
pub use Rattle.iox_wire_messages.specs.Stored
pub use Rattle.iox_wire_messages.specs.Tables
pub use Rattle.iox_wire_messages.specs.WayIndex
pub use Rattle.iox_wire_messages.specs.WirePlan
pub use Rattle.iox_wire_messages.specs.WordMapNewError
pub use Rattle.iox_wire_messages.specs.WorkedWires
pub use Rattle.iox_wire_receives.specs.Aims as ReceivesAims
pub use Rattle.iox_wire_receives.specs.Receipts
pub use Rattle.iox_wire_receives.specs.Sources
pub use Rattle.iox_wire_receives.specs.declared.at.ReceiveReply
pub use Rattle.iox_wire_receives.specs.declared.source.ReceiveTerms
pub use Rattle.iox_wire_receives.specs.declared.source.Source
