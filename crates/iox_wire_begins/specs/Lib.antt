-- how many elements the words of a payload are
pub mod WholeElements
-- the room that lists have for what a begin lists
pub mod ListRooms
-- what a node may rely on of a plan, of its terms, and of its handles
pub mod WirePlans
-- what the crates above cite of those below
pub use Rattle.iox_wire_handle_calls.specs.Aims as RequestSendsAims
pub use Rattle.iox_wire_handle_calls.specs.Begins
pub use Rattle.iox_wire_handle_calls.specs.Copiers
pub use Rattle.iox_wire_handle_calls.specs.CopyAims
pub use Rattle.iox_wire_handle_calls.specs.CopyCalls
pub use Rattle.iox_wire_handle_calls.specs.CopyReply
pub use Rattle.iox_wire_handle_calls.specs.Courses
pub use Rattle.iox_wire_handle_calls.specs.Desk
pub use Rattle.iox_wire_handle_calls.specs.Desks
pub use Rattle.iox_wire_handle_calls.specs.Dispatches
pub use Rattle.iox_wire_handle_calls.specs.Entry
pub use Rattle.iox_wire_handle_calls.specs.Fits
pub use Rattle.iox_wire_handle_calls.specs.HandleCalls
pub use Rattle.iox_wire_handle_calls.specs.Known
pub use Rattle.iox_wire_handle_calls.specs.Laws
pub use Rattle.iox_wire_handle_calls.specs.LendReply
pub use Rattle.iox_wire_handle_calls.specs.Lendings
pub use Rattle.iox_wire_handle_calls.specs.Lends
pub use Rattle.iox_wire_handle_calls.specs.Loans
pub use Rattle.iox_wire_handle_calls.specs.LoansAims
pub use Rattle.iox_wire_handle_calls.specs.Local
pub use Rattle.iox_wire_handle_calls.specs.Locals
pub use Rattle.iox_wire_handle_calls.specs.OwnStates
pub use Rattle.iox_wire_handle_calls.specs.PlacedHandles
pub use Rattle.iox_wire_handle_calls.specs.PlanPort
pub use Rattle.iox_wire_handle_calls.specs.PlannedSlots
pub use Rattle.iox_wire_handle_calls.specs.Plans
pub use Rattle.iox_wire_handle_calls.specs.PlansOf
pub use Rattle.iox_wire_handle_calls.specs.Programs
pub use Rattle.iox_wire_handle_calls.specs.Receipts
pub use Rattle.iox_wire_handle_calls.specs.ReceiveCourses
pub use Rattle.iox_wire_handle_calls.specs.ReceiveReply
pub use Rattle.iox_wire_handle_calls.specs.ReceivesAims
pub use Rattle.iox_wire_handle_calls.specs.Refusals
pub use Rattle.iox_wire_handle_calls.specs.Released
pub use Rattle.iox_wire_handle_calls.specs.RequestDispatches
pub use Rattle.iox_wire_handle_calls.specs.RequestReply
pub use Rattle.iox_wire_handle_calls.specs.RequestSources
pub use Rattle.iox_wire_handle_calls.specs.RespondReply
pub use Rattle.iox_wire_handle_calls.specs.ResponseCopies
pub use Rattle.iox_wire_handle_calls.specs.ResponseCopyReply
pub use Rattle.iox_wire_handle_calls.specs.Seat
pub use Rattle.iox_wire_handle_calls.specs.SeatReply
pub use Rattle.iox_wire_handle_calls.specs.Seats
pub use Rattle.iox_wire_handle_calls.specs.SeatsAims as Aims
pub use Rattle.iox_wire_handle_calls.specs.SendsAims
pub use Rattle.iox_wire_handle_calls.specs.Shows
pub use Rattle.iox_wire_handle_calls.specs.StateMoments
pub use Rattle.iox_wire_handle_calls.specs.Steps
pub use Rattle.iox_wire_handle_calls.specs.Stored
pub use Rattle.iox_wire_handle_calls.specs.Tables
pub use Rattle.iox_wire_handle_calls.specs.Visits
pub use Rattle.iox_wire_handle_calls.specs.WirePlan
pub use Rattle.iox_wire_handle_calls.specs.WordMapNewError
pub use Rattle.iox_wire_handle_calls.specs.WorkedWires
pub use Rattle.iox_wire_handle_calls.specs.declared.asked.Asked
pub use Rattle.iox_wire_handle_calls.specs.declared.error.BeginError
pub use Rattle.iox_wire_lenders.specs.Terms
pub use Rattle.iox_wire_lenders.specs.declared.terms.PortTerms
pub use Rattle.iox_wire_lenders.specs.declared.terms.WireTerms
