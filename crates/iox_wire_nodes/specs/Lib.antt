-- a node with its call, and the places that it knows of
pub mod Nodes
pub mod Aims
-- and how it begins a call
pub mod Begins
-- the calls that it is asked
pub mod Calls
-- and the room that it has for handles
pub mod Rooms
-- and its ports
pub mod Ports
-- what the crates above cite of those below
pub use Rattle.iox_wire_begins.specs.Aims as SeatsAims
pub use Rattle.iox_wire_begins.specs.BeginError
pub use Rattle.iox_wire_begins.specs.Begins as LocalsBegins
pub use Rattle.iox_wire_begins.specs.CopyReply
pub use Rattle.iox_wire_begins.specs.Courses
pub use Rattle.iox_wire_begins.specs.Desk
pub use Rattle.iox_wire_begins.specs.Desks
pub use Rattle.iox_wire_begins.specs.Dispatches
pub use Rattle.iox_wire_begins.specs.Entry
pub use Rattle.iox_wire_begins.specs.Fits
pub use Rattle.iox_wire_begins.specs.HandleCalls
pub use Rattle.iox_wire_begins.specs.Known
pub use Rattle.iox_wire_begins.specs.Laws
pub use Rattle.iox_wire_begins.specs.LendReply
pub use Rattle.iox_wire_begins.specs.Lendings
pub use Rattle.iox_wire_begins.specs.Lends
pub use Rattle.iox_wire_begins.specs.ListRooms
pub use Rattle.iox_wire_begins.specs.Loans
pub use Rattle.iox_wire_begins.specs.Local
pub use Rattle.iox_wire_begins.specs.Locals
pub use Rattle.iox_wire_begins.specs.OwnStates
pub use Rattle.iox_wire_begins.specs.PlacedHandles
pub use Rattle.iox_wire_begins.specs.PlanPort
pub use Rattle.iox_wire_begins.specs.Plans
pub use Rattle.iox_wire_begins.specs.PlansOf
pub use Rattle.iox_wire_begins.specs.Programs
pub use Rattle.iox_wire_begins.specs.Receipts
pub use Rattle.iox_wire_begins.specs.ReceiveReply
pub use Rattle.iox_wire_begins.specs.ReceivesAims
pub use Rattle.iox_wire_begins.specs.Refusals
pub use Rattle.iox_wire_begins.specs.Released
pub use Rattle.iox_wire_begins.specs.RequestDispatches
pub use Rattle.iox_wire_begins.specs.RequestReply
pub use Rattle.iox_wire_begins.specs.RequestSources
pub use Rattle.iox_wire_begins.specs.RespondReply
pub use Rattle.iox_wire_begins.specs.ResponseCopyReply
pub use Rattle.iox_wire_begins.specs.Seat
pub use Rattle.iox_wire_begins.specs.SeatReply
pub use Rattle.iox_wire_begins.specs.Seats
pub use Rattle.iox_wire_begins.specs.Shows
pub use Rattle.iox_wire_begins.specs.StateMoments
pub use Rattle.iox_wire_begins.specs.Steps
pub use Rattle.iox_wire_begins.specs.Stored
pub use Rattle.iox_wire_begins.specs.Tables
pub use Rattle.iox_wire_begins.specs.Terms
pub use Rattle.iox_wire_begins.specs.WholeElements
pub use Rattle.iox_wire_begins.specs.WirePlan
pub use Rattle.iox_wire_begins.specs.WirePlans
pub use Rattle.iox_wire_begins.specs.WireTerms
pub use Rattle.iox_wire_begins.specs.WordMapNewError
pub use Rattle.iox_wire_begins.specs.WorkedWires
