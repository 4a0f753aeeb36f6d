-- In reading order: how many messages ports keep and have outstanding; which calls are under way, when
-- nodes died, and how many words of calls a wire keeps; what a wire is and when it shows a run of the
-- machine; which node has a port, and which events are recorded; what a step and a death do to a wire, and
-- the begin of a call; the laws that it keeps showing a run; how many handles a node has at most; which
-- slots have what a port keeps; and that desks tell how many messages ports keep and have outstanding.
pub mod PortCounts
pub mod Replies
pub mod Wires
pub mod Owners
pub mod Events
pub mod Steps
pub mod Asking
pub mod Laws
pub mod HandleBounds
pub mod KeptSlots
pub mod CountLaws
-- what the crates above cite of those below
pub use Rattle.iox_wire_needs.specs.Copying
pub use Rattle.iox_wire_needs.specs.Counts
pub use Rattle.iox_wire_needs.specs.Ending
pub use Rattle.iox_wire_needs.specs.Following
pub use Rattle.iox_wire_needs.specs.MessageBegins
pub use Rattle.iox_wire_needs.specs.NamedSlots
pub use Rattle.iox_wire_needs.specs.NewLoan
pub use Rattle.iox_wire_needs.specs.NewLoans
pub use Rattle.iox_wire_needs.specs.Openings
pub use Rattle.iox_wire_needs.specs.Places
pub use Rattle.iox_wire_needs.specs.ReadWords
pub use Rattle.iox_wire_needs.specs.Runs
pub use Rattle.iox_wire_needs.specs.Serials
pub use Rattle.iox_wire_needs.specs.SettingsStay
pub use Rattle.iox_wire_needs.specs.Settlements
pub use Rattle.iox_wire_needs.specs.Stands
pub use Rattle.iox_wire_needs.specs.Tidying
pub use Rattle.iox_wire_needs.specs.Uses
pub use Rattle.iox_wire_needs.specs.WholeSteps
pub use Rattle.iox_wire_needs.specs.WireStands
pub use Rattle.iox_wire_nodes.specs.Aims
pub use Rattle.iox_wire_nodes.specs.BeginError
pub use Rattle.iox_wire_nodes.specs.Begins as NodesBegins
pub use Rattle.iox_wire_nodes.specs.Calls
pub use Rattle.iox_wire_nodes.specs.CopyReply
pub use Rattle.iox_wire_nodes.specs.Courses
pub use Rattle.iox_wire_seats.specs.Counted
pub use Rattle.iox_wire_seats.specs.SlotEvents
pub use Rattle.iox_wire_nodes.specs.Desk
pub use Rattle.iox_wire_nodes.specs.Desks
pub use Rattle.iox_wire_nodes.specs.Dispatches
pub use Rattle.iox_wire_nodes.specs.Entry
pub use Rattle.iox_wire_nodes.specs.HandleCalls
pub use Rattle.iox_wire_nodes.specs.Known
pub use Rattle.iox_wire_nodes.specs.LendReply
pub use Rattle.iox_wire_nodes.specs.Lendings
pub use Rattle.iox_wire_nodes.specs.Lends
pub use Rattle.iox_wire_nodes.specs.ListRooms
pub use Rattle.iox_wire_nodes.specs.Loans
pub use Rattle.iox_wire_nodes.specs.Local
pub use Rattle.iox_wire_nodes.specs.Locals
pub use Rattle.iox_wire_nodes.specs.LocalsBegins as Begins
pub use Rattle.iox_wire_nodes.specs.Nodes
pub use Rattle.iox_wire_nodes.specs.OwnStates
pub use Rattle.iox_wire_nodes.specs.PlacedHandles
pub use Rattle.iox_wire_nodes.specs.PlanPort
pub use Rattle.iox_wire_nodes.specs.Plans
pub use Rattle.iox_wire_nodes.specs.PlansOf
pub use Rattle.iox_wire_nodes.specs.Ports
pub use Rattle.iox_wire_nodes.specs.Programs
pub use Rattle.iox_wire_nodes.specs.Receipts
pub use Rattle.iox_wire_nodes.specs.ReceiveReply
pub use Rattle.iox_wire_nodes.specs.Refusals
pub use Rattle.iox_wire_nodes.specs.Released
pub use Rattle.iox_wire_nodes.specs.RequestDispatches
pub use Rattle.iox_wire_nodes.specs.RequestReply
pub use Rattle.iox_wire_nodes.specs.RequestSources
pub use Rattle.iox_wire_nodes.specs.RespondReply
pub use Rattle.iox_wire_nodes.specs.ResponseCopyReply
pub use Rattle.iox_wire_nodes.specs.Rooms
pub use Rattle.iox_wire_nodes.specs.Seat
pub use Rattle.iox_wire_nodes.specs.SeatReply
pub use Rattle.iox_wire_nodes.specs.Seats
pub use Rattle.iox_wire_nodes.specs.SeatsAims
pub use Rattle.iox_wire_nodes.specs.Steps as LocalsSteps
pub use Rattle.iox_wire_nodes.specs.Stored
pub use Rattle.iox_wire_nodes.specs.Tables
pub use Rattle.iox_wire_nodes.specs.Terms
pub use Rattle.iox_wire_nodes.specs.WholeElements
pub use Rattle.iox_wire_nodes.specs.WirePlan
pub use Rattle.iox_wire_nodes.specs.WirePlans
pub use Rattle.iox_wire_nodes.specs.WireTerms
pub use Rattle.iox_wire_nodes.specs.WordMapNewError
pub use Rattle.iox_wire_nodes.specs.WorkedWires
pub use Rattle.iox_wire_nodes.specs.declared.call_at.CallAt
pub use Rattle.iox_wire_nodes.specs.declared.call_at.NodeReply
pub use Rattle.iox_wire_nodes.specs.declared.handle_call.HandleCall
pub use Rattle.iox_wire_nodes.specs.declared.node_call.NodeCall
pub use Rattle.iox_wire_nodes.specs.declared.node_call.NodePayload
pub use Rattle.iox_wire_nodes.specs.declared.node_error.NodeError
