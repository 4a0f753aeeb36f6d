-- A node of a wire, with whatever call is under way: what it stands for.
use Rattle.std.specs.Prelude.{◌≡◌, ℕ, Bool, true, false, List}
use Rattle.iox_model.specs.Commands.{Reply}
use Rattle.iox_wire_begins.specs.Local.{Local}
use Rattle.iox_wire_begins.specs.Seat.{Seat}
use Rattle.iox_wire_begins.specs.Begins.{is_busy}
use Rattle.iox_wire_begins.specs.Courses.{placed}
use Rattle.iox_wire_begins.specs.Seats.{Placed, reply_with}
use Rattle.iox_wire_begins.specs.Receipts as receives
use Rattle.iox_wire_begins.specs.Receipts.{Receipt}
use Rattle.iox_wire_begins.specs.Loans as loans
use Rattle.iox_wire_begins.specs.Loans.{Loaned}
use Rattle.iox_wire_begins.specs.RequestDispatches as requests
use Rattle.iox_wire_begins.specs.RequestDispatches.{RequestDispatch}
use Rattle.iox_wire_begins.specs.RequestReply.TheVariants as request_replies
use Rattle.iox_wire_begins.specs.Dispatches as responses
use Rattle.iox_wire_begins.specs.Dispatches.{Dispatch}
use Rattle.iox_wire_begins.specs.CopyCalls as request_copies
use Rattle.iox_wire_begins.specs.CopyCalls.{CopyCall}
use Rattle.iox_wire_begins.specs.ResponseCopies as response_copies
use Rattle.iox_wire_begins.specs.ResponseCopies.{ResponseCopy}
use Rattle.iox_wire_nodes.specs.declared.call_at.CallAt.{CallAt}
use Rattle.iox_wire_nodes.specs.declared.call_at.CallAt.TheVariants as at
use Rattle.iox_wire_nodes.specs.declared.call_at.NodeReply.{NodeReply}
use Rattle.iox_wire_nodes.specs.declared.call_at.NodeReply.TheVariants as node_replies

-- A node: which call began last, its seat, and the calls that are kept beside that.
pub record NodeView : Type 0 where
  pub at : CallAt
  pub seat : Placed
  pub receives : Receipt
  pub lends : Loaned
  pub requests : RequestDispatch
  pub responds : Dispatch
  pub copies_request : CopyCall
  pub copies_response : ResponseCopy

-- its own part of the wire, at the place of that call
abbrev pub seat_at : CallAt → NodeView → Seat
seat_at at.Seats n = n.seat.seat
seat_at at.Receives n = placed n.seat.seat n.receives.local
seat_at at.Lends n = placed n.seat.seat n.lends.local
seat_at at.SendsRequest n = placed n.seat.seat n.requests.local
seat_at at.SendsResponse n = placed n.seat.seat n.responds.local
seat_at at.CopiesRequest n = placed n.seat.seat n.copies_request.local
seat_at at.CopiesResponse n = placed n.seat.seat n.copies_response.local

-- so it is of the node
abbrev pub seat_in : NodeView → Seat
seat_in n = seat_at n.at n

-- the machine's name of a reply, with the words loaded last
abbrev pub reply_in : List ℕ → NodeReply → Reply
reply_in words (node_replies.OfSeat reply) = reply_with words reply
reply_in words (node_replies.OfReceive reply) = receives.reply_in reply
reply_in words (node_replies.OfLoan reply) = loans.reply_in reply
reply_in words (node_replies.OfRequest reply) = requests.reply_in reply
reply_in words (node_replies.OfResponse reply) = responses.reply_in reply
reply_in words (node_replies.OfRequestCopy reply) = request_copies.reply_in reply
reply_in words (node_replies.OfResponseCopy reply) = response_copies.reply_in reply

-- which call answers so: a sent request is told by a handle where its own call made the loan, a copy
abbrev pub answered_at : NodeReply → CallAt
answered_at (node_replies.OfSeat reply) = at.Seats
answered_at (node_replies.OfReceive reply) = at.Receives
answered_at (node_replies.OfLoan reply) = at.Lends
answered_at (node_replies.OfRequest (request_replies.Handle number)) = at.CopiesRequest
answered_at (node_replies.OfRequest reply) = at.SendsRequest
answered_at (node_replies.OfResponse reply) = at.SendsResponse
answered_at (node_replies.OfRequestCopy reply) = at.CopiesRequest
answered_at (node_replies.OfResponseCopy reply) = at.CopiesResponse

-- ---- what a node keeps to

-- whether it is the first or the second
abbrev pub same_call : (a b : CallAt) → Bool
same_call at.Seats at.Seats = true
same_call at.Receives at.Receives = true
same_call at.Lends at.Lends = true
same_call at.SendsRequest at.SendsRequest = true
same_call at.SendsResponse at.SendsResponse = true
same_call at.CopiesRequest at.CopiesRequest = true
same_call at.CopiesResponse at.CopiesResponse = true
same_call a b = false

-- a call rests unless it is the one that began last
abbrev pub RestsUnless : Bool → Local → Type 0
RestsUnless true local = Unit {0}
RestsUnless false local = is_busy local ≡ false
