-- Which places a node knows of, what its step asks of what it keeps, and what a step of it does.
use Rattle.std.specs.Prelude.{◌≡◌, ℕ, false, Option, None, option_map}
use Rattle.iox_wire_begins.specs.Local.{Local}
use Rattle.iox_wire_begins.specs.Steps.{next, tells}
use Rattle.iox_wire_begins.specs.Tables.{Setting}
use Rattle.iox_wire_begins.specs.Aims as seats
use Rattle.iox_wire_begins.specs.Desks.{IsUsed}
use Rattle.iox_wire_begins.specs.Lends.{MayLend}
use Rattle.iox_wire_begins.specs.ReceivesAims as receives
use Rattle.iox_wire_begins.specs.ReceivesAims.{MayTakeOneMore, MayReceive, TellsOfSource}
use Rattle.iox_wire_begins.specs.LoansAims as loans
use Rattle.iox_wire_begins.specs.LoansAims.{GetsBackUsed, TellsOfSlot}
use Rattle.iox_wire_begins.specs.RequestSendsAims as requests
use Rattle.iox_wire_begins.specs.SendsAims as responses
use Rattle.iox_wire_begins.specs.SendsAims.{MayCountMade}
use Rattle.iox_wire_begins.specs.Copiers.{MayBeMade}
use Rattle.iox_wire_begins.specs.CopyCalls as request_copies
use Rattle.iox_wire_begins.specs.ResponseCopies as response_copies
use Rattle.iox_wire_nodes.specs.declared.call_at.CallAt.{CallAt}
use Rattle.iox_wire_nodes.specs.declared.call_at.CallAt.TheVariants as at
use Rattle.iox_wire_nodes.specs.declared.call_at.NodeReply.{NodeReply}
use Rattle.iox_wire_nodes.specs.Nodes.{NodeView, reply_in, seat_in}

-- ---- the places that it knows of

-- the places that its call knows of are those of the words that it still accesses
abbrev pub AreAimed : Setting → CallAt → NodeView → Type 0
AreAimed p at.Seats n = seats.IsAimed p n.seat
AreAimed p at.Receives n = receives.IsAimed p n.seat.seat n.receives
AreAimed p at.Lends n = loans.IsAimed p n.seat.seat n.lends
AreAimed p at.SendsRequest n = requests.IsAimed p n.seat.seat n.requests
AreAimed p at.SendsResponse n = responses.IsAimed p n.responds
AreAimed p at.CopiesRequest n = request_copies.IsAimed p n.seat.seat n.copies_request
AreAimed p at.CopiesResponse n = response_copies.IsAimed p n.seat.seat n.copies_response

-- so it is of the node
abbrev pub IsAimed : Setting → NodeView → Type 0
IsAimed p n = AreAimed p n.at n

-- the slot that a call took is one of a port's pool, and the lane that a header tells one of its
-- client, as is the lane of a request that a copy stores; a call that takes no slot asks nothing
abbrev pub TellsOfPools : Setting → CallAt → Local → Type 0
TellsOfPools p at.Receives local = TellsOfSource p local
TellsOfPools p at.Lends local = TellsOfSlot p local
TellsOfPools p at.CopiesRequest local = request_copies.TellsOfSlotAndLane p local
TellsOfPools p at.CopiesResponse local = TellsOfSlot p local
TellsOfPools p call local = Unit {0}

-- ---- what it sends

-- the place of a send or a copy is one of its own loan
abbrev pub KnowsItsPlace : CallAt → NodeView → Type 0
KnowsItsPlace at.SendsRequest n = requests.SendsItsRequest n.requests
KnowsItsPlace at.SendsResponse n = responses.SendsItsResponse n.responds
KnowsItsPlace at.CopiesRequest n = request_copies.CopiesItsRequest n.copies_request
KnowsItsPlace at.CopiesResponse n = response_copies.CopiesItsResponse n.copies_response
KnowsItsPlace call n = Unit {0}

-- ---- what a step asks of what it keeps

-- There is room for what the call adds at its end, and what an access that finds this gets back,
-- delivers or gives up is in use.
abbrev pub MayGoOn : CallAt → NodeView → ℕ → Type 0
MayGoOn at.Seats n seen = Unit {0}
MayGoOn at.Receives n seen =
    MayReceive n.seat n.receives.terms.number × MayTakeOneMore n.seat.seat n.receives.local
MayGoOn at.Lends n seen =
    MayLend n.seat n.lends.order.number n.lends.order.port
    × GetsBackUsed n.seat.seat n.lends.local
MayGoOn at.SendsRequest n seen =
    requests.LoanMayEnd n.seat n.requests × requests.FindsUsed n.seat n.requests seen
MayGoOn at.SendsResponse n seen =
    IsUsed n.responds.loan.port n.responds.loan.slot n.seat.seat.desks
    × MayCountMade n.seat n.responds
    × responses.FindsUsed n.seat n.responds seen
MayGoOn at.CopiesRequest n seen =
    request_copies.MayEndCall n.seat n.copies_request
    × request_copies.FindsUsed n.seat n.copies_request seen
MayGoOn at.CopiesResponse n seen =
    response_copies.MayEndCall n.seat n.copies_response
    × response_copies.FindsUsed n.seat n.copies_response seen

-- Of that, what does not depend on the wire: there is room for what the call adds, and it may be
-- counted. What a send sends is a handle.
abbrev pub MayAdd : CallAt → NodeView → Type 0
MayAdd at.Receives n =
    MayReceive n.seat n.receives.terms.number × MayTakeOneMore n.seat.seat n.receives.local
MayAdd at.Lends n = MayLend n.seat n.lends.order.number n.lends.order.port
MayAdd at.SendsRequest n = n.requests.copied ≡ false
MayAdd at.SendsResponse n = n.responds.copied ≡ false
MayAdd at.CopiesRequest n =
    MayBeMade n.seat n.copies_request.at n.copies_request.lends.lending.order
    n.copies_request.sends.loan
MayAdd at.CopiesResponse n =
    MayBeMade n.seat n.copies_response.at n.copies_response.lends.lending.order
    n.copies_response.sends.loan
MayAdd call n = Unit {0}

-- ---- a step

-- After an access that found this it is the next,
abbrev pub GoesOn : NodeView → ℕ → NodeView → Type 0
GoesOn old seen new =
    (p : Setting) → IsAimed p old → seat_in new ≡ next p (seat_in old) seen

-- it answers this if its call is over,
abbrev pub Answers : NodeView → ℕ → Option NodeReply → NodeView → Type 0
Answers old seen reply new =
    (p : Setting) → IsAimed p old
    → tells p (seat_in old) seen ≡ option_map (reply_in new.seat.words) reply

-- as long as its call is not over it may add what that adds at its end,
abbrev pub StaysReady : NodeView → Option NodeReply → NodeView → Type 0
StaysReady old reply new =
    (p : Setting) → IsAimed p old → reply ≡ None → MayAdd old.at old → MayAdd new.at new

-- and it knows the places of what it accesses next.
abbrev pub StaysAimed : NodeView → NodeView → Type 0
StaysAimed old new =
    (p : Setting) → IsAimed p old → TellsOfPools p new.at (seat_in new).local → IsAimed p new
