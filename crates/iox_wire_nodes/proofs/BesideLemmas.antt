-- What begins beside the seat of a node is a call of the node.
use Rattle.std.specs.Prelude.{IfSome, Option}
use Rattle.iox_wire_begins.specs.Local.{Local}
use Rattle.iox_wire_begins.specs.Local.TheVariants.{Idle}
use Rattle.iox_wire_nodes.specs.declared.call_at.CallAt.{CallAt}
use Rattle.std.proofs.Common.{◌≡◌, ℕ, ◌+◌, false, List, Some, None, refl, ap, ap₂, sym, subst, ◌∙◌, true≢false}
use Rattle.iox_wire_begins.specs.WirePlan.{WirePlan}
use Rattle.iox_wire_begins.specs.WirePlans.{HandleStands}
use Rattle.iox_wire_begins.specs.WireTerms.{WireTerms}
use Rattle.iox_wire_begins.specs.Desk.{Desk}
use Rattle.iox_wire_begins.specs.Entry.{Entry}
use Rattle.iox_model.specs.Commands.{WireCall}
use Rattle.iox_wire_begins.specs.Seat.{Seat}
use Rattle.iox_wire_begins.specs.Begins.{begin, is_busy, refusal_at}
use Rattle.iox_wire_begins.specs.Courses.{placed}
use Rattle.iox_wire_begins.specs.Tables.{Setting, entry_at}
use Rattle.iox_wire_begins.specs.Aims as seats
use Rattle.iox_wire_begins.specs.Seats.{Placed}
use Rattle.iox_wire_begins.specs.ReceivesAims as receives
use Rattle.iox_wire_begins.specs.Receipts.{Receipt}
use Rattle.iox_wire_begins.specs.LoansAims as loans
use Rattle.iox_wire_begins.specs.LoansAims.{TellsOfSlot}
use Rattle.iox_wire_begins.specs.Loans.{Loaned}
use Rattle.iox_wire_begins.specs.CopyCalls as request_copies
use Rattle.iox_wire_begins.specs.CopyCalls.{CopyCall}
use Rattle.iox_wire_begins.specs.ResponseCopies as response_copies
use Rattle.iox_wire_begins.specs.ResponseCopies.{ResponseCopy}
use Rattle.iox_wire_nodes.specs.declared.call_at.CallAt.TheVariants as at
use Rattle.iox_wire_nodes.specs.Begins.{IsBegun, BeginKeepsHandles, IsUnderWay}
use Rattle.iox_wire_nodes.specs.Nodes.{NodeView, seat_at, seat_in}

-- a call that is begun is under way
pub is_under_way : (p : Setting) (old : NodeView) (call : WireCall) (new : NodeView) → IsBegun p old call new → IsUnderWay p old call new
is_under_way p old call new by = record { allowed = by.allowed; begun = by.begun; aimed = λ of_pools. by.aimed; ready = by.ready }

-- the node's own seat, as the code has it
pub own_seat : {n old : NodeView} → n ≡ old → seat_in old ≡ old.seat.seat → seat_in old ≡ n.seat.seat
own_seat same own = own ∙ ap (λ (o : NodeView). o.seat.seat) (sym same)

-- the call begins so at what it names
module _ (p : Setting) (call : WireCall) (X : Seat → Seat) {n old : NodeView} (same : n ≡ old) (own : seat_in old ≡ old.seat.seat) (allowed : refusal_at p (seat_in old) call ≡ None)
    (named : begin p (seat_in old) call ≡ X (seat_in old)) where
  begins_alike : (x : Seat) → x ≡ X n.seat.seat → x ≡ begin p (seat_in old) call
  begins_alike x begun = begun ∙ ap X (sym (own_seat same own)) ∙ sym named

  pub lent_beside : (s : Placed) (y : Loaned) → placed s.seat y.local ≡ X n.seat.seat → (TellsOfSlot p y.local → loans.IsAimed p s.seat y)
      → BeginKeepsHandles p n (record n { at = at.Lends; seat = s; lends = y })
      → IsUnderWay p old call (record n { at = at.Lends; seat = s; lends = y })
  lent_beside s y begun aimed ready = record {
    allowed = allowed;
    begun = begins_alike (placed s.seat y.local) begun;
    aimed = aimed;
    ready = subst (λ (o : NodeView). BeginKeepsHandles p o (record n { at = at.Lends; seat = s; lends = y })) same ready;
  }

  pub received_beside : (y : Receipt) → placed n.seat.seat y.local ≡ X n.seat.seat → receives.IsAimed p n.seat.seat y
      → BeginKeepsHandles p n (record n { at = at.Receives; receives = y })
      → IsUnderWay p old call (record n { at = at.Receives; receives = y })
  received_beside y begun aimed ready = record {
    allowed = allowed;
    begun = begins_alike (placed n.seat.seat y.local) begun;
    aimed = λ of_pools. aimed;
    ready = subst (λ (o : NodeView). BeginKeepsHandles p o (record n { at = at.Receives; receives = y })) same ready;
  }

  pub copied_request_beside : (s : Placed) (y : CopyCall) → placed s.seat y.local ≡ X n.seat.seat → (request_copies.TellsOfSlotAndLane p y.local → request_copies.IsAimed p s.seat y)
      → BeginKeepsHandles p n (record n { at = at.CopiesRequest; seat = s; copies_request = y })
      → IsUnderWay p old call (record n { at = at.CopiesRequest; seat = s; copies_request = y })
  copied_request_beside s y begun aimed ready = record {
    allowed = allowed;
    begun = begins_alike (placed s.seat y.local) begun;
    aimed = aimed;
    ready = subst (λ (o : NodeView). BeginKeepsHandles p o (record n { at = at.CopiesRequest; seat = s; copies_request = y })) same ready;
  }

  pub copied_response_beside : (s : Placed) (y : ResponseCopy) → placed s.seat y.local ≡ X n.seat.seat → (TellsOfSlot p y.local → response_copies.IsAimed p s.seat y)
      → BeginKeepsHandles p n (record n { at = at.CopiesResponse; seat = s; copies_response = y })
      → IsUnderWay p old call (record n { at = at.CopiesResponse; seat = s; copies_response = y })
  copied_response_beside s y begun aimed ready = record {
    allowed = allowed;
    begun = begins_alike (placed s.seat y.local) begun;
    aimed = aimed;
    ready = subst (λ (o : NodeView). BeginKeepsHandles p o (record n { at = at.CopiesResponse; seat = s; copies_response = y })) same ready;
  }

-- the number of the next handle, as the code has it
pub next_number_is : (t : WireTerms) (p : Setting) {n old : NodeView} → n ≡ old → p.next_number ≡ t.first_number
    → t.first_number + old.seat.seat.handles_made ≡ p.next_number + n.seat.seat.handles_made
next_number_is t p same first = ap₂ (λ a b. a + b) (sym first) (ap (λ (o : NodeView). o.seat.seat.handles_made) (sym same))

-- the handle of that number stands
pub stands_at : (plan : WirePlan) (old : NodeView) (n : ℕ) (e : Entry) → entry_at n old.seat.seat.table ≡ Some e
    → IfSome (entry_at n old.seat.seat.table) (HandleStands plan old.seat.seat.desks) → HandleStands plan old.seat.seat.desks e
stands_at plan old n e found stands = subst (λ (o : Option Entry). IfSome o (HandleStands plan old.seat.seat.desks)) found stands

-- how many handles it made
pub handles_in : (a : CallAt) (n : NodeView) → (seat_at a n).handles_made ≡ n.seat.seat.handles_made
handles_in at.Seats n = refl
handles_in at.Receives n = refl
handles_in at.Lends n = refl
handles_in at.SendsRequest n = refl
handles_in at.SendsResponse n = refl
handles_in at.CopiesRequest n = refl
handles_in at.CopiesResponse n = refl

-- what is so of each handle that stands is so of that one
pub stands_so : (plan : WirePlan) (desks : List Desk) (P : Entry → Type 0) → ((e : Entry) → HandleStands plan desks e → P e) → (o : Option Entry)
    → IfSome o (HandleStands plan desks) → IfSome o P
stands_so plan desks P so None stands = tt
stands_so plan desks P so (Some e) stands = so e stands
