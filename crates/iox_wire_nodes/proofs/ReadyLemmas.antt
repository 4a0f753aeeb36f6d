-- What a node may add at the end of a call that it begins beside its seat.
use Rattle.std.proofs.Common.{◌≡◌, ℕ, false, refl, sym, subst, ◌∙◌}
use Rattle.iox_wire_begins.specs.Copiers.{MayBeMade}
use Rattle.iox_wire_begins.specs.CopyCalls.{CopyCall}
use Rattle.iox_wire_begins.specs.Dispatches.{Dispatch}
use Rattle.iox_wire_begins.specs.Lendings.{next_handle}
use Rattle.iox_wire_begins.specs.Lends.{MayLend}
use Rattle.iox_wire_begins.specs.Loans.{Loaned}
use Rattle.iox_wire_begins.specs.LoansAims.{IsOrdered, LeavesSeat}
use Rattle.iox_wire_begins.specs.RequestDispatches.{RequestDispatch}
use Rattle.iox_wire_begins.specs.ResponseCopies.{ResponseCopy}
use Rattle.iox_wire_begins.specs.Seats.{Placed}
use Rattle.iox_wire_begins.specs.Tables.{Setting}
use Rattle.iox_wire_nodes.specs.declared.call_at.CallAt.TheVariants as at
use Rattle.iox_wire_nodes.specs.Begins.{BeginKeepsHandles}
use Rattle.iox_wire_nodes.specs.Nodes.{NodeView}

module _ (p : Setting) (n : NodeView) where
  still_lends : (s : Placed) (number port : ℕ) → LeavesSeat n.seat s → number ≡ next_handle p n.seat.seat → ((k : ℕ) → MayLend n.seat (next_handle p n.seat.seat) k)
      → MayLend s number port
  still_lends s number port leaves next lends =
      leaves.may number port (subst (λ (k : ℕ). MayLend n.seat k port) (sym next) (lends port))

  pub ready_to_lend : (s : Placed) (y : Loaned) (number port : ℕ) → LeavesSeat n.seat s → IsOrdered y number port → number ≡ next_handle p n.seat.seat
      → BeginKeepsHandles p n (record n { at = at.Lends; seat = s; lends = y })
  ready_to_lend s y number port leaves ordered next = record {
    accesses = leaves.accesses;
    room = leaves.room;
    may = λ lends. still_lends s y.order.number y.order.port leaves (ordered.0 ∙ next) lends;
  }

  pub ready_to_copy_request : (s : Placed) (y : CopyCall) (number port : ℕ) → LeavesSeat n.seat s
      → ((x : Placed) → MayLend x number port → MayBeMade x y.at y.lends.lending.order y.sends.loan) → number ≡ next_handle p n.seat.seat
      → BeginKeepsHandles p n (record n { at = at.CopiesRequest; seat = s; copies_request = y })
  ready_to_copy_request s y number port leaves made next = record {
    accesses = leaves.accesses;
    room = leaves.room;
    may = λ lends. made s (still_lends s number port leaves next lends);
  }

  pub ready_to_copy_response : (s : Placed) (y : ResponseCopy) (number port : ℕ) → LeavesSeat n.seat s
      → ((x : Placed) → MayLend x number port → MayBeMade x y.at y.lends.lending.order y.sends.loan) → number ≡ next_handle p n.seat.seat
      → BeginKeepsHandles p n (record n { at = at.CopiesResponse; seat = s; copies_response = y })
  ready_to_copy_response s y number port leaves made next = record {
    accesses = leaves.accesses;
    room = leaves.room;
    may = λ lends. made s (still_lends s number port leaves next lends);
  }

  -- a loan that is a handle adds none
  pub ready_to_send_request : (y : RequestDispatch) → y.copied ≡ false → BeginKeepsHandles p n (record n { at = at.SendsRequest; requests = y })
  ready_to_send_request y own = record { accesses = refl; room = record { handles = refl; rooms = record { ways = refl; words = refl } }; may = λ lends. own }

  pub ready_to_send_response : (y : Dispatch) → y.copied ≡ false → BeginKeepsHandles p n (record n { at = at.SendsResponse; responds = y })
  ready_to_send_response y own = record { accesses = refl; room = record { handles = refl; rooms = record { ways = refl; words = refl } }; may = λ lends. own }

-- the node is told as its own code has it
pub sent_so : (p : Setting) {n old : NodeView} {new : NodeView} → n ≡ old → BeginKeepsHandles p n new → BeginKeepsHandles p old new
sent_so p {n} {old} {new} same ready = subst (λ (o : NodeView). BeginKeepsHandles p o new) same ready
