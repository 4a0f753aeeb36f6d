-- What a node may add at the end of its call stays so, as long as that is not over.
use Rattle.std.proofs.Common.{◌≡◌, ℕ, Option, None, sym, subst, ◌∙◌}
use Rattle.iox_wire_begins.proofs.CountLemmas.{CountsAlike, counts_beside, lends_at_work, lends_still, made_still}
use Rattle.iox_wire_begins.specs.Aims.{KeepsRoom}
use Rattle.iox_wire_begins.specs.Copiers.{IsAtWork, MayBeMade}
use Rattle.iox_wire_begins.specs.CopyCalls as request_copies
use Rattle.iox_wire_begins.specs.CopyCalls.{CopyCall}
use Rattle.iox_wire_begins.specs.Courses.{placed}
use Rattle.iox_wire_begins.specs.Lends.{MayLend}
use Rattle.iox_wire_begins.specs.Local.{Local}
use Rattle.iox_wire_begins.specs.ResponseCopies as response_copies
use Rattle.iox_wire_begins.specs.ResponseCopies.{ResponseCopy}
use Rattle.iox_wire_begins.specs.Seats.{Placed}
use Rattle.iox_wire_begins.specs.Steps.{next, tells}
use Rattle.iox_wire_begins.specs.Tables.{Setting}
use Rattle.iox_wire_nodes.specs.declared.call_at.CallAt.{CallAt}
use Rattle.iox_wire_nodes.specs.declared.call_at.NodeReply.{NodeReply}
use Rattle.iox_wire_nodes.specs.Aims.{AreAimed, IsAimed, MayAdd, StaysReady}
use Rattle.iox_wire_nodes.specs.Nodes.{NodeView}

-- by the call that is under way
pub stays_ready : (reply : Option NodeReply) {n m : NodeView} (call : CallAt) (new : NodeView) → n ≡ m → n.at ≡ call → new.at ≡ n.at
    → ((p : Setting) → AreAimed p call n → reply ≡ None → MayAdd call n → MayAdd call new) → StaysReady m reply new
stays_ready reply {n} call new same at stays ready p aim none may =
    subst (λ (a : CallAt). MayAdd a new) (sym (stays ∙ at)) (
    ready p (subst (λ (a : CallAt). AreAimed p a n) at (subst (IsAimed p) (sym same) aim)) none
    (subst (λ (a : CallAt). MayAdd a n) at (subst (λ (o : NodeView). MayAdd o.at o) (sym same) may))
    )

module _ (p : Setting) (x y : Placed) (l k : Local) (seen : ℕ) (led : placed y.seat k ≡ next p (placed x.seat l) seen) (none : tells p (placed x.seat l) seen ≡ None) where
  alike : CountsAlike x.seat y.seat
  alike = counts_beside p x y l k seen led none

  pub request_copy_ready : (r s : CopyCall) → request_copies.IsSameCall r s → request_copies.SendsItsLoan s → IsAtWork r.at → KeepsRoom x y
      → MayBeMade x r.at r.lends.lending.order r.sends.loan → MayBeMade y s.at s.lends.lending.order s.sends.loan
  request_copy_ready r s same loan works room may =
      made_still y s.at s.lends.lending.order s.sends.loan loan
      (subst (λ o. MayLend y o.number o.port) (sym same.lends.order)
      (lends_still x y r.lends.lending.order.number r.lends.lending.order.port alike room (lends_at_work x r.at r.lends.lending.order r.sends.loan works may)))

  pub response_copy_ready : (r s : ResponseCopy) → response_copies.IsSameCall r s → response_copies.SendsItsLoan s → IsAtWork r.at → KeepsRoom x y
      → MayBeMade x r.at r.lends.lending.order r.sends.loan → MayBeMade y s.at s.lends.lending.order s.sends.loan
  response_copy_ready r s same loan works room may =
      made_still y s.at s.lends.lending.order s.sends.loan loan
      (subst (λ o. MayLend y o.number o.port) (sym same.lends.order)
      (lends_still x y r.lends.lending.order.number r.lends.lending.order.port alike room (lends_at_work x r.at r.lends.lending.order r.sends.loan works may)))
