-- What a step of a copy's loan does that stores no word.
use Rattle.std.proofs.Common.{◌≡◌, ℕ, false, List, Some, None, refl, ap, sym, subst, true≢false, ◌∙◌}
use Rattle.iox_wire_locals.specs.declared.local.CallRefusal.{CallRefusal}
use Rattle.iox_wire_locals.specs.declared.local.Local.{Local}
use Rattle.iox_wire_locals.specs.declared.local.Local.TheVariants.{Idle, LendEmpties, LendStores}
use Rattle.iox_wire_locals.specs.declared.seat.Seat.{Seat}
use Rattle.iox_steps.specs.declared.side.Popping.TheVariants as popping
use Rattle.iox_steps.specs.declared.pop.Pop.TheVariants as pop
use Rattle.iox_wire_locals.specs.Begins.{is_busy}
use Rattle.iox_wire_locals.specs.Courses.{placed}
use Rattle.iox_wire_locals.specs.Steps.{next, tells}
use Rattle.iox_wire_locals.specs.Tables.{Setting}
use Rattle.iox_wire_seats.specs.Seats.{Placed}
use Rattle.iox_wire_request_sends.specs.LendReply.TheVariants as lend_replies
use Rattle.iox_wire_request_sends.specs.Order.{Order}
use Rattle.iox_wire_request_sends.specs.SlotPlaces.{SlotPlaces}
use Rattle.iox_wire_request_sends.specs.WireLoansAims.{GetsBackUsed, IsLoanAt, IsStoring, TellsOfSlot, is_storing}
use Rattle.iox_wire_request_sends.specs.WireLoansAims as loans
use Rattle.iox_wire_copies.specs.declared.at.CopyAt.{CopyAt}
use Rattle.iox_wire_copies.specs.declared.at.CopyAt.TheVariants as at
use Rattle.iox_wire_copies.specs.declared.at.CopyLent.TheVariants as lent
use Rattle.iox_wire_copies.specs.Copies.{ArePayloads, CopyLoan, with_payload}
use Rattle.iox_wire_copies.specs.CopyAims.{AreAimed, GoesOn, HasSamePeers, IsAimed, IsLending, IsWriting, KeepsPeers}
use Rattle.iox_wire_copies.proofs.CopyLemmas.{GoesAlike, copied, goes_alike}

-- ---- where it is

pub it_lends : (a : CopyAt) → IsLending a → a ≡ at.Lends
it_lends at.Rest there = absurd there
it_lends at.Lends there = refl
it_lends at.Writes there = absurd there

pub it_writes : (a : CopyAt) → IsWriting a → a ≡ at.Writes
it_writes at.Rest there = absurd there
it_writes at.Lends there = absurd there
it_writes at.Writes there = refl

pub it_rests : (l : Local) → is_busy l ≡ false → l ≡ Idle
it_rests Idle rests = refl
it_rests l rests = absurd (true≢false rests)

-- ---- what does not depend on the payload

pub used_alike : (x : Seat) (payload : List ℕ) (l : Local) → GetsBackUsed x (with_payload payload l) → GetsBackUsed x l
used_alike x payload (LendEmpties o w popping.AtRest left) used = used
used_alike x payload (LendEmpties o w (popping.Looks look) left) used = used
used_alike x payload (LendEmpties o w (popping.Pops pop.LoadsRead) left) used = used
used_alike x payload (LendEmpties o w (popping.Pops (pop.LoadsWrite read)) left) used = used
used_alike x payload (LendEmpties o w (popping.Pops (pop.LoadsCell read index)) left) used = used
used_alike x payload (LendEmpties o w (popping.Pops (pop.Takes read slot)) left) used = used
used_alike x payload l used = tt

pub slot_alike : (p : Setting) (payload : List ℕ) (l : Local) → TellsOfSlot p (with_payload payload l) → TellsOfSlot p l
slot_alike p payload (LendStores o slot n) told = told
slot_alike p payload l told = tt

pub stores_alike : (payload : List ℕ) (l : Local) → IsStoring l → IsStoring (with_payload payload l)
stores_alike payload (LendStores o slot n) is = tt
stores_alike payload l is = absurd is

-- ---- a step

-- What a copy is that lends.
pub record Lends (r : CopyLoan) : Type 0 where
  pub at : r.at ≡ at.Lends
  pub local : r.local ≡ with_payload r.payload r.lending.local

pub aimed_loan : (p : Setting) (x : Seat) (r : CopyLoan) → Lends r → IsAimed p x r
    → loans.IsAimed p x r.lending × ArePayloads p r.lending.order.port r.slots r.places
aimed_loan p x r lends aim = subst (λ (a : CopyAt). AreAimed p x a r) lends.at aim

alike : (x : Placed) (r : CopyLoan) (p : Setting) (seen : ℕ) → IsLoanAt r.lending.order r.lending.local → is_storing r.lending.local ≡ false
    → GoesAlike p r.payload x.seat r.lending.local seen
alike x r p seen loan before = goes_alike p r.payload x.seat r.lending.order r.lending.local seen loan before

-- it continues
pub lend_goes_on : (x y : Placed) (r s : CopyLoan) (seen : ℕ) → Lends r → s.local ≡ with_payload r.payload s.lending.local
    → IsLoanAt r.lending.order r.lending.local → is_storing r.lending.local ≡ false
    → loans.GoesOn x r.lending seen y s.lending → loans.Answers x r.lending seen None → GoesOn x r seen y s None
lend_goes_on x y r s seen lends local loan before next_is over p aim = (
  ap (placed y.seat) local
      ∙ ap (copied r.payload) (next_is p (aimed_loan p x.seat r lends aim).0)
      ∙ sym (alike x r p seen loan before).led
      ∙ ap (λ (l : Local). next p (placed x.seat l) seen) (sym lends.local),
  ap (λ (l : Local). tells p (placed x.seat l) seen) lends.local
      ∙ (alike x r p seen loan before).told
      ∙ over p (aimed_loan p x.seat r lends aim).0,
)

-- it is refused
pub lend_refused : (x y : Placed) (r s : CopyLoan) (seen : ℕ) (refusal : CallRefusal) → Lends r → s.local ≡ Idle → is_busy s.lending.local ≡ false
    → IsLoanAt r.lending.order r.lending.local → is_storing r.lending.local ≡ false
    → loans.GoesOn x r.lending seen y s.lending → loans.Answers x r.lending seen (Some (lend_replies.Refused refusal)) → GoesOn x r seen y s (Some (lent.Refused refusal))
lend_refused x y r s seen refusal lends local rests loan before next_is over p aim = (
  ap (placed y.seat) local
      ∙ ap (λ (l : Local). placed y.seat (with_payload r.payload l)) (sym (it_rests s.lending.local rests))
      ∙ ap (copied r.payload) (next_is p (aimed_loan p x.seat r lends aim).0)
      ∙ sym (alike x r p seen loan before).led
      ∙ ap (λ (l : Local). next p (placed x.seat l) seen) (sym lends.local),
  ap (λ (l : Local). tells p (placed x.seat l) seen) lends.local
      ∙ (alike x r p seen loan before).told
      ∙ over p (aimed_loan p x.seat r lends aim).0,
)

-- it knows of the same nodes
pub lend_peers : (x y : Placed) (r s : CopyLoan) (seen : ℕ) → Lends r
    → IsLoanAt r.lending.order r.lending.local → is_storing r.lending.local ≡ false
    → loans.GoesOn x r.lending seen y s.lending → KeepsPeers x r y
lend_peers x y r s seen lends loan before next_is p aim =
    let peers : HasSamePeers x.seat (next p (placed x.seat r.lending.local) seen) = (alike x r p seen loan before).peers in
    let is : placed y.seat s.lending.local ≡ next p (placed x.seat r.lending.local) seen = next_is p (aimed_loan p x.seat r lends aim).0 in
    record {
      node = ap (λ (z : Seat). z.node) is ∙ peers.node;
      forgot = ap (λ (z : Seat). z.forgot) is ∙ peers.forgot;
    }

-- and it knows the places
pub lend_aimed : (p : Setting) (x y : Placed) (r s : CopyLoan) → Lends r → s.at ≡ at.Lends → s.local ≡ with_payload s.payload s.lending.local
    → s.lending.order ≡ r.lending.order → s.slots ≡ r.slots → s.places ≡ r.places
    → loans.StaysAimed x r.lending y s.lending → IsAimed p x.seat r → TellsOfSlot p s.local → IsAimed p y.seat s
lend_aimed p x y r s lends at' local order same same_places stays aim told =
    let known : loans.IsAimed p x.seat r.lending × ArePayloads p r.lending.order.port r.slots r.places = aimed_loan p x.seat r lends aim in
    subst (λ (a : CopyAt). AreAimed p y.seat a s) (sym at') (
      stays p known.0 (slot_alike p s.payload s.lending.local (subst (TellsOfSlot p) local told)),
      subst (λ (o : Order). ArePayloads p o.port s.slots s.places) (sym order)
          (subst (λ (t : SlotPlaces). ArePayloads p r.lending.order.port t s.places) (sym same)
          (subst (ArePayloads p r.lending.order.port r.slots) (sym same_places) known.1)),
    )
