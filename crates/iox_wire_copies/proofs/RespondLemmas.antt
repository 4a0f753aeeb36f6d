-- How the copy of a response continues from its loan to its send.
use Rattle.std.proofs.Common.{◌≡◌, ℕ, true, false, List, [], ◌∷◌, refl, ap, sym, subst, true≢false, ◌∙◌}
use Rattle.std.specs.Prelude.{Option, None, Some, is_some, option_map}
use Rattle.iox_model.specs.declared.way.Way.{Way}
use Rattle.iox_wire_locals.specs.declared.local.Ending.{Ending}
use Rattle.iox_wire_locals.specs.declared.local.CallRefusal.{CallRefusal}
use Rattle.iox_wire_locals.specs.declared.local.Local.{Local}
use Rattle.iox_wire_locals.specs.declared.local.Local.TheVariants.{Idle}
use Rattle.iox_wire_locals.specs.declared.table.Desk.{Desk}
use Rattle.iox_wire_locals.specs.declared.table.Entry.{Entry}
use Rattle.iox_wire_locals.specs.declared.seat.Seat.{Seat}
use Rattle.iox_wire_locals.specs.Begins.{is_busy}
use Rattle.iox_wire_locals.specs.Courses.{placed, sends}
use Rattle.iox_wire_locals.specs.NewLoans.{entry_in}
use Rattle.iox_wire_locals.specs.Settlements.{reply_of}
use Rattle.iox_wire_locals.specs.Steps.{closed, ending_at, next, tells}
use Rattle.iox_wire_locals.specs.Tables.{Setting, state_in}
use Rattle.iox_wire_seats.specs.Desks.{IsUsed, MayGiveUp}
use Rattle.iox_wire_seats.specs.Seats.{Placed}
use Rattle.iox_wire_request_sends.specs.WireLoansAims.{TellsOfSlot, after, answered}
use Rattle.iox_wire_request_sends.specs.Orders.{IsResponse, loan_of}
use Rattle.iox_wire_request_sends.specs.Order.{Order}
use Rattle.iox_wire_sends.specs.declared.at.RespondReply.{RespondReply}
use Rattle.iox_wire_sends.specs.declared.terms.ResponseTerms.{ResponseTerms}
use Rattle.iox_wire_sends.specs.Aims as responses
use Rattle.iox_wire_sends.specs.Aims.{IsSameSend, IsToldOf}
use Rattle.iox_wire_sends.specs.Dispatches as dispatches
use Rattle.iox_wire_sends.specs.Dispatches.{Dispatch}
use Rattle.iox_wire_copies.specs.declared.at.CopierAt.{CopierAt}
use Rattle.iox_wire_copies.specs.declared.at.CopierAt.TheVariants as at
use Rattle.iox_wire_copies.specs.declared.at.CopyLent.TheVariants as lent
use Rattle.iox_wire_copies.specs.declared.at.ResponseCopyReply.{ResponseCopyReply}
use Rattle.iox_wire_copies.specs.declared.at.ResponseCopyReply.TheVariants as copy_replies
use Rattle.iox_wire_copies.specs.Copies.{CopyLoan}
use Rattle.iox_wire_copies.specs.CopyAims as copies
use Rattle.iox_wire_copies.specs.CopyAims.{IsSameCopy}
use Rattle.iox_wire_copies.specs.ResponseCopies.{AreAimed, Answers, GoesOn, IsAimed, KnowsWay, LeadsTo, ResponseCopy, SendsTo, StaysAimed, reply_in, way_of}
use Rattle.iox_wire_copies.proofs.LendLemmas.{it_rests}

-- ---- what may be given up is in use

pub held_is_used : (e : Entry) (ds : List Desk) → MayGiveUp e ds → IsUsed e.port e.slot ds
held_is_used e [] held = tt
held_is_used e (d ∷ ds) held = (λ is. (held.0 is).0, held_is_used e ds held.1)

-- ---- its way

same_way_of : (o : Order) (client lane port : ℕ) (w : Way) → o.client ≡ client → o.lane ≡ lane → o.port ≡ port
    → way_of (record o { client = client; lane = lane; port = port }) ≡ w → way_of o ≡ w
same_way_of o client lane port w c l p is =
    ap (λ (n : ℕ). way_of (record o { client = n })) c
    ∙ ap (λ (n : ℕ). way_of (record o { client = client; lane = n })) l
    ∙ ap (λ (n : ℕ). way_of (record o { client = client; lane = lane; port = n })) p
    ∙ is

-- the response of the order goes where its request has its state
pub answers_there : (o : Order) (request : Entry) (port : ℕ) → IsResponse o request → o.port ≡ port → request.port ≡ port
    → way_of o ≡ state_in request
answers_there o request port response there same =
    same_way_of o request.client request.lane request.port (state_in request) response.client response.lane (there ∙ sym same) refl

-- ---- where it is

-- What a server is that lends.
pub record Lends (r : ResponseCopy) : Type 0 where
  pub at : r.at ≡ at.Lends
  pub local : r.local ≡ r.lends.local

-- What a server is that sends.
pub record Sends (r : ResponseCopy) : Type 0 where
  pub at : r.at ≡ at.Sends
  pub local : r.local ≡ r.sends.local

pub aimed_lends : (p : Setting) (x : Seat) (r : ResponseCopy) → Lends r → IsAimed p x r
    → copies.IsAimed p x r.lends × KnowsWay p (way_of r.lends.lending.order) r.sends.terms
aimed_lends p x r lends aim = subst (λ (a : CopierAt). AreAimed p x a r) lends.at aim

pub aimed_sends : (p : Setting) (x : Seat) (r : ResponseCopy) → Sends r → IsAimed p x r → responses.IsAimed p r.sends
aimed_sends p x r sends_now aim = subst (λ (a : CopierAt). AreAimed p x a r) sends_now.at aim

-- ---- the send begins

goes : (o : Option Ending) → is_some o ≡ false → o ≡ None
goes None is = refl
goes (Some ending) is = absurd (true≢false is)

-- it has an access to make
pub send_starts : (p : Setting) (x : Placed) (loan : Entry) (q : Dispatch) (lends : CopyLoan) → is_some (ending_at q.local) ≡ false
    → placed x.seat q.local ≡ sends p x.seat loan true → responses.IsAimed p q
    → LeadsTo p x.seat loan x (record { at = at.Sends; local = q.local; lends = lends; sends = q }) None
send_starts p x loan q lends on begun aim = record {
  next = sym (ap (closed p (placed x.seat q.local)) (goes (ending_at q.local) on)) ∙ ap (after p) begun;
  over = sym (ap (answered p) begun) ∙ ap (option_map (reply_of p (placed x.seat q.local))) (goes (ending_at q.local) on);
  aimed = aim;
}

-- it has none, and is over
pub send_ends : (p : Setting) (x y : Placed) (loan : Entry) (q t : Dispatch) (lends : CopyLoan) (reply : RespondReply) (told : ResponseCopyReply) → reply_in told ≡ dispatches.reply_in reply
    → placed x.seat q.local ≡ sends p x.seat loan true → placed y.seat t.local ≡ after p (placed x.seat q.local)
    → answered p (placed x.seat q.local) ≡ Some (dispatches.reply_in reply) → t.local ≡ Idle
    → LeadsTo p x.seat loan y (record { at = at.Rest; local = Idle; lends = lends; sends = t }) (Some told)
send_ends p x y loan q t lends reply told says begun led answered_so over = record {
  next = ap (placed y.seat) (sym over) ∙ led ∙ ap (after p) begun;
  over = sym (ap (answered p) begun) ∙ answered_so ∙ ap (λ a. Some a) (sym says);
  aimed = tt;
}

-- it was told about the way of the loan
pub told_start : (p : Setting) (loan : Entry) (t : ResponseTerms) (q : Dispatch) → q.loan ≡ loan → q.terms ≡ t → IsToldOf p loan t → responses.IsAimed p q
told_start p loan t q same terms told =
    subst (λ (e : Entry). IsToldOf p e q.terms) (sym same) (subst (IsToldOf p loan) (sym terms) told)

-- ---- a step of its loan

-- the loan continues
pub lends_next : (x y : Placed) (r s : ResponseCopy) (seen : ℕ) → Lends r → s.local ≡ s.lends.local → copies.GoesOn x r.lends seen y s.lends None → GoesOn x r seen y s
lends_next x y r s seen lends local led p aim =
    ap (placed y.seat) local ∙ (led p (aimed_lends p x.seat r lends aim).0).0 ∙ ap (λ (l : Local). next p (placed x.seat l) seen) (sym lends.local)

pub lends_over : (x y : Placed) (r : ResponseCopy) (s : CopyLoan) (seen : ℕ) → Lends r → copies.GoesOn x r.lends seen y s None → Answers x r seen None
lends_over x y r s seen lends led p aim =
    ap (λ (l : Local). tells p (placed x.seat l) seen) lends.local ∙ (led p (aimed_lends p x.seat r lends aim).0).1

pub lends_aimed : (x y : Placed) (r s : ResponseCopy) → Lends r → s.at ≡ at.Lends → s.local ≡ s.lends.local → s.sends ≡ r.sends
    → copies.StaysAimed x r.lends y s.lends → IsSameCopy r.lends s.lends → StaysAimed x r y s
lends_aimed x y r s lends at' local told stays same p aim of_slot =
    let known_so : copies.IsAimed p x.seat r.lends × KnowsWay p (way_of r.lends.lending.order) r.sends.terms = aimed_lends p x.seat r lends aim in
    subst (λ (a : CopierAt). AreAimed p y.seat a s) (sym at') (
      stays p known_so.0 (subst (TellsOfSlot p) local of_slot),
      subst (λ (q : Dispatch). KnowsWay p (way_of s.lends.lending.order) q.terms) (sym told)
          (subst (λ (o : Order). KnowsWay p (way_of o) r.sends.terms) (sym same.order) known_so.1),
    )

-- the loan is refused
pub refused_next : (x y : Placed) (r s : ResponseCopy) (k : CopyLoan) (seen : ℕ) (refusal : CallRefusal) → Lends r → s.local ≡ Idle → is_busy k.local ≡ false
    → copies.GoesOn x r.lends seen y k (Some (lent.Refused refusal)) → GoesOn x r seen y s
refused_next x y r s k seen refusal lends local rests led p aim =
    ap (placed y.seat) (local ∙ sym (it_rests k.local rests))
    ∙ (led p (aimed_lends p x.seat r lends aim).0).0 ∙ ap (λ (l : Local). next p (placed x.seat l) seen) (sym lends.local)

pub refused_over : (x y : Placed) (r : ResponseCopy) (k : CopyLoan) (seen : ℕ) (refusal : CallRefusal) → Lends r
    → copies.GoesOn x r.lends seen y k (Some (lent.Refused refusal)) → Answers x r seen (Some (copy_replies.Refused refusal))
refused_over x y r k seen refusal lends led p aim =
    ap (λ (l : Local). tells p (placed x.seat l) seen) lends.local ∙ (led p (aimed_lends p x.seat r lends aim).0).1

-- the loan is made, and sent
made_way : (o : Order) (loan : Entry) → loan ≡ entry_in (loan_of o) loan.slot → state_in loan ≡ way_of o
made_way o loan made = ap state_in made

pub made_leads : (p : Setting) (x y z : Placed) (r s : ResponseCopy) (k : CopyLoan) (result : Option ResponseCopyReply) → Lends r
    → IsSameCopy r.lends k → k.loan ≡ entry_in (loan_of k.lending.order) k.loan.slot
    → SendsTo y.seat r.sends.terms k.loan z s result → IsAimed p x.seat r → LeadsTo p y.seat k.loan z s result
made_leads p x y z r s k result lends same made sent aim =
    sent p ((aimed_lends p x.seat r lends aim).1 k.loan (made_way k.lending.order k.loan made ∙ ap way_of same.order))

pub made_next : (p : Setting) (x y z : Placed) (r s : ResponseCopy) (k : CopyLoan) (seen : ℕ) (result : Option ResponseCopyReply) → Lends r
    → copies.GoesOn x r.lends seen y k (Some lent.Made) → LeadsTo p y.seat k.loan z s result → IsAimed p x.seat r
    → placed z.seat s.local ≡ next p (placed x.seat r.local) seen
made_next p x y z r s k seen result lends led leads aim =
    leads.next ∙ sym (led p (aimed_lends p x.seat r lends aim).0).0 ∙ ap (λ (l : Local). next p (placed x.seat l) seen) (sym lends.local)

pub made_over : (p : Setting) (x y z : Placed) (r s : ResponseCopy) (k : CopyLoan) (seen : ℕ) (result : Option ResponseCopyReply) → Lends r
    → copies.GoesOn x r.lends seen y k (Some lent.Made) → LeadsTo p y.seat k.loan z s result → IsAimed p x.seat r
    → tells p (placed x.seat r.local) seen ≡ option_map reply_in result
made_over p x y z r s k seen result lends led leads aim =
    ap (λ (l : Local). tells p (placed x.seat l) seen) lends.local ∙ (led p (aimed_lends p x.seat r lends aim).0).1 ∙ leads.over

-- ---- a step of its send

pub sends_next : (x y : Placed) (r s : ResponseCopy) (q : Dispatch) (seen : ℕ) → Sends r → s.local ≡ q.local → responses.GoesOn x r.sends seen y q → GoesOn x r seen y s
sends_next x y r s q seen sends_now local led p aim =
    ap (placed y.seat) local ∙ led p (aimed_sends p x.seat r sends_now aim) ∙ ap (λ (l : Local). next p (placed x.seat l) seen) (sym sends_now.local)

pub sends_on : (x : Placed) (r : ResponseCopy) (seen : ℕ) → Sends r → responses.Answers x r.sends seen None → Answers x r seen None
sends_on x r seen sends_now over p aim =
    ap (λ (l : Local). tells p (placed x.seat l) seen) sends_now.local ∙ over p (aimed_sends p x.seat r sends_now aim)

pub sends_over : (x : Placed) (r : ResponseCopy) (seen : ℕ) (reply : RespondReply) (told : ResponseCopyReply) → reply_in told ≡ dispatches.reply_in reply → Sends r → responses.Answers x r.sends seen (Some reply) → Answers x r seen (Some told)
sends_over x r seen reply told says sends_now over p aim =
    ap (λ (l : Local). tells p (placed x.seat l) seen) sends_now.local ∙ over p (aimed_sends p x.seat r sends_now aim) ∙ ap (λ a. Some a) (sym says)

pub sends_aimed : (x y : Placed) (r s : ResponseCopy) → Sends r → s.at ≡ at.Sends → IsSameSend r.sends s.sends → StaysAimed x r y s
sends_aimed x y r s sends_now at' same p aim of_slot =
    subst (λ (a : CopierAt). AreAimed p y.seat a s) (sym at')
    (subst (λ (e : Entry). IsToldOf p e s.sends.terms) (sym same.loan)
    (subst (IsToldOf p r.sends.loan) (sym same.terms) (aimed_sends p x.seat r sends_now aim)))
