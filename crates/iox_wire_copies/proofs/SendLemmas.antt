-- How the copy of a request continues from its loan to its send.
use Rattle.std.proofs.Common.{◌≡◌, ◌<◌, ℕ, true, false, List, refl, ap, sym, subst, true≢false, ◌∙◌}
use Rattle.std.specs.Prelude.{Option, None, Some, option_map}
use Rattle.iox_model.specs.Handles.{is_request_loan}
use Rattle.iox_model.specs.declared.kind.Kind.TheVariants.{RequestMut}
use Rattle.iox_model.specs.declared.kind.Role.TheVariants.{Server}
use Rattle.iox_model.specs.Peers.{others}
use Rattle.iox_wire_locals.specs.declared.local.CallRefusal.{CallRefusal}
use Rattle.iox_wire_locals.specs.declared.local.Local.{Local}
use Rattle.iox_wire_locals.specs.declared.local.Local.TheVariants.{Idle, Ends, LendStores, SendEnds}
use Rattle.iox_wire_locals.specs.declared.seat.Seat.{Seat}
use Rattle.iox_wire_locals.specs.declared.table.Entry.{Entry}
use Rattle.iox_wire_locals.specs.Begins.{is_busy}
use Rattle.iox_wire_locals.specs.Courses.{placed, sends}
use Rattle.iox_wire_locals.specs.Known.{known}
use Rattle.iox_wire_locals.specs.NewLoans.{entry_in}
use Rattle.iox_wire_locals.specs.Settlements.{reply_of}
use Rattle.iox_wire_locals.specs.Steps.{closed, ending_at, next, tells}
use Rattle.iox_wire_locals.specs.Tables.{Setting}
use Rattle.iox_wire_seats.specs.Seats.{Placed}
use Rattle.iox_wire_request_sends.specs.WireLoansAims.{IsStoring, TellsOfSlot, after, answered}
use Rattle.iox_wire_request_sends.specs.Orders.{loan_of}
use Rattle.iox_wire_request_sends.specs.Order.{Order}
use Rattle.iox_wire_request_sends.specs.declared.at.RequestReply.{RequestReply}
use Rattle.iox_wire_request_sends.specs.Aims as requests
use Rattle.iox_wire_request_sends.specs.Aims.{Knows, is_ending}
use Rattle.iox_wire_request_sends.specs.RequestDispatches.{RequestDispatch}
use Rattle.iox_wire_copies.specs.declared.at.CopierAt.{CopierAt}
use Rattle.iox_wire_copies.specs.declared.at.CopierAt.TheVariants as at
use Rattle.iox_wire_copies.specs.declared.at.CopyLent.TheVariants as lent
use Rattle.iox_wire_copies.specs.declared.at.CopyReply.{CopyReply}
use Rattle.iox_wire_copies.specs.declared.at.CopyReply.TheVariants as copy_replies
use Rattle.iox_wire_request_sends.specs.RequestDispatches as dispatches
use Rattle.iox_wire_copies.specs.Copies.{CopyLoan, StoresOrder}
use Rattle.iox_wire_copies.specs.CopyAims as copies
use Rattle.iox_wire_copies.specs.CopyAims.{HasSamePeers, IsSameCopy}
use Rattle.iox_wire_copies.specs.CopyCalls.{AreAimed, CopyCall, GoesOn, Answers, IsAimed, KnowsServers, KnowsServersAt, KnowsServersOnLane, LeadsTo, SendsTo, StaysAimed, TellsOfLane, reply_in}
use Rattle.iox_wire_copies.proofs.LendLemmas.{it_rests}

-- ---- where it is

-- What a client is that lends.
pub record Lends (r : CopyCall) : Type 0 where
  pub at : r.at ≡ at.Lends
  pub local : r.local ≡ r.lends.local

-- What a client is that sends.
pub record Sends (r : CopyCall) : Type 0 where
  pub at : r.at ≡ at.Sends
  pub local : r.local ≡ r.sends.local

pub aimed_lends : (p : Setting) (x : Seat) (r : CopyCall) → Lends r → IsAimed p x r
    → copies.IsAimed p x r.lends × KnowsServersAt p x r.lends.local r.lends.lending.order r.sends
aimed_lends p x r lends aim = subst (λ (a : CopierAt). AreAimed p x a r) lends.at aim

pub aimed_sends : (p : Setting) (x : Seat) (r : CopyCall) → Sends r → IsAimed p x r → requests.IsAimed p x r.sends
aimed_sends p x r sends_now aim = subst (λ (a : CopierAt). AreAimed p x a r) sends_now.at aim

-- ---- the servers stay the same

same_others : (p : Setting) (x y : Seat) → HasSamePeers x y → others (known p y) y.node Server ≡ others (known p x) x.node Server
same_others p x y peers = ap (λ (ns : List ℕ). others (record (known p x) { forgot = λ node. ns }) x.node Server) peers.forgot

pub servers_stay : (p : Setting) (x y : Seat) (port lane : ℕ) (r : RequestDispatch) → HasSamePeers x y → KnowsServers p x port lane r → KnowsServers p y port lane r
servers_stay p x y port lane r peers knows = record {
  told = knows.told;
  targets = knows.targets;
  servers = knows.servers ∙ sym (same_others p x y peers);
}

-- ---- a loan knows the servers once it has a lane

on_lane : (p : Setting) (x : Seat) (l : Local) (order : Order) (r : RequestDispatch) → KnowsServersAt p x l order r → KnowsServersOnLane p x order.port order.lane r
on_lane p x (LendStores o slot n) order r knows = λ low. knows
on_lane p x l order r knows = knows

pub known_at : (p : Setting) (x : Seat) (l : Local) (order : Order) (r : RequestDispatch) → order.kind ≡ RequestMut → StoresOrder order l → TellsOfLane p l
    → KnowsServersOnLane p x order.port order.lane r → KnowsServersAt p x l order r
known_at p x (LendStores o slot n) order r kind stores told knows =
    knows (subst (λ (lane : ℕ). lane < p.layout.sizes.lanes order.port) stores.2
    (subst (λ (port : ℕ). o.lane < p.layout.sizes.lanes port) stores.1 (told (ap is_request_loan (stores.0 ∙ kind)))))
known_at p x l order r kind stores told knows = knows

known_stored : (p : Setting) (x : Seat) (l : Local) (order : Order) (r : RequestDispatch) → IsStoring l → KnowsServersAt p x l order r
    → KnowsServers p x order.port order.lane r
known_stored p x (LendStores o slot n) order r is knows = knows
known_stored p x l order r is knows = absurd is

-- ---- the send begins

goes : (l : Local) → is_ending l ≡ false → ending_at l ≡ None
goes (Ends ending) is = absurd (true≢false is)
goes (SendEnds d last count) is = absurd (true≢false is)
goes l is = refl

pub known_at_end : (p : Setting) (x : Seat) (r : RequestDispatch) (l : Local) → is_ending l ≡ true → requests.AreAimed p x l r → Knows p x r
known_at_end p x r (Ends ending) is aim = aim
known_at_end p x r (SendEnds d last count) is aim = aim
known_at_end p x r l is aim = absurd (true≢false (sym is))

-- it has an access to make
pub send_starts : (p : Setting) (x : Placed) (loan : Entry) (q : RequestDispatch) (lends : CopyLoan) → is_ending q.local ≡ false
    → placed x.seat q.local ≡ sends p x.seat loan true → requests.IsAimed p x.seat q
    → LeadsTo p x.seat loan x (record { at = at.Sends; local = q.local; lends = lends; sends = q }) None
send_starts p x loan q lends on begun aim = record {
  next = sym (ap (closed p (placed x.seat q.local)) (goes q.local on)) ∙ ap (after p) begun;
  over = sym (ap (answered p) begun) ∙ ap (option_map (reply_of p (placed x.seat q.local))) (goes q.local on);
  aimed = aim;
}

-- it has none, and is over
pub send_ends : (p : Setting) (x y : Placed) (loan : Entry) (q t : RequestDispatch) (lends : CopyLoan) (reply : RequestReply) (told : CopyReply) → reply_in told ≡ dispatches.reply_in reply
    → placed x.seat q.local ≡ sends p x.seat loan true → requests.LeadsTo p (placed x.seat q.local) y t (Some reply) → is_busy t.local ≡ false
    → LeadsTo p x.seat loan y (record { at = at.Rest; local = Idle; lends = lends; sends = t }) (Some told)
send_ends p x y loan q t lends reply told says begun leads rests = record {
  next = ap (placed y.seat) (sym (it_rests t.local rests)) ∙ leads.next ∙ ap (after p) begun;
  over = sym (ap (answered p) begun) ∙ leads.over ∙ ap (λ a. Some a) (sym says);
  aimed = tt;
}

pub send_stays : (p : Setting) (x y : Placed) (loan : Entry) (q t : RequestDispatch) (lends : CopyLoan)
    → placed x.seat q.local ≡ sends p x.seat loan true → requests.LeadsTo p (placed x.seat q.local) y t None
    → LeadsTo p x.seat loan y (record { at = at.Sends; local = t.local; lends = lends; sends = t }) None
send_stays p x y loan q t lends begun leads = record {
  next = leads.next ∙ ap (after p) begun;
  over = sym (ap (answered p) begun) ∙ leads.over;
  aimed = leads.aimed;
}

-- ---- a step of its loan

-- the loan continues
pub lends_next : (x y : Placed) (r s : CopyCall) (seen : ℕ) → Lends r → s.local ≡ s.lends.local → copies.GoesOn x r.lends seen y s.lends None → GoesOn x r seen y s
lends_next x y r s seen lends local led p aim =
    ap (placed y.seat) local ∙ (led p (aimed_lends p x.seat r lends aim).0).0 ∙ ap (λ (l : Local). next p (placed x.seat l) seen) (sym lends.local)

pub lends_over : (x y : Placed) (r : CopyCall) (s : CopyLoan) (seen : ℕ) → Lends r → copies.GoesOn x r.lends seen y s None → Answers x r seen None
lends_over x y r s seen lends led p aim =
    ap (λ (l : Local). tells p (placed x.seat l) seen) lends.local ∙ (led p (aimed_lends p x.seat r lends aim).0).1

pub lends_aimed : (x y : Placed) (r s : CopyCall) → Lends r → s.at ≡ at.Lends → s.local ≡ s.lends.local → s.sends ≡ r.sends
    → copies.StaysAimed x r.lends y s.lends → copies.KeepsPeers x r.lends y → IsSameCopy r.lends s.lends
    → s.lends.lending.order.kind ≡ RequestMut → StoresOrder s.lends.lending.order s.lends.local → StaysAimed x r y s
lends_aimed x y r s lends at' local told stays peers same kind stores p aim of_slot =
    let known_so : copies.IsAimed p x.seat r.lends × KnowsServersAt p x.seat r.lends.local r.lends.lending.order r.sends = aimed_lends p x.seat r lends aim in
    let knows : KnowsServersOnLane p y.seat r.lends.lending.order.port r.lends.lending.order.lane r.sends =
    λ low. servers_stay p x.seat y.seat r.lends.lending.order.port r.lends.lending.order.lane r.sends (peers p known_so.0)
    (on_lane p x.seat r.lends.local r.lends.lending.order r.sends known_so.1 low) in
    subst (λ (a : CopierAt). AreAimed p y.seat a s) (sym at') (
      stays p known_so.0 (subst (TellsOfSlot p) local of_slot.0),
      known_at p y.seat s.lends.local s.lends.lending.order s.sends kind stores (subst (TellsOfLane p) local of_slot.1)
          (subst (λ (q : RequestDispatch). KnowsServersOnLane p y.seat s.lends.lending.order.port s.lends.lending.order.lane q) (sym told)
          (subst (λ (o : Order). KnowsServersOnLane p y.seat o.port o.lane r.sends) (sym same.order) knows)),
    )

-- the loan is refused
pub refused_next : (x y : Placed) (r s : CopyCall) (k : CopyLoan) (seen : ℕ) (refusal : CallRefusal) → Lends r → s.local ≡ Idle → is_busy k.local ≡ false
    → copies.GoesOn x r.lends seen y k (Some (lent.Refused refusal)) → GoesOn x r seen y s
refused_next x y r s k seen refusal lends local rests led p aim =
    ap (placed y.seat) (local ∙ sym (it_rests k.local rests))
    ∙ (led p (aimed_lends p x.seat r lends aim).0).0 ∙ ap (λ (l : Local). next p (placed x.seat l) seen) (sym lends.local)

pub refused_over : (x y : Placed) (r : CopyCall) (k : CopyLoan) (seen : ℕ) (refusal : CallRefusal) → Lends r
    → copies.GoesOn x r.lends seen y k (Some (lent.Refused refusal)) → Answers x r seen (Some (copy_replies.Refused refusal))
refused_over x y r k seen refusal lends led p aim =
    ap (λ (l : Local). tells p (placed x.seat l) seen) lends.local ∙ (led p (aimed_lends p x.seat r lends aim).0).1

-- the loan is made, and sent
pub made_leads : (p : Setting) (x y z : Placed) (r s : CopyCall) (k : CopyLoan) (seen : ℕ) (result : Option CopyReply) → Lends r
    → copies.GoesOn x r.lends seen y k (Some lent.Made) → copies.KeepsPeers x r.lends y → IsSameCopy r.lends k → k.loan ≡ entry_in (loan_of k.lending.order) k.loan.slot
    → IsStoring r.lends.local → SendsTo y.seat r.sends k.loan z s result → IsAimed p x.seat r → LeadsTo p y.seat k.loan z s result
made_leads p x y z r s k seen result lends led peers same made stored sent aim =
    let known_so : copies.IsAimed p x.seat r.lends × KnowsServersAt p x.seat r.lends.local r.lends.lending.order r.sends = aimed_lends p x.seat r lends aim in
    sent p
    (subst (λ (e : Entry). KnowsServers p y.seat e.port e.lane r.sends) (sym (made ∙ ap (λ (o : Order). entry_in (loan_of o) k.loan.slot) same.order))
    (servers_stay p x.seat y.seat r.lends.lending.order.port r.lends.lending.order.lane r.sends (peers p known_so.0)
    (known_stored p x.seat r.lends.local r.lends.lending.order r.sends stored known_so.1)))
    (led p known_so.0).2

pub made_next : (p : Setting) (x y z : Placed) (r s : CopyCall) (k : CopyLoan) (seen : ℕ) (result : Option CopyReply) → Lends r
    → copies.GoesOn x r.lends seen y k (Some lent.Made) → LeadsTo p y.seat k.loan z s result → IsAimed p x.seat r
    → placed z.seat s.local ≡ next p (placed x.seat r.local) seen
made_next p x y z r s k seen result lends led leads aim =
    leads.next ∙ sym (led p (aimed_lends p x.seat r lends aim).0).0 ∙ ap (λ (l : Local). next p (placed x.seat l) seen) (sym lends.local)

pub made_over : (p : Setting) (x y z : Placed) (r s : CopyCall) (k : CopyLoan) (seen : ℕ) (result : Option CopyReply) → Lends r
    → copies.GoesOn x r.lends seen y k (Some lent.Made) → LeadsTo p y.seat k.loan z s result → IsAimed p x.seat r
    → tells p (placed x.seat r.local) seen ≡ option_map reply_in result
made_over p x y z r s k seen result lends led leads aim =
    ap (λ (l : Local). tells p (placed x.seat l) seen) lends.local ∙ (led p (aimed_lends p x.seat r lends aim).0).1 ∙ leads.over

-- ---- a step of its send

pub sends_next : (x y : Placed) (r s : CopyCall) (q : RequestDispatch) (seen : ℕ) → Sends r → s.local ≡ q.local → requests.GoesOn x r.sends seen y q → GoesOn x r seen y s
sends_next x y r s q seen sends_now local led p aim =
    ap (placed y.seat) local ∙ led p (aimed_sends p x.seat r sends_now aim) ∙ ap (λ (l : Local). next p (placed x.seat l) seen) (sym sends_now.local)

pub sends_on : (x : Placed) (r : CopyCall) (seen : ℕ) → Sends r → requests.Answers x r.sends seen None → Answers x r seen None
sends_on x r seen sends_now over p aim =
    ap (λ (l : Local). tells p (placed x.seat l) seen) sends_now.local ∙ over p (aimed_sends p x.seat r sends_now aim)

pub sends_over : (x : Placed) (r : CopyCall) (seen : ℕ) (reply : RequestReply) (told : CopyReply) → reply_in told ≡ dispatches.reply_in reply → Sends r → requests.Answers x r.sends seen (Some reply) → Answers x r seen (Some told)
sends_over x r seen reply told says sends_now over p aim =
    ap (λ (l : Local). tells p (placed x.seat l) seen) sends_now.local ∙ over p (aimed_sends p x.seat r sends_now aim) ∙ ap (λ a. Some a) (sym says)

pub sends_aimed : (x y : Placed) (r s : CopyCall) → Sends r → s.at ≡ at.Sends → requests.StaysAimed x r.sends y s.sends → StaysAimed x r y s
sends_aimed x y r s sends_now at' stays p aim of_slot =
    subst (λ (a : CopierAt). AreAimed p y.seat a s) (sym at') (stays p (aimed_sends p x.seat r sends_now aim))
