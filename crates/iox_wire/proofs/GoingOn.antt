-- What the code of a node asks as its call continues follows from what the laws tell of its place.
use Rattle.std.proofs.Common.{◌≡◌, ℕ, Bool, true, false, None, refl, ap, ap₂, sym, subst, ◌∙◌, true≢false}
use Rattle.iox_model.specs.declared.kind.Kind.{Kind}
use Rattle.iox_model.specs.declared.kind.Kind.TheVariants.{RequestMut, ResponseMut}
use Rattle.iox_model.specs.Handles.{is_request_loan}
use Rattle.iox_steps.specs.declared.pop.Pop.TheVariants as pop
use Rattle.iox_steps.specs.declared.side.Popping.TheVariants as popping
use Rattle.iox_steps.specs.Sides.{popping_event, pushing_event}
use Rattle.iox_word_map.specs.WordMaps.{MessageQueue, ReturningQueue}
use Rattle.iox_wire_weaves.specs.Aims.{AreAimed, KnowsItsPlace, MayAdd, MayGoOn}
use Rattle.iox_wire_weaves.specs.Begins.{is_busy}
use Rattle.iox_wire_weaves.specs.CallAt.{CallAt}
use Rattle.iox_wire_weaves.specs.CallAt.TheVariants as at
use Rattle.iox_wire_copies.specs.Copiers as copiers
use Rattle.iox_wire_copies.specs.Copies.{IsLoanOf}
use Rattle.iox_wire_copies.specs.CopyAims.{MayBeGivenUp}
use Rattle.iox_wire_copies.specs.declared.at.CopierAt.{CopierAt}
use Rattle.iox_wire_copies.specs.declared.at.CopierAt.TheVariants as copier_at
use Rattle.iox_wire_copies.specs.CopyCalls as request_copies
use Rattle.iox_wire_weaves.specs.Courses.{placed}
use Rattle.iox_wire_weaves.specs.Desks.{IsUsed, MayCount, MayDeliver, MayGiveUp}
use Rattle.iox_wire_weaves.specs.Dispatches.{Dispatch}
use Rattle.iox_wire_weaves.specs.Ending.TheVariants as endings
use Rattle.iox_wire_weaves.specs.Entry.{Entry}
use Rattle.iox_wire_weaves.specs.Following.{Lent, Sent, message_at}
use Rattle.iox_wire_weaves.specs.Lends.{MayLend}
use Rattle.iox_wire_weaves.specs.Local.{Local}
use Rattle.iox_wire_weaves.specs.Local.TheVariants.{Ends, Idle, LendEmpties, LendStores, SendAsks, SendEmpties, SendEvicts, SendGetsBack, SendLooks, SendPushes}
use Rattle.iox_wire_copies.specs.LoansAims as loans
use Rattle.iox_wire_weaves.specs.LocalsSteps.{ending_at}
use Rattle.iox_wire_weaves.specs.NewLoan.{NewLoan}
use Rattle.iox_wire_weaves.specs.NewLoans.{entry_in}
use Rattle.iox_wire_weaves.specs.Nodes.{NodeView, seat_at}
use Rattle.iox_wire_weaves.specs.Programs.{site_of}
use Rattle.iox_wire_weaves.specs.RequestDispatches.{RequestDispatch}
use Rattle.iox_wire_copies.specs.RequestSendsAims as requests
use Rattle.iox_wire_copies.specs.ResponseCopies as response_copies
use Rattle.iox_wire_weaves.specs.Seat.{Seat}
use Rattle.iox_wire_weaves.specs.Seats.{Placed}
use Rattle.iox_wire_copies.specs.Aims as responses
use Rattle.iox_wire_weaves.specs.Tables.{Setting}
use Rattle.iox_wire_weaves.specs.Uses.{FindsInUse}

-- What the laws tell of a node at its place, whose access finds this.
pub record IsTold (p : Setting) (x : Seat) (seen : ℕ) : Type 0 where
  pub finds : FindsInUse p x x.local seen
  pub back : loans.GetsBackUsed x x.local
  -- the slot of what it sends is in use
  pub used : (e : Entry) (copied : Bool) → message_at x.local ≡ Sent e copied → IsUsed e.port e.slot x.desks
  -- a request that it sends may be given up, and so may a loan that it makes
  pub sent : (e : Entry) (copied : Bool) → message_at x.local ≡ Sent e copied → is_request_loan e.kind ≡ true → MayGiveUp e x.desks
  pub made : (o : NewLoan) (slot : ℕ) → message_at x.local ≡ Lent o slot → ending_at x.local ≡ None → MayGiveUp (entry_in o slot) x.desks

never : {P : Type 0} → false ≡ true → P
never is = absurd (true≢false (sym is))

-- ---- a loan

gets_back : (x : Seat) (place local : Local) → loans.GetsBackUsed (placed x place) local → loans.GetsBackUsed x local
gets_back x place (LendEmpties o w (popping.Pops (pop.Takes read slot)) left) used = used
gets_back x place local used = tt

-- ---- the send of a request

request_held : (p : Setting) (x : Seat) (seen : ℕ) (loan : Entry) (copied : Bool) (local : Local) → IsTold p (placed x local) seen → is_request_loan loan.kind ≡ true
    → requests.IsSendOf loan copied local → requests.IsHeldIn local loan x.desks
request_held p x seen loan copied (Ends (endings.FailsToSend e own r)) told kind place =
    subst (λ (k : Entry). MayGiveUp k x.desks) place.0 (told.sent e own refl (ap (λ (k : Entry). is_request_loan k.kind) place.0 ∙ kind))
request_held p x seen loan copied (Ends ending) told kind place = absurd place
request_held p x seen loan copied (SendEmpties d w part left) told kind place =
    subst (λ (k : Entry). MayGiveUp k x.desks) place.0 (told.sent d.loan d.copied refl (ap (λ (k : Entry). is_request_loan k.kind) place.0 ∙ kind))
request_held p x seen loan copied (SendLooks d w part left full) told kind place =
    subst (λ (k : Entry). MayGiveUp k x.desks) place.0 (told.sent d.loan d.copied refl (ap (λ (k : Entry). is_request_loan k.kind) place.0 ∙ kind))
request_held p x seen loan copied local told kind place = tt

request_finds : (p : Setting) (x : Seat) (r : RequestDispatch) (local : Local) (seen : ℕ) → IsTold p (placed x local) seen → requests.AreAimed p x local r
    → requests.IsSendOf r.loan r.copied local → requests.FindsAt x r local seen
request_finds p x r (SendEmpties d w part left) seen told aimed place =
    λ slot event. subst (λ (k : Entry). IsUsed k.port slot x.desks) place.0 (told.finds slot (sym (ap (λ s. popping_event s part seen) aimed.1) ∙ event))
request_finds p x r (SendPushes d last w part left count) seen told aimed place =
    λ slot event. subst (λ (k : Entry). MayDeliver k.port w slot x.desks) place.0 (told.finds slot (sym (ap (λ s. pushing_event s part seen) aimed.1) ∙ event))
request_finds p x r (SendGetsBack d w part left count) seen told aimed place =
    λ slot event. subst (λ (k : Entry). IsUsed k.port slot x.desks) place.0 (told.finds slot (sym (ap (λ s. pushing_event s part seen) aimed.1) ∙ event)).0
request_finds p x r local seen told aimed place = tt

-- ---- the send of a response

response_message : (loan : Entry) (copied : Bool) (local : Local) → responses.IsSendOf loan copied local → is_busy local ≡ true → message_at local ≡ Sent loan copied
response_message loan copied Idle place busy = never busy
response_message loan copied (Ends (endings.Sends e own count)) place busy = ap₂ Sent place.0 place.1
response_message loan copied (Ends ending) place busy = absurd place
response_message loan copied (SendAsks d) place busy = ap₂ Sent place.0 place.1
response_message loan copied (SendEmpties d w part left) place busy = ap₂ Sent place.0.0 place.0.1
response_message loan copied (SendLooks d w part left full) place busy = ap₂ Sent place.0.0 place.0.1
response_message loan copied (SendPushes d last w part left count) place busy = ap₂ Sent place.0.0 place.0.1
response_message loan copied (SendEvicts d w part left count) place busy = ap₂ Sent place.0.0 place.0.1
response_message loan copied (SendGetsBack d w part left count) place busy = ap₂ Sent place.0.0 place.0.1
response_message loan copied local place busy = absurd place

response_finds : (p : Setting) (x : Seat) (r : Dispatch) (local : Local) (seen : ℕ) → IsTold p (placed x local) seen → responses.IsToldOf p r.loan r.terms
    → responses.IsSendOf r.loan r.copied local → responses.FindsAt x r.terms local seen
response_finds p x r (SendEmpties d w part left) seen told aimed place =
    let site = aimed.returning ∙ ap (λ v. site_of p.layout (ReturningQueue v)) (sym place.1) in
    λ slot event. told.finds slot (sym (ap (λ s. popping_event s part seen) site) ∙ event)
response_finds p x r (SendPushes d last w part left count) seen told aimed place =
    let site = aimed.messages ∙ ap (λ v. site_of p.layout (MessageQueue v)) (sym place.1) in
    λ slot event. told.finds slot (sym (ap (λ s. pushing_event s part seen) site) ∙ event)
response_finds p x r (SendGetsBack d w part left count) seen told aimed place =
    let site = aimed.messages ∙ ap (λ v. site_of p.layout (MessageQueue v)) (sym place.1) in
    λ slot event. told.finds slot (sym (ap (λ s. pushing_event s part seen) site) ∙ event)
response_finds p x r local seen told aimed place = tt

-- ---- a copy

made_held : (p : Setting) (x : Seat) (seen : ℕ) (local : Local) → IsTold p (placed x local) seen → MayBeGivenUp x local
made_held p x seen (LendStores o slot next) told = told.made o slot refl refl
made_held p x seen local told = tt

-- at a place of its loan nothing is sent
request_loan_finds : (x : Seat) (r : RequestDispatch) (kind : Kind) (local : Local) (seen : ℕ) → IsLoanOf kind local → requests.FindsAt x r local seen
request_loan_finds x r kind (SendEmpties d w part left) seen place = absurd place
request_loan_finds x r kind (SendPushes d last w part left count) seen place = absurd place
request_loan_finds x r kind (SendGetsBack d w part left count) seen place = absurd place
request_loan_finds x r kind local seen place = tt

response_loan_finds : (x : Seat) (r : Dispatch) (kind : Kind) (local : Local) (seen : ℕ) → IsLoanOf kind local → responses.FindsAt x r.terms local seen
response_loan_finds x r kind (SendEmpties d w part left) seen place = absurd place
response_loan_finds x r kind (SendPushes d last w part left count) seen place = absurd place
response_loan_finds x r kind (SendGetsBack d w part left count) seen place = absurd place
response_loan_finds x r kind local seen place = tt

request_copy : (p : Setting) (seen : ℕ) (x : Placed) (r : request_copies.CopyCall) (name : CopierAt) → IsTold p (placed x.seat r.local) seen
    → request_copies.AreAimed p x.seat name r → copiers.MayBeMade x name r.lends.lending.order r.sends.loan → request_copies.HasItsPlace name r
    → request_copies.LoanMayEnd x name r × request_copies.FindsUsed x r seen
request_copy p seen x r copier_at.Rest told aimed may place =
    (tt, subst (λ l. loans.GetsBackUsed x.seat l × requests.FindsAt x.seat r.sends l seen) (sym place) (tt, tt))
request_copy p seen x r copier_at.Refuses told aimed may place =
    (tt, subst (λ l. loans.GetsBackUsed x.seat l × requests.FindsAt x.seat r.sends l seen) (sym place) (tt, tt))
request_copy p seen x r copier_at.Lends told aimed may place = (
  (may, made_held p x.seat seen r.local told),
  (
    gets_back x.seat r.local r.local told.back,
    request_loan_finds x.seat r.sends RequestMut r.local seen (subst (IsLoanOf RequestMut) (sym place.0) place.1),
  ),
)
request_copy p seen x r copier_at.Sends told aimed may place =
    let sends : IsTold p (placed x.seat r.sends.local) seen = subst (λ l. IsTold p (placed x.seat l) seen) place.0 told in (
      record {
        made = λ copied. subst (λ k. MayLend x k r.sends.loan.port) (sym may.1) (subst (λ k. MayLend x r.lends.lending.order.number k) (sym may.2) may.0);
        held = request_held p x.seat seen r.sends.loan r.sends.copied r.sends.local sends place.1.kind place.1.place;
      },
      (
        gets_back x.seat r.local r.local told.back,
        subst (λ l. requests.FindsAt x.seat r.sends l seen) (sym place.0) (request_finds p x.seat r.sends r.sends.local seen sends aimed place.1.place),
      ),
    )

response_copy : (p : Setting) (seen : ℕ) (x : Placed) (r : response_copies.ResponseCopy) (name : CopierAt) → IsTold p (placed x.seat r.local) seen
    → response_copies.AreAimed p x.seat name r → copiers.MayBeMade x name r.lends.lending.order r.sends.loan → response_copies.HasItsPlace name r
    → is_busy r.local ≡ true → response_copies.LoanMayEnd x name r × response_copies.FindsUsed x r seen
response_copy p seen x r copier_at.Rest told aimed may place busy =
    (tt, subst (λ l. loans.GetsBackUsed x.seat l × responses.FindsAt x.seat r.sends.terms l seen) (sym place) (tt, tt))
response_copy p seen x r copier_at.Refuses told aimed may place busy =
    (tt, subst (λ l. loans.GetsBackUsed x.seat l × responses.FindsAt x.seat r.sends.terms l seen) (sym place) (tt, tt))
response_copy p seen x r copier_at.Lends told aimed may place busy = (
  (may, made_held p x.seat seen r.local told),
  (
    gets_back x.seat r.local r.local told.back,
    response_loan_finds x.seat r.sends ResponseMut r.local seen (subst (IsLoanOf ResponseMut) (sym place.0) place.1),
  ),
)
response_copy p seen x r copier_at.Sends told aimed may place busy =
    let sends : IsTold p (placed x.seat r.sends.local) seen = subst (λ l. IsTold p (placed x.seat l) seen) place.0 told in (
      (
        sends.used r.sends.loan r.sends.copied
            (response_message r.sends.loan r.sends.copied r.sends.local place.1.place (subst (λ l. is_busy l ≡ true) place.0 busy)),
        λ copied. subst (λ k. MayCount k x.seat.desks) (sym may.2) may.0.loans,
      ),
      (
        gets_back x.seat r.local r.local told.back,
        subst (λ l. responses.FindsAt x.seat r.sends.terms l seen) (sym place.0) (response_finds p x.seat r.sends r.sends.local seen sends aimed place.1.place),
      ),
    )

-- ---- each call

pub goes_on : (p : Setting) (seen : ℕ) (n : NodeView) (call : CallAt) → IsTold p (seat_at call n) seen → AreAimed p call n → MayAdd call n → KnowsItsPlace call n
    → is_busy (seat_at call n).local ≡ true → MayGoOn call n seen
goes_on p seen n at.Seats told aimed may place busy = tt
goes_on p seen n at.Receives told aimed may place busy = may
goes_on p seen n at.Lends told aimed may place busy = (may, gets_back n.seat.seat n.lends.local n.lends.local told.back)
goes_on p seen n at.SendsRequest told aimed may place busy = (
  record {
    made = λ copied. absurd (true≢false (sym copied ∙ may));
    held = request_held p n.seat.seat seen n.requests.loan n.requests.copied n.requests.local told place.kind place.place;
  },
  request_finds p n.seat.seat n.requests n.requests.local seen told aimed place.place,
)
goes_on p seen n at.SendsResponse told aimed may place busy = (
  told.used n.responds.loan n.responds.copied (response_message n.responds.loan n.responds.copied n.responds.local place.place busy),
  λ copied. absurd (true≢false (sym copied ∙ may)),
  response_finds p n.seat.seat n.responds n.responds.local seen told aimed place.place,
)
goes_on p seen n at.CopiesRequest told aimed may place busy = request_copy p seen n.seat n.copies_request n.copies_request.at told aimed may place
goes_on p seen n at.CopiesResponse told aimed may place busy =
    response_copy p seen n.seat n.copies_response n.copies_response.at told aimed may place busy
