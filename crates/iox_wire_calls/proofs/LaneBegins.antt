-- Lanes stay counted as a call begins: a loan may take a slot at once, and the first free lane.
use Rattle.std.proofs.Common.{◌≡◌, ◌⊎◌, ℕ, Bool, true, false, if◌then◌else◌, ◌==◌, List, [], ◌∷◌, Option, Some, None, refl, ap, sym, subst, ◌∙◌, inl, inr, true≢false}
use Rattle.iox_model.specs.declared.call.Call.TheVariants.{HasHint, HasRequests, HasResponse, IsConnected, Loan, Read, Receive, Release, Send, SendCopy, SetHint, Write}
use Rattle.iox_model.specs.declared.call.WireCall.TheVariants as wire_calls
use Rattle.iox_model.specs.declared.kind.Kind.TheVariants.{PendingResponse}
use Rattle.iox_model.specs.declared.way.Way.{Way}
use Rattle.iox_model.specs.Commands.{Call, WireCall}
use Rattle.iox_model.specs.Handles.{is_received, same_kind}
use Rattle.iox_model.specs.Loans.{lending_ways}
use Rattle.iox_model.specs.Names.{suits}
use Rattle.iox_model.specs.Peers.{forgot_port}
use Rattle.iox_model.specs.Receives.{is_at_limit, server_ways}
use Rattle.iox_model.specs.Settings.{is_client, is_count}
use Rattle.iox_model.specs.States.{Port}
use Rattle.iox_laws.proofs.WeaveLaws.MapLemmas.{either}
use Rattle.iox_wire_steps.specs.CallRefusal.{CallRefusal}
use Rattle.iox_wire_steps.specs.Ending.TheVariants as endings
use Rattle.iox_wire_steps.specs.CallRefusal.TheVariants.{WrongLength}
use Rattle.iox_wire_steps.specs.Local.{Local}
use Rattle.iox_wire_steps.specs.Local.TheVariants.{LendStores}
use Rattle.iox_wire_steps.specs.Visit.{Visit}
use Rattle.iox_wire_steps.specs.Seat.{Seat}
use Rattle.iox_wire_steps.specs.Entry.{Entry}
use Rattle.iox_wire_steps.specs.NewLoan.{NewLoan}
use Rattle.iox_wire_steps.specs.Begins.{misnamed_call}
use Rattle.iox_wire_steps.specs.Begins as begins
use Rattle.iox_wire_steps.specs.Courses as courses
use Rattle.iox_wire_steps.specs.Known.{free_lanes, known}
use Rattle.iox_wire_steps.specs.Lendings as lendings
use Rattle.iox_wire_steps.specs.NewLoans.{loan_in}
use Rattle.iox_wire_steps.specs.ReceiveCourses as receives
use Rattle.iox_wire_steps.specs.Tables.{Setting, way_in, words_to_read}
use Rattle.iox_wire_steps.proofs.CountsKept.{begins_keep_own}
use Rattle.iox_wire_steps.specs.Following.{CallMessage, Dropped, NoMessage, OfEntry, Sent, message_at}
use Rattle.iox_wire_steps.specs.Stands.{AreNumbered}
use Rattle.iox_wire_steps.proofs.Follows as follows
use Rattle.iox_wire_steps.proofs.Starts.{Starting, Starts, Takes, starts}
use Rattle.iox_wire_calls.specs.LaneLaws.{BeginsKeepLanes}
use Rattle.iox_wire_calls.specs.Lanes.{AllLanesAreCounted, lent_in}
use Rattle.iox_wire_calls.specs.Places.{CallFits, OwnersAreSet, PlaceFits, SuitsPort, TakesFirst}
use Rattle.iox_wire_calls.proofs.LaneSteps.{PicksFirst, lanes_at, loan_goes_on, picked, same_lanes}
use Rattle.iox_wire_calls.proofs.HandleKinds.{answers_is, copies_is}
use Rattle.iox_wire_calls.proofs.PlaceBegins.{begins_fit, by_call}

-- the call of a port or a handle
module _ (p : Setting) (x : Seat) where
  abbrev K : Seat → Type 0
  K y = PicksFirst p x y.local

  lends : (r : Option CallRefusal) (o : NewLoan) → TakesFirst p x o → K (lendings.lends p x r o)
  lends (Some r) o first = tt
  lends None o first = loan_goes_on p x o (lending_ways (known p x) (loan_in p o)) first

  lends_request : (q : Port) (k : ℕ) (payload : List ℕ) (copies : Bool) → p.port q.number ≡ q → K (lendings.lends_request p x q k payload copies)
  lends_request q k payload copies set =
      either K (is_count p.limits.request k) (lendings.lends p x (lendings.request_refusal p x q k) (lendings.new_request p x q k payload copies))
      (courses.ended x (endings.Refuses WrongLength))
      (λ is. lends (lendings.request_refusal p x q k) (lendings.new_request p x q k payload copies)
      (λ client. ap (λ (r : Port). lendings.first_lane r.pool (free_lanes x q.number)) (sym set))) (λ is. tt)

  lends_response : (e : Entry) (k : ℕ) (payload : List ℕ) (copies : Bool) → is_client (p.port e.port).role ≡ false
      → K (lendings.lends_response p x e k payload copies)
  lends_response e k payload copies server =
      either K (is_count p.limits.response k) (lendings.lends p x (lendings.response_refusal p x e (p.port e.port) k) (lendings.new_response p x e k payload copies))
      (courses.ended x (endings.Refuses WrongLength))
      (λ is. lends (lendings.response_refusal p x e (p.port e.port) k) (lendings.new_response p x e k payload copies)
      (λ client. absurd (true≢false (sym client ∙ server)))) (λ is. tt)

  copies_request : (q : Port) (k : Option ℕ) (words : List ℕ) → p.port q.number ≡ q → K (lendings.copies_request p x q k words)
  copies_request q None words set = tt
  copies_request q (Some k) words set = lends_request q k words true set

  copies_response : (e : Entry) (k : Option ℕ) (words : List ℕ) → is_client (p.port e.port).role ≡ false → K (lendings.copies_response p x e k words)
  copies_response e None words server = tt
  copies_response e (Some k) words server = lends_response e k words true server

  -- all others pick nothing
  visiting : (v : Visit) (left : List Way) (waiting : Bool) → K (receives.visiting p x v left waiting)
  visiting v [] true = tt
  visiting v [] false = tt
  visiting v (w ∷ left) waiting = either K (is_at_limit (known p x) w) _ _ (λ is. tt) (λ is. tt)

  seeking : (left : List Way) → K (receives.seeking x left)
  seeking [] = tt
  seeking (w ∷ left) = tt

  writing : (e : Entry) (words : List ℕ) → K (begins.writing x e words)
  writing e [] = tt
  writing e (word ∷ words) = tt

  writes : (e : Entry) (k : Option ℕ) (words : List ℕ) → K (begins.writes x e k words)
  writes e None words = tt
  writes e (Some k) words = either K (k == e.elements) (begins.writing x e words) (courses.ended x (endings.Refuses WrongLength)) (λ is. writing e words) (λ is. tt)

  reads : (e : Entry) → K (begins.reads p x e)
  reads e = either K (words_to_read p e == 0) _ _ (λ is. tt) (λ is. tt)

  sent_picks : (local : Local) (e : Entry) → message_at local ≡ Sent e false → PicksFirst p x local
  sent_picks (LendStores o slot next) e is = absurd (cc)
  sent_picks local e is = tt

  closing : (e : Entry) (left : List Way) → K (receives.closing x e left)
  closing e [] = tt
  closing e (w ∷ left) = tt

  checking : (e : Entry) (hinted : Bool) (left : List Way) → K (receives.checking x e hinted left)
  checking e hinted [] = tt
  checking e hinted (w ∷ left) = tt

  hinting : (e : Entry) (left : List Way) → K (receives.hinting x e left)
  hinting e [] = tt
  hinting e (w ∷ left) = tt

  returning : (e : Entry) → K (receives.returning p x e)
  returning e = either K (forgot_port (known p x) x.node (way_in e).sender) _ _ (λ is. tt) (λ is. tt)

  releasing : (e : Entry) → K (receives.releasing p x e)
  releasing e =
      either K (is_received e.kind) (receives.returning p x e)
      (if same_kind e.kind PendingResponse then receives.closing x e (receives.states_for p x e) else courses.ended x (endings.Drops e)) (λ is. returning e)
      (λ is. either K (same_kind e.kind PendingResponse) (receives.closing x e (receives.states_for p x e)) (courses.ended x (endings.Drops e))
      (λ pending. closing e (receives.states_for p x e)) (λ loan. tt))

  -- by what the call names
  at_port : (call : Call) (q : Port) → p.port q.number ≡ q → K (begins.begins_at_port p x call q)
  at_port (Loan n k) q set = lends_request q k [] false set
  at_port (SendCopy n y) q set = copies_request q y.elements y.words set
  at_port (Receive n) q set = visiting (begins.server_visit q) (server_ways (known p x) q) false
  at_port (HasRequests n) q set = seeking (server_ways (known p x) q)
  at_port call q set = tt

  at_entry : (call : Call) (e : Entry) → SuitsPort p x e.port e.kind → suits true call e.kind ≡ true → K (begins.begins_at_entry p x call e)
  at_entry (Loan n k) e fits suited = lends_response e k [] false (answers_is n k (p.port e.port).role e.kind fits.1 suited)
  at_entry (Write n y) e fits suited = writes e y.elements y.words
  at_entry (Send n) e fits suited = sent_picks _ e (follows.sends p x e false).names
  at_entry (SendCopy n y) e fits suited = copies_response e y.elements y.words (copies_is n y (p.port e.port).role e.kind fits.1 suited)
  at_entry (Receive n) e fits suited = visiting (begins.pending_visit e) (begins.ways_for p x e) false
  at_entry (Read n) e fits suited = reads e
  at_entry (Release n) e fits suited = releasing e
  at_entry (IsConnected n) e fits suited = checking e false (receives.states_for p x e)
  at_entry (SetHint n) e fits suited = hinting e (receives.states_for p x e)
  at_entry (HasHint n) e fits suited = checking e true (receives.states_for p x e)
  at_entry (HasResponse n) e fits suited = seeking (begins.ways_for p x e)
  at_entry call e fits suited = tt

  begin_picks : (call : WireCall) → AreNumbered p → OwnersAreSet p → CallFits p x → misnamed_call p x call ≡ None → K (begins.begin p x call)
  begin_picks (wire_calls.Port call) numbered owners fits named =
      by_call p x numbered owners call fits K tt (λ q home set suited. at_port call q set) (λ e there suits suited. at_entry call e suits suited) named
  begin_picks (wire_calls.Forget dead) numbered owners fits named = tt

-- ---- the begin

no_loan : (p : Setting) (x : Seat) (message : CallMessage) → Starting p x message → lent_in message ≡ []
no_loan p x NoMessage start = refl
no_loan p x (OfEntry e) start = refl
no_loan p x (Sent e true) start = absurd (true≢false start.0)
no_loan p x (Sent e false) start = refl
no_loan p x (Dropped e) start = refl
no_loan p x other start = absurd start

pub begins_keep_lanes : BeginsKeepLanes
begins_keep_lanes p held s x call numbered owners named rests fits stands lanes all = by_start (starts p s.request_state x call)
  where
    none : lent_in (message_at x.local) ≡ []
    none = ap (λ l. lent_in (message_at l)) rests

    by_start : Starts p s.request_state x (begins.begin p x call) ⊎ Takes x (begins.begin p x call) → AllLanesAreCounted p (begins.begin p x call)
    by_start (inl start) =
        same_lanes p x (begins.begin p x call) (begins_keep_own p x call) (λ port. ap (lanes_at port) start.desks)
        (no_loan p x (message_at (begins.begin p x call).local) start.message ∙ sym none) all
    by_start (inr takes) =
        picked p x (begins.begin p x call) takes.loan takes.slot takes.free (begins_keep_own p x call) stands.uses lanes none takes.there takes.desks takes.place
        (subst (PlaceFits p (begins.begin p x call)) takes.place (begins_fit p x call numbered owners named fits).place).1
        (subst (PicksFirst p x) takes.place (begin_picks p x call numbered owners fits named)) all
