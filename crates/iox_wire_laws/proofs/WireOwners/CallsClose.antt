-- The same of receives, releases and questions, of begins and of each access: where request states are left to
-- close, they are those of own clients.
use Rattle.std.proofs.Common.{◌≡◌, refl, subst, ℕ, Bool, true, false, if◌then◌else◌, List, [], ◌∷◌, ◌==◌, Option, Some, None}
use Rattle.iox_model.specs.declared.call.Call.TheVariants.{Loan, Write, Send, SendCopy, Receive, Read, Release, IsConnected, SetHint, HasHint, HasRequests, HasResponse}
use Rattle.iox_model.specs.declared.call.WireCall.TheVariants as wire_calls
use Rattle.iox_model.specs.declared.way.Way.{Way}
use Rattle.iox_model.specs.declared.way.RequestState.{RequestState}
use Rattle.iox_model.specs.Commands.{Call, WireCall, number_of}
use Rattle.iox_model.specs.Handles.{same_kind, is_received}
use Rattle.iox_model.specs.declared.kind.Kind.TheVariants.{PendingResponse}
use Rattle.iox_model.specs.Peers.{port_at}
use Rattle.iox_model.specs.Settings.{is_client, is_count}
use Rattle.iox_model.specs.States.{Port}
use Rattle.iox_steps.specs.declared.side.Pushing.{Pushing}
use Rattle.iox_steps.specs.declared.side.Popping.{Popping}
use Rattle.iox_steps.specs.declared.side.QueueEvent.{QueueEvent}
use Rattle.iox_steps.specs.declared.side.QueueEvent.TheVariants.{Publish, HandOut, SeesEmpty, SeesWaiting}
use Rattle.iox_wire_locals.specs.declared.table.Entry.{Entry}
use Rattle.iox_wire_locals.specs.declared.table.NewLoan.{NewLoan}
use Rattle.iox_wire_locals.specs.declared.local.CallRefusal.{CallRefusal}
use Rattle.iox_wire_locals.specs.declared.local.CallRefusal.TheVariants.{WrongLength}
use Rattle.iox_wire_locals.specs.declared.local.Visit.{Visit}
use Rattle.iox_wire_locals.specs.declared.local.Local.{Local}
use Rattle.iox_wire_locals.specs.declared.local.Local.TheVariants.{Idle, Ends, LendEmpties, LendStores, Writes, SendAsks, SendEmpties, SendLooks, SendOpens, SendPushes, SendEvicts, SendGetsBack, SendEnds, ReceiveLooks, ReceivePops, ReceiveLoads, ReceiveAsks, ReceiveReturns, Reads, ReleaseCloses, ReleaseReturns, ReleaseLooks, ReleaseExchanges, Checks, Hints, HintExchanges, Seeks}
use Rattle.iox_wire_locals.specs.declared.seat.Seat.{Seat}
use Rattle.iox_wire_locals.specs.Tables.{Setting, entry_at}
use Rattle.iox_wire_locals.specs.Known.{known}
use Rattle.iox_wire_locals.specs.declared.local.Ending.TheVariants as endings
use Rattle.iox_wire_locals.specs.NewLoans.{request_in}
use Rattle.iox_wire_locals.specs.Courses as courses_of_sends
use Rattle.iox_wire_locals.specs.ReceiveCourses as courses
use Rattle.iox_wire_locals.specs.ReceiveFindings as findings
use Rattle.iox_wire_locals.specs.Lendings as lendings
use Rattle.iox_wire_locals.specs.Begins as begins
use Rattle.iox_wire_locals.specs.Steps as steps
use Rattle.iox_laws.proofs.WeaveLaws.MapLemmas.{either as by_kind}
use Rattle.iox_wire_laws.specs.WireShows.OwnedCalls.{Each}
use Rattle.iox_wire_laws.specs.WireOwners.FirmOwners.{ClosesOwn, IsOfNode}
use Rattle.iox_wire_laws.proofs.WireOwners.SendsClose as sent
use Rattle.iox_wire_laws.proofs.WireOwners.SendsClose.{ClosesThere, either, placed}

module _ (p : Setting) (n : ℕ) (x : Seat) where
  abbrev K : Seat → Type 0
  K y = ClosesThere p n y

  -- ---- receives

  visiting : (v : Visit) (left : List Way) (waiting : Bool) → K (courses.visiting p x v left waiting)
  visiting v [] waiting = record { closes = tt }
  visiting v (w ∷ left) waiting = either p n _ _ _ (placed p n x _ (tt {0})) (placed p n x _ (tt {0}))

  took : (v : Visit) (w : Way) (slot : ℕ) (header : List ℕ) (left : List Way) (waiting : Bool) → K (courses.took p x v w slot header left waiting)
  took v w slot header left waiting =
      either p n (is_client v.role) (courses.took_response p x v w slot header left waiting) (courses.took_request p x v w slot header left waiting)
      (either p n (request_in v header == v.request) (courses_of_sends.ended x (endings.Receives v w slot header)) (courses.stale p x v w slot left waiting)
      (placed p n x _ (tt {0})) (either p n _ _ _ (placed p n x _ (tt {0})) (placed p n x _ (tt {0})))) (either p n _ _ _ (placed p n x _ (tt {0})) (placed p n x _ (tt {0})))

  judged : (v : Visit) (w : Way) (slot : ℕ) (header : List ℕ) (left : List Way) (waiting : Bool) (shown : RequestState)
      → K (courses.judged x v w slot header left waiting shown)
  judged v w slot header left waiting shown = either p n _ _ _ (placed p n x _ (tt {0})) (placed p n x _ (tt {0}))

  looked : (v : Visit) (w : Way) (left : List Way) (waiting : Bool) (place : Popping) (event : QueueEvent)
      → K (findings.receive_looked p x v w left waiting place event)
  looked v w left waiting place SeesEmpty = visiting v left waiting
  looked v w left waiting place SeesWaiting = visiting v left true
  looked v w left waiting place event = record { closes = tt }

  popped : (v : Visit) (w : Way) (more : Bool) (left : List Way) (waiting : Bool) (place : Popping) (event : QueueEvent)
      → K (findings.receive_popped p x v w more left waiting place event)
  popped v w more left waiting place (HandOut slot) = record { closes = tt }
  popped v w more left waiting place SeesEmpty = visiting v left waiting
  popped v w more left waiting place event = record { closes = tt }

  loaded : (v : Visit) (w : Way) (slot : ℕ) (header : List ℕ) (left : List Way) (waiting : Bool)
      → K (findings.receive_loaded p x v w slot header left waiting)
  loaded v w slot header left waiting = either p n _ _ _ (took v w slot header left waiting) (placed p n x _ (tt {0}))

  returned : (v : Visit) (w : Way) (slot : ℕ) (left : List Way) (waiting : Bool) (place : Pushing) (event : QueueEvent)
      → K (findings.receive_returned x v w slot left waiting place event)
  returned v w slot left waiting place (Publish given) = record { closes = tt }
  returned v w slot left waiting place event = record { closes = tt }

  seeking : (left : List Way) → K (courses.seeking x left)
  seeking [] = record { closes = tt }
  seeking (w ∷ left) = record { closes = tt }

  sought : (w : Way) (left : List Way) (place : Popping) (event : QueueEvent) → K (findings.sought x w left place event)
  sought w left place SeesEmpty = seeking left
  sought w left place SeesWaiting = record { closes = tt }
  sought w left place event = record { closes = tt }

  -- ---- releases, questions and hints

  closing : (e : Entry) (left : List Way) → Each (IsOfNode p n) left → K (courses.closing x e left)
  closing e [] each = record { closes = tt }
  closing e (w ∷ left) each = record { closes = each }

  -- the states of a pending response are the node's own clients'
  abbrev Pending : Entry → Type 0
  Pending e = same_kind e.kind PendingResponse ≡ true → Each (IsOfNode p n) (courses.states_for p x e)

  releasing : (e : Entry) → Pending e → K (courses.releasing p x e)
  releasing e own =
      either p n (is_received e.kind) (courses.returning p x e)
      (if same_kind e.kind PendingResponse then courses.closing x e (courses.states_for p x e) else courses_of_sends.ended x (endings.Drops e))
      (either p n _ _ _ (placed p n x _ (tt {0})) (placed p n x _ (tt {0})))
      (by_kind K (same_kind e.kind PendingResponse) (courses.closing x e (courses.states_for p x e)) (courses_of_sends.ended x (endings.Drops e))
      (λ is. closing e _ (own is)) (λ is. placed p n x _ (tt {0})))

  release_returned : (e : Entry) (place : Pushing) (event : QueueEvent) → K (findings.release_returned x e place event)
  release_returned e place (Publish slot) = either p n _ _ _ (placed p n x _ (tt {0})) (placed p n x _ (tt {0}))
  release_returned e place event = record { closes = tt }

  release_looked : (e : Entry) (seen : ℕ) → K (findings.release_looked x e seen)
  release_looked e seen = either p n _ _ _ (placed p n x _ (tt {0})) (placed p n x _ (tt {0}))

  checking : (e : Entry) (hinted : Bool) (left : List Way) → K (courses.checking x e hinted left)
  checking e hinted [] = record { closes = tt }
  checking e hinted (w ∷ left) = record { closes = tt }

  hinting : (e : Entry) (left : List Way) → K (courses.hinting x e left)
  hinting e [] = record { closes = tt }
  hinting e (w ∷ left) = record { closes = tt }

  -- ---- begins

  lends : (r : Option CallRefusal) (o : NewLoan) → K (lendings.lends p x r o)
  lends (Some r) o = record { closes = tt }
  lends None o = sent.loaning p n x o _

  lends_request : (q : Port) (k : ℕ) (payload : List ℕ) (copies : Bool) → K (lendings.lends_request p x q k payload copies)
  lends_request q k payload copies =
      either p n (is_count p.limits.request k)
      (lendings.lends p x (lendings.request_refusal p x q k) (lendings.new_request p x q k payload copies))
      (courses_of_sends.ended x (endings.Refuses WrongLength))
      (lends (lendings.request_refusal p x q k) (lendings.new_request p x q k payload copies)) (placed p n x _ (tt {0}))

  lends_response : (e : Entry) (k : ℕ) (payload : List ℕ) (copies : Bool) → K (lendings.lends_response p x e k payload copies)
  lends_response e k payload copies =
      either p n (is_count p.limits.response k)
      (lendings.lends p x (lendings.response_refusal p x e (p.port e.port) k) (lendings.new_response p x e k payload copies))
      (courses_of_sends.ended x (endings.Refuses WrongLength))
      (lends (lendings.response_refusal p x e (p.port e.port) k) (lendings.new_response p x e k payload copies)) (placed p n x _ (tt {0}))

  copies_request : (q : Port) (k : Option ℕ) (words : List ℕ) → K (lendings.copies_request p x q k words)
  copies_request q None words = record { closes = tt }
  copies_request q (Some k) words = lends_request q k words true

  copies_response : (e : Entry) (k : Option ℕ) (words : List ℕ) → K (lendings.copies_response p x e k words)
  copies_response e None words = record { closes = tt }
  copies_response e (Some k) words = lends_response e k words true

  writing : (e : Entry) (words : List ℕ) → K (begins.writing x e words)
  writing e [] = record { closes = tt }
  writing e (word ∷ words) = record { closes = tt }

  writes : (e : Entry) (k : Option ℕ) (words : List ℕ) → K (begins.writes x e k words)
  writes e None words = record { closes = tt }
  writes e (Some k) words = either p n _ _ _ (writing e words) (placed p n x _ (tt {0}))

  at_port : (call : Call) (q : Port) → K (begins.begins_at_port p x call q)
  at_port (Loan j k) q = lends_request q k [] false
  at_port (SendCopy j y) q = copies_request q y.elements y.words
  at_port (Receive j) q = visiting _ _ false
  at_port (HasRequests j) q = seeking _
  at_port call q = record { closes = tt }

  at_entry : (call : Call) (e : Entry) → Pending e → K (begins.begins_at_entry p x call e)
  at_entry (Loan j k) e own = lends_response e k [] false
  at_entry (Write j y) e own = writes e y.elements y.words
  at_entry (Send j) e own = sent.sends p n x e false
  at_entry (SendCopy j y) e own = copies_response e y.elements y.words
  at_entry (Receive j) e own = visiting _ _ false
  at_entry (Read j) e own = either p n _ _ _ (placed p n x _ (tt {0})) (placed p n x _ (tt {0}))
  at_entry (Release j) e own = releasing e own
  at_entry (IsConnected j) e own = checking e false _
  at_entry (SetHint j) e own = hinting e _
  at_entry (HasHint j) e own = checking e true _
  at_entry (HasResponse j) e own = seeking _
  at_entry call e own = record { closes = tt }

  begins_at : (call : Call) (q : Option Port) (e : Option Entry) → ((k : Entry) → e ≡ Some k → Pending k) → K (begins.begins_at p x call q e)
  begins_at call (Some q) e own = at_port call q
  begins_at call None (Some e) own = at_entry call e (own e refl)
  begins_at call None None own = record { closes = tt }

  pub begin : (call : WireCall) → ((k : ℕ) (e : Entry) → entry_at k x.table ≡ Some e → Pending e) → K (begins.begin p x call)
  begin (wire_calls.Port call) own =
      begins_at call (port_at (known p x) (number_of call)) (entry_at (number_of call) x.table) (own (number_of call))
  begin (wire_calls.Forget dead) own = record { closes = tt }

  -- ---- accesses

  pub advance : (local : Local) (seen : ℕ) → x.local ≡ local → ClosesOwn p n x.local → K (steps.advance p x local seen)
  advance Idle seen is own = record { closes = own }
  advance (Ends ending) seen is own = record { closes = own }
  advance (SendEnds d last count) seen is own = record { closes = own }
  advance (LendEmpties o w place left) seen is own = sent.loan_emptied p n x o w left _ _
  advance (SendEmpties d w place left) seen is own = sent.send_emptied p n x d w left _ _
  advance (LendStores o slot next) seen is own = sent.loan_stored p n x o slot next
  advance (Writes e words next) seen is own = sent.word_written p n x e words next
  advance (SendAsks d) seen is own = sent.asked p n x d _
  advance (SendLooks d w place left full) seen is own = sent.send_looked p n x d w left full _ _
  advance (SendOpens d w left full) seen is own = sent.opening p n x d left full
  advance (SendPushes d last w place left count) seen is own = sent.send_pushed p n x d last w left count _ _
  advance (SendEvicts d w place left count) seen is own = sent.send_evicted p n x d w left count _ _
  advance (SendGetsBack d w place left count) seen is own = sent.send_got_back p n x d w left count _ _
  advance (ReceiveLooks v w place left waiting) seen is own = looked v w left waiting _ _
  advance (ReceivePops v w more place left waiting) seen is own = popped v w more left waiting _ _
  advance (ReceiveLoads v w slot header left waiting) seen is own = loaded v w slot _ left waiting
  advance (ReceiveAsks v w slot header left waiting) seen is own = judged v w slot header left waiting _
  advance (ReceiveReturns v w slot place left waiting) seen is own = returned v w slot left waiting _ _
  advance (Reads e words) seen is own = either p n _ _ _ (placed p n x _ (tt {0})) (placed p n x _ (tt {0}))
  advance (ReleaseCloses e w left) seen is own = closing e left (subst (ClosesOwn p n) is own).1
  advance (ReleaseReturns e place) seen is own = release_returned e _ _
  advance (ReleaseLooks e) seen is own = release_looked e seen
  advance (ReleaseExchanges e old) seen is own = either p n _ _ _ (placed p n x _ (tt {0})) (release_looked e seen)
  advance (Checks e hinted w left) seen is own = either p n _ _ _ (placed p n x _ (tt {0})) (checking e hinted left)
  advance (Hints e w left) seen is own = either p n _ _ _ (placed p n x _ (tt {0})) (hinting e left)
  advance (HintExchanges e w left) seen is own = hinting e left
  advance (Seeks w place left) seen is own = sought w left _ _
