-- No place of a call counts an access: the courses of a call leave that count.
use Rattle.iox_steps.specs.declared.side.Pushing.TheVariants as pushing
use Rattle.iox_wire_calls.specs.Courses as courses
use Rattle.iox_wire_calls.specs.ReceiveCourses as receives
use Rattle.iox_wire_calls.specs.Findings as findings
use Rattle.iox_wire_calls.specs.ReceiveFindings as found
use Rattle.iox_wire_calls.specs.Steps as steps
use Rattle.iox_wire_calls.specs.Settlements as settle
use Rattle.iox_wire_calls.specs.Lendings as lendings
use Rattle.iox_wire_calls.specs.Ending.TheVariants as endings
use Rattle.iox_model.specs.declared.call.Call.TheVariants as calls
use Rattle.iox_model.specs.declared.call.WireCall.TheVariants as wire_calls
use Rattle.iox_wire_calls.specs.Begins as begins
use Rattle.iox_model.specs.Peers.{forgot_port, others, port_at}
use Rattle.iox_steps.specs.declared.side.QueueEvent.TheVariants.{Evict, HandOut, Learn, Publish, SeesEmpty, SeesFull, SeesRoom, SeesWaiting}
use Rattle.iox_model.specs.Handles.{is_received, is_request_loan, same_kind}
use Rattle.std.specs.Prelude.{Bool, List, None, Option, Some, [], false, if◌then◌else◌, length, map, not, refl, true, ◌&&◌, ◌++◌, ◌+◌, ◌==◌, ◌∷◌, ◌≡◌, ℕ}
use Rattle.iox_wire_calls.specs.Local.TheVariants.{Checks, HintExchanges, Hints, LendEmpties, LendStores, Reads, ReceiveAsks, ReceiveLoads, ReceiveLooks, ReceivePops, ReceiveReturns, ReleaseCloses, ReleaseExchanges, ReleaseLooks, ReleaseReturns, Seeks, SendAsks, SendEmpties, SendEvicts, SendGetsBack, SendLooks, SendOpens, SendPushes, Writes}
use Rattle.iox_wire_calls.specs.Known.{free_slots, known, sending, told_handle}
use Rattle.iox_model.specs.Messages.{names, names_with_hint, request_way}
use Rattle.iox_model.specs.Commands.{Call, WireCall, number_of}
use Rattle.iox_steps.specs.declared.side.Pushing.{Pushing}
use Rattle.iox_wire_calls.specs.Ending.{Ending}
use Rattle.iox_wire_calls.specs.Seat.{Seat}
use Rattle.iox_wire_calls.specs.NewLoan.{NewLoan}
use Rattle.iox_wire_calls.specs.NewLoans.{entry_in, loan_in, loan_words, received_length, request_in}
use Rattle.iox_wire_calls.specs.Tables.{Setting, entry_at, way_in, words_to_read}
use Rattle.iox_wire_calls.specs.Entry.{Entry}
use Rattle.iox_wire_calls.specs.Locals.{state_told}
use Rattle.iox_wire_calls.specs.Desks.{at_desk, delivers, gets_back}
use Rattle.iox_model.specs.Requests.{is_active_spent, targets, to_open}
use Rattle.iox_model.specs.declared.kind.Kind.TheVariants.{ActiveRequest, PendingResponse}
use Rattle.iox_model.specs.Maps.{has_number, not_in}
use Rattle.std.proofs.Common.{◌∙◌}
use Rattle.iox_model.specs.Settings.{is_client, is_count}
use Rattle.iox_model.specs.declared.kind.Role.TheVariants.{Client, Server}
use Rattle.iox_wire_calls.specs.Steps.{accessed, next}
use Rattle.iox_model.specs.Receives.{is_at_limit}
use Rattle.iox_model.specs.Looks.{is_shown}
use Rattle.iox_wire_calls.specs.CallRefusal.{CallRefusal}
use Rattle.iox_wire_calls.specs.Delivery.{Delivery}
use Rattle.iox_model.specs.Loans.{lending_ways}
use Rattle.iox_wire_calls.specs.Local.{Local}
use Rattle.iox_steps.specs.declared.side.QueueEvent.{QueueEvent}
use Rattle.iox_model.specs.declared.way.RequestState.{RequestState}
use Rattle.iox_model.specs.States.{Port}
use Rattle.std.specs.List.{list_any}
use Rattle.iox_steps.specs.declared.side.Popping.{Popping}
use Rattle.iox_model.specs.declared.way.Way.{Way}
use Rattle.iox_wire_calls.specs.Visit.{Visit}

module _ (p : Setting) (x : Seat) where
  abbrev K : Seat → Type 0
  K y = y.accesses ≡ x.accesses

  pub either : (b : Bool) (y z : Seat) → K y → K z → K (if b then y else z)
  either true y z here there = here
  either false y z here there = there

  -- ---- sends

  pub delivering : (d : Delivery) (last : Option Way) (left : List Way) (count : ℕ) → K (courses.delivering x d last left count)
  delivering d last [] count = refl
  delivering d last (w ∷ left) count = refl

  opening : (d : Delivery) (left full : List Way) → K (courses.opening p x d left full)
  opening d [] full = delivering d None (not_in full (targets (sending p x d))) 0
  opening d (w ∷ left) full = refl

  looking : (d : Delivery) (left full : List Way) → K (courses.looking p x d left full)
  looking d [] full = either (list_any (sending p x d).fails full) _ _ refl (opening d (to_open (sending p x d)) full)
  looking d (w ∷ left) full = refl

  emptying : (d : Delivery) (left : List Way) → K (courses.emptying p x d left)
  emptying d [] = either (sending p x d).overflow _ _ (opening d (to_open (sending p x d)) []) (looking d (targets (sending p x d)) [])
  emptying d (w ∷ left) = refl

  sends_request : (d : Delivery) → K (courses.sends_request p x d)
  sends_request d = either (is_active_spent (known p x) (told_handle p x.node d.loan)) _ _ refl (emptying d (map (request_way d.loan.port) d.to))

  sends_response : (d : Delivery) → K (courses.sends_response p x d)
  sends_response d = either (has_number d.loan.client (others (known p x) x.node Client)) _ _ refl refl

  pub sends : (e : Entry) (copied : Bool) → K (courses.sends p x e copied)
  sends e copied = either (is_request_loan e.kind) _ _ (sends_request (record { loan = e; copied = copied; to = others (known p x) x.node Server })) (sends_response (record { loan = e; copied = copied; to = e.client ∷ [] }))

  asked : (d : Delivery) (shown : RequestState) → K (courses.asked p x d shown)
  asked d shown = either (names shown d.loan.request) _ _ (emptying d (targets (sending p x d))) refl

  -- ---- loans and writes

  takes_slot : (o : NewLoan) (free : List ℕ) → K (courses.takes_slot x o free)
  takes_slot o [] = refl
  takes_slot o (slot ∷ free) = refl

  pub loaning : (o : NewLoan) (left : List Way) → K (courses.loaning x o left)
  loaning o [] = takes_slot o (free_slots x o.port)
  loaning o (w ∷ left) = refl

  lent : (o : NewLoan) (slot : ℕ) → K (courses.lent p x o slot)
  lent o slot = either o.copies _ _ (sends (entry_in o slot) true) refl

  loan_emptied : (o : NewLoan) (w : Way) (left : List Way) (place : Popping) (event : QueueEvent) → K (findings.loan_emptied x o w left place event)
  loan_emptied o w left place (HandOut slot) = refl
  loan_emptied o w left place SeesEmpty = loaning o left
  loan_emptied o w left place event = refl

  send_emptied : (d : Delivery) (w : Way) (left : List Way) (place : Popping) (event : QueueEvent) → K (findings.send_emptied p x d w left place event)
  send_emptied d w left place (HandOut slot) = refl
  send_emptied d w left place SeesEmpty = emptying d left
  send_emptied d w left place event = refl

  send_looked : (d : Delivery) (w : Way) (left full : List Way) (place : Pushing) (event : QueueEvent) → K (findings.send_looked p x d w left full place event)
  send_looked d w left full place SeesFull = looking d left (w ∷ full)
  send_looked d w left full place SeesRoom = looking d left full
  send_looked d w left full place event = refl

  send_evicted : (d : Delivery) (w : Way) (left : List Way) (count : ℕ) (place : Pushing) (event : QueueEvent) → K (findings.send_evicted x d w left count place event)
  send_evicted d w left count place Evict = refl
  send_evicted d w left count place event = delivering d (Some w) left count

  -- ---- receives

  visiting : (v : Visit) (left : List Way) (waiting : Bool) → K (receives.visiting p x v left waiting)
  visiting v [] waiting = refl
  visiting v (w ∷ left) waiting = either (is_at_limit (known p x) w) _ _ refl refl

  stale : (v : Visit) (w : Way) (slot : ℕ) (left : List Way) (waiting : Bool) → K (receives.stale p x v w slot left waiting)
  stale v w slot left waiting = either (forgot_port (known p x) x.node w.sender) _ _ refl refl

  took : (v : Visit) (w : Way) (slot : ℕ) (header : List ℕ) (left : List Way) (waiting : Bool) → K (receives.took p x v w slot header left waiting)
  took v w slot header left waiting =
      either (is_client v.role) _ _ (either (request_in v header == v.request) _ _ refl (stale v w slot left waiting)) (either p.limits.fire_and_forget _ _ refl refl)

  looked : (v : Visit) (w : Way) (left : List Way) (waiting : Bool) (place : Popping) (event : QueueEvent) → K (found.receive_looked p x v w left waiting place event)
  looked v w left waiting place SeesEmpty = visiting v left waiting
  looked v w left waiting place SeesWaiting = visiting v left true
  looked v w left waiting place event = refl

  popped : (v : Visit) (w : Way) (more : Bool) (left : List Way) (waiting : Bool) (place : Popping) (event : QueueEvent) → K (found.receive_popped p x v w more left waiting place event)
  popped v w more left waiting place (HandOut slot) = refl
  popped v w more left waiting place SeesEmpty = visiting v left waiting
  popped v w more left waiting place event = refl

  returned : (v : Visit) (w : Way) (slot : ℕ) (left : List Way) (waiting : Bool) (place : Pushing) (event : QueueEvent) → K (found.receive_returned x v w slot left waiting place event)
  returned v w slot left waiting place (Publish given) = refl
  returned v w slot left waiting place event = refl

  -- ---- releases, questions and hints

  seeking : (left : List Way) → K (receives.seeking x left)
  seeking [] = refl
  seeking (w ∷ left) = refl

  sought : (w : Way) (left : List Way) (place : Popping) (event : QueueEvent) → K (found.sought x w left place event)
  sought w left place SeesEmpty = seeking left
  sought w left place SeesWaiting = refl
  sought w left place event = refl

  closing : (e : Entry) (left : List Way) → K (receives.closing x e left)
  closing e [] = refl
  closing e (w ∷ left) = refl

  checking : (e : Entry) (hinted : Bool) (left : List Way) → K (receives.checking x e hinted left)
  checking e hinted [] = refl
  checking e hinted (w ∷ left) = refl

  hinting : (e : Entry) (left : List Way) → K (receives.hinting x e left)
  hinting e [] = refl
  hinting e (w ∷ left) = refl

  release_returned : (e : Entry) (place : Pushing) (event : QueueEvent) → K (found.release_returned x e place event)
  release_returned e place (Publish slot) = either (same_kind e.kind ActiveRequest) _ _ refl refl
  release_returned e place event = refl

  release_looked : (e : Entry) (seen : ℕ) → K (found.release_looked x e seen)
  release_looked e seen = either (names (state_told seen) e.request) _ _ refl refl

  -- ---- begins

  lends : (r : Option CallRefusal) (o : NewLoan) → K (lendings.lends p x r o)
  lends (Some r) o = refl
  lends None o = loaning o (lending_ways (known p x) (loan_in p o))

  lends_request : (q : Port) (k : ℕ) (payload : List ℕ) (copies : Bool) → K (lendings.lends_request p x q k payload copies)
  lends_request q k payload copies = either (is_count p.limits.request k) _ _ (lends (lendings.request_refusal p x q k) (lendings.new_request p x q k payload copies)) refl

  lends_response : (e : Entry) (k : ℕ) (payload : List ℕ) (copies : Bool) → K (lendings.lends_response p x e k payload copies)
  lends_response e k payload copies =
      either (is_count p.limits.response k) _ _ (lends (lendings.response_refusal p x e (p.port e.port) k) (lendings.new_response p x e k payload copies)) refl

  copies_request : (q : Port) (k : Option ℕ) (words : List ℕ) → K (lendings.copies_request p x q k words)
  copies_request q None words = refl
  copies_request q (Some k) words = lends_request q k words true

  copies_response : (e : Entry) (k : Option ℕ) (words : List ℕ) → K (lendings.copies_response p x e k words)
  copies_response e None words = refl
  copies_response e (Some k) words = lends_response e k words true

  writing : (e : Entry) (words : List ℕ) → K (begins.writing x e words)
  writing e [] = refl
  writing e (word ∷ words) = refl

  writes : (e : Entry) (k : Option ℕ) (words : List ℕ) → K (begins.writes x e k words)
  writes e None words = refl
  writes e (Some k) words = either (k == e.elements) _ _ (writing e words) refl

  releasing : (e : Entry) → K (receives.releasing p x e)
  releasing e =
      either (is_received e.kind) _ _ (either (forgot_port (known p x) x.node (way_in e).sender) _ _ refl refl)
      (either (same_kind e.kind PendingResponse) _ _ (closing e (receives.states_for p x e)) refl)

  at_port : (call : Call) (q : Port) → K (begins.begins_at_port p x call q)
  at_port (calls.Loan n k) q = lends_request q k [] false
  at_port (calls.SendCopy n y) q = copies_request q y.elements y.words
  at_port (calls.Receive n) q = visiting _ _ false
  at_port (calls.HasRequests n) q = seeking _
  at_port call q = refl

  at_entry : (call : Call) (e : Entry) → K (begins.begins_at_entry p x call e)
  at_entry (calls.Loan n k) e = lends_response e k [] false
  at_entry (calls.Write n y) e = writes e y.elements y.words
  at_entry (calls.Send n) e = sends e false
  at_entry (calls.SendCopy n y) e = copies_response e y.elements y.words
  at_entry (calls.Receive n) e = visiting _ _ false
  at_entry (calls.Read n) e = either (words_to_read p e == 0) _ _ refl refl
  at_entry (calls.Release n) e = releasing e
  at_entry (calls.IsConnected n) e = checking e false _
  at_entry (calls.SetHint n) e = hinting e _
  at_entry (calls.HasHint n) e = checking e true _
  at_entry (calls.HasResponse n) e = seeking _
  at_entry call e = refl

  at : (call : Call) (q : Option Port) (e : Option Entry) → K (begins.begins_at p x call q e)
  at call (Some q) e = at_port call q
  at call None (Some e) = at_entry call e
  at call None None = refl

  pub begun : (call : WireCall) → K (begins.begin p x call)
  begun (wire_calls.Port call) = at call (port_at (known p x) (number_of call)) (entry_at (number_of call) x.table)
  begun (wire_calls.Forget dead) = refl

-- ---- deliveries, at desks that record them

send_delivered : (p : Setting) (x : Seat) (d : Delivery) (w : Way) (left : List Way) (count : ℕ) (place : Pushing) → (findings.send_delivered p x d w left count place).accesses ≡ x.accesses
send_delivered p x d w left count pushing.AtRest = delivering p x d _ left count
send_delivered p x d w left count place = refl

send_pushed : (p : Setting) (x : Seat) (d : Delivery) (last : Option Way) (w : Way) (left : List Way) (count : ℕ) (place : Pushing) (event : QueueEvent)
    → (findings.send_pushed p x d last w left count place event).accesses ≡ x.accesses
send_pushed p x d last w left count place (Publish slot) = send_delivered p (at_desk x d.loan.port (delivers w slot)) d w left (count + 1) place
send_pushed p x d last w left count place event = refl

send_got_back : (p : Setting) (x : Seat) (d : Delivery) (w : Way) (left : List Way) (count : ℕ) (place : Pushing) (event : QueueEvent)
    → (findings.send_got_back x d w left count place event).accesses ≡ x.accesses
send_got_back p x d w left count place (Learn slot) = delivering p (at_desk x d.loan.port (gets_back w slot)) d None left count
send_got_back p x d w left count place event = refl

-- ---- accesses and ends

pub advanced : (p : Setting) (x : Seat) (local : Local) (seen : ℕ) → (steps.advance p x local seen).accesses ≡ x.accesses
advanced p x (LendEmpties o w place left) seen = loan_emptied p x o w left _ _
advanced p x (LendStores o slot next) seen = either p x (next + 1 == length (loan_words p o)) _ _ (lent p x o slot) refl
advanced p x (Writes e words next) seen = either p x (next + 1 == length words) _ _ refl refl
advanced p x (SendAsks d) seen = asked p x d (state_told seen)
advanced p x (SendEmpties d w place left) seen = send_emptied p x d w left _ _
advanced p x (SendLooks d w place left full) seen = send_looked p x d w left full _ _
advanced p x (SendOpens d w left full) seen = opening p x d left full
advanced p x (SendPushes d last w place left count) seen = send_pushed p x d last w left count _ _
advanced p x (SendEvicts d w place left count) seen = send_evicted p x d w left count _ _
advanced p x (SendGetsBack d w place left count) seen = send_got_back p x d w left count _ _
advanced p x (ReceiveLooks v w place left waiting) seen = looked p x v w left waiting _ _
advanced p x (ReceivePops v w more place left waiting) seen = popped p x v w more left waiting _ _
advanced p x (ReceiveLoads v w slot header left waiting) seen =
    either p x (length (header ++ seen ∷ []) == received_length v) _ _ (took p x v w slot (header ++ seen ∷ []) left waiting) refl
advanced p x (ReceiveAsks v w slot header left waiting) seen = either p x (names (state_told seen) (request_in v header)) _ _ refl refl
advanced p x (ReceiveReturns v w slot place left waiting) seen = returned p x v w slot left waiting _ _
advanced p x (Reads e words) seen = either p x (length (words ++ seen ∷ []) == words_to_read p e) _ _ refl refl
advanced p x (ReleaseCloses e w left) seen = closing p x e left
advanced p x (ReleaseReturns e place) seen = release_returned p x e _ _
advanced p x (ReleaseLooks e) seen = release_looked p x e seen
advanced p x (ReleaseExchanges e old) seen = either p x (seen == old) _ _ refl (release_looked p x e seen)
advanced p x (Checks e hinted w left) seen = either p x (is_shown (told_handle p x.node e) hinted (state_told seen)) _ _ refl (checking p x e hinted left)
advanced p x (Hints e w left) seen =
    either p x (names (state_told seen) e.request && not (names_with_hint (state_told seen) e.request)) _ _ refl (hinting p x e left)
advanced p x (HintExchanges e w left) seen = hinting p x e left
advanced p x (Seeks w place left) seen = sought p x w left _ _
advanced p x local seen = refl

-- ---- ends

module _ (p : Setting) (x : Seat) where
  sent : (e : Entry) (copied : Bool) (count : ℕ) → (settle.after_send x e copied count).accesses ≡ x.accesses
  sent e true count = either p x (is_request_loan e.kind) _ _ refl refl
  sent e false count = either p x (is_request_loan e.kind) _ _ refl refl

  settled : (ending : Ending) → (settle.settled p x ending).accesses ≡ x.accesses
  settled (endings.Sends e copied count) = sent e copied count
  settled (endings.FailsToSend e true r) = refl
  settled (endings.FailsToSend e false r) = refl
  settled (endings.Drops e) = either p x (is_received e.kind) _ _ refl refl
  settled (endings.Forgets dead) = either p x (has_number dead x.forgot) _ _ refl refl
  settled ending = refl

  pub ended : (ending : Option Ending) → (steps.closed p x ending).accesses ≡ x.accesses
  ended (Some ending) = settled ending
  ended None = refl

-- one more access is counted by a step
pub stepped : (p : Setting) (x : Seat) (seen : ℕ) → (steps.next p x seen).accesses ≡ x.accesses + 1
stepped p x seen =
    ended p (steps.advance p (steps.accessed x) x.local seen) (steps.ending_at (steps.advance p (steps.accessed x) x.local seen).local)
    ∙ advanced p (steps.accessed x) x.local seen
