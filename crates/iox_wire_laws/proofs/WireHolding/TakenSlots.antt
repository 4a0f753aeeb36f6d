-- As a call begins, a loan takes one of its port's free slots, if it takes one.
use Rattle.std.specs.Prelude.{if◌then◌else◌, map}
use Rattle.std.specs.List.{list_any}
use Rattle.std.proofs.Common.{◌≡◌, ℕ, Bool, true, false, ◌==◌, List, [], ◌∷◌, Option, Some, None}
use Rattle.iox_model.specs.declared.call.Call.TheVariants as calls
use Rattle.iox_model.specs.declared.call.WireCall.TheVariants as wire_calls
use Rattle.iox_model.specs.declared.kind.Kind.TheVariants.{PendingResponse}
use Rattle.iox_model.specs.declared.kind.Role.TheVariants.{Client, Server}
use Rattle.iox_model.specs.declared.way.Way.{Way}
use Rattle.iox_model.specs.Commands.{Call, WireCall, number_of}
use Rattle.iox_model.specs.Handles.{is_received, is_request_loan, same_kind}
use Rattle.iox_model.specs.Loans.{lending_ways}
use Rattle.iox_model.specs.Maps.{has_number}
use Rattle.iox_model.specs.Messages.{request_way}
use Rattle.iox_model.specs.Peers.{forgot_port, others, port_at}
use Rattle.iox_model.specs.Receives.{is_at_limit}
use Rattle.iox_model.specs.Requests.{is_active_spent, targets, to_open}
use Rattle.iox_model.specs.Settings.{is_count}
use Rattle.iox_model.specs.States.{Port}
use Rattle.iox_laws.proofs.WeaveLaws.MapLemmas.{eqb-refl}
use Rattle.iox_laws.proofs.WeaveLedger.Truths.{or-left}
use Rattle.iox_wire_locals.specs.declared.local.CallRefusal.{CallRefusal}
use Rattle.iox_wire_locals.specs.declared.local.Delivery.{Delivery}
use Rattle.iox_wire_locals.specs.declared.local.Ending.TheVariants as endings
use Rattle.iox_wire_locals.specs.declared.local.Local.{Local}
use Rattle.iox_wire_locals.specs.declared.local.Local.TheVariants.{LendStores, SendAsks}
use Rattle.iox_wire_locals.specs.declared.local.Visit.{Visit}
use Rattle.iox_wire_locals.specs.declared.seat.Seat.{Seat}
use Rattle.iox_wire_locals.specs.declared.table.Entry.{Entry}
use Rattle.iox_wire_locals.specs.declared.table.NewLoan.{NewLoan}
use Rattle.iox_wire_locals.specs.Begins as begins
use Rattle.iox_wire_locals.specs.Courses as courses
use Rattle.iox_wire_locals.specs.Known.{free_slots, known, sending, told_handle}
use Rattle.iox_wire_locals.specs.Lendings as lendings
use Rattle.iox_wire_locals.specs.NewLoans.{loan_in}
use Rattle.iox_wire_locals.specs.ReceiveCourses as receives
use Rattle.iox_wire_locals.specs.Tables.{Setting, entry_at, way_in, words_to_read}

-- the slot that a loan has taken was a free one
abbrev pub TakesFree : Seat → Local → Type 0
TakesFree x (LendStores o slot next) = has_number slot (free_slots x o.port) ≡ true
TakesFree x local = Unit {0}

module _ (p : Setting) (x : Seat) where
  abbrev K : Seat → Type 0
  K y = TakesFree x y.local

  either : (b : Bool) (y z : Seat) → K y → K z → K (if b then y else z)
  either true y z here there = here
  either false y z here there = there

  -- ---- sends

  delivering : (d : Delivery) (last : Option Way) (left : List Way) (count : ℕ) → K (courses.delivering x d last left count)
  delivering d last [] count = tt
  delivering d last (w ∷ left) count = tt

  opening : (d : Delivery) (left full : List Way) → K (courses.opening p x d left full)
  opening d [] full = delivering d None _ 0
  opening d (w ∷ left) full = tt

  looking : (d : Delivery) (left full : List Way) → K (courses.looking p x d left full)
  looking d [] full = either (list_any (sending p x d).fails full) _ (courses.opening p x d (to_open (sending p x d)) full) tt (opening d (to_open (sending p x d)) full)
  looking d (w ∷ left) full = tt

  emptying : (d : Delivery) (left : List Way) → K (courses.emptying p x d left)
  emptying d [] =
      either (sending p x d).overflow (courses.opening p x d (to_open (sending p x d)) []) (courses.looking p x d (targets (sending p x d)) [])
      (opening d (to_open (sending p x d)) []) (looking d (targets (sending p x d)) [])
  emptying d (w ∷ left) = tt

  sends_request : (d : Delivery) → K (courses.sends_request p x d)
  sends_request d =
      either (is_active_spent (known p x) (told_handle p x.node d.loan)) _ (courses.emptying p x d (map (request_way d.loan.port) d.to)) tt
      (emptying d (map (request_way d.loan.port) d.to))

  sends_response : (d : Delivery) → K (courses.sends_response p x d)
  sends_response d =
      either (has_number d.loan.client (others (known p x) x.node Client)) (courses.placed x (SendAsks d)) (courses.ended x (endings.Sends d.loan d.copied 0)) tt tt

  sends : (e : Entry) (copied : Bool) → K (courses.sends p x e copied)
  sends e copied =
      either (is_request_loan e.kind) (courses.sends_request p x (record { loan = e; copied = copied; to = others (known p x) x.node Server }))
      (courses.sends_response p x (record { loan = e; copied = copied; to = e.client ∷ [] })) (sends_request _) (sends_response _)

  -- ---- loans

  takes_slot : (o : NewLoan) (free : List ℕ) → ((slot : ℕ) → has_number slot free ≡ true → has_number slot (free_slots x o.port) ≡ true)
      → K (courses.takes_slot x o free)
  takes_slot o [] there = tt
  takes_slot o (slot ∷ free) there = there slot (or-left (slot == slot) (has_number slot free) (eqb-refl slot))

  loaning : (o : NewLoan) (left : List Way) → K (courses.loaning x o left)
  loaning o [] = takes_slot o (free_slots x o.port) (λ slot there. there)
  loaning o (w ∷ left) = tt

  lends : (r : Option CallRefusal) (o : NewLoan) → K (lendings.lends p x r o)
  lends (Some r) o = tt
  lends None o = loaning o (lending_ways (known p x) (loan_in p o))

  lends_request : (q : Port) (k : ℕ) (payload : List ℕ) (copies : Bool) → K (lendings.lends_request p x q k payload copies)
  lends_request q k payload copies =
      either (is_count p.limits.request k)
      (lendings.lends p x (lendings.request_refusal p x q k) (lendings.new_request p x q k payload copies)) _
      (lends (lendings.request_refusal p x q k) (lendings.new_request p x q k payload copies)) tt

  lends_response : (e : Entry) (k : ℕ) (payload : List ℕ) (copies : Bool) → K (lendings.lends_response p x e k payload copies)
  lends_response e k payload copies =
      either (is_count p.limits.response k)
      (lendings.lends p x (lendings.response_refusal p x e (p.port e.port) k) (lendings.new_response p x e k payload copies)) _
      (lends (lendings.response_refusal p x e (p.port e.port) k) (lendings.new_response p x e k payload copies)) tt

  copies_request : (q : Port) (k : Option ℕ) (words : List ℕ) → K (lendings.copies_request p x q k words)
  copies_request q None words = tt
  copies_request q (Some k) words = lends_request q k words true

  copies_response : (e : Entry) (k : Option ℕ) (words : List ℕ) → K (lendings.copies_response p x e k words)
  copies_response e None words = tt
  copies_response e (Some k) words = lends_response e k words true

  -- ---- words, receives, releases and questions

  writing : (e : Entry) (words : List ℕ) → K (begins.writing x e words)
  writing e [] = tt
  writing e (word ∷ words) = tt

  writes : (e : Entry) (k : Option ℕ) (words : List ℕ) → K (begins.writes x e k words)
  writes e None words = tt
  writes e (Some k) words = either (k == e.elements) _ _ (writing e words) tt

  visiting : (v : Visit) (left : List Way) (waiting : Bool) → K (receives.visiting p x v left waiting)
  visiting v [] waiting = tt
  visiting v (w ∷ left) waiting = either (is_at_limit (known p x) w) _ _ tt tt

  seeking : (left : List Way) → K (receives.seeking x left)
  seeking [] = tt
  seeking (w ∷ left) = tt

  closing : (e : Entry) (left : List Way) → K (receives.closing x e left)
  closing e [] = tt
  closing e (w ∷ left) = tt

  returning : (e : Entry) → K (receives.returning p x e)
  returning e = either (forgot_port (known p x) x.node (way_in e).sender) _ _ tt tt

  releasing : (e : Entry) → K (receives.releasing p x e)
  releasing e =
      either (is_received e.kind) _ _ (returning e)
      (either (same_kind e.kind PendingResponse) _ _ (closing e (receives.states_for p x e)) tt)

  checking : (e : Entry) (hinted : Bool) (left : List Way) → K (receives.checking x e hinted left)
  checking e hinted [] = tt
  checking e hinted (w ∷ left) = tt

  hinting : (e : Entry) (left : List Way) → K (receives.hinting x e left)
  hinting e [] = tt
  hinting e (w ∷ left) = tt

  -- ---- begins

  at_port : (call : Call) (q : Port) → K (begins.begins_at_port p x call q)
  at_port (calls.Loan n k) q = lends_request q k [] false
  at_port (calls.SendCopy n y) q = copies_request q y.elements y.words
  at_port (calls.Receive n) q = visiting _ _ false
  at_port (calls.HasRequests n) q = seeking _
  at_port call q = tt

  at_entry : (call : Call) (e : Entry) → K (begins.begins_at_entry p x call e)
  at_entry (calls.Loan n k) e = lends_response e k [] false
  at_entry (calls.Write n y) e = writes e y.elements y.words
  at_entry (calls.Send n) e = sends e false
  at_entry (calls.SendCopy n y) e = copies_response e y.elements y.words
  at_entry (calls.Receive n) e = visiting _ _ false
  at_entry (calls.Read n) e = either (words_to_read p e == 0) _ _ tt tt
  at_entry (calls.Release n) e = releasing e
  at_entry (calls.IsConnected n) e = checking e false _
  at_entry (calls.SetHint n) e = hinting e _
  at_entry (calls.HasHint n) e = checking e true _
  at_entry (calls.HasResponse n) e = seeking _
  at_entry call e = tt

  at : (call : Call) (q : Option Port) (e : Option Entry) → K (begins.begins_at p x call q e)
  at call (Some q) e = at_port call q
  at call None (Some e) = at_entry call e
  at call None None = tt

  pub begin : (call : WireCall) → K (begins.begin p x call)
  begin (wire_calls.Port call) = at call (port_at (known p x) (number_of call)) (entry_at (number_of call) x.table)
  begin (wire_calls.Forget dead) = tt
