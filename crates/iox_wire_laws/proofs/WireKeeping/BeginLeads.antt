-- As a call begins, the program of its first place made no access yet, and the node's own part is
-- as it was.
use Rattle.std.proofs.Common.{ℕ, Bool, true, false, ◌==◌, List, [], ◌∷◌, Option, Some, None, refl}
use Rattle.iox_model.specs.declared.call.Call.TheVariants as calls
use Rattle.iox_model.specs.declared.call.WireCall.TheVariants as wire_calls
use Rattle.iox_model.specs.declared.kind.Kind.TheVariants.{PendingResponse}
use Rattle.iox_model.specs.Commands.{Call, WireCall, number_of}
use Rattle.iox_model.specs.Handles.{is_received, same_kind}
use Rattle.iox_model.specs.Loans.{lending_ways}
use Rattle.iox_model.specs.Peers.{port_at, forgot_port}
use Rattle.iox_model.specs.Settings.{is_count}
use Rattle.iox_model.specs.States.{Port}
use Rattle.iox_wire_locals.specs.declared.table.Entry.{Entry}
use Rattle.iox_wire_locals.specs.declared.table.NewLoan.{NewLoan}
use Rattle.iox_wire_locals.specs.declared.local.CallRefusal.{CallRefusal}
use Rattle.iox_wire_locals.specs.declared.seat.Seat.{Seat}
use Rattle.iox_wire_locals.specs.Tables.{Setting, way_in, words_to_read, entry_at}
use Rattle.iox_wire_locals.specs.NewLoans.{loan_in}
use Rattle.iox_wire_locals.specs.Known.{known}
use Rattle.iox_wire_locals.specs.ReceiveCourses as receives
use Rattle.iox_wire_locals.specs.Lendings as lendings
use Rattle.iox_wire_locals.specs.Begins as begins
use Rattle.iox_wire_laws.proofs.WireKeeping.CourseLeads as course
use Rattle.iox_wire_laws.proofs.WireKeeping.CourseLeads.{Leads}

module _ (p : Setting) (x : Seat) where
  abbrev K : Seat → Type 0
  K y = Leads p x y

  -- ---- loans

  lends : (r : Option CallRefusal) (o : NewLoan) → K (lendings.lends p x r o)
  lends (Some r) o = course.rests p x _ tt
  lends None o = course.loaning p x o (lending_ways (known p x) (loan_in p o))

  lends_request : (q : Port) (k : ℕ) (payload : List ℕ) (copies : Bool) → K (lendings.lends_request p x q k payload copies)
  lends_request q k payload copies =
      course.either p x (is_count p.limits.request k)
      (lendings.lends p x (lendings.request_refusal p x q k) (lendings.new_request p x q k payload copies)) _
      (lends (lendings.request_refusal p x q k) (lendings.new_request p x q k payload copies)) (course.rests p x _ tt)

  lends_response : (e : Entry) (k : ℕ) (payload : List ℕ) (copies : Bool) → K (lendings.lends_response p x e k payload copies)
  lends_response e k payload copies =
      course.either p x (is_count p.limits.response k)
      (lendings.lends p x (lendings.response_refusal p x e (p.port e.port) k) (lendings.new_response p x e k payload copies)) _
      (lends (lendings.response_refusal p x e (p.port e.port) k) (lendings.new_response p x e k payload copies)) (course.rests p x _ tt)

  copies_request : (q : Port) (k : Option ℕ) (words : List ℕ) → K (lendings.copies_request p x q k words)
  copies_request q None words = course.rests p x _ tt
  copies_request q (Some k) words = lends_request q k words true

  copies_response : (e : Entry) (k : Option ℕ) (words : List ℕ) → K (lendings.copies_response p x e k words)
  copies_response e None words = course.rests p x _ tt
  copies_response e (Some k) words = lends_response e k words true

  -- ---- words

  writing : (e : Entry) (words : List ℕ) → K (begins.writing x e words)
  writing e [] = course.rests p x _ tt
  writing e (word ∷ words) = course.rests p x _ tt

  writes : (e : Entry) (k : Option ℕ) (words : List ℕ) → K (begins.writes x e k words)
  writes e None words = course.rests p x _ tt
  writes e (Some k) words = course.either p x (k == e.elements) _ _ (writing e words) (course.rests p x _ tt)

  reads : (e : Entry) → K (begins.reads p x e)
  reads e = course.either p x (words_to_read p e == 0) _ _ (course.rests p x _ tt) (course.rests p x _ tt)

  -- ---- releases

  returning : (e : Entry) → K (receives.returning p x e)
  returning e = course.either p x (forgot_port (known p x) x.node (way_in e).sender) _ _ (course.rests p x _ tt) (course.rests p x _ refl)

  releasing : (e : Entry) → K (receives.releasing p x e)
  releasing e =
      course.either p x (is_received e.kind) _ _ (returning e)
      (course.either p x (same_kind e.kind PendingResponse) _ _ (course.closing p x e (receives.states_for p x e)) (course.rests p x _ tt))

  -- ---- begins

  at_port : (call : Call) (q : Port) → K (begins.begins_at_port p x call q)
  at_port (calls.Loan n k) q = lends_request q k [] false
  at_port (calls.SendCopy n y) q = copies_request q y.elements y.words
  at_port (calls.Receive n) q = course.visiting p x _ _ false
  at_port (calls.HasRequests n) q = course.seeking p x _
  at_port call q = course.rests p x _ tt

  at_entry : (call : Call) (e : Entry) → K (begins.begins_at_entry p x call e)
  at_entry (calls.Loan n k) e = lends_response e k [] false
  at_entry (calls.Write n y) e = writes e y.elements y.words
  at_entry (calls.Send n) e = course.sends p x e false
  at_entry (calls.SendCopy n y) e = copies_response e y.elements y.words
  at_entry (calls.Receive n) e = course.visiting p x _ _ false
  at_entry (calls.Read n) e = reads e
  at_entry (calls.Release n) e = releasing e
  at_entry (calls.IsConnected n) e = course.checking p x e false _
  at_entry (calls.SetHint n) e = course.hinting p x e _
  at_entry (calls.HasHint n) e = course.checking p x e true _
  at_entry (calls.HasResponse n) e = course.seeking p x _
  at_entry call e = course.rests p x _ tt

  pub begins_at : (call : Call) (q : Option Port) (e : Option Entry) → K (begins.begins_at p x call q e)
  begins_at call (Some q) e = at_port call q
  begins_at call None (Some e) = at_entry call e
  begins_at call None None = course.rests p x _ tt

  pub begin : (call : WireCall) → K (begins.begin p x call)
  begin (wire_calls.Port call) = begins_at call (port_at (known p x) (number_of call)) (entry_at (number_of call) x.table)
  begin (wire_calls.Forget dead) = course.rests p x _ tt
