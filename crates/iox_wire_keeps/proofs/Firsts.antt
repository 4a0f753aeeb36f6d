-- Where a call begins: no word is stored or loaded yet.
use Rattle.iox_wire_keeps.proofs.Quiet as quiet
use Rattle.iox_wire_keeps.proofs.Quiet.{IsQuiet}
use Rattle.iox_wire_calls.specs.Local.TheVariants.{Ends}
use Rattle.iox_wire_calls.specs.Courses as courses
use Rattle.iox_wire_calls.specs.ReceiveCourses as receives
use Rattle.iox_wire_calls.specs.Lendings as lendings
use Rattle.iox_wire_calls.specs.Ending.TheVariants as endings
use Rattle.iox_model.specs.declared.call.Call.TheVariants as calls
use Rattle.iox_model.specs.declared.call.WireCall.TheVariants as wire_calls
use Rattle.iox_wire_calls.specs.Begins as begins
use Rattle.iox_model.specs.Peers.{forgot_port, port_at}
use Rattle.iox_model.specs.Handles.{is_received, same_kind}
use Rattle.std.specs.Prelude.{Bool, List, None, Option, Some, [], false, if◌then◌else◌, refl, true, ◌==◌, ◌∷◌, ◌≡◌, ℕ}
use Rattle.iox_wire_calls.specs.Local.TheVariants.{LendStores, Reads, ReceiveAsks, ReceiveLoads, Writes}
use Rattle.iox_wire_calls.specs.Known.{free_slots, known}
use Rattle.iox_model.specs.Commands.{Call, WireCall, number_of}
use Rattle.iox_wire_calls.specs.Ending.{Ending}
use Rattle.iox_wire_calls.specs.Seat.{Seat}
use Rattle.iox_wire_calls.specs.NewLoan.{NewLoan}
use Rattle.iox_wire_calls.specs.NewLoans.{loan_in}
use Rattle.iox_wire_calls.specs.Tables.{Setting, entry_at, way_in, words_to_read}
use Rattle.iox_wire_calls.specs.Entry.{Entry}
use Rattle.iox_model.specs.declared.kind.Kind.TheVariants.{PendingResponse}
use Rattle.iox_model.specs.Settings.{is_count}
use Rattle.iox_wire_calls.specs.Steps.{next}
use Rattle.iox_wire_calls.specs.CallRefusal.{CallRefusal}
use Rattle.iox_model.specs.Loans.{lending_ways}
use Rattle.iox_wire_calls.specs.Local.{Local}
use Rattle.iox_model.specs.States.{Port}
use Rattle.iox_model.specs.declared.way.Way.{Way}

-- nothing is stored or loaded at the place, nor told about a read
abbrev pub IsFirst : Local → Type 0
IsFirst (LendStores o slot next) = next ≡ 0
IsFirst (Writes e words next) = next ≡ 0
IsFirst (Reads e words) = words ≡ []
IsFirst (ReceiveLoads v w slot header left waiting) = header ≡ []
IsFirst (ReceiveAsks v w slot header left waiting) = ⊥
IsFirst (Ends (endings.Lends o slot)) = ⊥
IsFirst (Ends (endings.Fills e words)) = words ≡ []
IsFirst (Ends (endings.Words words)) = words ≡ []
IsFirst (Ends (endings.Receives v w slot header)) = ⊥
IsFirst local = Unit {0}

ended_first : (ending : Ending) → IsQuiet (Ends ending) → IsFirst (Ends ending)
ended_first (endings.Lends o slot) still = still
ended_first (endings.Fills e words) still = absurd still
ended_first (endings.Words words) still = absurd still
ended_first (endings.Receives v w slot header) still = still
ended_first ending still = tt

of_quiet : (local : Local) → IsQuiet local → IsFirst local
of_quiet (LendStores o slot next) still = absurd still
of_quiet (Writes e words next) still = absurd still
of_quiet (Reads e words) still = absurd still
of_quiet (ReceiveLoads v w slot header left waiting) still = still
of_quiet (ReceiveAsks v w slot header left waiting) still = still
of_quiet (Ends ending) still = ended_first ending still
of_quiet local still = tt

module _ (p : Setting) (x : Seat) where
  abbrev K : Seat → Type 0
  K y = IsFirst y.local

  either : (b : Bool) (y z : Seat) → K y → K z → K (if b then y else z)
  either true y z here there = here
  either false y z here there = there

  takes_slot : (o : NewLoan) (free : List ℕ) → K (courses.takes_slot x o free)
  takes_slot o [] = tt
  takes_slot o (slot ∷ free) = refl

  loaning : (o : NewLoan) (left : List Way) → K (courses.loaning x o left)
  loaning o [] = takes_slot o (free_slots x o.port)
  loaning o (w ∷ left) = tt

  -- ---- begins

  lends : (r : Option CallRefusal) (o : NewLoan) → K (lendings.lends p x r o)
  lends (Some r) o = tt
  lends None o = loaning o (lending_ways (known p x) (loan_in p o))

  lends_request : (q : Port) (k : ℕ) (payload : List ℕ) (copies : Bool) → K (lendings.lends_request p x q k payload copies)
  lends_request q k payload copies = either (is_count p.limits.request k) _ _ (lends (lendings.request_refusal p x q k) (lendings.new_request p x q k payload copies)) tt

  lends_response : (e : Entry) (k : ℕ) (payload : List ℕ) (copies : Bool) → K (lendings.lends_response p x e k payload copies)
  lends_response e k payload copies =
      either (is_count p.limits.response k) _ _ (lends (lendings.response_refusal p x e (p.port e.port) k) (lendings.new_response p x e k payload copies)) tt

  copies_request : (q : Port) (k : Option ℕ) (words : List ℕ) → K (lendings.copies_request p x q k words)
  copies_request q None words = tt
  copies_request q (Some k) words = lends_request q k words true

  copies_response : (e : Entry) (k : Option ℕ) (words : List ℕ) → K (lendings.copies_response p x e k words)
  copies_response e None words = tt
  copies_response e (Some k) words = lends_response e k words true

  writing : (e : Entry) (words : List ℕ) → K (begins.writing x e words)
  writing e [] = refl
  writing e (word ∷ words) = refl

  writes : (e : Entry) (k : Option ℕ) (words : List ℕ) → K (begins.writes x e k words)
  writes e None words = tt
  writes e (Some k) words = either (k == e.elements) _ _ (writing e words) tt

  releasing : (e : Entry) → K (receives.releasing p x e)
  releasing e =
      either (is_received e.kind) _ _ (either (forgot_port (known p x) x.node (way_in e).sender) _ _ tt tt)
      (either (same_kind e.kind PendingResponse) _ _ (of_quiet _ (quiet.closing p x e (receives.states_for p x e))) tt)

  at_port : (call : Call) (q : Port) → K (begins.begins_at_port p x call q)
  at_port (calls.Loan n k) q = lends_request q k [] false
  at_port (calls.SendCopy n y) q = copies_request q y.elements y.words
  at_port (calls.Receive n) q = of_quiet _ (quiet.visiting p x _ _ false)
  at_port (calls.HasRequests n) q = of_quiet _ (quiet.seeking p x _)
  at_port call q = tt

  at_entry : (call : Call) (e : Entry) → K (begins.begins_at_entry p x call e)
  at_entry (calls.Loan n k) e = lends_response e k [] false
  at_entry (calls.Write n y) e = writes e y.elements y.words
  at_entry (calls.Send n) e = of_quiet _ (quiet.sends p x e false)
  at_entry (calls.SendCopy n y) e = copies_response e y.elements y.words
  at_entry (calls.Receive n) e = of_quiet _ (quiet.visiting p x _ _ false)
  at_entry (calls.Read n) e = either (words_to_read p e == 0) _ _ refl refl
  at_entry (calls.Release n) e = releasing e
  at_entry (calls.IsConnected n) e = of_quiet _ (quiet.checking p x e false _)
  at_entry (calls.SetHint n) e = of_quiet _ (quiet.hinting p x e _)
  at_entry (calls.HasHint n) e = of_quiet _ (quiet.checking p x e true _)
  at_entry (calls.HasResponse n) e = of_quiet _ (quiet.seeking p x _)
  at_entry call e = tt

  at : (call : Call) (q : Option Port) (e : Option Entry) → K (begins.begins_at p x call q e)
  at call (Some q) e = at_port call q
  at call None (Some e) = at_entry call e
  at call None None = tt

  pub first : (call : WireCall) → K (begins.begin p x call)
  first (wire_calls.Port call) = at call (port_at (known p x) (number_of call)) (entry_at (number_of call) x.table)
  first (wire_calls.Forget dead) = tt
