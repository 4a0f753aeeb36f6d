-- The begin of a call leaves uses counted.
use Rattle.std.proofs.Common.{◌≡◌, ℕ, Bool, true, false, if◌then◌else◌, List, [], ◌∷◌, Option, Some, None, ap}
use Rattle.iox_model.specs.declared.call.Call.TheVariants.{Loan, Write, Send, SendCopy, Receive, Read, Release, IsConnected, SetHint, HasHint, HasRequests, HasResponse}
use Rattle.iox_model.specs.declared.call.WireCall.TheVariants as wire_calls
use Rattle.iox_model.specs.Commands.{Call, WireCall, number_of}
use Rattle.iox_model.specs.Peers.{port_at}
use Rattle.iox_model.specs.Settings.{is_count}
use Rattle.iox_model.specs.States.{Port}
use Rattle.iox_wire_locals.specs.declared.local.CallRefusal.{CallRefusal}
use Rattle.iox_wire_locals.specs.declared.local.CallRefusal.TheVariants.{WrongLength}
use Rattle.iox_wire_locals.specs.declared.local.Ending.TheVariants as endings
use Rattle.iox_wire_locals.specs.declared.local.Local.TheVariants.{Idle}
use Rattle.iox_wire_locals.specs.declared.seat.Seat.{Seat}
use Rattle.iox_wire_locals.specs.declared.table.Entry.{Entry}
use Rattle.iox_wire_locals.specs.declared.table.NewLoan.{NewLoan}
use Rattle.iox_wire_locals.specs.Begins as begins
use Rattle.iox_wire_locals.specs.Courses as courses_of_sends
use Rattle.iox_wire_locals.specs.Known.{known}
use Rattle.iox_wire_locals.specs.Lendings as lendings
use Rattle.iox_wire_locals.specs.Tables.{Setting, entry_at}
use Rattle.iox_wire_laws.specs.WireKeeping.UsedSlots.{slots_in_call}
use Rattle.iox_wire_pools.specs.Uses.{AllUsesAreCounted}
use Rattle.iox_wire_pools.specs.UsesLaws.{BeginsKeepUses}
use Rattle.iox_wire_pools.proofs.AccessUses.{goes, loaning}
use Rattle.iox_wire_pools.proofs.CallSlots as sent
use Rattle.iox_wire_pools.proofs.CallSlots.{Goes, placed, either}
use Rattle.iox_wire_pools.proofs.ReceiveSlots as received

module _ (p : Setting) (x : Seat) (all : AllUsesAreCounted p x) (idle : x.local ≡ Idle) where
  abbrev K : Seat → Type 0
  K y = AllUsesAreCounted p y

  none : (port : ℕ) → slots_in_call port x.local ≡ []
  none port = ap (slots_in_call port) idle

  to : (y : Seat) → Goes x y (λ port. []) → K y
  to y on = goes p x y (λ port. []) all none on

  choose : (b : Bool) (y z : Seat) → K y → K z → K (if b then y else z)
  choose true y z k l = k
  choose false y z k l = l

  lends : (r : Option CallRefusal) (o : NewLoan) → K (lendings.lends p x r o)
  lends (Some r) o = to _ (placed x _)
  lends None o = loaning p x o _ all none

  lends_request : (q : Port) (k : ℕ) (payload : List ℕ) (copies : Bool) → K (lendings.lends_request p x q k payload copies)
  lends_request q k payload copies =
      choose (is_count p.limits.request k)
      (lendings.lends p x (lendings.request_refusal p x q k) (lendings.new_request p x q k payload copies))
      (courses_of_sends.ended x (endings.Refuses WrongLength))
      (lends (lendings.request_refusal p x q k) (lendings.new_request p x q k payload copies)) (to _ (placed x _))

  lends_response : (e : Entry) (k : ℕ) (payload : List ℕ) (copies : Bool) → K (lendings.lends_response p x e k payload copies)
  lends_response e k payload copies =
      choose (is_count p.limits.response k)
      (lendings.lends p x (lendings.response_refusal p x e (p.port e.port) k) (lendings.new_response p x e k payload copies))
      (courses_of_sends.ended x (endings.Refuses WrongLength))
      (lends (lendings.response_refusal p x e (p.port e.port) k) (lendings.new_response p x e k payload copies)) (to _ (placed x _))

  copies_request : (q : Port) (k : Option ℕ) (words : List ℕ) → K (lendings.copies_request p x q k words)
  copies_request q None words = to _ (placed x _)
  copies_request q (Some k) words = lends_request q k words true

  copies_response : (e : Entry) (k : Option ℕ) (words : List ℕ) → K (lendings.copies_response p x e k words)
  copies_response e None words = to _ (placed x _)
  copies_response e (Some k) words = lends_response e k words true

  writing : (e : Entry) (words : List ℕ) → K (begins.writing x e words)
  writing e [] = to _ (placed x _)
  writing e (word ∷ words) = to _ (placed x _)

  writes : (e : Entry) (k : Option ℕ) (words : List ℕ) → K (begins.writes x e k words)
  writes e None words = to _ (placed x _)
  writes e (Some k) words = choose _ _ _ (writing e words) (to _ (placed x _))

  at_port : (call : Call) (q : Port) → K (begins.begins_at_port p x call q)
  at_port (Loan n k) q = lends_request q k [] false
  at_port (SendCopy n y) q = copies_request q y.elements y.words
  at_port (Receive n) q = to _ (received.visiting p x _ _ false)
  at_port (HasRequests n) q = to _ (received.seeking p x _)
  at_port call q = to _ (placed x _)

  at_entry : (call : Call) (e : Entry) → K (begins.begins_at_entry p x call e)
  at_entry (Loan n k) e = lends_response e k [] false
  at_entry (Write n y) e = writes e y.elements y.words
  at_entry (Send n) e = to _ (sent.sends p x e false)
  at_entry (SendCopy n y) e = copies_response e y.elements y.words
  at_entry (Receive n) e = to _ (received.visiting p x _ _ false)
  at_entry (Read n) e = to _ (either x (λ port. []) _ _ _ (placed x _) (placed x _))
  at_entry (Release n) e = to _ (received.releasing p x e)
  at_entry (IsConnected n) e = to _ (received.checking p x e false _)
  at_entry (SetHint n) e = to _ (received.hinting p x e _)
  at_entry (HasHint n) e = to _ (received.checking p x e true _)
  at_entry (HasResponse n) e = to _ (received.seeking p x _)
  at_entry call e = to _ (placed x _)

  begins_at : (call : Call) (q : Option Port) (e : Option Entry) → K (begins.begins_at p x call q e)
  begins_at call (Some q) e = at_port call q
  begins_at call None (Some e) = at_entry call e
  begins_at call None None = to _ (placed x _)

  begin : (call : WireCall) → K (begins.begin p x call)
  begin (wire_calls.Port call) = begins_at call (port_at (known p x) (number_of call)) (entry_at (number_of call) x.table)
  begin (wire_calls.Forget dead) = to _ (placed x _)

pub begins_keep_uses : BeginsKeepUses
begins_keep_uses p x call all idle = begin p x all idle call
