-- A loan and a write leave the ways as they are, and what receivers have.
use Rattle.std.specs.Prelude.{◌≡◌, ℕ, Bool, true, false, if◌then◌else◌, ◌==◌, List, [], ◌∷◌, length, nat_le, Option, Some, None, find, refl}
use Rattle.std.specs.Option.{option_map_or}
use Rattle.std.proofs.Common.{sym, subst, ap, ◌∙◌, true≢false}
use Rattle.iox_model.specs.declared.call.Call.TheVariants.{Loan, LoanUninit, Write}
use Rattle.iox_model.specs.declared.kind.Role.{Role}
use Rattle.iox_model.specs.declared.kind.Role.TheVariants.{Client}
use Rattle.iox_model.specs.declared.reply.Refusal.TheVariants.{UnknownNumber, WrongLength, OutOfMemory}
use Rattle.iox_model.specs.declared.way.Way.{Way}
use Rattle.iox_model.specs.Begins.{begins_at, start, writes, written}
use Rattle.iox_model.specs.Commands.{Call, Refusal, Reply, number_of}
use Rattle.iox_model.specs.Counts.{called, numbered, with_fixed}
use Rattle.iox_model.specs.Doings.{refused, Outcome, Tells, Loans, Fills, Doing, Ended, Loaning}
use Rattle.iox_model.specs.Ends.{is_nothing, settled}
use Rattle.iox_model.specs.Handles.{Subject, TheHandle, ThePort, subject}
use Rattle.iox_model.specs.Loans.{Choice, Order, lending_ways, loan_of, memory_refusal, next_request, request_loan_refusal, response_loan_refusal, unless_refused}
use Rattle.iox_model.specs.Maps.{without_way}
use Rattle.iox_model.specs.Messages.{Message}
use Rattle.iox_model.specs.Moments.{GetBack, Moment, SeesNoneBack, moved}
use Rattle.iox_model.specs.Names.{misnamed}
use Rattle.iox_model.specs.Outstandings.{is_dry, kept}
use Rattle.iox_model.specs.Peers.{port_at}
use Rattle.iox_model.specs.Receives.{is_at_limit}
use Rattle.iox_model.specs.Responses.{lending, lends, lends_by, lends_response, loaning, ordered, sends, shape_for}
use Rattle.iox_model.specs.Settings.{Limits, borrow_limit_of, buffer_of, is_count, other_role}
use Rattle.iox_model.specs.States.{Fixed, Handle, Port, State}
use Rattle.iox_model.specs.Transitions.{ends, next}
use Rattle.iox_model.specs.WholeCalls.{IsDone, IsWholeCall, MayCome, UnlessRefused, left_by, moved_by, spent}
use Rattle.iox_laws.specs.CallFunctions.Sends.{is_full}
use Rattle.iox_laws.proofs.WeaveLaws.MapLemmas.{either}
use Rattle.iox_laws.proofs.WeaveLaws.WholeLemmas.{moved_by-fixed, some-is}
use Rattle.iox_laws.proofs.WeaveLedger.Truths.{none-some}

-- ---- what stays

-- what receivers have, and may have, is as it was
pub record HaveAsBefore (f g : Fixed) : Type 0 where
  pub limits : g.limits ≡ f.limits
  pub ports : g.ports ≡ f.ports
  pub borrowed : g.borrowed ≡ f.borrowed

pub have_same : (f : Fixed) → HaveAsBefore f f
have_same f = record { limits = refl; ports = refl; borrowed = refl }

-- so are the ways
pub record RestsSo (s t : State) : Type 0 where
  pub fixed : HaveAsBefore s.fixed t.fixed
  pub waiting : (w : Way) → t.waiting w ≡ s.waiting w

same_rests : (s : State) → RestsSo s s
same_rests s = record { fixed = have_same s.fixed; waiting = λ w. refl }

-- ---- room

abbrev pub role_by : List Port → ℕ → Role
role_by ps n = option_map_or (λ p. p.role) (find (λ p. p.number == n) ps) Client

-- a way is full as before, where as much waits
pub full_by : (s t : State) → t.fixed.limits ≡ s.fixed.limits → t.fixed.ports ≡ s.fixed.ports → (w : Way) → t.waiting w ≡ s.waiting w → is_full t w ≡ is_full s w
full_by s t limits ports w waiting =
    ap (λ (l : Limits). nat_le (buffer_of l (role_by t.fixed.ports w.sender)) (length (t.waiting w))) limits
    ∙ ap (λ (ps : List Port). nat_le (buffer_of s.fixed.limits (role_by ps w.sender)) (length (t.waiting w))) ports
    ∙ ap (λ (ms : List Message). nat_le (buffer_of s.fixed.limits (role_by s.fixed.ports w.sender)) (length ms)) waiting

-- its receiver is at its limit as before, where it has as much of the way
pub limit_by : (f g : Fixed) → g.limits ≡ f.limits → g.ports ≡ f.ports → (w : Way) → g.borrowed w ≡ f.borrowed w → is_at_limit g w ≡ is_at_limit f w
limit_by f g limits ports w borrowed =
    ap (λ (l : Limits). nat_le (borrow_limit_of l (other_role (role_by g.ports w.receiver))) (g.borrowed w)) limits
    ∙ ap (λ (ps : List Port). nat_le (borrow_limit_of f.limits (other_role (role_by ps w.receiver))) (g.borrowed w)) ports
    ∙ ap (λ (n : ℕ). nat_le (borrow_limit_of f.limits (other_role (role_by f.ports w.receiver))) n) borrowed

-- the same of all ways
pub limit_rests : (f g : Fixed) → HaveAsBefore f g → (w : Way) → is_at_limit g w ≡ is_at_limit f w
limit_rests f g have w = limit_by f g have.limits have.ports w (ap (λ (b : Way → ℕ). b w) have.borrowed)

pub room_rests : (s t : State) → RestsSo s t → (w : Way) → is_full t w ≡ is_full s w
room_rests s t rests w = full_by s t rests.fixed.limits rests.fixed.ports w (rests.waiting w)

-- ---- what a loan and a write have to do

-- the end puts nothing on a way, and receives nothing
abbrev pub Rests : Outcome → Type 0
Rests (Tells reply) = Unit {0}
Rests (Loans h) = Unit {0}
Rests (Fills h) = Unit {0}
Rests o = ⊥

-- the call comes to such an end
abbrev pub IsResting : Doing → Type 0
IsResting (Ended o) = Rests o
IsResting (Loaning copies h left) = copies ≡ false
IsResting d = ⊥

either_rests : (b : Bool) (d e : Doing) → IsResting d → IsResting e → IsResting (if b then d else e)
either_rests b d e p q = either IsResting b d e (λ u. p) (λ u. q)

not_copied : (s : State) (copies : Bool) (h : Handle) → copies ≡ false → IsResting (if copies then sends s.fixed h true else Ended (Loans h))
not_copied s true h e = absurd (true≢false e)
not_copied s false h e = tt

pub loaning_rests : (s : State) (copies : Bool) (h : Handle) (left : List Way) → copies ≡ false → IsResting (loaning s copies h left)
loaning_rests s copies h [] e =
    either_rests (is_dry s.fixed h.port (kept s h.port [])) (refused OutOfMemory) (if copies then sends s.fixed h true else Ended (Loans h)) tt
    (not_copied s copies h e)
loaning_rests s copies h (w ∷ left) e = e

next_rests : (s : State) (node : ℕ) (d : Doing) (m : Moment) → IsResting d → (next s node d m).condition → IsResting (next s node d m).after
next_rests s node (Loaning copies h left) (GetBack w k) p c = p
next_rests s node (Loaning copies h left) (SeesNoneBack w) p c = loaning_rests s copies h (without_way w left) p
next_rests s node (Loaning copies h left) m p c = absurd c
next_rests s node (Ended o) m p c = absurd c
next_rests s node d m p c = absurd p

-- no moment of such a call puts or takes a message
moves_nothing : (s : State) (node : ℕ) (d : Doing) (m : Moment) → IsResting d → (next s node d m).condition → (w : Way) → (moved s m).waiting w ≡ s.waiting w
moves_nothing s node (Loaning copies h left) (GetBack v k) p c w = refl
moves_nothing s node (Loaning copies h left) (SeesNoneBack v) p c w = refl
moves_nothing s node (Loaning copies h left) m p c w = absurd c
moves_nothing s node (Ended o) m p c w = absurd c
moves_nothing s node d m p c w = absurd p

by_rests : (s : State) (node : ℕ) (d : Doing) (ms : List Moment) → IsResting d → MayCome s node d ms
    → IsResting (left_by s node d ms) × ((w : Way) → (moved_by s ms).waiting w ≡ s.waiting w)
by_rests s node d [] p may = (p, λ w. refl)
by_rests s node d (m ∷ ms) p may =
    let q : IsResting (left_by s node d (m ∷ ms)) × ((w : Way) → (moved_by s (m ∷ ms)).waiting w ≡ (moved s m).waiting w)
    = by_rests (moved s m) node (next s node d m).after ms (next_rests s node d m p may.1) may.2 in
    (q.0, λ w. q.1 w ∙ moves_nothing s node d m p may.1 w)

-- ---- the begin

unless_rests : (q : Option Refusal) (d : Doing) → IsResting d → IsResting (unless_refused q d)
unless_rests (Some r) d p = tt
unless_rests None d p = p

response_rests : (s : State) (c : Choice) (h : Handle) (o : Order) → o.copies ≡ false → (p : Option Port)
    → IsResting (option_map_or (λ q. lends_response s c h q o) p (refused UnknownNumber))
response_rests s c h o e None = tt
response_rests s c h o e (Some p) =
    let l : Handle = loan_of s.fixed p o h.client h.lane h.request in
    unless_rests (response_loan_refusal s.fixed h p o.elements) (unless_refused (memory_refusal s c p.number) (lending s o.copies l))
    (unless_rests (memory_refusal s c p.number) (lending s o.copies l) (loaning_rests s o.copies l (lending_ways s.fixed l) e))

lends_by_rests : (s : State) (c : Choice) (x : Subject) (o : Order) → o.copies ≡ false → IsResting (lends_by s c x o)
lends_by_rests s c (ThePort p) o e =
    let l : Handle = loan_of s.fixed p o p.number c.lane (next_request s.fixed p.number) in
    unless_rests (request_loan_refusal s.fixed p o.elements) (unless_refused (memory_refusal s c p.number) (lending s o.copies l))
    (unless_rests (memory_refusal s c p.number) (lending s o.copies l) (loaning_rests s o.copies l (lending_ways s.fixed l) e))
lends_by_rests s c (TheHandle h) o e = response_rests s c h o e (port_at s.fixed h.port)

lends_rests : (s : State) (c : Choice) (x : Subject) (k : ℕ) (uninit : Bool) → IsResting (lends s c x (ordered k uninit))
lends_rests s c x k uninit =
    either_rests (is_count (shape_for s.fixed x) k) (lends_by s c x (ordered k uninit)) (refused WrongLength)
    (lends_by_rests s c x (ordered k uninit) refl) tt

writes_rest : (h : Handle) (k : Option ℕ) (words : List ℕ) → IsResting (writes h k words)
writes_rest h None words = tt
writes_rest h (Some k) words = either_rests (k == h.message.elements) (Ended (Fills (written h words))) (refused WrongLength) tt tt

-- whether the call is a loan or a write
abbrev pub rests : Call → Bool
rests (Loan n k) = true
rests (LoanUninit n k) = true
rests (Write n p) = true
rests call = false

port_rests : (s : State) (c : Choice) (call : Call) (p : Port) → rests call ≡ true → IsResting (begins_at s c call (ThePort p))
port_rests s c (Loan n k) p e = lends_rests s c (ThePort p) k false
port_rests s c (LoanUninit n k) p e = lends_rests s c (ThePort p) k true
port_rests s c (Write n x) p e = tt
port_rests s c call p e = absurd (true≢false (sym e))

handle_rests : (s : State) (c : Choice) (call : Call) (h : Handle) → rests call ≡ true → IsResting (begins_at s c call (TheHandle h))
handle_rests s c (Loan n k) h e = lends_rests s c (TheHandle h) k false
handle_rests s c (LoanUninit n k) h e = lends_rests s c (TheHandle h) k true
handle_rests s c (Write n x) h e = writes_rest h x.elements x.words
handle_rests s c call h e = absurd (true≢false (sym e))

pub at_rests : (s : State) (c : Choice) (call : Call) (x : Option Subject) → rests call ≡ true
    → IsResting (option_map_or (begins_at s c call) x (refused UnknownNumber))
at_rests s c call None e = tt
at_rests s c call (Some (ThePort p)) e = port_rests s c call p e
at_rests s c call (Some (TheHandle h)) e = handle_rests s c call h e

-- ---- the end

ended_rests : (s : State) (d : Doing) (o : Outcome) → IsResting d → ends s d ≡ Some o → Rests o
ended_rests s (Ended a) o p e = subst Rests (some-is a o e) p
ended_rests s (Loaning copies h left) o p e = none-some o e
ended_rests s d o p e = absurd p

pub numbered_has : (f : Fixed) (node : ℕ) → HaveAsBefore f (numbered f node)
numbered_has f node =
    either (HaveAsBefore f) f.on_wire _ _ (λ u. record { limits = refl; ports = refl; borrowed = refl })
    (λ u. record { limits = refl; ports = refl; borrowed = refl })

settled_rests : (s : State) (node : ℕ) (payload : List ℕ) (o : Outcome) → Rests o → RestsSo s (settled s node payload o)
settled_rests s node payload (Tells reply) p =
    either (RestsSo s) (is_nothing reply) (with_fixed s (called s.fixed)) s
    (λ u. record { fixed = record { limits = refl; ports = refl; borrowed = refl }; waiting = λ w. refl }) (λ u. same_rests s)
settled_rests s node payload (Loans h) p =
    let f : HaveAsBefore s.fixed (numbered s.fixed node) = numbered_has s.fixed node in
    record { fixed = record { limits = f.limits; ports = f.ports; borrowed = f.borrowed }; waiting = λ w. refl }
settled_rests s node payload (Fills h) p =
    record { fixed = record { limits = refl; ports = refl; borrowed = refl }; waiting = λ w. refl }
settled_rests s node payload o p = absurd p

-- ---- the whole call

done_rests : (s t : State) (node : ℕ) (call : Call) (reply : Reply) → rests call ≡ true → IsDone s node call reply t → RestsSo s t
done_rests s t node call reply e done =
    let d : Doing = start s node done.0 call in
    let u : State = moved_by s done.2 in
    let q = by_rests s node d done.2 (at_rests s done.0 call (subject s.fixed node (number_of call)) e) done.3 in
    let o : Rests done.4 = ended_rests u (left_by s node d done.2) done.4 q.0 done.5 in
    let r : RestsSo u (settled u node done.6 done.4) = settled_rests u node done.6 done.4 o in
    let f : HaveAsBefore s.fixed (settled u node done.6 done.4).fixed
    = subst (λ (g : Fixed). HaveAsBefore g (settled u node done.6 done.4).fixed) (moved_by-fixed s done.2) r.fixed in
    subst (RestsSo s) (sym done.9) (record { fixed = f; waiting = λ w. r.waiting w ∙ q.1 w })

unless_rests_so : (q : Option Refusal) (s t : State) (reply : Reply) (P : Type 0) → (P → RestsSo s t) → UnlessRefused q s reply t P → RestsSo s t
unless_rests_so (Some r) s t reply P f p = subst (RestsSo s) (sym p.1) (same_rests s)
unless_rests_so None s t reply P f p = f p

-- Loans and writes leave the ways as they are, and what receivers have.
pub whole_rests : (s t : State) (node : ℕ) (call : Call) (reply : Reply) → rests call ≡ true → IsWholeCall s node call reply t → RestsSo s t
whole_rests s t node call reply e =
    unless_rests_so (misnamed s.fixed node call) s t reply (UnlessRefused (spent s.fixed call) s reply t (IsDone s node call reply t))
    (unless_rests_so (spent s.fixed call) s t reply (IsDone s node call reply t) (done_rests s t node call reply e))
