-- Whole calls and commands that are played, with the choices given: what they answer and leave, and
-- that they are whole calls and commands.
use Rattle.std.specs.Prelude.{◌≡◌, ℕ, Bool, true, false, not, ◌&&◌, ◌||◌, if◌then◌else◌, List, [], Option, Some, None, refl, is_some}
use Rattle.std.proofs.Common.{sym, true≢false}
use Rattle.iox_model.specs.declared.reply.Reply.TheVariants.{Done, Refused}
use Rattle.iox_model.specs.Names.{misnamed}
use Rattle.iox_model.specs.Doings.{Outcome, Tells, Loans, Fills, Sends, FailsToSend, Receives, Drops, DropsPort, Forgets}
use Rattle.iox_model.specs.Settings.{Shape}
use Rattle.iox_model.specs.States.{Fixed, State}
use Rattle.iox_model.specs.Loans.{Choice}
use Rattle.iox_model.specs.Handles.{subject}
use Rattle.iox_model.specs.WholeCalls.{replied, default_payload, PayloadMayBe, shape_of_loan, is_uninit, MayHold, moved_by, left_by, UnlessRefused, spent, IsDone, IsWholeCall}
use Rattle.iox_model.specs.Ends.{settled}
use Rattle.iox_model.specs.Moments.{Moment}
use Rattle.iox_model.specs.Begins.{start, lane_may_be, lends_lane}
use Rattle.iox_model.specs.Commands.{Refusal, Reply, Call, number_of}
use Rattle.iox_model.specs.Transitions.{ends}
use Rattle.iox_laws.proofs.WeaveLaws.Plays.{played, played_may_come}

-- more moments than any call of the worked runs makes
abbrev pub many : ℕ
many = 200

abbrev pub moments : State → ℕ → Call → Choice → List Moment
moments s node call c = played many s node (start s node c call)

abbrev pub end_of : State → ℕ → Call → Choice → Option Outcome
end_of s node call c =
    let ms : List Moment = moments s node call c in
    ends (moved_by s ms) (left_by s node (start s node c call) ms)

-- what a new loan holds on a hub
abbrev pub payload_of : Fixed → Outcome → List ℕ
payload_of f (Loans h) = if is_uninit h.kind then [] else default_payload (shape_of_loan f h) h.message.elements
payload_of f o = []

abbrev pub ended : State → State → ℕ → Option Outcome → Reply × State
ended s t node None = (Done, s)
ended s t node (Some o) = (replied s.fixed node o, settled t node (payload_of s.fixed o) o)

abbrev pub unless : Option Refusal → State → Reply × State → Reply × State
unless (Some r) s other = (Refused r, s)
unless None s other = other

abbrev pub called_by : State → ℕ → Call → Choice → Reply × State
called_by s node call c =
    unless (misnamed s.fixed node call) s
    (unless (spent s.fixed call) s
    (ended s (moved_by s (moments s node call c)) node (end_of s node call c)))

-- no wire is open, the choice may be made, and the call ends
abbrev pub may_play : State → ℕ → Call → Choice → Bool
may_play s node call c =
    not s.fixed.on_wire
    && ((c.memory || not s.fixed.on_wire)
    && ((not (lends_lane call) || lane_may_be s.fixed c (subject s.fixed node (number_of call)))
    && is_some (end_of s node call c)))

-- ---- they are whole calls

both : (a b : Bool) → (a && b) ≡ true → (a ≡ true) × (b ≡ true)
both true b e = (refl, e)
both false b e = absurd (true≢false (sym e))

not_true : (b : Bool) → not b ≡ true → b ≡ false
not_true true e = absurd (true≢false (sym e))
not_true false e = refl

some_of : (o : Option Outcome) → is_some o ≡ true → (x : Outcome) × (o ≡ Some x)
some_of (Some x) e = (x, refl)
some_of None e = absurd (true≢false (sym e))

payload_may_be : (uninit on_wire : Bool) (x : Shape) (k : ℕ) → on_wire ≡ false
    → PayloadMayBe uninit on_wire x k (if uninit then [] else default_payload x k)
payload_may_be true on_wire x k e = refl
payload_may_be false true x k e = absurd (true≢false e)
payload_may_be false false x k e = refl

payload_holds : (f : Fixed) (o : Outcome) → f.on_wire ≡ false → MayHold f o (payload_of f o)
payload_holds f (Loans h) e = payload_may_be (is_uninit h.kind) f.on_wire (shape_of_loan f h) h.message.elements e
payload_holds f (Tells r) e = tt
payload_holds f (Fills h) e = tt
payload_holds f (Sends h copied count) e = tt
payload_holds f (FailsToSend h copied r) e = tt
payload_holds f (Receives x w m) e = tt
payload_holds f (Drops h) e = tt
payload_holds f (DropsPort p) e = tt
payload_holds f (Forgets dead) e = tt

abbrev pub is_call : Option Refusal → Option Refusal → Bool → Bool
is_call (Some r) o b = true
is_call None (Some r) b = true
is_call None None b = b

abbrev pub is_played : State → ℕ → Call → Choice → Bool
is_played s node call c = is_call (misnamed s.fixed node call) (spent s.fixed call) (may_play s node call c)

refused_or_done : (a b : Option Refusal) (s : State) (r : Reply × State) (P : Reply → State → Type 0) (played : Bool)
    → is_call a b played ≡ true → (played ≡ true → P r.0 r.1)
    → UnlessRefused a s (unless a s (unless b s r)).0 (unless a s (unless b s r)).1
    (UnlessRefused b s (unless a s (unless b s r)).0 (unless a s (unless b s r)).1
    (P (unless a s (unless b s r)).0 (unless a s (unless b s r)).1))
refused_or_done (Some x) b s r P played e f = (refl, refl)
refused_or_done None (Some x) s r P played e f = (refl, refl)
refused_or_done None None s r P played e f = f e

done : (s : State) (node : ℕ) (call : Call) (c : Choice) (o : Option Outcome) → may_play s node call c ≡ true
    → end_of s node call c ≡ o → is_some o ≡ true
    → IsDone s node call (ended s (moved_by s (moments s node call c)) node o).0 (ended s (moved_by s (moments s node call c)) node o).1
done s node call c None may e some = absurd (true≢false (sym some))
done s node call c (Some o) may e some =
    let p : (not s.fixed.on_wire ≡ true) × (((c.memory || not s.fixed.on_wire)
    && ((not (lends_lane call) || lane_may_be s.fixed c (subject s.fixed node (number_of call)))
    && is_some (end_of s node call c))) ≡ true) = both _ _ may in
    let q : ((c.memory || not s.fixed.on_wire) ≡ true)
    × (((not (lends_lane call) || lane_may_be s.fixed c (subject s.fixed node (number_of call)))
    && is_some (end_of s node call c)) ≡ true) = both _ _ p.1 in
    let r : ((not (lends_lane call) || lane_may_be s.fixed c (subject s.fixed node (number_of call))) ≡ true)
    × (is_some (end_of s node call c) ≡ true) = both _ _ q.1 in (
      c,
      (q.0, r.0),
      moments s node call c,
      played_may_come many s node (start s node c call),
      o,
      e,
      payload_of s.fixed o,
      payload_holds s.fixed o (not_true s.fixed.on_wire p.0),
      refl,
      refl,
    )

ends_some : (s : State) (node : ℕ) (call : Call) (c : Choice) → may_play s node call c ≡ true → is_some (end_of s node call c) ≡ true
ends_some s node call c may =
    let p : (not s.fixed.on_wire ≡ true) × (((c.memory || not s.fixed.on_wire)
    && ((not (lends_lane call) || lane_may_be s.fixed c (subject s.fixed node (number_of call)))
    && is_some (end_of s node call c))) ≡ true) = both _ _ may in
    let q : ((c.memory || not s.fixed.on_wire) ≡ true)
    × (((not (lends_lane call) || lane_may_be s.fixed c (subject s.fixed node (number_of call)))
    && is_some (end_of s node call c)) ≡ true) = both _ _ p.1 in
    (both _ _ q.1).1

-- A call that is played is a whole call.
pub played_is_whole : (s : State) (node : ℕ) (call : Call) (c : Choice) → is_played s node call c ≡ true
    → IsWholeCall s node call (called_by s node call c).0 (called_by s node call c).1
played_is_whole s node call c e =
    refused_or_done (misnamed s.fixed node call) (spent s.fixed call) s
    (ended s (moved_by s (moments s node call c)) node (end_of s node call c)) (IsDone s node call) (may_play s node call c) e
    (λ may. done s node call c (end_of s node call c) may refl (ends_some s node call c may))
