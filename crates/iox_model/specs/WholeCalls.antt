-- One whole call: its moments one after another, and then the change of handles, counts and ports.
use Rattle.std.specs.Prelude.{◌≡◌, ℕ, ◌*◌, ◌^◌, Bool, true, false, ◌&&◌, ◌||◌, if◌then◌else◌, nat_le, List, [], ◌∷◌, length, flat_map, Option, Some, None, ⊤, unwrap_or}
use Rattle.std.specs.List.{range_with_len}
use Rattle.iox_model.specs.declared.kind.Kind.{Kind}
use Rattle.iox_model.specs.declared.kind.Kind.TheVariants.{RequestMutUninit, ResponseMutUninit}
use Rattle.iox_model.specs.declared.call.Call.TheVariants.{Loan, LoanUninit, Send, SendCopy, Receive}
use Rattle.iox_model.specs.declared.reply.Refusal.TheVariants.{CallsSpent}
use Rattle.iox_model.specs.declared.reply.Reply.TheVariants.{Sent, Done, Refused}
use Rattle.iox_model.specs.declared.reply.Reply.TheVariants as replies
use Rattle.iox_model.specs.Names.{misnamed}
use Rattle.iox_model.specs.Doings.{Outcome, Tells, Loans, Fills, Sends, FailsToSend, Receives, Drops, DropsPort, Forgets, Doing}
use Rattle.iox_model.specs.Settings.{Shape}
use Rattle.iox_model.specs.States.{Handle, Fixed, State}
use Rattle.iox_model.specs.Loans.{Choice}
use Rattle.iox_model.specs.Handles.{same_kind, is_request_loan, new_number}
use Rattle.iox_model.specs.Maps.{refused_if}
use Rattle.iox_model.specs.Ends.{settled}
use Rattle.iox_model.specs.Moments.{Holds, moved, Moment}
use Rattle.iox_model.specs.Begins.{start, MayChoose}
use Rattle.iox_model.specs.Commands.{Refusal, Reply, Call}
use Rattle.iox_model.specs.Transitions.{next, ends}

-- the reply to a send; a request that its call copied gets its number as it is sent
abbrev pub sent_reply : Fixed → ℕ → Handle → Bool → ℕ → Reply
sent_reply f node h copied count =
    if is_request_loan h.kind then (if copied then replies.Handle (new_number f node) else Sent count)
    else Done

-- what a finished call answers
abbrev pub replied : Fixed → ℕ → Outcome → Reply
replied f node (Tells reply) = reply
replied f node (Loans h) = replies.Handle (new_number f node)
replied f node (Fills h) = Done
replied f node (Sends h copied count) = sent_reply f node h copied count
replied f node (FailsToSend h copied refusal) = Refused refusal
replied f node (Receives x w m) = replies.Handle (new_number f node)
replied f node (Drops h) = Done
replied f node (DropsPort port) = Done
replied f node (Forgets dead) = Done

-- ---- what a new loan holds

-- the payload of so many elements with their default words
abbrev pub default_payload : Shape → ℕ → List ℕ
default_payload x k = flat_map (λ n. unwrap_or x.default []) (range_with_len 0 k)

-- the payload that a new loan may hold
abbrev pub PayloadMayBe : (uninit on_wire : Bool) → Shape → ℕ → List ℕ → Type 0
-- a loan that is handed out unfilled holds nothing
PayloadMayBe true on_wire x k payload = payload ≡ []
-- another holds the default; on a wire some list of its length
PayloadMayBe false true x k payload = length payload ≡ k * x.width
PayloadMayBe false false x k payload = payload ≡ default_payload x k

-- the shape of a loan's messages
abbrev pub shape_of_loan : Fixed → Handle → Shape
shape_of_loan f h = if is_request_loan h.kind then f.limits.request else f.limits.response

-- whether the kind is a loan in which nothing is filled
abbrev pub is_uninit : Kind → Bool
is_uninit k = same_kind k RequestMutUninit || same_kind k ResponseMutUninit

-- a loan is handed out with a payload that it may have
abbrev pub MayHold : Fixed → Outcome → List ℕ → Type 0
MayHold f (Loans h) payload =
    PayloadMayBe (is_uninit h.kind) f.on_wire (shape_of_loan f h) h.message.elements payload
MayHold f o payload = ⊤

-- ---- moments one after another

-- the state after these moments
abbrev pub moved_by : State → List Moment → State
moved_by s [] = s
moved_by s (m ∷ ms) = moved_by (moved s m) ms

-- what is left to do after these moments
abbrev pub left_by : State → ℕ → Doing → List Moment → Doing
left_by s node d [] = d
left_by s node d (m ∷ ms) = left_by (moved s m) node (next s node d m).after ms

-- each moment is true of the state where it is made, and may come next in the call
abbrev pub MayCome : State → ℕ → Doing → List Moment → Type 0
MayCome s node d [] = ⊤
MayCome s node d (m ∷ ms) =
    Holds s m × (next s node d m).condition × MayCome (moved s m) node (next s node d m).after ms

-- ---- the whole call

-- if there is a refusal, it is the reply and nothing changed; else the statement holds
abbrev pub UnlessRefused : Option Refusal → State → Reply → State → Type 0 → Type 0
UnlessRefused (Some r) s reply s' P = (reply ≡ Refused r) × (s' ≡ s)
UnlessRefused None s reply s' P = P

-- whether the call is one of those that are counted: loans, sends and receives
abbrev pub is_counted : Call → Bool
is_counted (Loan n k) = true
is_counted (LoanUninit n k) = true
is_counted (Send n) = true
is_counted (SendCopy n p) = true
is_counted (Receive n) = true
is_counted call = false

-- why a counted call is refused: 2^56 calls were counted already
abbrev pub spent : Fixed → Call → Option Refusal
spent f call = refused_if (is_counted call && nat_le (2 ^ 56) f.calls) CallsSpent

-- some moments lead the call to an end, which gives this reply and leaves that state
abbrev pub IsDone : State → ℕ → Call → Reply → State → Type 0
IsDone s node call reply s' =
    (c : Choice) × MayChoose s.fixed node c call
    × (ms : List Moment) × MayCome s node (start s node c call) ms
    × (o : Outcome) × (ends (moved_by s ms) (left_by s node (start s node c call) ms) ≡ Some o)
    × (payload : List ℕ) × MayHold s.fixed o payload
    × (reply ≡ replied s.fixed node o) × (s' ≡ settled (moved_by s ms) node payload o)

-- the call of a node, from a state, may have this reply and lead to that state
abbrev pub IsWholeCall : State → ℕ → Call → Reply → State → Type 0
IsWholeCall s node call reply s' =
    UnlessRefused (misnamed s.fixed node call) s reply s'
    (UnlessRefused (spent s.fixed call) s reply s' (IsDone s node call reply s'))
