-- What a step, and a death, do to a wire.
use Rattle.std.specs.Prelude.{◌≡◌, ℕ, ◌+◌, ◌==◌, false, nat_le, not, ◌^◌, List, [], ◌∷◌, length, Option, None, Some, IfSome}
use Rattle.std.specs.Option.{option_map_or}
use Rattle.iox_model.specs.Commands.{Reply}
use Rattle.iox_model.specs.declared.event.Event.{Event}
use Rattle.iox_model.specs.Maps.{or_else, refused_if}
use Rattle.iox_model.specs.Schedules.{Finished, IsStepOf, UnderWay, finish}
use Rattle.iox_model.specs.WireCalls.{WordsCall}
use Rattle.iox_model.specs.Weaves.{Beat, Dies}
use Rattle.iox_model.specs.declared.call.WireCall.TheVariants.{Forget, Port}
use Rattle.iox_steps.specs.declared.access.Access.{Access}
use Rattle.iox_steps.specs.declared.access.Progress.{Progress}
use Rattle.iox_steps.specs.declared.access.Progress.TheVariants.{Done, Going}
use Rattle.iox_steps.specs.Accesses.{seen_at, words_after}
use Rattle.iox_wire_nodes.specs.Calls.{IsKeptAt}
use Rattle.iox_wire_nodes.specs.Programs.{program_access}
use Rattle.iox_wire_nodes.specs.LocalsBegins.{is_busy}
use Rattle.iox_wire_nodes.specs.Locals.{program_of}
use Rattle.iox_wire_nodes.specs.Steps.{next}
use Rattle.iox_wire_nodes.specs.Tables.{Setting}
use Rattle.iox_wire_nodes.specs.WirePlan.{WirePlan}
use Rattle.iox_wire_needs.specs.Runs.{GoesOnBy, Run}
use Rattle.iox_wire_needs.specs.SettingsStay.{ForgetsNobody, SettingStays}
use Rattle.iox_wire_needs.specs.WholeSteps.{GoesOnWith}
use Rattle.iox_wire_nodes.specs.declared.call_at.CallAt.{CallAt}
use Rattle.iox_wire_nodes.specs.declared.call_at.CallAt.TheVariants.{Seats}
use Rattle.iox_wire_nodes.specs.declared.call_at.NodeReply.{NodeReply}
use Rattle.iox_wire_nodes.specs.declared.call_at.NodeReply.TheVariants.{OfSeat}
use Rattle.iox_wire_nodes.specs.SeatReply.TheVariants as seat_replies
use Rattle.iox_wire_nodes.specs.Nodes.{answered_at, reply_in, seat_in}
use Rattle.iox_wire_weaves.specs.Events.{with_serials}
use Rattle.iox_wire_weaves.specs.Owners.{serial_of}
use Rattle.iox_wire_weaves.specs.declared.refusal.WireRefusal.{WireRefusal}
use Rattle.iox_wire_weaves.specs.declared.refusal.WireRefusal.TheVariants.{AccessesSpent, AtRest}
use Rattle.iox_wire_weaves.specs.Wires.{IsSameSetting, Shows, WireData, WireNode, answers_in, kept_at, living_refusal, node_at, read_of, seat_of}

-- ---- refusals

-- the most accesses of a node
abbrev pub most_accesses : ℕ
most_accesses = 2 ^ 56

-- why a living node makes no step: it has no call, or it made all its accesses
abbrev pub rest_refusal : WireNode → Option WireRefusal
rest_refusal x =
    or_else (refused_if (not (is_busy (seat_in x.node).local)) AtRest)
    (refused_if (nat_le most_accesses (seat_in x.node).accesses) AccessesSpent)

-- why a node makes no step
abbrev pub step_refusal : WireData → ℕ → Option WireRefusal
step_refusal wire n =
    or_else (living_refusal wire.nodes n) (option_map_or rest_refusal (node_at n wire.nodes) None)

-- ---- a step

-- the access that the node makes next
abbrev pub access_of : Setting → WireData → ℕ → Access
access_of p wire n = program_access p.layout (program_of p (seat_of p wire.nodes n).local)

-- how many handles the node may have, with those for which it has room
abbrev pub most_handles : List WireNode → ℕ → ℕ
most_handles nodes n =
    option_map_or (λ x. x.node.seat.room + length x.node.seat.seat.table) (node_at n nodes) 0

-- The step of a node is the one access of its place: the words are those after it, the node continues
-- with what it found, in the call that it keeps, it may have as many handles as before, and all other
-- nodes and the setting stay.
pub record MakesOneAccess (p : Setting) (old : WireData) (n : ℕ) (new : WireData) : Type 0 where
  pub setting : IsSameSetting old new
  pub words : new.words ≡ words_after (access_of p old n) old.words
  pub node : seat_of p new.nodes n
      ≡ next p (seat_of p old.nodes n) (seen_at (access_of p old n) old.words)
  pub call : kept_at new.nodes n ≡ kept_at old.nodes n
  pub handles : most_handles new.nodes n ≡ most_handles old.nodes n
  pub others : (m : ℕ) → (m == n) ≡ false → node_at m new.nodes ≡ node_at m old.nodes

-- so it is in each run that the wire shows
abbrev pub MakesItsAccess : WireData → ℕ → WireData → Type 0
MakesItsAccess old n new = (p : Setting) (r : Run) → Shows p old r → MakesOneAccess p old n new

-- what the step of a node answers, with its node; a read answers the words that it loaded
abbrev pub answer_of : ℕ → List WireNode → Progress NodeReply → List (ℕ × Reply)
answer_of n nodes Going = []
answer_of n nodes (Done reply) =
    (n, reply_in (option_map_or (λ x. x.node.seat.words) (node_at n nodes) []) reply) ∷ []

-- a node is there with that call under way: a Forget, which no code begins, is in the seat
abbrev pub IsWireCallAt : WordsCall → CallAt → Type 0
IsWireCallAt (Port call) a = IsKeptAt call a
IsWireCallAt (Forget dead) a = a ≡ Seats

-- What the step of a node answers is an answer to the call that it has under way, and of the call that
-- it keeps: to a request not as to a response.
abbrev pub IsOwnAnswer : WireData → ℕ → Progress NodeReply → Type 0
IsOwnAnswer old n Going = Unit {0}
IsOwnAnswer old n (Done reply) =
    IfSome (node_at n old.nodes) (λ x. (answered_at reply ≡ x.node.at)
    × IfSome x.call (λ u. IsWireCallAt u.call (answered_at reply)))

-- the words of a read that is over with that answer; else those of the read before
abbrev pub read_after : List ℕ → (words : List ℕ) → Option NodeReply → List ℕ
read_after before words (Some (OfSeat seat_replies.Words)) = words
read_after before words reply = before

-- the answer of a call that is over
abbrev pub reply_of : Progress NodeReply → Option NodeReply
reply_of Going = None
reply_of (Done reply) = Some reply

-- The last step of a read leaves the words that it answers, and each other one the words of the read
-- before.
abbrev pub KeepsRead : WireData → ℕ → Progress NodeReply → WireData → Type 0
KeepsRead old n progress new =
    (x y : WireNode) → node_at n old.nodes ≡ Some x → node_at n new.nodes ≡ Some y
    → y.read ≡ read_after x.read y.node.seat.words (reply_of progress)

-- the words of each node's last read stay
abbrev pub KeepsReads : WireData → WireData → Type 0
KeepsReads old new = (n : ℕ) → read_of new.nodes n ≡ read_of old.nodes n

-- the call that a node has under way after its step
abbrev pub call_after : Option UnderWay → Option NodeReply → Option UnderWay
call_after call None = call
call_after call (Some reply) = None

-- what the step of a node adds to the finished calls: the one that it had under way, if that is over
-- after so many events
abbrev pub finished_by : ℕ → WireNode → (words : List ℕ) → ℕ → Option NodeReply → List Finished
finished_by n x words events None = []
finished_by n x words events (Some reply) =
    finish x.call n (reply_in words reply) events []

-- what the step of a node records: its event, if it has one, with serials in place of slots
abbrev pub recorded : WirePlan → List WireNode → ℕ → Option Event → List (ℕ × Event)
recorded plan nodes n None = []
recorded plan nodes n (Some event) = (n, with_serials (serial_of plan nodes) event) ∷ []

-- The run continues by a step of the node, with these answers, in the same setting, and the wire shows the
-- run that continues so.
pub record GoesOnByStep (p : Setting) (r : Run) (n : ℕ) (answers : List (ℕ × Reply))
    (new : WireData) : Type 0 where
  pub beats : List Beat
  pub after : Run
  -- at most one moment of the machine, and then the end of the node's call
  pub is_step : IsStepOf n beats
  pub goes_on : GoesOnWith r beats after
  pub answered : answers_in beats ≡ answers
  -- who joined and who lives, the ports, the limits, and whom the other nodes forgot stay
  pub setting : SettingStays n r.last after.last
  -- and so does whom the node itself forgot, unless its call is a Forget
  pub own : ForgetsNobody (r.last.doing n)
      → after.last.state.fixed.forgot n ≡ r.last.state.fixed.forgot n
  pub shows : Shows p new after

-- Each run that the wire showed continues by a step of the node: at most one moment of the machine,
-- and then the end of its call with that answer. The wire shows the run that continues so.
abbrev pub StepIsWoven : WireData → ℕ → Progress NodeReply → WireData → Type 0
StepIsWoven old n progress new =
    (p : Setting) (r : Run) → Shows p old r
    → GoesOnByStep p r n (answer_of n new.nodes progress) new

-- ---- a death

-- Each run that the wire showed continues by the death of the node, and the wire shows that run.
abbrev pub DeathIsWoven : WireData → ℕ → WireData → Type 0
DeathIsWoven old n new =
    (p : Setting) (r : Run) → Shows p old r
    → (after : Run) × GoesOnBy r (Dies n) after × Shows p new after
