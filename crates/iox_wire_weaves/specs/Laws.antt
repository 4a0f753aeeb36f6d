-- That a wire shows a run as it opens, and keeps showing one.
use Rattle.std.specs.Prelude.{◌≡◌, ◌⊎◌, ℕ, ◌+◌, ◌==◌, false, true, ◌++◌, List, [], length, replicate, Option, Some, None, is_some, option_map, ◌<◌, ◌≤◌, IfSome}
use Rattle.iox_model.specs.Maps.{has_number}
use Rattle.iox_model.specs.States.{State}
use Rattle.iox_model.specs.WireCalls.{in_wire_words, said}
use Rattle.iox_model.specs.Commands.{Call, WireCall}
use Rattle.iox_model.specs.Loans.{Choice}
use Rattle.iox_model.specs.Weaves.{Begins, Dies, begin_refusal}
use Rattle.iox_model.specs.declared.call.WireCall.TheVariants.{Port}
use Rattle.iox_model.specs.declared.reply.Reply.TheVariants.{Words}
use Rattle.iox_steps.specs.declared.access.Progress.{Progress}
use Rattle.iox_steps.specs.declared.access.Progress.TheVariants.{Done, Going}
use Rattle.iox_steps.specs.Accesses.{IsWithin, seen_at, words_after}
use Rattle.iox_steps.specs.Sites.{last_position}
use Rattle.iox_wire_needs.specs.Counts.{IsTidy}
use Rattle.iox_wire_needs.specs.MessageBegins.{WordsAreWhole}
use Rattle.iox_model.specs.Names.{is_port}
use Rattle.iox_wire_nodes.specs.Begins.{begun_at}
use Rattle.iox_wire_nodes.specs.Calls.{call_in, call_in_words}
use Rattle.iox_wire_nodes.specs.LocalsBegins.{begin, is_busy, refusal_at}
use Rattle.iox_word_map.specs.WordMaps.{total_words}
use Rattle.iox_wire_nodes.specs.WirePlan.{WirePlan}
use Rattle.iox_wire_nodes.specs.Plans.{IsPlan, sizes_of, slot_words_of}
use Rattle.iox_wire_nodes.specs.Steps.{next, tells}
use Rattle.iox_wire_nodes.specs.Tables.{Setting, entry_at}
use Rattle.iox_wire_nodes.specs.WirePlans.{HandleStands, IsWirePlan}
use Rattle.iox_wire_nodes.specs.WireTerms.{WireTerms}
use Rattle.iox_wire_nodes.specs.Aims.{IsAimed}
use Rattle.iox_wire_nodes.specs.declared.call_at.CallAt.TheVariants.{Seats}
use Rattle.iox_wire_nodes.specs.declared.call_at.NodeReply.{NodeReply}
use Rattle.iox_wire_nodes.specs.declared.node_call.NodeCall.{NodeCall}
use Rattle.iox_wire_nodes.specs.Nodes.{NodeView, reply_in, seat_in}
use Rattle.iox_wire_needs.specs.Openings.{OverflowsWithRoom, opened_seat}
use Rattle.iox_wire_needs.specs.Places.{InPools}
use Rattle.iox_wire_needs.specs.ReadWords.{TellsNoWords}
use Rattle.iox_wire_needs.specs.Runs.{GoesOnBy, Run}
use Rattle.iox_wire_seats.specs.SlotEvents.{slot_event}
use Rattle.iox_wire_weaves.specs.Wires.{WireOpensOn, Shows, ShowsOpened, WireData, WireNode, answers_in, living_refusal, node_at, seat_of}
use Rattle.iox_wire_weaves.specs.Replies.{call_within, most_words}
use Rattle.iox_wire_weaves.specs.Steps.{GoesOnByStep, MakesOneAccess, access_of, answer_of, call_after, finished_by, recorded, step_refusal}
use Rattle.iox_wire_weaves.specs.Asking.{BeginsCall, call_refusal, call_said}

-- ---- an opening

-- A wire as it is made from the plan for these nodes: its words are all 0, and each node has nothing.
pub record IsNewWire (p : Setting) (plan : WirePlan) (terms : WireTerms) (nodes : List ℕ)
    (wire : WireData) : Type 0 where
  pub plan_is : wire.plan ≡ plan
  pub terms_are : wire.terms ≡ terms
  pub words : wire.words ≡ replicate (total_words (sizes_of plan)) 0
  pub nodes_are : (n : ℕ) → is_some (node_at n wire.nodes) ≡ has_number n nodes
  pub seats : (n : ℕ) (x : WireNode) → node_at n wire.nodes ≡ Some x
      → (seat_in x.node ≡ opened_seat p n) × (x.alive ≡ true) × (x.node.at ≡ Seats)
      × (x.call ≡ None) × (x.longest ≡ most_words plan) × (x.died ≡ None) × (x.read ≡ [])
  pub replies : wire.replies ≡ []
  pub events : wire.events ≡ []

-- It shows a run from each state on which it may open, if its queues that overflow have room.
abbrev pub WiresOpen : Type 0
WiresOpen =
    (plan : WirePlan) (terms : WireTerms) (nodes : List ℕ) (p : Setting) (s : State)
    (wire : WireData)
    → IsPlan plan → OverflowsWithRoom plan → WireOpensOn plan terms nodes p s
    → IsNewWire p plan terms nodes wire
    → ShowsOpened p s wire

-- ---- one node

-- one node became another, and all others stay
pub record Replaces (old : List WireNode) (n : ℕ) (x y : WireNode) (new : List WireNode)
    : Type 0 where
  pub before : node_at n old ≡ Some x
  pub here : node_at n new ≡ Some y
  pub others : (m : ℕ) → (m == n) ≡ false → node_at m new ≡ node_at m old

-- It lives or is dead as before, and keeps as many words of a call.
pub record LivesAs (x y : WireNode) : Type 0 where
  pub alive : y.alive ≡ x.alive
  pub died : y.died ≡ x.died
  pub longest : y.longest ≡ x.longest

-- ---- a step

-- whether the call is over
abbrev pub progress_of : Option NodeReply → Progress NodeReply
progress_of None = Going
progress_of (Some reply) = Done reply

-- After an access that found this the node is the next, in the same call, it answers this if that is
-- over, it knows where the words stand that it accesses next, as far as a slot that it took is one of a
-- pool, and room for handles is neither made nor lost.
pub record WentOn (p : Setting) (x : NodeView) (seen : ℕ) (reply : Option NodeReply) (y : NodeView)
    : Type 0 where
  pub next_is : seat_in y ≡ next p (seat_in x) seen
  pub call : y.at ≡ x.at
  pub told : tells p (seat_in x) seen ≡ option_map (reply_in y.seat.words) reply
  pub aimed : InPools p (seat_in y).local → IsAimed p y
  pub room : y.seat.room + length y.seat.seat.table ≡ x.seat.room + length x.seat.seat.table

-- A living node accesses a word of the wire.
abbrev pub StepsAreSafe : Type 0
StepsAreSafe =
    (p : Setting) (wire : WireData) (r : Run) (n : ℕ) → Shows p wire r
    → living_refusal wire.nodes n ≡ None → IsWithin 0 (length wire.words) (access_of p wire n)

-- After a step that is not refused, the wire shows the run that continues so, in the same setting.
abbrev pub StepsShow : Type 0
StepsShow =
    (p : Setting) (old new : WireData) (r : Run) (n : ℕ) (x y : WireNode)
    (reply : Option NodeReply)
    → Shows p old r → step_refusal old n ≡ None
    → Replaces old.nodes n x y new.nodes → LivesAs x y
    → WentOn p x.node (seen_at (access_of p old n) old.words) reply y.node
    → new.plan ≡ old.plan → new.terms ≡ old.terms
    → new.words ≡ words_after (access_of p old n) old.words
    → y.call ≡ call_after x.call reply
    → new.replies ≡ old.replies ++ finished_by n x y.node.seat.words (length new.events) reply
    → let seen = seen_at (access_of p old n) old.words in
    new.events ≡ old.events
    ++ recorded old.plan old.nodes n (slot_event p (seat_of p old.nodes n).local seen)
    → MakesOneAccess p old n new
    × GoesOnByStep p r n (answer_of n new.nodes (progress_of reply)) new

-- ---- a death

-- After a death that is not refused, the wire shows the run with that beat.
abbrev pub DeathsShow : Type 0
DeathsShow =
    (p : Setting) (old new : WireData) (r : Run) (n : ℕ) (x : WireNode)
    → Shows p old r → living_refusal old.nodes n ≡ None
    → let dead : WireNode = record x { alive = false; died = Some (length old.events) } in
    Replaces old.nodes n x dead new.nodes
    → new.plan ≡ old.plan → new.terms ≡ old.terms → new.words ≡ old.words
    → new.replies ≡ old.replies → new.events ≡ old.events
    → (after : Run) × GoesOnBy r (Dies n) after × Shows p new after

-- ---- a begin

-- A node of the wire has its number; and where it lives and is between calls, no handle is a port.
abbrev pub NodesAreKnown : Type 0
NodesAreKnown =
    (p : Setting) (wire : WireData) (r : Run) (n : ℕ) (x : WireNode) → Shows p wire r
    → node_at n wire.nodes ≡ Some x → let own = x.node.seat.seat in
    (own.node ≡ n)
    × (living_refusal wire.nodes n ≡ None → is_busy (seat_in x.node).local ≡ false → (k : ℕ)
    → IfSome (entry_at k own.table) (λ e. is_port e.kind ≡ false))

-- Each handle of a living node that is between calls, and has one desk for a port and one count for a
-- way, is what it may be on the wire.
abbrev pub HandlesStand : Type 0
HandlesStand =
    (p : Setting) (wire : WireData) (r : Run) (n : ℕ) (x : WireNode) → Shows p wire r
    → IsWirePlan wire.plan wire.terms → node_at n wire.nodes ≡ Some x
    → living_refusal wire.nodes n ≡ None → is_busy (seat_in x.node).local ≡ false
    → IsTidy (seat_in x.node) → let own = x.node.seat.seat in
    (k : ℕ) → IfSome (entry_at k own.table) (HandleStands wire.plan own.desks)

-- A call of a port or a handle is refused for the machine's reason: its node does not live, or its
-- own tables say why.
abbrev pub RefusalsAreShown : Type 0
RefusalsAreShown =
    (p : Setting) (wire : WireData) (r : Run) (n : ℕ) (call : Call) → Shows p wire r
    → begin_refusal r.last n (Port call) ≡ call_refusal p wire n call

-- A living node that has no words to tell before its access tells no more of a read than a message takes
-- in a slot of its port.
abbrev pub ReadsAreWithin : Type 0
ReadsAreWithin =
    (p : Setting) (wire : WireData) (r : Run) (n : ℕ) (x : WireNode) (seen : ℕ) (told : List ℕ)
    → Shows p wire r → living_refusal wire.nodes n ≡ None → node_at n wire.nodes ≡ Some x
    → TellsNoWords (seat_in x.node).local → tells p (seat_in x.node) seen ≡ Some (Words told)
    → (told ≡ []) ⊎ ((port : ℕ) × (length told ≤ slot_words_of wire.plan port))

-- The machine refuses a call that a node is asked for as the call that the node makes of it. Where it
-- does not, they are the same, and the machine's own reading of the words.
abbrev pub CallsAreSaid : Type 0
CallsAreSaid =
    (p : Setting) (wire : WireData) (r : Run) (n : ℕ) (x : WireNode) (call : NodeCall)
    → Shows p wire r → node_at n wire.nodes ≡ Some x
    → let own = call_in p (seat_in x.node) call in let f = r.last.state.fixed in
    (begin_refusal r.last n (Port (call_said f n call)) ≡ begin_refusal r.last n (Port own))
    × (living_refusal wire.nodes n ≡ None → refusal_at p (seat_in x.node) (Port own) ≡ None
    → (call_said f n call ≡ own) × (call_said f n call ≡ said f n (call_in_words call)))

-- After the begin of a call that is not refused, whose words are of whole elements, the wire shows
-- the run with that beat.
abbrev pub BeginsShow : Type 0
BeginsShow =
    (p : Setting) (old new : WireData) (r : Run) (n : ℕ) (x y : WireNode) (call : WireCall)
    → Shows p old r → begin_refusal r.last n call ≡ None → WordsAreWhole p.limits call
    → (seat_in x.node).accesses < last_position
    → Replaces old.nodes n x y new.nodes → LivesAs x y
    → seat_in y.node ≡ begin p (seat_in x.node) call
    → y.node.at ≡ begun_at x.node.seat.seat.table call
    → (InPools p (seat_in y.node).local → IsAimed p y.node)
    → new.plan ≡ old.plan → new.terms ≡ old.terms → new.words ≡ old.words
    → new.replies ≡ old.replies → new.events ≡ old.events
    → y.call
    ≡ Some (record { call = call_within x.longest (in_wire_words call); begun = length old.events })
    → BeginsCall p old n call new
    × (c : Choice) × (after : Run) × GoesOnBy r (Begins n call c) after × Shows p new after
