-- A wire as its callers see it, and when it shows a run of the machine.
use Rattle.std.specs.Prelude.{◌≡◌, ◌<◌, ℕ, Bool, not, ◌==◌, List, [], ◌∷◌, find, flat_map, length, map, if◌then◌else◌, true, Option, None, Some, option_map}
use Rattle.std.specs.Option.{option_map_or}
use Rattle.iox_model.specs.declared.event.Event.{Event}
use Rattle.iox_model.specs.declared.reply.Refusal.TheVariants as refusals
use Rattle.iox_model.specs.Commands.{Refusal, Reply}
use Rattle.iox_model.specs.Joins.{not_living}
use Rattle.iox_model.specs.Maps.{has_number, refused_if}
use Rattle.iox_model.specs.Runs.{IsReachableState}
use Rattle.iox_model.specs.Schedules.{Finished, UnderWay, events_of, replies_of}
use Rattle.iox_model.specs.States.{State}
use Rattle.iox_model.specs.WireCalls.{opened, wire_refusal}
use Rattle.iox_model.specs.Weaves.{Beat, Begins, Dies, Ends, Makes, at_work}
use Rattle.iox_wire_nodes.specs.WirePlan.{WirePlan}
use Rattle.iox_wire_nodes.specs.Seat.{Seat}
use Rattle.iox_wire_nodes.specs.Tables.{Setting}
use Rattle.iox_wire_nodes.specs.Terms.{FitsPlan, IsSettingWith}
use Rattle.iox_wire_nodes.specs.WireTerms.{WireTerms}
use Rattle.iox_wire_nodes.specs.Plans.{IsSlotAt}
use Rattle.iox_wire_needs.specs.WireStands.{WireStands}
use Rattle.iox_wire_nodes.specs.Aims.{IsAimed}
use Rattle.iox_wire_nodes.specs.declared.call_at.CallAt.{CallAt}
use Rattle.iox_wire_nodes.specs.Nodes.{NodeView, seat_in}
use Rattle.iox_wire_needs.specs.Openings.{AgreesWith, OverflowsWithRoom, opened_seat}
use Rattle.iox_wire_needs.specs.Runs.{Run, history}
use Rattle.iox_wire_needs.specs.Stands.{Player}
use Rattle.iox_wire_weaves.specs.PortCounts.{TellsCounts}
use Rattle.iox_wire_weaves.specs.Replies.{died_after, finished_within, most_words, under_way, under_way_within}
use Rattle.iox_wire_weaves.specs.declared.refusal.WireRefusal.{WireRefusal}
use Rattle.iox_wire_weaves.specs.declared.refusal.WireRefusal.TheVariants.{AccessesSpent, AtRest, Busy, ForeignNumber, NodeIsDead, UnknownNode, UnknownNumber, WantOfMemory, WrongKind}

-- ---- a wire

-- A node of a wire: its number, whether it lives, and else how many events came before its death; its own
-- part of the wire, its call under way, the most words that it keeps of a call, and the words of its last
-- read that is over.
pub record WireNode : Type 0 where
  pub number : ℕ
  pub alive : Bool
  pub died : Option ℕ
  pub node : NodeView
  pub call : Option UnderWay
  pub longest : ℕ
  pub read : List ℕ

-- A wire: what it was made for, and told beside that, its words, its nodes, the finished calls in the
-- order of their ends, the events that were recorded, each with its node, oldest first, and how many more
-- steps find room for what they record.
pub record WireData : Type 0 where
  pub plan : WirePlan
  pub terms : WireTerms
  pub words : List ℕ
  pub nodes : List WireNode
  pub replies : List Finished
  pub events : List (ℕ × Event)
  pub room : ℕ

-- What the wire was made for, and told beside that, stays.
pub record IsSameSetting (old new : WireData) : Type 0 where
  pub plan : new.plan ≡ old.plan
  pub terms : new.terms ≡ old.terms

-- the node of that number
abbrev pub node_at : ℕ → List WireNode → Option WireNode
node_at n nodes = find (λ x. x.number == n) nodes

-- where the node keeps the call that it began last, until it is over
abbrev pub kept_at : List WireNode → ℕ → Option CallAt
kept_at nodes n = option_map (λ x. x.node.at) (node_at n nodes)

-- the words of the node's last read that is over
abbrev pub read_of : List WireNode → ℕ → Option (List ℕ)
read_of nodes n = option_map (λ x. x.read) (node_at n nodes)

-- why a node is not a living one: it is unknown, or it is dead
abbrev pub living_refusal : List WireNode → ℕ → Option WireRefusal
living_refusal nodes n =
    option_map_or (λ x. refused_if (not x.alive) NodeIsDead) (node_at n nodes) (Some UnknownNode)

-- the machine's name of a refusal, if it has one: it knows no want of memory
abbrev pub machine_refusal : WireRefusal → Option Refusal
machine_refusal UnknownNode = Some refusals.UnknownNode
machine_refusal NodeIsDead = Some refusals.NodeIsDead
machine_refusal AtRest = Some refusals.AtRest
machine_refusal AccessesSpent = Some refusals.AccessesSpent
machine_refusal Busy = Some refusals.Busy
machine_refusal UnknownNumber = Some refusals.UnknownNumber
machine_refusal ForeignNumber = Some refusals.ForeignNumber
machine_refusal WrongKind = Some refusals.WrongKind
machine_refusal WantOfMemory = None

-- that name; what has none is told as want of memory
abbrev pub refusal_in : WireRefusal → Refusal
refusal_in refusal = option_map_or (λ r. r) (machine_refusal refusal) refusals.WantOfMemory

-- the part of a node; a node that is none of the wire has nothing
abbrev pub seat_of : Setting → List WireNode → ℕ → Seat
seat_of p nodes n = option_map_or (λ x. seat_in x.node) (node_at n nodes) (opened_seat p n)

-- ---- a run

-- each node's part, and what it was asked and answered in the run
abbrev pub players_of : Setting → List WireNode → Run → ℕ → Player
players_of p nodes r n = record { seat = seat_of p nodes n; said = history n r.beats }

-- the answer in a beat, with its node
abbrev pub answer_in : Beat → List (ℕ × Reply)
answer_in (Begins node call choice) = []
answer_in (Makes node m) = []
answer_in (Ends node reply payload) = (node, reply) ∷ []
answer_in (Dies node) = []

-- the answers in beats, each with its node
abbrev pub answers_in : List Beat → List (ℕ × Reply)
answers_in beats = flat_map answer_in beats

-- After these beats the node keeps the call that it has under way, with no more words than there is room
-- for, and when it died, if it did.
pub record KeepsItsCall (most : ℕ) (bs : List Beat) (n : ℕ) (x : WireNode) : Type 0 where
  pub room : x.longest ≡ most
  pub call : x.call ≡ option_map (under_way_within most) (under_way bs n)
  pub died : x.died ≡ died_after bs n

-- The wire shows the run: it is one of the machine on whose ports the wire was opened.
pub record Shows (p : Setting) (wire : WireData) (r : Run) : Type 0 where
  -- the setting is made from the plan, with these terms
  pub setting : IsSettingWith wire.plan wire.terms p
  -- words and nodes stand for the world to which the run led
  pub stands : WireStands p wire.words (players_of p wire.nodes r) r
  -- the nodes that live are those of the machine
  pub living : (n : ℕ) → not_living r.last.state n ≡ option_map refusal_in (living_refusal wire.nodes n)
  -- each node knows where the words stand that it accesses next
  pub aimed : (n : ℕ) (x : WireNode) → node_at n wire.nodes ≡ Some x → IsAimed p x.node
  -- the machine has the setting's ports
  pub ports : r.last.state.fixed.ports ≡ map p.port p.layout.sizes.ports
  -- the desk of each port tells what the machine counts of it, whether its node lives or is dead
  pub counts : (port : ℕ) → has_number port p.layout.sizes.ports ≡ true
      → TellsCounts r.last port (seat_of p wire.nodes (p.layout.owner port))
  -- each node keeps its call that is under way, and when it died
  pub calls : (n : ℕ) (x : WireNode) → node_at n wire.nodes ≡ Some x
      → KeepsItsCall (most_words wire.plan) r.beats n x
  -- the replies are the run's; of what a call brought they tell no more words than the longest message has
  pub replies : wire.replies ≡ map (finished_within (most_words wire.plan)) (replies_of r.beats)
  -- and so are the events
  pub events : wire.events ≡ events_of r.beats

-- ---- an opening

-- The terms fit the plan, each port has a slot, and a queue that overflows has room for a message.
pub record AreWhole (plan : WirePlan) (terms : WireTerms) : Type 0 where
  pub fit : FitsPlan plan terms
  pub slots : (i : ℕ) → i < length plan.ports.items → IsSlotAt plan i 0
  pub room : OverflowsWithRoom plan

-- A state that a service reached, on which a wire of that plan and these terms may open with these
-- nodes alive, and the setting of that wire.
pub record WireOpensOn (plan : WirePlan) (terms : WireTerms) (nodes : List ℕ) (p : Setting) (s : State)
    : Type 0 where
  pub agrees : AgreesWith plan p s
  pub told : IsSettingWith plan terms p
  pub reached : IsReachableState s
  pub allowed : wire_refusal s 0 true ≡ None
  pub living : (n : ℕ)
      → not_living s n ≡ (if has_number n nodes then None else Some refusals.UnknownNode)

-- The wire shows a run without a beat, from that state on.
abbrev pub ShowsOpened : Setting → State → WireData → Type 0
ShowsOpened p s wire =
    (r : Run) × (r.first ≡ at_work (opened s)) × (r.beats ≡ []) × (r.last ≡ at_work (opened s))
    × Shows p wire r
