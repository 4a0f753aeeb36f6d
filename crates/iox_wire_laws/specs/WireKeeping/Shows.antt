-- When the words of a wire and its nodes' seats show a world of the machine.
use Rattle.std.specs.Prelude.{◌≡◌, ℕ, ◌^◌, ◌<◌, false, true, Option, Some, None}
use Rattle.iox_model.specs.declared.way.Way.{Way}
use Rattle.iox_model.specs.Joins.{not_living}
use Rattle.iox_model.specs.Maps.{same_way}
use Rattle.iox_model.specs.Messages.{names, closed_for}
use Rattle.iox_model.specs.declared.way.RequestState.TheVariants.{Closed}
use Rattle.iox_model.specs.Peers.{is_counted_on}
use Rattle.iox_model.specs.Receives.{is_at_limit}
use Rattle.iox_model.specs.States.{State}
use Rattle.iox_model.specs.Weaves.{World}
use Rattle.iox_steps.specs.Answers.{unpublished}
use Rattle.iox_laws.specs.WeaveWorlds.Worlds.{IsReachable}
use Rattle.iox_word_map.specs.WordMaps.{MessageQueue, IsWay, IsResponseWay}
use Rattle.iox_wire_words.specs.Programs.{pusher_of, Program, Pushes, Pops}
use Rattle.iox_wire_words.specs.Fits.{WireContents, IsSized, WordsFit, MayRun}
use Rattle.iox_wire_moments.specs.MomentsOf.{Pools}
use Rattle.iox_wire_moments.specs.Ties.{Suits, Ties}
use Rattle.iox_wire_moments.specs.Laws.{IsCountedFor}
use Rattle.iox_wire_locals.specs.declared.local.Local.{Local}
use Rattle.iox_wire_locals.specs.declared.local.Local.TheVariants.{SendPushes, SendEnds, ReceiveLooks, ReceivePops, ReceiveAsks, ReceiveReturns, ReleaseCloses, ReleaseReturns, ReleaseExchanges, HintExchanges}
use Rattle.iox_wire_locals.specs.declared.seat.Seat.{Seat}
use Rattle.iox_wire_locals.specs.Tables.{Setting, way_in}
use Rattle.iox_wire_locals.specs.NewLoans.{lane_in}
use Rattle.iox_wire_locals.specs.Locals.{state_word, state_told, program_of}
use Rattle.iox_wire_locals.specs.Laws.{HasSmallId}
use Rattle.iox_wire_locals.specs.BeginLaws.{Counts}
use Rattle.iox_wire_laws.specs.WireKeeping.Readiness.{ShowsDoing}

-- ---- the world

-- the word of each request state tells that state
abbrev pub StatesFit : Setting → WireContents → State → Type 0
StatesFit p c s =
    (y : Way) → IsResponseWay p.layout.sizes y → c.state y ≡ state_word (s.request_state y)

-- what each node runs, at its place
abbrev pub programs_of : Setting → (ℕ → Seat) → ℕ → Program
programs_of p seats n = program_of p (seats n).local

-- The words fit the programs of all nodes, queues and request states are the machine's, and each
-- living node counts what is so and stands for what its call has to do.
pub record ShowsWorld (p : Setting) (held : Pools) (word : ℕ → ℕ) (c : WireContents)
    (seats : ℕ → Seat) (w : World) : Type 0 where
  pub reachable : IsReachable w
  pub sized : IsSized p.layout
  pub suits : Suits p.layout w.state.fixed
  pub words : WordsFit p.layout word (programs_of p seats) c
  pub ties : Ties p.layout held c w.state
  pub states : StatesFit p c w.state
  pub ids : (y : Way) → HasSmallId (w.state.request_state y)
  pub node : (n : ℕ) → (seats n).node ≡ n
  pub counts : (n : ℕ) → not_living w.state n ≡ None → Counts p (seats n) w.state held
  pub doing : (n : ℕ) → not_living w.state n ≡ None → ShowsDoing p held w (seats n)

-- ---- a place

-- on the way of the program's queue, if it has one, the sender counts what it delivers
abbrev pub CountsWay : State → Program → Type 0
CountsWay s (Pushes q place) = IsCountedFor s (Pushes q place)
CountsWay s (Pops q place) = IsCountedFor s (Pops q place)
CountsWay s program = Unit {0}

-- the way of a send's last delivery is another of its own ways, on which it counts
abbrev pub IsBehind : Setting → Seat → State → Way → Option Way → Type 0
IsBehind p x s w None = Unit {0}
IsBehind p x s w (Some v) =
    IsWay p.layout.sizes v × (pusher_of p.layout (MessageQueue v) ≡ x.node)
    × (is_counted_on s.fixed v ≡ true) × (same_way v w ≡ false)

-- what a place knows of its call beside the words
abbrev pub PlaceKnows : Setting → Seat → State → Pools → Local → Type 0
-- a send publishes its own message, behind its last delivery
PlaceKnows p x s held (SendPushes d last w place left count) =
    (unpublished place ≡ Some d.loan.slot) × (w.sender ≡ d.loan.sender) × IsBehind p x s w last
-- at the borrow limit a receive looks, else it takes
PlaceKnows p x s held (ReceiveLooks v w place left waiting) = is_at_limit s.fixed w ≡ true
PlaceKnows p x s held (ReceivePops v w false place left waiting) = is_at_limit s.fixed w ≡ false
-- the header tells the lane of what it took
PlaceKnows p x s held (ReceiveAsks v w slot header left waiting) =
    lane_in v w header ≡ (held w.sender slot).lane
-- what is given back is what was taken, or the entry's message
PlaceKnows p x s held (ReceiveReturns v w slot place left waiting) = unpublished place ≡ Some slot
PlaceKnows p x s held (ReleaseReturns e place) =
    (unpublished place ≡ Some e.slot) × ((way_in e).sender ≡ e.sender)
-- what is closed names the request, or is closed already
PlaceKnows p x s held (ReleaseCloses e w left) =
    closed_for (s.request_state w) e.request ≡ Closed
PlaceKnows p x s held (ReleaseExchanges e old) = names (state_told old) e.request ≡ true
-- a hint is one to a request whose id is no other state's word
PlaceKnows p x s held (HintExchanges e w left) = e.request < 2 ^ 62
PlaceKnows p x s held local = Unit {0}

-- The node may run the program of its place: its queue, state or word is the node's own to access.
pub record OwnsPlace (p : Setting) (held : Pools) (s : State) (x : Seat) : Type 0 where
  pub may_run : MayRun p.layout x.node (program_of p x.local)
  pub counted : CountsWay s (program_of p x.local)
  pub knows : PlaceKnows p x s held x.local

-- what the end of a call knows: of its last delivery nothing is left to evict, and the sender
-- counts there
abbrev pub EndKnows : Setting → Seat → State → Local → Type 0
EndKnows p x s (SendEnds d (Some v) count) =
    IsWay p.layout.sizes v × (pusher_of p.layout (MessageQueue v) ≡ x.node)
    × (is_counted_on s.fixed v ≡ true)
EndKnows p x s local = Unit {0}
