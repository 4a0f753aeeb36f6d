-- What a node owns at each place of its call: its ways are the wire's and its own, and so are its
-- request states.
use Rattle.std.specs.Prelude.{◌≡◌, ℕ, ◌^◌, ◌<◌, ◌==◌, true, false, if◌then◌else◌, List, [], ◌∷◌, map, Option, Some, None, ◌++◌, length}
use Rattle.iox_model.specs.declared.kind.Kind.TheVariants.{ActiveRequest}
use Rattle.iox_model.specs.declared.way.RequestState.{RequestState}
use Rattle.iox_model.specs.declared.way.RequestState.TheVariants.{Closed}
use Rattle.iox_model.specs.declared.way.Way.{Way}
use Rattle.iox_model.specs.Handles.{is_request_loan, same_kind}
use Rattle.iox_model.specs.Maps.{has_number, same_way, AreDistinctWays}
use Rattle.iox_model.specs.Messages.{closed_for, names, request_way, response_way}
use Rattle.iox_model.specs.Moments.{Moment, moved}
use Rattle.iox_model.specs.Peers.{is_counted_on}
use Rattle.iox_model.specs.Receives.{is_at_limit}
use Rattle.iox_model.specs.Settings.{is_client}
use Rattle.iox_model.specs.States.{State, Fixed}
use Rattle.iox_steps.specs.declared.push.Push.TheVariants as push
use Rattle.iox_steps.specs.declared.side.Pushing.TheVariants as pushing
use Rattle.iox_steps.specs.declared.side.Popping.TheVariants as popping
use Rattle.iox_steps.specs.declared.side.QueueEvent.TheVariants.{HandOut}
use Rattle.iox_steps.specs.Pops.{pop_event}
use Rattle.iox_steps.specs.declared.site.Site.{Site}
use Rattle.iox_steps.specs.Answers.{unpublished}
use Rattle.iox_steps.specs.Pushes.{is_refused}
use Rattle.iox_steps.specs.Sites.{is_full, last_position}
use Rattle.iox_word_map.specs.WordMaps.{MessageQueue, ReturningQueue, IsWay, IsResponseWay}
use Rattle.iox_wire_words.specs.Programs.{site_of}
use Rattle.iox_wire_moments.specs.MomentsOf.{Pools}
use Rattle.iox_wire_locals.specs.declared.local.Delivery.{Delivery}
use Rattle.iox_wire_locals.specs.declared.local.Local.{Local}
use Rattle.iox_wire_locals.specs.declared.local.Visit.{Visit}
use Rattle.iox_wire_locals.specs.declared.local.Local.TheVariants.{Idle, Ends, ReceiveLooks, ReceivePops, ReceiveLoads, ReceiveAsks, SendAsks, SendEmpties, SendLooks, SendOpens, SendPushes, SendEvicts, SendGetsBack, SendEnds, ReleaseCloses, ReleaseReturns, ReleaseLooks, ReleaseExchanges, Checks, Hints, HintExchanges, Seeks, ReceiveReturns}
use Rattle.iox_wire_locals.specs.declared.seat.Seat.{Seat}
use Rattle.iox_wire_locals.specs.declared.table.Entry.{Entry}
use Rattle.iox_wire_locals.specs.Known.{known}
use Rattle.iox_wire_locals.specs.NewLoans.{lane_in, received_length}
use Rattle.iox_wire_locals.specs.Locals.{state_told}
use Rattle.iox_wire_locals.specs.StateMoments.{moment_at}
use Rattle.iox_wire_locals.specs.StepLaws.{ReliesOn}
use Rattle.iox_wire_locals.specs.Steps.{advance, accessed}
use Rattle.iox_wire_locals.specs.Tables.{Setting, region_word, way_in, state_in}
use Rattle.iox_wire_laws.specs.WireKeeping.Shows.{OwnsPlace}
use Rattle.iox_wire_laws.specs.WireShows.Ids.{NamesSmall}

-- it holds of each of these ways
abbrev pub Each : (Way → Type 0) → List Way → Type 0
Each P [] = Unit {0}
Each P (y ∷ ways) = P y × Each P ways

-- ---- ways

-- the way is one of the wire's, the node sends there, and it counts what it delivers
pub record SendsOn (p : Setting) (node : ℕ) (f : Fixed) (y : Way) : Type 0 where
  pub way : IsWay p.layout.sizes y
  pub mine : p.layout.owner y.sender ≡ node
  pub counted : is_counted_on f y ≡ true

-- the way is one of the wire's, the node receives there, and the sender counts what it delivers
pub record ReceivesOn (p : Setting) (node : ℕ) (f : Fixed) (y : Way) : Type 0 where
  pub way : IsWay p.layout.sizes y
  pub mine : p.layout.owner y.receiver ≡ node
  pub counted : is_counted_on f y ≡ true

-- a send delivers its own message there
abbrev pub DeliversOn : Setting → ℕ → Fixed → Delivery → Way → Type 0
DeliversOn p node f d y = SendsOn p node f y × (y.sender ≡ d.loan.sender)

-- a send opens its request there, whose id is small
abbrev pub OpensOn : Setting → Delivery → Way → Type 0
OpensOn p d y = IsResponseWay p.layout.sizes y × (d.loan.request < 2 ^ 62)

-- a release closes its request there: it is the one named, or nothing is open
abbrev pub ClosesOn : Setting → (Way → RequestState) → Entry → Way → Type 0
ClosesOn p shown e y =
    IsResponseWay p.layout.sizes y × (closed_for (shown y) e.request ≡ Closed)

-- a way left is not that of the send's last delivery
abbrev pub IsLeft : Setting → ℕ → Fixed → Option Way → Way → Type 0
IsLeft p node f None y = Unit {0}
IsLeft p node f (Some v) y = same_way v y ≡ false

-- and the node sends on the way of its last delivery, if there was one
abbrev pub OwnsLast : Setting → ℕ → Fixed → Option Way → Type 0
OwnsLast p node f None = Unit {0}
OwnsLast p node f (Some v) = SendsOn p node f v

-- the ways on which a send delivers
abbrev pub ways_to : Delivery → List Way
ways_to d =
    if is_request_loan d.loan.kind then map (request_way d.loan.port) d.to
    else map (λ client. response_way client d.loan.lane d.loan.port) d.to

-- the request states that a send opens: of a request, one for each receiver
abbrev pub states_to : Delivery → List Way
states_to d =
    if is_request_loan d.loan.kind then map (response_way d.loan.port d.loan.lane) d.to else []

-- A send delivers on the node's own ways, on each once, and it opens states of the wire.
pub record OwnsSend (p : Setting) (node : ℕ) (f : Fixed) (d : Delivery) : Type 0 where
  pub ways : Each (DeliversOn p node f d) (ways_to d)
  pub apart : AreDistinctWays (ways_to d)
  pub opens : Each (OpensOn p d) (states_to d)

-- the header of what was taken stands in its sender's region
abbrev pub HasHeader : Setting → Visit → Way → ℕ → Type 0
HasHeader p v w slot =
    (has_number w.sender p.layout.sizes.ports ≡ true)
    × ((k : ℕ) → k < received_length v
    → region_word p w.sender slot k < p.layout.sizes.region w.sender)

-- the request state that a header tells is one of the wire
abbrev pub AsksOn : Setting → Visit → Way → List ℕ → Type 0
AsksOn p v w header =
    IsResponseWay p.layout.sizes (response_way w.sender (lane_in v w header) w.receiver)

-- ---- places

-- What the call owns at its place and has left to visit: of sends, receives,
-- releases, questions and hints.
abbrev pub OwnsCall : Setting → ℕ → Fixed → (Way → RequestState) → Local → Type 0
OwnsCall p node f shown Idle = Unit {0}
OwnsCall p node f shown (Ends ending) = Unit {0}
OwnsCall p node f shown (SendEnds d last count) = OwnsLast p node f last
OwnsCall p node f shown (SendAsks d) =
    OwnsSend p node f d × IsResponseWay p.layout.sizes (state_in d.loan)
OwnsCall p node f shown (SendEmpties d w place left) =
    OwnsSend p node f d × Each (DeliversOn p node f d) (w ∷ left)
OwnsCall p node f shown (SendLooks d w place left full) =
    OwnsSend p node f d × Each (DeliversOn p node f d) (w ∷ left)
OwnsCall p node f shown (SendOpens d w left full) =
    OwnsSend p node f d × Each (OpensOn p d) (w ∷ left)
-- a push publishes the send's own message, and the ways left are others than that of the last
OwnsCall p node f shown (SendPushes d last w place left count) =
    Each (DeliversOn p node f d) (w ∷ left) × AreDistinctWays (w ∷ left)
    × (unpublished place ≡ Some d.loan.slot)
    × OwnsLast p node f last × Each (IsLeft p node f last) (w ∷ left)
OwnsCall p node f shown (SendEvicts d w place left count) =
    Each (DeliversOn p node f d) (w ∷ left) × AreDistinctWays (w ∷ left)
OwnsCall p node f shown (SendGetsBack d w place left count) =
    Each (DeliversOn p node f d) (w ∷ left) × AreDistinctWays (w ∷ left)
OwnsCall p node f shown (ReleaseCloses e w left) = Each (ClosesOn p shown e) (w ∷ left)
-- a release gives back the entry's own message, and of a request it then asks the state
OwnsCall p node f shown (ReleaseReturns e place) =
    ReceivesOn p node f (way_in e) × ((way_in e).sender ≡ e.sender)
    × (unpublished place ≡ Some e.slot)
    × (same_kind e.kind ActiveRequest ≡ true → IsResponseWay p.layout.sizes (state_in e))
OwnsCall p node f shown (ReleaseLooks e) = IsResponseWay p.layout.sizes (state_in e)
OwnsCall p node f shown (ReleaseExchanges e old) =
    IsResponseWay p.layout.sizes (state_in e) × (names (state_told old) e.request ≡ true)
OwnsCall p node f shown (Checks e hinted w left) = Each (IsResponseWay p.layout.sizes) (w ∷ left)
OwnsCall p node f shown (Hints e w left) =
    (e.request < 2 ^ 62) × Each (IsResponseWay p.layout.sizes) (w ∷ left)
OwnsCall p node f shown (HintExchanges e w left) =
    (e.request < 2 ^ 62) × Each (IsResponseWay p.layout.sizes) (w ∷ left)
OwnsCall p node f shown (Seeks w place left) = Each (ReceivesOn p node f) (w ∷ left)
-- a receive visits its own ways, and pops only where it is not at its borrow limit
OwnsCall p node f shown (ReceiveLooks v w place left waiting) =
    Each (ReceivesOn p node f) (w ∷ left) × (is_at_limit f w ≡ true)
OwnsCall p node f shown (ReceivePops v w more place left waiting) =
    Each (ReceivesOn p node f) (w ∷ left) × (more ≡ false → is_at_limit f w ≡ false)
OwnsCall p node f shown (ReceiveLoads v w slot header left waiting) =
    Each (ReceivesOn p node f) (w ∷ left) × HasHeader p v w slot
    × (length header < received_length v)
OwnsCall p node f shown (ReceiveAsks v w slot header left waiting) =
    Each (ReceivesOn p node f) (w ∷ left) × AsksOn p v w header
OwnsCall p node f shown (ReceiveReturns v w slot place left waiting) =
    Each (ReceivesOn p node f) (w ∷ left) × (unpublished place ≡ Some slot)
OwnsCall p node f shown local = ⊥

-- ---- what the words tell

-- the queue is not full where a push loads its read position, nor is its last position reached
abbrev pub LetsPush : Site → ℕ → ℕ → Type 0
LetsPush site write seen =
    is_refused site.kind (write == last_position) (is_full site seen write) ≡ false

-- What an access relies on beside: a push finds room, what is taken has a header in its region, and
-- the whole header of a request tells a request state of the wire.
abbrev pub WordsTell : Setting → Local → ℕ → Type 0
WordsTell p (ReceivePops v w more (popping.Pops place) left waiting) seen =
    (slot : ℕ) → pop_event (site_of p.layout (MessageQueue w)) place seen ≡ HandOut slot
    → HasHeader p v w slot
WordsTell p (ReceiveLoads v w slot header left waiting) seen =
    (length (header ++ seen ∷ []) == received_length v) ≡ true → is_client v.role ≡ false
    → AsksOn p v w (header ++ seen ∷ [])
WordsTell p
    (ReceiveReturns v w slot (pushing.Pushes (push.LoadsRead value write)) left waiting) seen =
    LetsPush (site_of p.layout (ReturningQueue w)) write seen
WordsTell p (SendPushes d last w (pushing.Pushes (push.LoadsRead value write)) left count) seen =
    LetsPush (site_of p.layout (MessageQueue w)) write seen
WordsTell p (ReleaseReturns e (pushing.Pushes (push.LoadsRead value write))) seen =
    LetsPush (site_of p.layout (ReturningQueue (way_in e))) write seen
WordsTell p local seen = Unit {0}

-- ---- the laws

-- what the header of a request tells of its lane is so
abbrev pub TellsLane : Pools → Local → Type 0
TellsLane held (ReceiveAsks v w slot header left waiting) =
    lane_in v w header ≡ (held w.sender slot).lane
TellsLane held local = Unit {0}

-- on the ways to its own ports the node counts its borrowed messages up to the machine's limit
abbrev pub LimitsAreKnown : Setting → Seat → Fixed → Type 0
LimitsAreKnown p x f =
    (y : Way) → p.layout.owner y.receiver ≡ x.node → is_at_limit (known p x) y ≡ is_at_limit f y

-- What a call owns, it may access, and its place knows what it needs.
abbrev pub OwnedCallsOwnPlaces : Type 0
OwnedCallsOwnPlaces =
    (p : Setting) (held : Pools) (s : State) (x : Seat)
    → OwnsCall p x.node s.fixed s.request_state x.local → TellsLane held x.local
    → OwnsPlace p held s x × NamesSmall x.local

-- the state after the moment, if there is one
abbrev pub state_after : State → Option Moment → State
state_after s None = s
state_after s (Some m) = moved s m

-- After an access the call owns its next place.
abbrev pub StepsOwnTheNextPlace : Type 0
StepsOwnTheNextPlace =
    (p : Setting) (held : Pools) (s : State) (x : Seat) (seen : ℕ)
    → OwnsCall p x.node s.fixed s.request_state x.local → LimitsAreKnown p x s.fixed
    → ReliesOn p (accessed x) s held x.local seen → WordsTell p x.local seen
    → let t = state_after s (moment_at p held x.local seen) in
    let y = advance p (accessed x) x.local seen in
    OwnsCall p y.node t.fixed t.request_state y.local
