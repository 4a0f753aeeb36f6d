-- Each step of a node is its call's next moment in the machine, or none.
use Rattle.std.specs.Prelude.{◌≡◌, ℕ, true, ◌==◌, [], ◌∷◌, ◌++◌, length, Option, Some, None}
use Rattle.iox_model.specs.Doings.{Doing}
use Rattle.iox_model.specs.Maps.{is_empty}
use Rattle.iox_model.specs.Moments.{Moment}
use Rattle.iox_model.specs.Outstandings.{kept, is_dry}
use Rattle.iox_model.specs.Peers.{node_of_port}
use Rattle.iox_model.specs.States.{State}
use Rattle.iox_model.specs.Transitions as transitions
use Rattle.iox_steps.specs.declared.push.Push.TheVariants as push
use Rattle.iox_steps.specs.declared.side.Pushing.TheVariants as pushing
use Rattle.iox_steps.specs.declared.side.Popping.TheVariants as popping
use Rattle.iox_wire_moments.specs.MomentsOf.{Pools}
use Rattle.iox_wire_locals.specs.declared.local.Local.{Local}
use Rattle.iox_wire_locals.specs.declared.local.Local.TheVariants.{Idle, Ends, LendEmpties, LendStores, SendEmpties, SendLooks, SendPushes, SendEvicts, SendGetsBack, SendEnds, ReceiveLooks, ReceivePops, ReceiveLoads, ReceiveAsks, ReceiveReturns, Reads, ReleaseReturns, Seeks}
use Rattle.iox_wire_locals.specs.declared.seat.Seat.{Seat}
use Rattle.iox_wire_locals.specs.Tables.{Setting, handle_of, words_to_read}
use Rattle.iox_wire_locals.specs.NewLoans.{loan_in, entry_in, received_length, request_in}
use Rattle.iox_wire_locals.specs.Known.{free_slots, sending}
use Rattle.iox_wire_locals.specs.Doings.{doing_of}
use Rattle.iox_wire_locals.specs.Steps.{advance}
use Rattle.iox_wire_locals.specs.Knowing.{Knows, StandsFor}
use Rattle.iox_wire_locals.specs.StateMoments.{moment_at}

-- What the step of a place relies on: where its party is in the queue's program, and what the
-- words and the pool have told. A place without access makes no such step.
abbrev pub ReliesOn : Setting → Seat → State → Pools → Local → ℕ → Type 0
ReliesOn p x s held Idle seen = ⊥
ReliesOn p x s held (Ends ending) seen = ⊥
ReliesOn p x s held (SendEnds d last count) seen = ⊥
-- a pool has no message left exactly if no slot is free
ReliesOn p x s held (LendEmpties o w (popping.Pops place) left) seen =
    is_dry s.fixed o.port (kept s o.port []) ≡ is_empty (free_slots x o.port)
ReliesOn p x s held (LendEmpties o w place left) seen = ⊥
-- the slot of a new loan holds its message
ReliesOn p x s held (LendStores o slot next) seen =
    (node_of_port s.fixed o.port ≡ x.node) × (handle_of held x.node (entry_in o slot) ≡ loan_in p o)
ReliesOn p x s held (SendEmpties d w (popping.Pops place) left) seen = Unit {0}
ReliesOn p x s held (SendEmpties d w place left) seen = ⊥
ReliesOn p x s held (SendLooks d w (pushing.Looks place) left full) seen = Unit {0}
ReliesOn p x s held (SendLooks d w place left full) seen = ⊥
-- a push that finds its queue full continues only where messages overflow
ReliesOn p x s held
    (SendPushes d last w (pushing.Pushes (push.StoresWrite value end (Some read))) left count) seen =
    (sending p x d).overflow ≡ true
ReliesOn p x s held (SendPushes d last w (pushing.Pushes (push.Evicts read)) left count) seen = ⊥
ReliesOn p x s held (SendPushes d last w (pushing.Pushes (push.TakesOld cell)) left count) seen = ⊥
ReliesOn p x s held (SendPushes d last w (pushing.Pushes place) left count) seen = Unit {0}
ReliesOn p x s held (SendPushes d last w place left count) seen = ⊥
ReliesOn p x s held (SendEvicts d w (pushing.Pushes (push.Evicts read)) left count) seen = Unit {0}
ReliesOn p x s held (SendEvicts d w place left count) seen = ⊥
ReliesOn p x s held (SendGetsBack d w (pushing.Pushes (push.TakesOld cell)) left count) seen =
    Unit {0}
ReliesOn p x s held (SendGetsBack d w place left count) seen = ⊥
ReliesOn p x s held (ReceiveLooks v w (popping.Looks place) left waiting) seen = Unit {0}
ReliesOn p x s held (ReceiveLooks v w place left waiting) seen = ⊥
ReliesOn p x s held (ReceivePops v w again (popping.Pops place) left waiting) seen = Unit {0}
ReliesOn p x s held (ReceivePops v w again place left waiting) seen = ⊥
-- a whole header tells the request
ReliesOn p x s held (ReceiveLoads v w slot header left waiting) seen =
    (length (header ++ seen ∷ []) == received_length v) ≡ true
    → request_in v (header ++ seen ∷ []) ≡ (held w.sender slot).request
ReliesOn p x s held (ReceiveAsks v w slot header left waiting) seen =
    request_in v header ≡ (held w.sender slot).request
ReliesOn p x s held (ReceiveReturns v w slot (pushing.Pushes place) left waiting) seen = Unit {0}
ReliesOn p x s held (ReceiveReturns v w slot place left waiting) seen = ⊥
-- all words that are loaded are those of the message
ReliesOn p x s held (Reads e words) seen =
    (length (words ++ seen ∷ []) == words_to_read p e) ≡ true
    → words ++ seen ∷ [] ≡ (held e.sender e.slot).user ++ (held e.sender e.slot).payload
ReliesOn p x s held (ReleaseReturns e (pushing.Pushes place)) seen = Unit {0}
ReliesOn p x s held (ReleaseReturns e place) seen = ⊥
ReliesOn p x s held (Seeks w (popping.Looks place) left) seen = Unit {0}
ReliesOn p x s held (Seeks w place left) seen = ⊥
-- the others rely on nothing
ReliesOn p x s held local seen = Unit {0}

-- the node stands for what there is to do after that moment, or for the same if there was none
abbrev pub StandsAfter : Setting → State → Pools → ℕ → Doing → Option Moment → Seat → Type 0
StandsAfter p s held node d None y = StandsFor p s.fixed held node y d
StandsAfter p s held node d (Some m) y =
    StandsFor p s.fixed held node y (transitions.next s node d m).after

-- the same, where there is something to do
abbrev pub GoesOnFrom : Setting → State → Pools → ℕ → Option Doing → Option Moment → Seat → Type 0
GoesOnFrom p s held node (Some d) m y = StandsAfter p s held node d m y
GoesOnFrom p s held node None m y = ⊥

-- Whatever an access finds, the node is then where the machine is after the moment of that access.
abbrev pub StepsGoOn : Type 0
StepsGoOn =
    (p : Setting) (x : Seat) (s : State) (held : Pools) (local : Local) (seen : ℕ)
    → Knows p x s.fixed held → ReliesOn p x s held local seen
    → GoesOnFrom p s held x.node (doing_of p s.fixed held x.node local)
    (moment_at p held local seen) (advance p x local seen)
