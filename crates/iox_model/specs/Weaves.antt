-- Calls of several nodes whose moments come in between each other.
use Rattle.std.specs.Prelude.{◌≡◌, ℕ, List, [], ◌∷◌, Option, Some, None, ⊤, is_some}
use Rattle.iox_model.specs.declared.call.WireCall.TheVariants.{Forget}
use Rattle.iox_model.specs.declared.call.WireCall.TheVariants as wire_calls
use Rattle.iox_model.specs.declared.reply.Refusal.TheVariants.{Busy}
use Rattle.iox_model.specs.Names.{misnamed}
use Rattle.iox_model.specs.Doings.{Outcome, Forgets, Doing, Ended}
use Rattle.iox_model.specs.States.{Fixed, State}
use Rattle.iox_model.specs.Loans.{Choice}
use Rattle.iox_model.specs.WholeCalls.{replied, MayHold}
use Rattle.iox_model.specs.Maps.{put_at, or_else, refused_if}
use Rattle.iox_model.specs.Ends.{settled}
use Rattle.iox_model.specs.Joins.{not_living, not_dead}
use Rattle.iox_model.specs.Moments.{Holds, moved, Moment}
use Rattle.iox_model.specs.Begins.{start, MayChoose}
use Rattle.iox_model.specs.Services.{with_death}
use Rattle.iox_model.specs.Commands.{Refusal, Reply, WireCall}
use Rattle.iox_model.specs.Transitions.{next, ends}

-- the state, and what each node's call under way has yet to do
pub record World : Type 0 where
  pub state : State
  pub doing : ℕ → Option Doing

-- a world between calls
abbrev pub at_work : State → World
at_work s = record { state = s; doing = λ n. None }

-- What happens at one time: a call begins, makes a moment or ends, or a node dies.
pub data Beat : Type 0 where
  Begins : (node : ℕ) (call : WireCall) (choice : Choice) → Beat
  Makes : (node : ℕ) (moment : Moment) → Beat
  -- the call ends with that reply; a new loan holds that payload
  Ends : (node : ℕ) (reply : Reply) (payload : List ℕ) → Beat
  Dies : (node : ℕ) → Beat

-- why a call names nothing fitting: a Forget names a dead node, any other call a port or handle
abbrev pub miscalled : State → ℕ → WireCall → Option Refusal
miscalled s node (wire_calls.Port call) = misnamed s.fixed node call
miscalled s node (Forget dead) = not_dead s dead

-- why a call may not begin: the node, a call under way, what the call names
abbrev pub begin_refusal : World → ℕ → WireCall → Option Refusal
begin_refusal w node call =
    or_else (not_living w.state node)
    (or_else (refused_if (is_some (w.doing node)) Busy) (miscalled w.state node call))

-- what a call on a wire has to do, as it begins; a wire counts accesses in place of calls, so that
-- none is refused as spent
abbrev pub wire_start : State → ℕ → Choice → WireCall → Doing
wire_start s node c (wire_calls.Port call) = start s node c call
wire_start s node c (Forget dead) = Ended (Forgets dead)

-- what a call on a wire may be given: a lane and memory; a Forget takes neither
abbrev pub WireMayChoose : Fixed → ℕ → Choice → WireCall → Type 0
WireMayChoose f node c (wire_calls.Port call) = MayChoose f node c call
WireMayChoose f node c (Forget dead) = ⊤

-- the world once a node's call began
abbrev pub begun : World → ℕ → Choice → WireCall → World
begun w node c call =
    record w { doing = put_at w.doing node (Some (wire_start w.state node c call)) }

-- the world after a node's moment
abbrev pub made : World → ℕ → Doing → Moment → World
made w node d m = record {
  state = moved w.state m;
  doing = put_at w.doing node (Some (next w.state node d m).after);
}

-- the world after a node's call ended with this outcome
abbrev pub over : World → ℕ → List ℕ → Outcome → World
over w node payload o =
    record { state = settled w.state node payload o; doing = put_at w.doing node None }

-- What may come next. A dead node begins, makes and ends nothing; its call is unchanged.
abbrev pub IsBeat : World → Beat → World → Type 0
IsBeat w (Begins node call c) w' =
    (begin_refusal w node call ≡ None) × WireMayChoose w.state.fixed node c call
    × (w' ≡ begun w node c call)
IsBeat w (Makes node m) w' = (not_living w.state node ≡ None)
    × (d : Doing) × (w.doing node ≡ Some d)
    × Holds w.state m × (next w.state node d m).condition × (w' ≡ made w node d m)
IsBeat w (Ends node reply payload) w' =
    (not_living w.state node ≡ None) × (d : Doing) × (w.doing node ≡ Some d)
    × (o : Outcome) × (ends w.state d ≡ Some o) × MayHold w.state.fixed o payload
    × (reply ≡ replied w.state.fixed node o) × (w' ≡ over w node payload o)
IsBeat w (Dies node) w' =
    (not_living w.state node ≡ None) × (w' ≡ record w { state = with_death w.state node })

-- from a world, these beats may come one after another, and lead to that world
abbrev pub IsWeave : World → List Beat → World → Type 0
IsWeave w [] w' = w' ≡ w
IsWeave w (b ∷ bs) w' = (mid : World) × IsBeat w b mid × IsWeave mid bs w'
