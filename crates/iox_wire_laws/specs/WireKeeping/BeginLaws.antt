-- The begin of a node's call is a beat of the machine.
use Rattle.std.specs.Prelude.{◌≡◌, Option, None}
use Rattle.iox_model.specs.declared.call.WireCall.TheVariants as wire_calls
use Rattle.iox_model.specs.Commands.{Refusal, WireCall}
use Rattle.iox_model.specs.Joins.{not_living, not_dead}
use Rattle.iox_model.specs.Maps.{or_else}
use Rattle.iox_model.specs.States.{State}
use Rattle.iox_model.specs.Weaves.{World, Begins, begin_refusal, begun, IsBeat}
use Rattle.iox_wire_moments.specs.MomentsOf.{Pools}
use Rattle.iox_wire_locals.specs.declared.seat.Seat.{Seat}
use Rattle.iox_wire_locals.specs.Tables.{Setting}
use Rattle.iox_wire_locals.specs.Begins.{refusal_at, begin}
use Rattle.iox_wire_locals.specs.BeginLaws.{Counts}
use Rattle.iox_wire_laws.specs.WireKeeping.Readiness.{ShowsDoing, choice_for, IsReady}

-- why a call does not begin that no node's table tells: a Forget of a node that is not dead
abbrev pub not_forgettable : State → WireCall → Option Refusal
not_forgettable s (wire_calls.Port call) = None
not_forgettable s (wire_calls.Forget dead) = not_dead s dead

-- A call is refused for the machine's reason: the node does not live, or its own tables say why, or
-- whom it forgets is not dead.
abbrev pub RefusalsAreTheMachines : Type 0
RefusalsAreTheMachines =
    (p : Setting) (held : Pools) (w : World) (x : Seat) (call : WireCall)
    → Counts p x w.state held → ShowsDoing p held w x
    → begin_refusal w x.node call
    ≡ or_else (not_living w.state x.node)
    (or_else (refusal_at p x call) (not_forgettable w.state call))

-- A call that is not refused begins as in the machine, and the node's first place stands for what
-- it has to do.
abbrev pub BeginsAreBeats : Type 0
BeginsAreBeats =
    (p : Setting) (held : Pools) (w : World) (x : Seat) (call : WireCall)
    → IsReady p held w x → begin_refusal w x.node call ≡ None
    → let u = begun w x.node (choice_for p x call) call in
    IsBeat w (Begins x.node call (choice_for p x call)) u × ShowsDoing p held u (begin p x call)
