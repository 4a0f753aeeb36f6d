-- What the end of a call keeps: all that stands.
use Rattle.std.specs.Prelude.{◌≡◌, ℕ, ◌++◌, List, [], ◌∷◌, Some, None}
use Rattle.iox_model.specs.Joins.{not_living}
use Rattle.iox_model.specs.Maps.{put_at}
use Rattle.iox_model.specs.Weaves.{Ends}
use Rattle.iox_model.specs.WholeCalls.{MayHold}
use Rattle.iox_wire_locals.specs.declared.local.Ending.{Ending}
use Rattle.iox_wire_locals.specs.Doings.{outcome_of}
use Rattle.iox_wire_locals.specs.Settlements.{reply_of}
use Rattle.iox_wire_locals.specs.Steps.{closed, ending_at}
use Rattle.iox_wire_locals.specs.Tables.{Setting}
use Rattle.iox_wire_stands.specs.Runs.{Answered, GoesOnBy, Run}
use Rattle.iox_wire_stands.specs.Stands.{Player, Stands}
use Rattle.iox_wire_steps.specs.Over.{EndIsTold}

-- the node once its call ended so: it is at rest, and has answered
abbrev pub player_ended : Setting → Player → Ending → Player
player_ended p player ending = record {
  seat = closed p player.seat (Some ending);
  said = player.said ++ Answered (reply_of p player.seat ending) ∷ [];
}

-- The end of a living node's call leads from what stands to what stands: it is one beat of the
-- machine, with the machine's reply, and no word changes.
abbrev pub EndsKeep : Type 0
EndsKeep =
    (p : Setting) (words : List ℕ) (players : ℕ → Player) (r : Run) (n : ℕ) (ending : Ending)
    (payload : List ℕ) (stands : Stands p words players r)
    → not_living r.last.state n ≡ None
    → let x = (players n).seat in
    ending_at x.local ≡ Some ending → EndIsTold p stands.held r.last.state x ending
    → MayHold r.last.state.fixed (outcome_of p stands.held n ending) payload
    → (next : Run) × GoesOnBy r (Ends n (reply_of p x ending) payload) next
    × Stands p words (put_at players n (player_ended p (players n) ending)) next
