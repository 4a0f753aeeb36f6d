-- That a call begins by what its node has, and by nothing else.
use Rattle.std.specs.Prelude.{◌≡◌, ℕ, List, [], ◌∷◌, ◌++◌, None, ◌<◌}
use Rattle.iox_model.specs.declared.call.WireCall.TheVariants.{Port}
use Rattle.iox_model.specs.Commands.{Call}
use Rattle.iox_model.specs.Joins.{not_living}
use Rattle.iox_model.specs.Maps.{put_at}
use Rattle.iox_model.specs.Weaves.{Begins}
use Rattle.iox_steps.specs.Sites.{last_position}
use Rattle.iox_wire_keeps.specs.Begins.{begin, refusal_at}
use Rattle.iox_wire_keeps.specs.MessageBegins.{WordsAreWhole}
use Rattle.iox_wire_keeps.specs.Readiness.{choice_for}
use Rattle.iox_wire_keeps.specs.Runs.{Asked, GoesOnBy, Run}
use Rattle.iox_wire_keeps.specs.Stands.{Player}
use Rattle.iox_wire_keeps.specs.Tables.{Setting}
use Rattle.iox_wire_keeps.specs.WireStands.{WireStands}

-- A living node whose own tables do not refuse a call of a port or a handle begins it: that is one beat
-- of the machine, and what stands stands. All that it is told speaks of the node's own data: its tables,
-- how many accesses it made, and the words that the call brings.
abbrev pub CallsBeginByOwnData : Type 0
CallsBeginByOwnData =
    (p : Setting) (words : List ℕ) (players : ℕ → Player) (r : Run) (n : ℕ) (call : Call)
    → WireStands p words players r → not_living r.last.state n ≡ None
    → let x = (players n).seat in
    refusal_at p x (Port call) ≡ None → x.accesses < last_position
    → WordsAreWhole p.limits (Port call)
    → (next : Run) × GoesOnBy r (Begins n (Port call) (choice_for p x (Port call))) next
    × WireStands p words
    (put_at players n (record {
      seat = begin p x (Port call);
      said = (players n).said ++ Asked (Port call) ∷ [];
    })) next
