-- What an access keeps of its own node.
use Rattle.std.specs.Prelude.{◌≡◌, ℕ, None, true}
use Rattle.iox_model.specs.declared.kind.Kind.TheVariants.{PendingResponse}
use Rattle.iox_model.specs.Handles.{same_kind}
use Rattle.iox_model.specs.Joins.{not_living}
use Rattle.iox_model.specs.States.{State}
use Rattle.iox_model.specs.Weaves.{World}
use Rattle.iox_steps.specs.Accesses.{seen_by}
use Rattle.iox_wire_words.specs.Fits.{WireContents}
use Rattle.iox_wire_words.specs.Laws.{AccessIsMade}
use Rattle.iox_wire_words.specs.Programs.{program_access}
use Rattle.iox_wire_moments.specs.MomentsOf.{Pools}
use Rattle.iox_wire_locals.specs.declared.seat.Seat.{Seat}
use Rattle.iox_wire_locals.specs.declared.table.Entry.{Entry}
use Rattle.iox_wire_locals.specs.Locals.{program_of}
use Rattle.iox_wire_locals.specs.StateMoments.{moment_at}
use Rattle.iox_wire_locals.specs.StepLaws.{ReliesOn}
use Rattle.iox_wire_locals.specs.Steps.{accessed, advance, ending_at}
use Rattle.iox_wire_locals.specs.Tables.{Setting}
use Rattle.iox_wire_laws.specs.WireKeeping.Shows.{ShowsWorld}
use Rattle.iox_wire_laws.specs.WireShows.OwnedCalls.{TellsLane, WordsTell, state_after}
use Rattle.iox_wire_laws.specs.WireOwners.SentStates.{OpensElsewhere}
use Rattle.iox_wire_laws.specs.WireRegions.OwnedBegins.{LayoutFits}
use Rattle.iox_wire_laws.specs.WireHolding.FarSlots.{QueuesHaveSlots}
use Rattle.iox_wire_laws.specs.WireHolding.Holding.{held_after}
use Rattle.iox_wire_laws.specs.WireHolding.SlotsKnown.{HasEntry}
use Rattle.iox_wire_stands.specs.Following.{message_at}
use Rattle.iox_wire_stands.specs.FollowingLaws.{TakesNext}
use Rattle.iox_wire_stands.specs.NamesLaws.{ReturnsNothing}
use Rattle.iox_wire_stands.specs.Nodes.{NodeStands}
use Rattle.iox_wire_stands.specs.Stands.{AreNumbered, OwnersAre}

-- What is asked of an access beside: that words and pools told it what is so, and that it takes
-- nobody's serial or lane.
pub record ToldWhatIsSo (p : Setting) (held : Pools) (s : State) (x : Seat) (seen : ℕ) : Type 0 where
  -- the words of messages and the pool told it what its place relies on
  pub relies : ReliesOn p (accessed x) s held x.local seen
  -- a push finds room, and a header stands in its region
  pub words : WordsTell p x.local seen
  -- the header of a request tells its lane
  pub lane : TellsLane (held_after p x seen held) (advance p (accessed x) x.local seen).local
  -- a loan that takes a slot has the next serial
  pub next : TakesNext p held s (message_at x.local) (advance p (accessed x) x.local seen).local
  -- a send opens no state on the lane of another pending response
  pub elsewhere : (e : Entry) → HasEntry x e → same_kind e.kind PendingResponse ≡ true
      → OpensElsewhere x.local e

-- What is so of a living node in a shown world is so of it after its access, unless that gives an
-- entry's message back or ends the call.
abbrev pub AccessesKeepNodes : Type 0
AccessesKeepNodes =
    (p : Setting) (held : Pools) (word word' : ℕ → ℕ) (c : WireContents) (seats : ℕ → Seat)
    (w : World) (n : ℕ)
    → ShowsWorld p held word c seats w → not_living w.state n ≡ None
    → LayoutFits p w.state.fixed → OwnersAre p w.state.fixed → AreNumbered p
    → QueuesHaveSlots p c w.state
    → let x = seats n in let access = program_access p.layout (program_of p x.local) in
    let seen = seen_by access word in let y = advance p (accessed x) x.local seen in
    NodeStands p held w.state x → ToldWhatIsSo p held w.state x seen → ReturnsNothing x.local (message_at y.local)
    → AccessIsMade access word word' → ending_at y.local ≡ None
    → NodeStands p (held_after p x seen held)
    (state_after w.state (moment_at p held x.local seen)) y
