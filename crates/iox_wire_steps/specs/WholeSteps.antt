-- One law over the whole step of a node: its access, and the end of its call where that was the last
-- one.
use Rattle.std.specs.Prelude.{◌≡◌, ℕ, ◌++◌, List, [], ◌∷◌, length, Option, Some, None}
use Rattle.iox_model.specs.Commands.{Reply}
use Rattle.iox_model.specs.Joins.{not_living}
use Rattle.iox_model.specs.Maps.{put_at}
use Rattle.iox_model.specs.Moments.{Moment}
use Rattle.iox_model.specs.States.{State}
use Rattle.iox_model.specs.Weaves.{Beat, Ends, IsWeave, Makes}
use Rattle.iox_model.specs.WholeCalls.{MayHold}
use Rattle.iox_steps.specs.Accesses.{seen_by}
use Rattle.iox_wire_words.specs.Fits.{WireContents, contents_after}
use Rattle.iox_wire_words.specs.Laws.{AccessIsMade}
use Rattle.iox_wire_words.specs.Programs.{program_access}
use Rattle.iox_wire_moments.specs.MomentsOf.{Pools}
use Rattle.iox_wire_locals.specs.declared.local.Ending.{Ending}
use Rattle.iox_wire_locals.specs.declared.local.Ending.TheVariants.{Lends}
use Rattle.iox_wire_locals.specs.declared.seat.Seat.{Seat}
use Rattle.iox_wire_locals.specs.Doings.{outcome_of}
use Rattle.iox_wire_locals.specs.Locals.{program_of}
use Rattle.iox_wire_locals.specs.NewLoans.{message_in}
use Rattle.iox_wire_locals.specs.StateMoments.{moment_at}
use Rattle.iox_wire_locals.specs.Steps.{accessed, advance, ending_at, next, tells}
use Rattle.iox_wire_locals.specs.Tables.{Setting}
use Rattle.iox_wire_laws.specs.WireShows.OwnedCalls.{state_after}
use Rattle.iox_wire_laws.specs.WireHolding.Aside.{shown}
use Rattle.iox_wire_laws.specs.WireHolding.FarSlots.{IsInPool}
use Rattle.iox_wire_laws.specs.WireHolding.Holding.{held_after, held_ended, held_with}
use Rattle.iox_wire_stands.specs.NodeLaws.{ToldWhatIsSo}
use Rattle.iox_wire_stands.specs.Runs.{Answered, Run, Said}
use Rattle.iox_wire_stands.specs.Stands.{Player, Stands, word_of}
use Rattle.iox_wire_steps.specs.Over.{EndIsTold}

-- ---- beats of a step

-- the moment of a node's access, if it is one
abbrev pub moment_beats : ℕ → Option Moment → List Beat
moment_beats n None = []
moment_beats n (Some m) = Makes n m ∷ []

-- the end of its call, if it answers
abbrev pub reply_beats : ℕ → List ℕ → Option Reply → List Beat
reply_beats n payload None = []
reply_beats n payload (Some reply) = Ends n reply payload ∷ []

-- the beats of a step: at most one moment, and then the end of the call, if the step ends it
abbrev pub step_beats : ℕ → List ℕ → Option Moment → Option Reply → List Beat
step_beats n payload m reply = moment_beats n m ++ reply_beats n payload reply

-- the run continues with these beats
pub record GoesOnWith (r : Run) (bs : List Beat) (next : Run) : Type 0 where
  pub first : next.first ≡ r.first
  pub beats : next.beats ≡ r.beats ++ bs
  pub woven : IsWeave r.last bs next.last

-- ---- a step

-- what the node says then
abbrev pub said_with : Option Reply → List Said
said_with None = []
said_with (Some reply) = Answered reply ∷ []

-- the node after its step, which found this
abbrev pub player_next : Setting → Player → ℕ → Player
player_next p player seen = record {
  seat = next p player.seat seen;
  said = player.said ++ said_with (tells p player.seat seen);
}

-- What is asked of a step of the node as it is shown: its access is told what is so, and so is the
-- end of its call, with a payload that a new loan may have. (No step is told so at rest.)
pub record StepIsTold (p : Setting) (held : Pools) (s : State) (x : Seat) (seen : ℕ)
    (payload : List ℕ) : Type 0 where
  pub access : ending_at x.local ≡ None → ToldWhatIsSo p held s x seen
  pub ended : (ending : Ending)
      → let y = advance p (accessed x) x.local seen in
      let t = state_after s (moment_at p held x.local seen) in let new = held_after p x seen held in
      ending_at y.local ≡ Some ending
      → EndIsTold p new t y ending × MayHold t.fixed (outcome_of p new x.node ending) payload

-- ---- what slots hold

-- which message each slot holds once a call ended so, if it did: a new loan has its payload
abbrev pub held_closed : Setting → Pools → List ℕ → Option Ending → Pools
held_closed p held payload None = held
held_closed p held payload (Some (Lends o slot)) =
    held_ended (held_with held o.port slot (message_in p o)) payload (Lends o slot)
held_closed p held payload (Some ending) = held_ended held payload ending

-- and after a step of the node, which found this
abbrev pub held_next : Setting → Seat → ℕ → List ℕ → Pools → Pools
held_next p x seen payload held =
    let y = advance p (accessed x) x.local seen in
    held_closed p (held_after p x seen held) payload (ending_at y.local)

-- Then each slot of a pool holds that message, and the words hold what the access left there.
pub record HoldsNext (p : Setting) (x : Seat) (seen : ℕ) (payload : List ℕ) (held : Pools)
    (c : WireContents) (new : Pools) (after : WireContents) : Type 0 where
  pub pools : (port slot : ℕ) → IsInPool p port slot
      → new port slot ≡ held_next p x seen payload held port slot
  pub contents : after ≡ contents_after p.layout (program_of p x.local) seen c

-- ---- the law

-- The step of a living node leads from what stands to what stands. It is at most one moment of the
-- machine, and then the end of its call with the machine's reply, if that was its last access.
abbrev pub WholeStepsKeep : Type 0
WholeStepsKeep =
    (p : Setting) (words words' : List ℕ) (players : ℕ → Player) (r : Run) (n : ℕ)
    (payload : List ℕ) (stands : Stands p words players r)
    → not_living r.last.state n ≡ None
    → let x = (players n).seat in let access = program_access p.layout (program_of p x.local) in
    let seen = seen_by access (word_of words) in
    StepIsTold p stands.held r.last.state (shown p x) seen payload
    → AccessIsMade access (word_of words) (word_of words') → length words' ≡ length words
    → (after : Run)
    × GoesOnWith r
    (step_beats n payload (moment_at p stands.held x.local seen) (tells p x seen)) after
    × (later : Stands p words' (put_at players n (player_next p (players n) seen)) after)
    × HoldsNext p (shown p x) seen payload stands.held stands.contents later.held later.contents
