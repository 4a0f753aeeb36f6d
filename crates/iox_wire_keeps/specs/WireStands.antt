-- All that is so of a wire between any two accesses, and that each step keeps it.
use Rattle.iox_word_places.specs.Plans.{IsPlan}
use Rattle.iox_word_places.specs.declared.plan.WirePlan.{WirePlan}
use Rattle.iox_wire_calls.specs.Steps.{tells}
use Rattle.std.specs.Prelude.{List, None, [], false, length, replicate, true, ℕ, ◌<◌, ◌≡◌}
use Rattle.iox_wire_keeps.specs.Bounds.{AccessesBound}
use Rattle.iox_wire_keeps.specs.Serials.{TellsSerials}
use Rattle.iox_wire_calls.specs.StateMoments.{moment_at}
use Rattle.iox_model.specs.WireCalls.{wire_refusal, opened}
use Rattle.iox_model.specs.Weaves.{Dies, IsBeat, World, at_work}
use Rattle.iox_wire_calls.specs.Locals.{program_of}
use Rattle.iox_wire_calls.specs.WholeSteps.{GoesOnWith, player_next, step_beats}
use Rattle.iox_model.specs.Maps.{has_number, put_at}
use Rattle.iox_model.specs.Joins.{not_living}
use Rattle.iox_model.specs.States.{State}
use Rattle.iox_wire_calls.specs.Stands.{Player, Stands, seats_of, word_of}
use Rattle.iox_wire_calls.specs.Tables.{Setting}
use Rattle.iox_wire_keeps.specs.Stored.{SlotsHoldMessages}
use Rattle.iox_word_map.specs.WordMaps.{total_words}
use Rattle.iox_wire_calls.specs.Openings.{AgreesWith, OverflowsWithRoom, opened_seat}
use Rattle.iox_wire_calls.specs.Runs.{GoesOnBy, Run}
use Rattle.iox_wire_calls.specs.Begins.{is_busy}
use Rattle.iox_steps.specs.Sites.{last_position}
use Rattle.iox_wire_calls.specs.Laws.{AccessIsMade}
use Rattle.iox_wire_calls.specs.CallsStand.{CallsStand}
use Rattle.iox_wire_calls.specs.Programs.{program_access}
use Rattle.iox_model.specs.Runs.{IsReachableState}
use Rattle.iox_steps.specs.Accesses.{seen_by}

-- no port of the wire has messages that may grow
abbrev pub NoneGrows : Setting → Type 0
NoneGrows p =
    (port : ℕ) → has_number port p.layout.sizes.ports ≡ true → (p.port port).grows ≡ false

-- The words and nodes stand for a run of the machine, all calls are where they may be, slots hold
-- the messages that are named, accesses bound queues and loans, no port grows, and the desks of each
-- node, alive or dead, tell the serials of what their slots hold.
pub record WireStands (p : Setting) (words : List ℕ) (players : ℕ → Player) (r : Run) : Type 0 where
  pub stands : Stands p words players r
  pub calls : CallsStand p stands.held players r.last.state
  pub messages : SlotsHoldMessages p stands.held stands.contents (seats_of p players) r.last.state
  pub bounds : AccessesBound p stands.contents (λ n. (players n).seat)
  pub sizes : NoneGrows p
  pub serials : (n : ℕ) → TellsSerials p stands.held (players n).seat

-- A wire that opens stands so.
abbrev pub OpenedWiresStand : Type 0
OpenedWiresStand =
    (plan : WirePlan) (p : Setting) (s : State) → IsPlan plan → OverflowsWithRoom plan
    → AgreesWith plan p s → IsReachableState s → wire_refusal s 0 true ≡ None
    → (r : Run) × (r.first ≡ at_work (opened s)) × (r.beats ≡ []) × (r.last ≡ at_work (opened s))
    × WireStands p (replicate (total_words p.layout.sizes) 0)
    (λ n. record { seat = opened_seat p n; said = [] }) r

-- So it does once a node died.
abbrev pub WiresStandAfterDeaths : Type 0
WiresStandAfterDeaths =
    (p : Setting) (words : List ℕ) (players : ℕ → Player) (r : Run) (n : ℕ) (u : World)
    → WireStands p words players r → IsBeat r.last (Dies n) u
    → (next : Run) × GoesOnBy r (Dies n) next × (next.last ≡ u) × WireStands p words players next

-- A step of a living node with a call, which made fewer accesses than a queue has positions, leads
-- from what stands to what stands: at most one moment of the machine, and then the end of its call
-- with the machine's reply, if that was its last access. Nothing else need be told.
abbrev pub SteppedWiresStand : Type 0
SteppedWiresStand =
    (p : Setting) (words words' : List ℕ) (players : ℕ → Player) (r : Run) (n : ℕ)
    (wire : WireStands p words players r)
    → not_living r.last.state n ≡ None
    → let x = (players n).seat in let access = program_access p.layout (program_of p x.local) in
    let seen = seen_by access (word_of words) in
    is_busy x.local ≡ true → x.accesses < last_position
    → AccessIsMade access (word_of words) (word_of words') → length words' ≡ length words
    → (payload : List ℕ) × (after : Run)
    × GoesOnWith r
    (step_beats n payload (moment_at p wire.stands.held x.local seen) (tells p x seen)) after
    × WireStands p words' (put_at players n (player_next p (players n) seen)) after
