-- What a schedule of begins, steps and deaths leads to.
use Rattle.std.specs.Prelude.{◌≡◌, ◌+◌, ◌≤◌, ◌++◌, ◌∷◌, ℕ, IsSomeAnd, List, MatchOption, None, [], slice_get, take}
use Rattle.iox_model.specs.Joins.{not_living}
use Rattle.iox_model.specs.Loans.{Choice}
use Rattle.iox_model.specs.Schedules.{IsBeginOf, IsDeathOf, IsStepOf}
use Rattle.iox_model.specs.Weaves.{Beat, Begins, IsWeave, World, begin_refusal}
use Rattle.iox_model.specs.declared.call.WireCall.TheVariants.{Port}
use Rattle.iox_steps.specs.declared.access.Progress.{Progress}
use Rattle.iox_model.specs.WireCalls.{said_on_wire}
use Rattle.iox_wire_weaves.specs.Asking.{BeginsCall, asked_of, call_said}
use Rattle.iox_wire_weaves.specs.NodeCall.{NodeCall}
use Rattle.iox_wire_weaves.specs.NodeReply.{NodeReply}
use Rattle.iox_wire_weaves.specs.Runs.{GoesOnBy, Run}
use Rattle.iox_wire_weaves.specs.Steps.{DeathIsWoven, KeepsRead, KeepsReads, MakesItsAccess, StepIsWoven, step_refusal}
use Rattle.iox_wire_weaves.specs.Tables.{Setting}
use Rattle.iox_wire_weaves.specs.Wires.{Shows, WireData, living_refusal}
use Rattle.iox_wire.specs.Kept.{Loses}
use Rattle.iox_wire.specs.Replies.{words_call}
use Rattle.iox_wire.specs.declared.entry.WireEntry.{WireEntry}
use Rattle.iox_wire.specs.declared.entry.WireEntry.TheVariants.{Begin, Die, Step}

-- ---- what an entry does to the wire

-- The words of each node's last read stay. In each run that the wire shows: the node begins the call, and
-- the run continues by that; where the machine refuses the call, nothing changes.
abbrev pub IsAsked : WireData → ℕ → NodeCall → WireData → Type 0
IsAsked old node call new =
    KeepsReads old new
    × ((p : Setting) (r : Run) → Shows p old r → let asked = asked_of r node call in
    MatchOption (begin_refusal r.last node asked)
    (BeginsCall p old node asked new
    × ((c : Choice) × (after : Run) × GoesOnBy r (Begins node asked c) after × Shows p new after))
    (λ refusal. new ≡ old))

-- The node makes the one access of its place, and each run that the wire showed continues by that
-- step. The last step of a read leaves its words, and each other step those of the read before. Where
-- the step is refused, nothing changes.
abbrev pub IsStepped : WireData → ℕ → WireData → Type 0
IsStepped old node new =
    MatchOption (step_refusal old node)
    (MakesItsAccess old node new
    × ((progress : Progress NodeReply) × StepIsWoven old node progress new × KeepsRead old node progress new))
    (λ refusal. new ≡ old)

-- The node is lost, and each run that the wire showed continues by its death; where the death is
-- refused, nothing changes.
abbrev pub IsDeclaredDead : WireData → ℕ → WireData → Type 0
IsDeclaredDead old node new =
    MatchOption (living_refusal old.nodes node)
    (Loses old node new × DeathIsWoven old node new)
    (λ refusal. new ≡ old)

-- the entry leads the wire to the other
abbrev pub IsEntered : WireData → WireEntry → WireData → Type 0
IsEntered old (Begin node call) new = IsAsked old node call new
IsEntered old (Step node) new = IsStepped old node new
IsEntered old (Die node) new = IsDeclaredDead old node new

-- so do these entries, one after another, with a wire after each
abbrev pub AreEntered : WireData → List WireEntry → WireData → Type 0
AreEntered old [] new = new ≡ old
AreEntered old (e ∷ es) new = (mid : WireData) × IsEntered old e mid × AreEntered mid es new

-- ---- what it does to a run

-- The beats to which the entry may lead at a world, as the machine's own entry may (`IsEntry`). A call
-- of a wire says itself whose payload its words are: what has no such payload refuses it.
abbrev pub EntryLeadsTo : World → WireEntry → List Beat → Type 0
EntryLeadsTo w (Begin node call) bs =
    IsBeginOf (begin_refusal w node (Port (call_said w.state.fixed node call)))
    node (said_on_wire w.state.fixed node (words_call call)) bs
EntryLeadsTo w (Step node) bs = IsStepOf node bs
EntryLeadsTo w (Die node) bs = IsDeathOf (not_living w.state node) node bs

-- the entries, from one world, may make these beats, which lead to the other world
abbrev pub IsWeaveBy : World → List WireEntry → List Beat → World → Type 0
IsWeaveBy w [] bs w' = (bs ≡ []) × (w' ≡ w)
IsWeaveBy w (e ∷ es) bs w' =
    (now later : List Beat) × (mid : World) × (bs ≡ now ++ later)
    × EntryLeadsTo w e now × IsWeave w now mid × IsWeaveBy mid es later w'

-- Each run that the wire showed continues by beats to which these entries may lead, and the wire
-- shows that run.
abbrev pub IsWovenBy : WireData → List WireEntry → WireData → Type 0
IsWovenBy old entries new =
    (p : Setting) (r : Run) → Shows p old r
    → (bs : List Beat) × (after : Run) × IsWeaveBy r.last entries bs after.last
    × (after.first ≡ r.first) × (after.beats ≡ r.beats ++ bs) × Shows p new after

-- ---- schedules

-- The entries are played: one after another on the wire, and on each run that it showed.
pub record EntriesArePlayed (old : WireData) (entries : List WireEntry) (new : WireData) : Type 0 where
  pub each : AreEntered old entries new
  pub woven : IsWovenBy old entries new

-- Nothing refuses the step, but there is no room left for it, and nothing changes. A begin and a death
-- take no room.
abbrev pub WantsMemory : WireData → WireEntry → WireData → Type 0
WantsMemory old (Step node) new = (step_refusal old node ≡ None) × (old.room ≡ 0) × (new ≡ old)
WantsMemory old entry new = ⊥

-- The entries are played up to a step that finds no memory. Each of them took room for one step at most.
abbrev pub IsStopped : WireData → List WireEntry → WireData → Type 0
IsStopped old entries new =
    (count : ℕ) × (last : WireData) × EntriesArePlayed old (take count entries) last
    × (old.room ≤ last.room + count) × IsSomeAnd (slice_get entries count) (λ entry. WantsMemory last entry new)
