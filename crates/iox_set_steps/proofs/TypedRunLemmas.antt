-- Runs of a machine of a value of a type: of one entry, and of one more.
use Rattle.std.specs.Prelude.{Option, Some, None, List, [], ◌∷◌}
use Rattle.std.specs.Option.{option_to_list}
use Rattle.std.proofs.Common.{◌≡◌, ℕ, ◌<◌, ◌++◌, Bool, Result, Ok, Err, OnErr, ap, sym, ◌∙◌, append-nil, append_assoc, drop, drop-cons, get_or, length, map, suc, take}
use Rattle.std.proofs.lemmas.List.{map-append, take-append-drop}
use Rattle.iox_steps.specs.declared.access.Access.{Access}
use Rattle.iox_steps.specs.declared.error.MachineError.{MachineError}
use Rattle.iox_steps.specs.declared.machine.Entry.{Entry}
use Rattle.iox_steps.specs.MachineStates.{MachineState, AllEntered, IsStepUnderWay, StopsAtStep}
use Rattle.iox_steps.specs.declared.access.Progress.{Progress}
use Rattle.iox_steps.specs.declared.access.Progress.TheVariants.{Going, Done}
use Rattle.iox_set_steps.specs.declared.unrestricted_atomic.value.ValueReply.{ValueReply}
use Rattle.iox_set_steps.specs.declared.unrestricted_atomic.value.ValueReply.TheVariants as typed_reply
use Rattle.iox_set_steps.specs.declared.unrestricted_atomic.value.ValueEvent.{ValueEvent}
use Rattle.iox_set_steps.specs.declared.unrestricted_atomic.value.ValueEvent.TheVariants.{Stored, Loaded}
use Rattle.iox_set_steps.specs.TypedValues.{LoadsCurrent, TypedAnswers, ValueMachineState, IsTypedEvent, TypedRun, TypedRunsOn}

module _ {T : Type 0} where
  -- a run from the same value
  run_from : (value old : T) (events : List (ValueEvent T)) (last : T) → value ≡ old → TypedRun value events last → TypedRun old events last
  run_from value old events last same run = rw (← same) run

  -- a run, and then another
  run_append : (value : T) (events : List (ValueEvent T)) (mid : T) (others : List (ValueEvent T)) (last : T)
      → TypedRun value events mid → TypedRun mid others last → TypedRun value (events ++ others) last
  run_append value [] mid others last run rest = run_from mid value others last run rest
  run_append value (Stored next ∷ events) mid others last run rest = run_append next events mid others last run rest
  run_append value (Loaded got ∷ events) mid others last run rest = (run.0, run_append value events mid others last run.1 rest)

  module _ {size : ℕ} where
    pub runs_of_event : (words : T → List ℕ) (is_value : T → Type 0) (old new : ValueMachineState T size) (number : ℕ) (answer : Progress (ValueReply T))
        → IsTypedEvent words is_value old number answer new → TypedRunsOn old new
    runs_of_event words is_value old new number answer event = record { more = option_to_list event.event; told = event.told; run = event.run }

    -- nothing happened
    pub runs_same : (old new : ValueMachineState T size) → new.value ≡ old.value → new.events ≡ old.events → TypedRunsOn old new
    runs_same old new value events = record { more = []; told = events ∙ sym (append-nil old.events); run = value }

    pub runs_append : (old mid new : ValueMachineState T size) → TypedRunsOn old mid → TypedRunsOn mid new → TypedRunsOn old new
    runs_append old mid new first second = record {
      more = first.more ++ second.more;
      told = second.told ∙ ap (λ events. events ++ second.more) first.told ∙ append_assoc old.events first.more second.more;
      run = run_append old.value first.more mid.value second.more new.value first.run second.run;
    }

    -- what a load answers, is current
    loads_current : (old new : ValueMachineState T size) (answer : Progress (ValueReply T)) (event : Option (ValueEvent T)) → TypedAnswers answer event
        → TypedRun old.value (option_to_list event) new.value → LoadsCurrent old answer
    loads_current old new Going event says run = tt
    loads_current old new (Done (typed_reply.Stored done)) event says run = tt
    loads_current old new (Done (typed_reply.Loaded value)) None says run = absurd says
    loads_current old new (Done (typed_reply.Loaded value)) (Some (Stored told)) says run = absurd says
    loads_current old new (Done (typed_reply.Loaded value)) (Some (Loaded told)) says run = sym says ∙ run.0

    pub loads_of_event : (words : T → List ℕ) (is_value : T
        → Type 0) (old : ValueMachineState T size) (number : ℕ) (answer : Progress (ValueReply T)) (new : ValueMachineState T size)
        → IsTypedEvent words is_value old number answer new → LoadsCurrent old answer
    loads_of_event words is_value old number answer new event = loads_current old new answer event.event event.answers event.run

-- a schedule that is entered as another stops at the entry that this one's entry is there
module _ {P E R C D : Type 0} (asks : P → Access) (leads : P → ℕ → Progress R → P → Type 0) (happens : P → ℕ → Option E) (at_rest : P → Bool)
    (begins : P → C → Result P MachineError → Type 0) (seen : Entry D → Entry C) where
  pub stops_as : {A : Type 0} (old : MachineState P E) (entries : List (Entry D)) (count : ℕ) (entry : Entry D) (new : MachineState P E) (result : Result A MachineError)
      → count < length entries → entry ≡ get_or entries count entry → AllEntered asks leads happens at_rest begins old (map seen (take count entries)) new
      → IsStepUnderWay asks leads happens at_rest begins new (seen entry)
      → OnErr result (StopsAtStep asks leads happens at_rest begins old (map seen entries) new)
  stops_as old entries count entry new (Ok done) below is played wants = tt
  stops_as old entries count entry new (Err error) below is played wants = record {
    before = map seen (take count entries);
    entry = seen entry;
    others = map seen (drop (suc count) entries);
    parts = ap (map seen) (sym (take-append-drop count entries)
        ∙ ap (λ l. take count entries ++ l) (drop-cons entries count entry below ∙ ap (λ e. e ∷ drop (suc count) entries) (sym is)))
        ∙ map-append seen (take count entries) (entry ∷ drop (suc count) entries);
    played = played;
    under_way = wants;
  }
