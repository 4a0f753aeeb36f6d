-- Whatever is entered, each load hands out the value that is current then.
use Rattle.std.proofs.Common.{◌≡◌, ℕ, ◌++◌, List, [], ◌∷◌, refl, ap, sym, subst, ◌∙◌, inl, inr, append-nil, append_assoc}
use Rattle.std.specs.Prelude.{Option, Some, None}
use Rattle.std.specs.Option.{option_to_list}
use Rattle.iox_steps.specs.declared.access.Progress.{Progress}
use Rattle.iox_steps.specs.declared.machine.Entry.{Entry}
use Rattle.iox_steps.specs.declared.machine.Entry.TheVariants.{Begin, Step}
use Rattle.iox_steps.specs.MachineStates.{Entered, seen_in}
use Rattle.iox_set_steps.specs.declared.unrestricted_atomic.AtomicCall.{AtomicCall}
use Rattle.iox_set_steps.specs.declared.unrestricted_atomic.AtomicReply.{AtomicReply}
use Rattle.iox_set_steps.specs.declared.unrestricted_atomic.AtomicEvent.{AtomicEvent}
use Rattle.iox_set_steps.specs.declared.unrestricted_atomic.AtomicEvent.TheVariants.{Stored, Loaded}
use Rattle.iox_set_steps.specs.Values.{value_now, AgreeUpTo, words_of, ValueRun, LeadsOn}
use Rattle.iox_set_steps.specs.AtomicPlays.{AtomicMachineState, atomics_ask, atomics_happen, atomics_rest, AtomicsLead, AtomicsBegin, AtomicsHold}
use Rattle.iox_set_steps.specs.AtomicEvents.{atomic_makes}
use Rattle.iox_set_steps.specs.AtomicLaws.{atomics_keep, kept}
use Rattle.iox_set_steps.specs.AtomicBegins.{atomics_start, started}
use Rattle.iox_set_steps.specs.AtomicMachines.{AtomicsStepped, AtomicsBegun, AllAtomicsEntered, RunsOn}

-- what one entry leaves: the parties' words hold at the same base, and the value was led on
record Leaves (size base : ℕ) (old new : AtomicMachineState size) : Type 0 where
  holds : AtomicsHold size new
  stays : holds.base ≡ base
  event : Option (AtomicEvent size)
  told : new.events ≡ old.events ++ option_to_list event
  leads : LeadsOn size (value_now size base old.words) event (value_now size base new.words)

same_leaves : (size : ℕ) (old : AtomicMachineState size) (holds : AtomicsHold size old) → Leaves size holds.base old old
same_leaves size old holds = record { holds = holds; stays = refl; event = None; told = sym (append-nil old.events); leads = λ at inside. refl }

step_leaves : (size : ℕ) (old new : AtomicMachineState size) (number : ℕ) (answer : Progress (AtomicReply size)) (holds : AtomicsHold size old) → AtomicsStepped size old number answer new → Leaves size holds.base old new
unfolding atomics_keep kept
step_leaves size old new number answer holds step =
    subst (Leaves size holds.base old) (sym step.leads_to)
    (let at = holds.parties number step.party step.is_party in
    let makes = atomic_makes size holds.base old.words holds.room holds.memory holds.version step.party.program at.knows in
    record {
      holds = atomics_keep size old number step.party step.after answer holds step.is_party step.under_way step.leads_on;
      stays = refl;
      event = atomics_happen step.party (seen_in old (atomics_ask size step.party));
      told = refl;
      leads = rw (at.here) (makes.leads);
    })

begin_leaves : (size : ℕ) (old new : AtomicMachineState size) (number : ℕ) (call : AtomicCall size) (holds : AtomicsHold size old) → AtomicsBegun size old number call new → Leaves size holds.base old new
unfolding atomics_start started
begin_leaves size old new number call holds begun =
    subst (Leaves size holds.base old) (sym begun.leads_to) (record {
      holds = atomics_start size old number call begun.party begun.after holds begun.is_party begun.begins_with;
      stays = refl;
      event = None;
      told = sym (append-nil old.events);
      leads = λ at inside. refl;
    })

entry_leaves : (size : ℕ) (old : AtomicMachineState size) (entry : Entry (AtomicCall size)) (new : AtomicMachineState size) (holds : AtomicsHold size old)
    → Entered (atomics_ask size) (AtomicsLead size) atomics_happen atomics_rest AtomicsBegin old entry new → Leaves size holds.base old new
entry_leaves size old (Begin number call) new holds (inl begun) = begin_leaves size old new number call holds begun
entry_leaves size old (Begin number call) new holds (inr refused) = subst (Leaves size holds.base old) (sym refused.1) (same_leaves size old holds)
entry_leaves size old (Step number) new holds (inl stepped) = step_leaves size old new number stepped.0 holds stepped.1
entry_leaves size old (Step number) new holds (inr refused) = subst (Leaves size holds.base old) (sym refused.1) (same_leaves size old holds)

-- a run from the same value
run_from : (size : ℕ) (mid old : ℕ → ℕ) (events : List (AtomicEvent size)) (last : ℕ → ℕ) → AgreeUpTo size mid old → ValueRun size mid events last → ValueRun size old events last
run_from size mid old [] last same run = λ at inside. run at inside ∙ same at inside
run_from size mid old (Stored list ∷ events) last same run = run
run_from size mid old (Loaded list ∷ events) last same run = (λ at inside. run.0 at inside ∙ same at inside, run_from size mid old events last same run.1)

-- a run that begins with one event more
run_first : (size : ℕ) (old : ℕ → ℕ) (event : Option (AtomicEvent size)) (mid : ℕ → ℕ) (events : List (AtomicEvent size)) (last : ℕ → ℕ) → LeadsOn size old event mid → ValueRun size mid events last
    → ValueRun size old (option_to_list event ++ events) last
run_first size old None mid events last leads run = run_from size mid old events last leads run
run_first size old (Some (Stored list)) mid events last leads run = run_from size mid (words_of list) events last leads run
run_first size old (Some (Loaded list)) mid events last leads run = (leads.0, run_from size mid old events last leads.1 run)

record Runs (size base : ℕ) (old new : AtomicMachineState size) : Type 0 where
  more : List (AtomicEvent size)
  told : new.events ≡ old.events ++ more
  run : ValueRun size (value_now size base old.words) more (value_now size base new.words)

all_run : (size : ℕ) (old : AtomicMachineState size) (entries : List (Entry (AtomicCall size))) (new : AtomicMachineState size) (base : ℕ) (holds : AtomicsHold size old) → holds.base ≡ base → AllAtomicsEntered size old entries new → Runs size base old new
all_run size old [] new base holds at entered = subst (Runs size base old) (sym entered) (record { more = []; told = sym (append-nil old.events); run = λ index inside. refl })
all_run size old (entry ∷ entries) new base holds at entered =
    let mid = entered.0 in
    let left : Leaves size base old mid = subst (λ b. Leaves size b old mid) at (entry_leaves size old entry mid holds entered.1.0) in
    let rest = all_run size mid entries new base left.holds left.stays entered.1.1 in
    record {
      more = option_to_list left.event ++ rest.more;
      told = rest.told ∙ ap (λ events. events ++ rest.more) left.told ∙ append_assoc old.events (option_to_list left.event) rest.more;
      run = run_first size (value_now size base old.words) left.event (value_now size base mid.words) rest.more _ left.leads rest.run;
    }

pub runs_on : (size : ℕ) (old : AtomicMachineState size) (entries : List (Entry (AtomicCall size))) (new : AtomicMachineState size) → AtomicsHold size old → AllAtomicsEntered size old entries new → RunsOn size old new
runs_on size old entries new holds entered =
    let runs = all_run size old entries new holds.base holds refl entered in
    record { base = holds.base; more = runs.more; parties = λ number party is. (holds.parties number party is).here; told = runs.told; run = runs.run }
