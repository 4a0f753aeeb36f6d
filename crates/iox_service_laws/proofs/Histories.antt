-- A run is a history, and one history follows another.
use Rattle.std.specs.Prelude.{List, [], ◌∷◌, ◌++◌, refl}
use Rattle.std.proofs.Common.{subst}
use Rattle.iox_model.specs.Commands.{Command, Reply}
use Rattle.iox_model.specs.Runs.{IsHistory, IsRun, ServiceStep, created}
use Rattle.iox_model.specs.States.{State}
use Rattle.iox_service_laws.specs.Histories.{RunsAreHistories, steps_of}

run_history : (s t : State) (commands : List Command) (replies : List Reply) → IsRun s commands replies t → IsHistory s (steps_of commands replies) t
run_history s t [] [] run = run
run_history s t (c ∷ cs) (r ∷ rs) run = (run.0, run.1, run_history run.0 t cs rs run.2)
run_history s t [] (r ∷ rs) run = absurd run
run_history s t (c ∷ cs) [] run = absurd run

one_after_another : (s t u : State) (xs ys : List ServiceStep) → IsHistory s xs t → IsHistory t ys u → IsHistory s (xs ++ ys) u
one_after_another s t u [] ys first then = subst (λ v. IsHistory v ys u) first then
one_after_another s t u (x ∷ xs) ys first then = (first.0, first.1, one_after_another first.0 t u xs ys first.2 then)

pub runs_are_histories : {s : State} → RunsAreHistories s
runs_are_histories {s} = record {
  history = λ t commands replies run. run_history s t commands replies run;
  reached = λ t commands replies run r. (
    record {
      limits = r.limits;
      acts = r.acts;
      id = r.id;
      request = r.request;
      response = r.response;
      steps = r.steps ++ steps_of commands replies;
      history = one_after_another (created r.limits r.acts r.id) s t r.steps (steps_of commands replies) r.history
          (run_history s t commands replies run);
    },
    refl,
  );
}
