-- Each command leads from a service's own state to another.
use Rattle.std.specs.Prelude.{◌≡◌, List, [], ◌∷◌, ◌++◌, refl}
use Rattle.std.proofs.Common.{subst}
use Rattle.iox_model.specs.Commands.{Command, Reply}
use Rattle.iox_model.specs.Runs.{IsMembersHistory, IsReachableState, IsRun, IsServed, OfService, ServiceStep, created}
use Rattle.iox_model.specs.Services.{IsCommand}
use Rattle.iox_model.specs.Settings.{IsShape, Limits}
use Rattle.iox_model.specs.States.{State}
use Rattle.iox_laws.proofs.WeaveWorlds.Inductions.{IsKept, command_keeps, history_keeps}
use Rattle.iox_laws.proofs.WeaveWorlds.PortsKept.{OfPorts, is_kept}

-- ---- limits

abbrev of_limits : (Limits → Type 0) → OfPorts
of_limits P l ps n = P l

limits_are_kept : (P : Limits → Type 0) → IsKept (λ s. P s.fixed.limits)
limits_are_kept P =
    is_kept (of_limits P)
    (record { numbers = λ l ps n p. p; filters = λ l ps n keep p. p; drops = λ l ps n port p. p })
    (λ f node role id o memory allowed p. p)

-- no command changes a limit
pub limits_stay : (s : State) (c : Command) (reply : Reply) (t : State) → IsCommand s c reply t → t.fixed.limits ≡ s.fixed.limits
limits_stay s c reply t done = command_keeps (λ u. u.fixed.limits ≡ s.fixed.limits) (limits_are_kept (λ l. l ≡ s.fixed.limits)) s c reply t refl done

-- the shapes of a state that is reached make sense
pub requests_make_sense : (s : State) → IsReachableState s → IsShape s.fixed.limits.request
requests_make_sense s r =
    history_keeps (λ u. IsShape u.fixed.limits.request) (limits_are_kept (λ l. IsShape l.request)) (created r.limits r.acts r.id) r.steps s
    r.request r.history

pub responses_make_sense : (s : State) → IsReachableState s → IsShape s.fixed.limits.response
responses_make_sense s r =
    history_keeps (λ u. IsShape u.fixed.limits.response) (limits_are_kept (λ l. IsShape l.response)) (created r.limits r.acts r.id) r.steps s
    r.response r.history

-- ---- what was asked

last_step : (s t u : State) (xs : List ServiceStep) (c : Command) (reply : Reply) → IsMembersHistory s xs t → IsCommand t c reply u
    → IsMembersHistory s (xs ++ OfService c reply ∷ []) u
last_step s t u [] c reply history done = (u, tt, subst (λ v. IsCommand v c reply u) history done, refl)
last_step s t u (y ∷ ys) c reply history done =
    (history.0, history.1, history.2, last_step history.0 t u ys c reply history.3 done)

pub served_after : (s : State) (c : Command) (reply : Reply) (t : State) → IsServed s → IsCommand s c reply t → IsServed t
served_after s c reply t served done = record {
  limits = served.limits;
  acts = served.acts;
  id = served.id;
  request = served.request;
  response = served.response;
  allowed = served.allowed;
  steps = served.steps ++ OfService c reply ∷ [];
  history = last_step (created served.limits served.acts served.id) s t served.steps c reply served.history done;
}

-- ---- runs

-- one command more
pub run_more : (s t u : State) (cs : List Command) (rs : List Reply) (c : Command) (r : Reply) → IsRun s cs rs t → IsCommand t c r u
    → IsRun s (cs ++ c ∷ []) (rs ++ r ∷ []) u
run_more s t u [] [] c r run done = (u, subst (λ v. IsCommand v c r u) run done, refl)
run_more s t u [] (q ∷ rs) c r run done = absurd run
run_more s t u (d ∷ cs) [] c r run done = absurd run
run_more s t u (d ∷ cs) (q ∷ rs) c r run done = (run.0, run.1, run_more run.0 t u cs rs c r run.2 done)
