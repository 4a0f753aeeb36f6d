-- Which ports are left once one is gone, and what leads to them.
use Rattle.std.specs.Prelude.{◌≡◌, ℕ, Bool, true, false, not, ◌||◌, if◌then◌else◌, ◌==◌, List, [], filter, Option, Some, None, is_some, slice_get, refl}
use Rattle.std.specs.Option.{option_map, option_map_or}
use Rattle.std.proofs.Common.{sym, ap, ◌∙◌}
use Rattle.iox_model.specs.declared.way.Way.{Way}
use Rattle.iox_model.specs.Maps.{AreDistinct, has_number}
use Rattle.iox_lanes.specs.Pipes.{PipeState}
use Rattle.iox_tables.specs.HubStates.Tables.{PortState, pipe_from, pipes_of, pipes_to, port_in, senders_of}
use Rattle.iox_tables.specs.HubStates.Ways.{lane_on, state_on}
use Rattle.iox_tables.specs.HubStates.States.{expired_in}
use Rattle.iox_tables.specs.HubStates.Steps.{is_there}
use Rattle.iox_tables.specs.HubMaking.Disconnections.{cut_from, is_left, ports_without}
use Rattle.iox_tables.proofs.HubMaking.Firsts.{first_kept, first_mapped}
use Rattle.iox_tables.proofs.HubMaking.PipesLeft.{pipe_cut}

module _ (n : ℕ) (ports : List PortState) where
  pub port_left : (k : ℕ) → port_in (ports_without n ports) k ≡ (if k == n then None else option_map (cut_from n) (port_in ports k))
  port_left k =
      first_mapped (λ (p : PortState). p.number) (cut_from n) (λ p. refl) (filter (λ p. not (p.number == n)) ports) k
      ∙ ap (option_map (cut_from n)) (first_kept (λ p. p.number) n ports k) ∙ step (k == n)
    where
      step : (b : Bool) → option_map (cut_from n) (if b then None else port_in ports k) ≡ (if b then None else option_map (cut_from n) (port_in ports k))
      step true = refl
      step false = refl

  -- whatever a port shows but for its pipes is still there, if the port is
  pub part_left : {B : Type 0} (show : PortState → B) (none : B) → ((p : PortState) → show (cut_from n p) ≡ show p) → (k : ℕ)
      → option_map_or show (port_in (ports_without n ports) k) none ≡ (if k == n then none else option_map_or show (port_in ports k) none)
  part_left show none same k = ap (λ o. option_map_or show o none) (port_left k) ∙ step (k == n) (port_in ports k)
    where
      step : (b : Bool) (o : Option PortState) → option_map_or show (if b then None else option_map (cut_from n) o) none ≡ (if b then none else option_map_or show o none)
      step true o = refl
      step false (Some p) = same p
      step false None = refl

  pub there_left : (k : ℕ) → is_there (ports_without n ports) k ≡ (if k == n then false else is_there ports k)
  there_left k = ap (λ (o : Option PortState). is_some o) (port_left k) ∙ step (k == n) (port_in ports k)
    where
      step : (b : Bool) (o : Option PortState) → is_some (if b then None else option_map (cut_from n) o) ≡ (if b then false else is_some o)
      step true o = refl
      step false (Some p) = refl
      step false None = refl

  module _ (apart : (k : ℕ) (p : PortState) → port_in ports k ≡ Some p → AreDistinct (senders_of (pipes_of p))) where
    pub pipe_left : (to from : ℕ) → pipe_from (pipes_to (ports_without n ports) to) from ≡ (if is_left n ports to from then pipe_from (pipes_to ports to) from else None)
    pipe_left to from =
        ap (λ o. pipe_from (option_map_or pipes_of o []) from) (port_left to)
        ∙ step (to == n) (port_in ports to) refl
        ∙ ap (λ ks. if (if to == n then false else (if (from == n) || has_number from (expired_in ports to) then has_number from ks else true)) then pipe_from (pipes_to ports to) from else None)
        (sym (ap (λ o. option_map_or (λ p. senders_of p.expired.pipes) o []) (port_left to)))
      where
        nothing : Option PipeState
        nothing = None

        either : (b : Bool) → nothing ≡ (if b then nothing else nothing)
        either true = refl
        either false = refl

        step : (b : Bool) (o : Option PortState) → port_in ports to ≡ o
            → pipe_from (option_map_or pipes_of (if b then None else option_map (cut_from n) o) []) from
            ≡ (if (if b then false else (if (from == n) || has_number from (option_map_or (λ p. senders_of p.expired.pipes) o [])
            then has_number from (option_map_or (λ p. senders_of p.expired.pipes) (if b then None else option_map (cut_from n) o) []) else true))
            then pipe_from (option_map_or pipes_of o []) from else None)
        step true o at = refl
        step false None at = either (if (from == n) || false then false else true)
        step false (Some p) at = pipe_cut n p (apart to p at) from

    in_pipe : {B : Type 0} (part : PipeState → List B) (b : Bool) (o : Option PipeState) (j : ℕ)
        → slice_get (option_map_or part (if b then o else None) []) j ≡ (if b then slice_get (option_map_or part o []) j else None)
    in_pipe part true o j = refl
    in_pipe part false o j = refl

    pub lane_left : (w : Way) → lane_on (ports_without n ports) w ≡ (if is_left n ports w.receiver w.sender then lane_on ports w else None)
    lane_left w =
        ap (λ o. slice_get (option_map_or (λ p. p.lanes) o []) w.lane) (pipe_left w.receiver w.sender)
        ∙ in_pipe (λ p. p.lanes) (is_left n ports w.receiver w.sender) (pipe_from (pipes_to ports w.receiver) w.sender) w.lane

    pub state_left : (w : Way) → state_on (ports_without n ports) w ≡ (if is_left n ports w.sender w.receiver then state_on ports w else None)
    state_left w =
        ap (λ o. slice_get (option_map_or (λ p. p.states) o []) w.lane) (pipe_left w.sender w.receiver)
        ∙ in_pipe (λ p. p.states) (is_left n ports w.sender w.receiver) (pipe_from (pipes_to ports w.sender) w.receiver) w.lane
