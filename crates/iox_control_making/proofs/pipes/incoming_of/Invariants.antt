use Rattle.std.proofs.Common.{◌≡◌, take, map, filter}
use Rattle.iox_lanes.specs.Incomings.{no_pipes}
use Rattle.iox_model.specs.Settings.{other_role}
use Rattle.iox_tables.specs.HubMaking.NewPorts.{is_other, pipe_between}
use Rattle.iox_tables.specs.HubMaking.OneByOne.{all_connected, most_of}
use Rattle.iox_control.specs.Settings.{settings_of}
use Rattle.iox_control_making.specs.Links.{bare}
use Rattle.iox_control_making.proofs.pipes.incoming_of.Given as goal

-- a pipe comes from each port so far
abbrev pub invariant-loop-place : goal.invariant-loop-place
invariant-loop-place l =
    l.incoming
    ≡ all_connected (no_pipes (most_of (settings_of l.settings) (other_role l.new.role)))
    (map (λ p. pipe_between (settings_of l.settings) p (bare l.new)) (filter (λ p. is_other p (bare l.new)) (take l.place l.ports.ports)))
