use Rattle.std.proofs.Common.{◌≡◌, take}
use Rattle.iox_control.specs.Settings.{settings_of}
use Rattle.iox_control_making.specs.Links.{bare, links_between}
use Rattle.iox_control_making.proofs.pipes.links_of.Given as goal

-- a pipe leads to each port so far
abbrev pub invariant-loop-place : goal.invariant-loop-place
invariant-loop-place l = l.links.items ≡ links_between (settings_of l.settings) (take l.place l.ports.ports) (bare l.new)
