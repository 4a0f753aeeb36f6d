use Rattle.std.proofs.Common.{refl}
use Rattle.iox_run.proofs.RunSteps.{Stands-new}
use Rattle.iox_run.proofs.run.player.Player.new.Goals as goal

pub returns-clause-stands : goal.returns-clause-stands
returns-clause-stands c = Stands-new _ c.new.ensures refl c.in_ok-with_capacity.ensures.items c.in_ok-with_capacity-2.ensures.items
