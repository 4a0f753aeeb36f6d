use Rattle.std.proofs.Common.{subst}
use Rattle.iox_steps.proofs.machine.Machine.holds.Goals as goal

pub returns : goal.returns
returns g c = subst g.P.MachineParty.Invariant c.self.view_is c.self.invariant
