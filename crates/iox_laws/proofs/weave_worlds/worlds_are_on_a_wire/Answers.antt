use Rattle.iox_laws.proofs.WeaveWorlds.Reached.{reachable_is_on_wire}
use Rattle.iox_laws.proofs.WeaveWorlds.ReachedPorts.{reached_ports}
use Rattle.iox_laws.proofs.weave_worlds.worlds_are_on_a_wire.Goals as goal

pub returns-clause-numbers : goal.returns-clause-numbers
returns-clause-numbers c = reached_ports

pub returns-clause-on_wire : goal.returns-clause-on_wire
returns-clause-on_wire c = reachable_is_on_wire
