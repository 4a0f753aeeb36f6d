use Rattle.iox_hub_phases.proofs.Agreeing.{emptying_is_one_by_one, pushes_are_the_machines}
use Rattle.iox_hub_phases.proofs.Free.{deliveries_are_to_free}
use Rattle.iox_hub_phases.proofs.steps_of_a_sender.Goals as goal

pub returns-clause-empties : goal.returns-clause-empties
returns-clause-empties c = emptying_is_one_by_one

pub returns-clause-pushes : goal.returns-clause-pushes
returns-clause-pushes c = pushes_are_the_machines

pub returns-clause-delivers : goal.returns-clause-delivers
returns-clause-delivers c = deliveries_are_to_free
