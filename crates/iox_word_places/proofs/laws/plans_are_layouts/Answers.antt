use Rattle.iox_word_places.proofs.PlanLawProofs.{plans_are_sized, ways_are_of_the_wire}
use Rattle.iox_word_places.proofs.laws.plans_are_layouts.Goals as goal

pub returns-clause-sized : goal.returns-clause-sized
returns-clause-sized c = plans_are_sized

pub returns-clause-ways : goal.returns-clause-ways
returns-clause-ways c = ways_are_of_the_wire
