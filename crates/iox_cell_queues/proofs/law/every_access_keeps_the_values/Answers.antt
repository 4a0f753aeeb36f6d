use Rattle.iox_cell_queues.specs.CellPushSteps.{pushing_step}
use Rattle.iox_cell_queues.specs.CellPopSteps.{popping_step}
use Rattle.iox_cell_queues.proofs.law.every_access_keeps_the_values.Goals as goal

pub returns-clause-push : goal.returns-clause-push
returns-clause-push g c width site word waiting pushes pops fits = pushing_step g.T.Words.words g.T.Words.of_words site word waiting pops pushes fits

pub returns-clause-pop : goal.returns-clause-pop
returns-clause-pop g c width site word waiting pushes pops fits = popping_step g.T.Words.words g.T.Words.of_words site word waiting pushes pops fits
