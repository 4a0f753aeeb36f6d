use Rattle.iox_cell_queues.specs.CellLaws.{own_words, own_value}
use Rattle.iox_cell_queues.specs.CellPushSteps.{pushing_step}
use Rattle.iox_cell_queues.specs.CellPopSteps.{popping_step}
use Rattle.iox_cell_queues.proofs.law.every_access_keeps_the_queue.Goals as goal

pub returns-clause-push : goal.returns-clause-push
returns-clause-push c width site word waiting pushes pops fits = pushing_step own_words own_value site word waiting pops pushes fits

pub returns-clause-pop : goal.returns-clause-pop
returns-clause-pop c width site word waiting pushes pops fits = popping_step own_words own_value site word waiting pushes pops fits
