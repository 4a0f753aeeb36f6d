use Rattle.iox_steps.proofs.Turns.{pushing_keeps, popping_keeps}
use Rattle.iox_steps.proofs.law.every_access_keeps_the_queue.Goals as goal

pub returns-clause-push : goal.returns-clause-push
returns-clause-push c site word waiting hand pushes pops fits = pushing_keeps site word waiting hand pushes pops fits

pub returns-clause-pop : goal.returns-clause-pop
returns-clause-pop c site word waiting hand pushes pops fits = popping_keeps site word waiting hand pushes pops fits
