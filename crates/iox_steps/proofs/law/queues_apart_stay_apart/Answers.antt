use Rattle.iox_steps.proofs.Turns.{pushing_keeps_in_list, popping_keeps_in_list, others_keep}
use Rattle.iox_steps.proofs.law.queues_apart_stay_apart.Goals as goal

pub returns-clause-push : goal.returns-clause-push
returns-clause-push c site words waiting hand pushes pops fits room other waiting' hand' pushes' pops' fits' apart =
    let keeps = pushing_keeps_in_list site words waiting hand pushes pops room fits in
    (keeps, others_keep site other words waiting hand waiting' hand' pushes' pops' _ keeps apart fits')

pub returns-clause-pop : goal.returns-clause-pop
returns-clause-pop c site words waiting hand pushes pops fits room other waiting' hand' pushes' pops' fits' apart =
    let keeps = popping_keeps_in_list site words waiting hand pushes pops room fits in
    (keeps, others_keep site other words waiting hand waiting' hand' pushes' pops' _ keeps apart fits')
