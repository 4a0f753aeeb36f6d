use Rattle.iox_laws.proofs.WorkedExamples.WorkedRunsHold.{plays-responds_in_order, plays-evicts_the_oldest, plays-keeps_the_active_limit, plays-refuses_a_full_server, plays-discards_for_a_full_server, plays-cleans_up_the_dead, plays-keeps_the_borrow_limit, plays-skips_a_stale_request, plays-grows_as_the_service_says, plays-grows_as_its_maker_says, plays-asks_and_hints}
use Rattle.iox_laws.proofs.worked_examples.runs.Goals as goal

pub returns-clause-in_order : goal.returns-clause-in_order
returns-clause-in_order c = plays-responds_in_order

pub returns-clause-evicted : goal.returns-clause-evicted
returns-clause-evicted c = plays-evicts_the_oldest

pub returns-clause-active_limit : goal.returns-clause-active_limit
returns-clause-active_limit c = plays-keeps_the_active_limit

pub returns-clause-undeliverable : goal.returns-clause-undeliverable
returns-clause-undeliverable c = plays-refuses_a_full_server

pub returns-clause-discarded : goal.returns-clause-discarded
returns-clause-discarded c = plays-discards_for_a_full_server

pub returns-clause-cleaned_up : goal.returns-clause-cleaned_up
returns-clause-cleaned_up c = plays-cleans_up_the_dead

pub returns-clause-borrow_limit : goal.returns-clause-borrow_limit
returns-clause-borrow_limit c = plays-keeps_the_borrow_limit

pub returns-clause-stale : goal.returns-clause-stale
returns-clause-stale c = plays-skips_a_stale_request

pub returns-clause-grows : goal.returns-clause-grows
returns-clause-grows c = plays-grows_as_the_service_says

pub returns-clause-grows_by_option : goal.returns-clause-grows_by_option
returns-clause-grows_by_option c = plays-grows_as_its_maker_says

pub returns-clause-asked : goal.returns-clause-asked
returns-clause-asked c = plays-asks_and_hints
