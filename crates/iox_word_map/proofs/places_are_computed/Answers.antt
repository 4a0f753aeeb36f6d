use Rattle.iox_word_map.proofs.Places.{regions_are_computed, request_queues_are_computed, lanes_are_computed, total_is_computed, all_ones_take_165}
use Rattle.iox_word_map.proofs.places_are_computed.Goals as goal

pub returns-clause-regions : goal.returns-clause-regions
returns-clause-regions c = regions_are_computed

pub returns-clause-requests : goal.returns-clause-requests
returns-clause-requests c = request_queues_are_computed

pub returns-clause-lanes : goal.returns-clause-lanes
returns-clause-lanes c = lanes_are_computed

pub returns-clause-total : goal.returns-clause-total
returns-clause-total c = total_is_computed

pub returns-clause-all_ones : goal.returns-clause-all_ones
returns-clause-all_ones c = all_ones_take_165
