use Rattle.iox_hub_delivering.proofs.Slots.{letting_go_ends_handles}
use Rattle.iox_hub_delivering.proofs.Stepped.{each_change_is_one_more, first_ways_are_targets, no_step_delivers_nothing}
use Rattle.iox_hub_delivering.proofs.Walked.{each_step_delivers, one_way_hands_over, sent_stays_held}
use Rattle.iox_hub_delivering.proofs.steps.Goals as goal

pub returns-clause-one_more : goal.returns-clause-one_more
returns-clause-one_more c = each_step_delivers

pub returns-clause-none : goal.returns-clause-none
returns-clause-none c = no_step_delivers_nothing

pub returns-clause-handles : goal.returns-clause-handles
returns-clause-handles c = letting_go_ends_handles

pub returns-clause-targets : goal.returns-clause-targets
returns-clause-targets c = first_ways_are_targets

pub returns-clause-changes : goal.returns-clause-changes
returns-clause-changes c = each_change_is_one_more

pub returns-clause-held : goal.returns-clause-held
returns-clause-held c = sent_stays_held

pub returns-clause-one_way : goal.returns-clause-one_way
returns-clause-one_way c = one_way_hands_over
