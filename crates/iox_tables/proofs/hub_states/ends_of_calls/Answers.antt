use Rattle.iox_tables.proofs.HubStates.Ends.{each_count_is_shown, each_handle_is_shown, free_slots_may_change}
use Rattle.iox_tables.proofs.HubStates.Holding.{holders_are_not_shown}
use Rattle.iox_tables.proofs.HubStates.GiveBacks.{each_give_back_is_shown}
use Rattle.iox_tables.proofs.hub_states.ends_of_calls.Goals as goal

pub returns-clause-handles : goal.returns-clause-handles
returns-clause-handles c = each_handle_is_shown

pub returns-clause-counts : goal.returns-clause-counts
returns-clause-counts c = each_count_is_shown

pub returns-clause-slots : goal.returns-clause-slots
returns-clause-slots c = free_slots_may_change

pub returns-clause-gives_back : goal.returns-clause-gives_back
returns-clause-gives_back c = each_give_back_is_shown

pub returns-clause-holders : goal.returns-clause-holders
returns-clause-holders c = holders_are_not_shown
