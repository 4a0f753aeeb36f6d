use Rattle.iox_tables.proofs.HubBooks.Held.{free_slots_are_not_shown, received_are_held}
use Rattle.iox_tables.proofs.HubBooks.Used.{each_is_once}
use Rattle.iox_tables.proofs.HubBooks.Sendable.{requests_may_be_sent, responses_may_be_sent}
use Rattle.iox_tables.proofs.hub_books.premises.Goals as goal

pub returns-clause-once : goal.returns-clause-once
returns-clause-once c = each_is_once

pub returns-clause-requests : goal.returns-clause-requests
returns-clause-requests c = requests_may_be_sent

pub returns-clause-responses : goal.returns-clause-responses
returns-clause-responses c = responses_may_be_sent

pub returns-clause-held : goal.returns-clause-held
returns-clause-held c = received_are_held

pub returns-clause-free : goal.returns-clause-free
returns-clause-free c = free_slots_are_not_shown
