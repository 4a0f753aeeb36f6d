use Rattle.iox_tables.proofs.HubLoans.Filled.{words_may_change}
use Rattle.iox_tables.proofs.HubLoans.Written.{fillings_are_shown, writes_are_made, writes_are_refused}
use Rattle.iox_tables.proofs.hub_loans.fillings.Goals as goal

pub returns-clause-words : goal.returns-clause-words
returns-clause-words c = words_may_change

pub returns-clause-refused : goal.returns-clause-refused
returns-clause-refused c = writes_are_refused

pub returns-clause-made : goal.returns-clause-made
returns-clause-made c = writes_are_made

pub returns-clause-fills : goal.returns-clause-fills
returns-clause-fills c = fillings_are_shown
