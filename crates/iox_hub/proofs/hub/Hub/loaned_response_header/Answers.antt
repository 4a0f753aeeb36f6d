use Rattle.std.specs.Prelude.{false}
use Rattle.iox_hub.proofs.LoanReading.{is_with_responses, loan_has_words}
use Rattle.iox_hub.proofs.Reading.{has_slot, some_there}
use Rattle.iox_hub.proofs.hub.Hub.loaned_response_header.Goals as goal

pub responses_in-requires-clause-there : goal.responses_in-requires-clause-there
responses_in-requires-clause-there g c =
    some_there _ c.handle-entry.result.pool c.handle-entry.result.slot
    (loan_has_words c.self.invariant c.args.self.now c.self.view_is c.args.node c.args.number c.handle-entry.result c.handle-entry.ensures)

pub responses_in-requires-clause-responses : goal.responses_in-requires-clause-responses
responses_in-requires-clause-responses g c =
    (is_with_responses c.self.invariant c.args.self.now c.self.view_is c.args.node c.args.number c.handle-entry.result c.handle-entry.ensures c.requires.has)

pub user_header-requires : goal.user_header-requires
user_header-requires g c =
    has_slot _ c.handle-entry.result.pool c.handle-entry.result.slot false _ c.responses_in.ensures
    (loan_has_words c.self.invariant c.args.self.now c.self.view_is c.args.node c.args.number c.handle-entry.result c.handle-entry.ensures)
