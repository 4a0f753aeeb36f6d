use Rattle.std.specs.Prelude.{true}
use Rattle.iox_hub.proofs.LoanReading.{is_with_requests, loan_has_words}
use Rattle.iox_hub.proofs.Reading.{has_slot}
use Rattle.iox_hub.proofs.hub.Hub.loaned_request_header.Goals as goal

pub requests_in-requires : goal.requests_in-requires
requests_in-requires g c = record {
  requests =
      (is_with_requests c.self.invariant c.args.self.now c.self.view_is c.args.node c.args.number c.handle-entry.result c.handle-entry.ensures c.requires.has);
}

pub user_header-requires : goal.user_header-requires
user_header-requires g c =
    has_slot _ c.handle-entry.result.pool c.handle-entry.result.slot true _ c.requests_in.ensures
    (loan_has_words c.self.invariant c.args.self.now c.self.view_is c.args.node c.args.number c.handle-entry.result c.handle-entry.ensures)
