use Rattle.std.specs.Prelude.{true}
use Rattle.std.proofs.Common.{◌∙◌}
use Rattle.iox_hub.specs.Reads.{has_request}
use Rattle.iox_hub.proofs.Reading.{has_slot, has_words, is_read_as_user, of_request, passing, requests_pass, suits_kind}
use Rattle.iox_hub.proofs.hub.Hub.request_header_far.Goals as goal

pub requests_in-requires : goal.requests_in-requires
requests_in-requires g c = record {
  requests =
      (suits_kind has_request requests_pass c.self.invariant c.args.self.now c.self.view_is c.args.node c.args.number c.requires.has
      c.handle-entry.result c.handle-entry.ensures
      ∙ of_request c.handle-entry.result.kind (passing has_request requests_pass c.self.invariant c.args.self.now c.self.view_is c.args.node c.args.number c.requires.has
      c.handle-entry.result c.handle-entry.ensures));
}

pub user_header-requires : goal.user_header-requires
user_header-requires g c =
    has_slot _ c.handle-entry.result.pool c.handle-entry.result.slot true _ c.requests_in.ensures
    (has_words has_request requests_pass c.self.invariant c.args.self.now c.self.view_is c.args.node c.args.number c.requires.has
    c.handle-entry.result c.handle-entry.ensures)

pub returns-clause-whole : goal.returns-clause-whole
returns-clause-whole g c =
    rw (← c.self.view_is)
    (λ x. is_read_as_user has_request requests_pass c.self.invariant c.args.self.now c.self.view_is c.args.node c.args.number c.requires.has
    c.handle-entry.result c.handle-entry.ensures true _
    c.requests_in.ensures _ c.user_header.ensures.words x)
