use Rattle.std.proofs.Common.{ap, ◌∙◌}
use Rattle.std.specs.Prelude.{◌==◌, ◌&&◌, filter, length}
use Rattle.iox_model.specs.Handles.{is_request_loan}
use Rattle.iox_tables.specs.HubStates.Tables.{HandleState}
use Rattle.iox_control_lending.proofs.CountLemmas.{counted_same, no_requests}
use Rattle.iox_control_lending.proofs.counts.requests_on_loan.Goals as goal

pub returns : goal.returns
returns c =
    c.count_if.ensures
    ∙ counted_same (λ (h : HandleState). (h.port == c.args.client) && is_request_loan h.kind) c.handles-2.result.now.handles
    ∙ ap (λ hs. length (filter (λ (h : HandleState). (h.port == c.args.client) && is_request_loan h.kind) hs)) c.handles-2.ensures.handles

pub returns-then-at_most-eq0 : goal.returns-then-at_most-eq0
returns-then-at_most-eq0 c =
    no_requests c.handles.result.now.handles c.args.control.now.tables.handles c.args.client c.at_most.result c.handles.ensures.handles c.at_most.ensures.most c.if-at_most-eq0.true
