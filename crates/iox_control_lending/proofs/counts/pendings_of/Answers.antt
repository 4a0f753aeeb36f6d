use Rattle.std.proofs.Common.{ap, ◌∙◌}
use Rattle.std.specs.Prelude.{◌==◌, ◌&&◌, filter, length}
use Rattle.iox_model.specs.declared.kind.Kind.TheVariants.{PendingResponse}
use Rattle.iox_model.specs.Handles.{same_kind}
use Rattle.iox_tables.specs.HubStates.Tables.{HandleState}
use Rattle.iox_control_lending.proofs.CountLemmas.{counted_same}
use Rattle.iox_control_lending.proofs.counts.pendings_of.Goals as goal

pub returns : goal.returns
returns c =
    c.count_if.ensures
    ∙ counted_same (λ (h : HandleState). (h.port == c.args.client) && same_kind h.kind PendingResponse) c.handles.result.now.handles
    ∙ ap (λ hs. length (filter (λ (h : HandleState). (h.port == c.args.client) && same_kind h.kind PendingResponse) hs)) c.handles.ensures.handles
