use Rattle.std.proofs.Common.{◌<◌, subst}
use Rattle.iox_tables.specs.HubStates.Tables.{HubSettings}
use Rattle.iox_control_lending.proofs.CountLemmas.{few_requests}
use Rattle.iox_control_lending.proofs.refusals.has_all_requests.Goals as goal

pub returns-then-at_most-most : goal.returns-then-at_most-most
returns-then-at_most-most c =
    few_requests c.args.control.now.tables c.handles.result.now.handles c.args.client c.at_most.result c.args.control.now.tables.settings.loaned_requests
    c.handles.ensures.handles c.at_most.ensures.most
    (subst (λ (s : HubSettings). c.at_most.result < s.loaned_requests) c.settings-most.ensures c.if-at_most-most.true)
