use Rattle.std.proofs.Common.{◌<◌, subst}
use Rattle.iox_tables.specs.HubStates.Tables.{HubSettings}
use Rattle.iox_control_lending.proofs.CountLemmas.{few_responses}
use Rattle.iox_control_lending.proofs.refusals.has_all_responses.Goals as goal

pub returns-then-settings-gt0-2 : goal.returns-then-settings-gt0-2
returns-then-settings-gt0-2 c =
    few_responses c.args.control.now.tables c.handles.result.now.handles c.args.lender.now.port.number c.at_most-in_all.result c.args.lender.now.port.loaned_responses
    c.handles.ensures.handles c.at_most-in_all.ensures.most c.if-in_all-most.true
    (subst (λ (s : HubSettings). 0 < s.active_requests) c.settings-settings.ensures c.if-settings-gt0.true)
    (subst (λ (s : HubSettings). 0 < s.clients) c.settings-settings.ensures c.if-settings-gt0-2.true)
    c.args.lender.now.client c.args.lender.now.request
