use Rattle.iox_control.specs.Settings.{settings_of}
use Rattle.iox_control_requests.proofs.Counting.{few_spent}
use Rattle.iox_control_request_copies.proofs.counts.has_all_active.Goals as goal

pub returns-then-at_most-most : goal.returns-then-at_most-most
returns-then-at_most-most c =
    few_spent c.args.control.now.tables (settings_of c.settings-most.result) c.handles.result.now c.args.client c.at_most.result
    c.settings-most.ensures c.handles.ensures.handles c.at_most.ensures.most c.if-at_most-most.true
