use Rattle.iox_control.specs.Settings.{settings_of}
use Rattle.iox_control_requests.proofs.Counting.{spent_is}
use Rattle.iox_control_requests.proofs.counts.is_spent.Goals as goal

pub returns : goal.returns
returns c =
    spent_is c.args.control.now.tables (settings_of c.settings.result) c.handles.result.now c.args.client c.count.result
    c.settings.ensures c.handles.ensures.handles c.count.ensures
