use Rattle.std.proofs.Common.{ap, ◌∙◌}
use Rattle.std.specs.Prelude.{filter, length, nat_lt}
use Rattle.std.specs.List.{list_any}
use Rattle.iox_control_lending.proofs.CountLemmas.{counted_same, shows_on_lane, some_pass}
use Rattle.iox_control_lending.proofs.lanes.is_lane_taken.Goals as goal

pub returns : goal.returns
returns c =
    ap (nat_lt 0)
    (c.count_if.ensures
    ∙ counted_same (shows_on_lane c.pools-pools.result.now c.args.client c.args.lane) c.handles.result.now.handles
    ∙ ap (λ hs. length (filter (shows_on_lane c.pools-pools.result.now c.args.client c.args.lane) hs)) c.handles.ensures.handles)
    ∙ some_pass (shows_on_lane c.pools-pools.result.now c.args.client c.args.lane) c.args.control.now.tables.handles
    ∙ ap (λ ps. list_any (shows_on_lane ps c.args.client c.args.lane) c.args.control.now.tables.handles) c.pools-pools.ensures
