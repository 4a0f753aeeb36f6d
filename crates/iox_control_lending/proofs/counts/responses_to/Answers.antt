use Rattle.std.proofs.Common.{ap, ◌∙◌}
use Rattle.std.specs.Prelude.{filter, length}
use Rattle.iox_control_lending.proofs.CountLemmas.{counted_same, shows_responding}
use Rattle.iox_control_lending.proofs.counts.responses_to.Goals as goal

pub returns : goal.returns
returns c =
    c.count_if.ensures
    ∙ counted_same (shows_responding c.pools.result.now c.args.server c.args.client c.args.request) c.handles.result.now.handles
    ∙ ap (λ hs. length (filter (shows_responding c.pools.result.now c.args.server c.args.client c.args.request) hs)) c.handles.ensures.handles
    ∙ ap (λ ps. length (filter (shows_responding ps c.args.server c.args.client c.args.request) c.args.control.now.tables.handles)) c.pools.ensures
