use Rattle.std.proofs.Common.{sym, ap₂, ◌∙◌, ◌+◌}
use Rattle.iox_lanes.specs.Incomings.{IncomingState}
use Rattle.iox_tables.specs.HubBooks.Counts.{in_pipe, lane_count, total}
use Rattle.iox_control_releasing.proofs.Settling.{both_go, counts_as, pools_again}
use Rattle.iox_control_releasing.proofs.Walks.{total_append}
use Rattle.iox_control_releasing.proofs.letting_go.let_port_go.Goals as goal

pub returns-clause-left : goal.returns-clause-left
returns-clause-left c =
    pools_again c.args.control.now c.let_expired_go.new.control c.let_pipes_go.new.control _ c.let_expired_go.ensures.left c.let_pipes_go.ensures.left

pub returns-clause-fewer : goal.returns-clause-fewer
returns-clause-fewer c =
    counts_as c.args.control.now.tables.pools c.let_pipes_go.new.control.tables.pools _ _
    (both_go c.args.control.now.tables.pools c.let_expired_go.new.control.tables.pools c.let_pipes_go.new.control.tables.pools _ _
    c.let_expired_go.ensures.fewer c.let_pipes_go.ensures.fewer)
    (λ pool k.
    ap₂ (λ (e i : IncomingState). total (in_pipe (lane_count pool k)) e.pipes + total (in_pipe (lane_count pool k)) i.pipes)
    c.into_pipes-expired.ensures.expired c.into_pipes-expired.ensures.incoming
    ∙ sym (total_append (in_pipe (lane_count pool k)) c.args.port.expired.pipes c.args.port.incoming.pipes))
