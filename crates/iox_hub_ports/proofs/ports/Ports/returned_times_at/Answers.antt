use Rattle.std.proofs.Common.{◌∙◌, arith}
use Rattle.iox_tables.specs.Lanes.{LaneState, returned_times}
use Rattle.iox_hub_ports.proofs.Seats.{told_at, told_past}
use Rattle.iox_hub_ports.proofs.ports.Ports.returned_times_at.Goals as goal

pub returns-then-at-len : goal.returns-then-at-len
returns-then-at-len c =
    rw (← c.self.view_is)
    (c.returned_times.ensures ∙ told_at c.self.inside.ports.items c.args.at c.args.sender c.args.lane c.index.result.now (λ (l : LaneState). returned_times l c.args.place) 0
    c.self.invariant.apart (omega (arith, c.if-at-len.true, c.len.ensures)) c.index.ensures)

pub returns : goal.returns
returns c =
    rw (← c.self.view_is)
    (told_past c.self.inside.ports.items c.args.at c.args.sender c.args.lane (λ (l : LaneState). returned_times l c.args.place) 0 (omega (arith, c.if-at-len.false, c.len.ensures)))
