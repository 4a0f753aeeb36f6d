use Rattle.std.proofs.Common.{◌+◌, ◌*◌}
use Rattle.iox_lanes.proofs.Words.{none_below_top, none_on_top}
use Rattle.iox_lanes.proofs.marks.far.FarMarks.first.Goals as goal

pub returns-then-index-eq0-clause-none : goal.returns-then-index-eq0-clause-none
returns-then-index-eq0-clause-none c e k =
    let words = c.self.inside.words.items in
    let none = none_on_top words c.index.result.now c.index.ensures c.if-index-eq0.true in
    rw (← c.self.view_is)
    (none_below_top words (64 * c.self.inside.bottom) c.self.invariant.tells c.self.invariant.wide none (64 * c.self.inside.bottom + k))
