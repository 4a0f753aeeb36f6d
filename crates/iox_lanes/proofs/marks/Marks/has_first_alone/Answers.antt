use Rattle.std.proofs.lemmas.Bool.{eqb-true}
use Rattle.iox_lanes.proofs.Marked.{others_unset}
use Rattle.iox_lanes.proofs.marks.Marks.has_first_alone.Goals as goal

pub returns-clause-alone : goal.returns-clause-alone
returns-clause-alone c is k h =
    rw (← c.self.view_is) (others_unset c.self.inside.near c.self.inside.far c.self.invariant (eqb-true c.self.inside.near 1 is) k h)
