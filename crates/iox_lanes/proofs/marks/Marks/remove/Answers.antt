use Rattle.std.proofs.Common.{◌∙◌, sym, arith}
use Rattle.iox_lanes.proofs.marks.Marks.remove.Goals as goal

pub invariant_of-self : goal.invariant_of-self
invariant_of-self c z =
    let near = c.if-lane-lt-MOST.true in
    c.self.invariant (sym (c.without_mark-self-inside.ensures.others 63 (omega arith) (λ e. omega (arith, e, near))) ∙ z)
