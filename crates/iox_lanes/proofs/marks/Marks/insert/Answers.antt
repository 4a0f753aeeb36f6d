use Rattle.std.proofs.Common.{◌∙◌, sym, arith}
use Rattle.iox_lanes.proofs.marks.Marks.insert.Goals as goal

pub invariant_of-self : goal.invariant_of-self
invariant_of-self c z =
    let near = c.if-lane-lt-MOST.true in
    c.self.invariant (sym (c.with_mark-self-inside.ensures.others 63 (λ e. omega (arith, e, near))) ∙ z)
