use Rattle.std.proofs.Common.{◌∙◌, sym, ap, slice_set, arith}
use Rattle.iox_lanes.proofs.Visiting.{gets}
use Rattle.iox_lanes.proofs.incoming.visit_pipes.Goals as goal

pub returns-in-Got-clause-left : goal.returns-in-Got-clause-left
returns-in-Got-clause-left g c =
    ap (λ q. slice_set c.loop-i.all.items c.loop-i.i q) c.visit.ensures.visited
    ∙ (gets c.args.wanted (g.L.Labels.label_of c.args.labels.now) c.args.lane c.args.all.now.items
    c.loop-i.all.items c.loop-i.i c.loop-i.waits c.index_mut-pipe.result.now c.in-Got.place
    c.loop-i.invariant.comes (omega (arith, c.loop-i-test.true, c.loop-i.invariant.size))
    c.index_mut-pipe.ensures.value (sym c.visit.ensures.visit ∙ c.in-Got.is)).1
