use Rattle.std.proofs.Common.{◌∙◌, sym, ap, subst, slice_set, true, arith}
use Rattle.std.proofs.lemmas.List.{length-set}
use Rattle.std.specs.Prelude.{Bool, ℕ, ◌+◌}
use Rattle.iox_lanes.specs.declared.incoming.Visits.TheVariants.{Got}
use Rattle.iox_lanes.specs.Pipes.{PipeState}
use Rattle.iox_lanes.proofs.Kept.{there}
use Rattle.iox_lanes.proofs.Visiting.{Comes, gets, goes_on_at_limit, goes_on_past}
use Rattle.iox_lanes.proofs.expired.visit_ring.Goals as goal
use Rattle.iox_lanes.proofs.expired.visit_ring.Goals.{in-AtLimit, in-Nothing}

pub returns-in-Got-clause-visits : goal.returns-in-Got-clause-visits
returns-in-Got-clause-visits g c =
    ap (λ (s : ℕ). Got s c.pool-pool.result c.in-Got.place) c.sender-sender.ensures
    ∙ ap (λ (q : ℕ). Got c.in-Some.pipe.now.sender q c.in-Got.place) c.pool-pool.ensures
    ∙ (gets c.args.wanted (g.L.Labels.label_of c.args.labels.now) c.args.lane c.args.all.now.items
    c.loop-i.all.items c.loop-i.i c.loop-i.waits c.in-Some.pipe.now c.in-Got.place
    c.loop-i.invariant.comes (omega (arith, c.loop-i-test.true, c.loop-i.invariant.size))
    (there c.loop-i.all.items c.loop-i.i c.in-Some.pipe.now c.in-Some.ensures.value) (sym c.visit.ensures.visit ∙ c.in-Got.is)).0

pub returns-in-Got-clause-left : goal.returns-in-Got-clause-left
returns-in-Got-clause-left g c =
    ap (λ q. slice_set c.loop-i.all.items c.loop-i.i q) c.visit.ensures.visited
    ∙ (gets c.args.wanted (g.L.Labels.label_of c.args.labels.now) c.args.lane c.args.all.now.items
    c.loop-i.all.items c.loop-i.i c.loop-i.waits c.in-Some.pipe.now c.in-Got.place
    c.loop-i.invariant.comes (omega (arith, c.loop-i-test.true, c.loop-i.invariant.size))
    (there c.loop-i.all.items c.loop-i.i c.in-Some.pipe.now c.in-Some.ensures.value) (sym c.visit.ensures.visit ∙ c.in-Got.is)).1

pub loop-i-preserved : goal.loop-i-preserved
loop-i-preserved g c = record {
  comes =
      elim c.match-visit.branch [
        | in-AtLimit w ↦
            subst (λ (b : Bool). Comes c.args.wanted (g.L.Labels.label_of c.args.labels.now) c.args.lane c.args.all.now.items (slice_set c.loop-i.all.items c.loop-i.i c.visit.new.self) (c.loop-i.i + 1) b)
            (sym w.waits-is)
            (subst (λ (q : PipeState). Comes c.args.wanted (g.L.Labels.label_of c.args.labels.now) c.args.lane c.args.all.now.items (slice_set c.loop-i.all.items c.loop-i.i q) (c.loop-i.i + 1) true)
            (sym c.visit.ensures.visited)
            (goes_on_at_limit c.args.wanted (g.L.Labels.label_of c.args.labels.now) c.args.lane c.args.all.now.items c.loop-i.all.items c.loop-i.i c.loop-i.waits c.in-Some.pipe.now
            c.loop-i.invariant.comes (omega (arith, c.loop-i-test.true, c.loop-i.invariant.size))
            (there c.loop-i.all.items c.loop-i.i c.in-Some.pipe.now c.in-Some.ensures.value) (sym c.visit.ensures.visit ∙ w.in-AtLimit.is)))
        | in-Nothing w ↦
            subst (λ (b : Bool). Comes c.args.wanted (g.L.Labels.label_of c.args.labels.now) c.args.lane c.args.all.now.items (slice_set c.loop-i.all.items c.loop-i.i c.visit.new.self) (c.loop-i.i + 1) b)
            (sym w.waits-is)
            (subst (λ (q : PipeState). Comes c.args.wanted (g.L.Labels.label_of c.args.labels.now) c.args.lane c.args.all.now.items (slice_set c.loop-i.all.items c.loop-i.i q) (c.loop-i.i + 1) c.loop-i.waits)
            (sym c.visit.ensures.visited)
            (goes_on_past c.args.wanted (g.L.Labels.label_of c.args.labels.now) c.args.lane c.args.all.now.items c.loop-i.all.items c.loop-i.i c.loop-i.waits c.in-Some.pipe.now
            c.loop-i.invariant.comes (omega (arith, c.loop-i-test.true, c.loop-i.invariant.size))
            (there c.loop-i.all.items c.loop-i.i c.in-Some.pipe.now c.in-Some.ensures.value) (sym c.visit.ensures.visit ∙ w.in-Nothing.is)))
      ];
  size = length-set c.loop-i.all.items c.loop-i.i c.visit.new.self ∙ c.loop-i.invariant.size;
  same_len = length-set c.loop-i.all.items c.loop-i.i c.visit.new.self ∙ c.loop-i.invariant.same_len;
  capacity = c.loop-i.invariant.capacity;
}
