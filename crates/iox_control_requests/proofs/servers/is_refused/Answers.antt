use Rattle.std.proofs.Common.{◌∙◌, ap, arith, slice_get, sym}
use Rattle.iox_model.specs.declared.kind.Role.TheVariants.{Server}
use Rattle.iox_hub_ports.specs.InPlace.{places_of}
use Rattle.iox_control_requests.proofs.Walks.{none_refused, one_refused, passes_one}
use Rattle.iox_control_requests.proofs.servers.is_refused.Goals as goal

pub returns-then-is_refused_by : goal.returns-then-is_refused_by
returns-then-is_refused_by g c =
    one_refused (g.B.WhenFull.fails c.args.backpressure.now) c.args.control.now.tables.ports c.args.client c.loop-rank.rank c.server-place.result
    (ap (λ ps. slice_get (places_of Server ps) c.loop-rank.rank) (sym c.ports-in-loop-rank.ensures.ports) ∙ c.server-place.ensures.place)
    (λ n e. sym c.if-is_refused_by.true ∙ c.is_refused_by.ensures n e)

pub loop-rank-preserved : goal.loop-rank-preserved
loop-rank-preserved g c = record {
  none =
      passes_one (g.B.WhenFull.fails c.args.backpressure.now) c.args.control.now.tables.ports c.args.client c.loop-rank.rank c.server-place.result
      (ap (λ ps. slice_get (places_of Server ps) c.loop-rank.rank) (sym c.ports-in-loop-rank.ensures.ports) ∙ c.server-place.ensures.place)
      c.loop-rank.invariant.none (λ n e. sym c.if-is_refused_by.false ∙ c.is_refused_by.ensures n e);
  size = c.loop-rank.invariant.size;
}

pub returns : goal.returns
returns g c =
    none_refused (g.B.WhenFull.fails c.args.backpressure.now) c.args.control.now.tables.ports c.args.client c.loop-rank.rank
    (omega (arith, c.loop-rank-test.false, c.loop-rank.invariant.size)) c.loop-rank.invariant.none
