use Rattle.std.proofs.Common.{sym, ap, ◌∙◌, arith, length}
use Rattle.iox_control.specs.Controls.{ControlState}
use Rattle.iox_control_releasing.proofs.Sweeping.{same_size, sweeps_all, sweeps_begin, sweeps_more}
use Rattle.iox_control_releasing.proofs.disconnect.drop_left_pools.Goals as goal

pub loop-place-init : goal.loop-place-init
loop-place-init c = record {
  sweeps = sweeps_begin c.args.control.now;
  order = c.requires.order;
  size = ap (λ ps. length ps) (sym c.pools.ensures) ∙ sym c.places-place-end.ensures;
}

pub loop-place-preserved : goal.loop-place-preserved
loop-place-preserved c = record {
  sweeps = sweeps_more c.args.control.now c.loop-place.control c.drop_pool.new.control c.loop-place.place c.loop-place.invariant.sweeps
      c.drop_pool.ensures.left c.drop_pool.ensures.shown c.drop_pool.ensures.pools c.drop_pool.ensures.gone c.drop_pool.ensures.tidy;
  order = c.drop_pool.ensures.order;
  size = ap (λ (d : ControlState). length d.tables.pools) c.drop_pool.ensures.left ∙ same_size c.loop-place.control.tables c.loop-place.place ∙ c.loop-place.invariant.size;
}

pub returns-clause-left : goal.returns-clause-left
returns-clause-left c = c.loop-place.invariant.sweeps.same

pub returns-clause-shown : goal.returns-clause-shown
returns-clause-shown c = c.loop-place.invariant.sweeps.shown

pub returns-clause-pools : goal.returns-clause-pools
returns-clause-pools c = c.loop-place.invariant.sweeps.kept

pub returns-clause-tidy : goal.returns-clause-tidy
returns-clause-tidy c =
    sweeps_all c.args.control.now c.loop-place.control c.loop-place.place c.loop-place.invariant.sweeps
    (omega (arith, c.loop-place.invariant.size, c.loop-place-test.false))
