use Rattle.std.proofs.Common.{◌∙◌, sym, ap, length, arith}
use Rattle.iox_control_releasing.proofs.Walks.{cuts_all, cuts_begin, cuts_more}
use Rattle.iox_control_releasing.proofs.cutting.cut_all.Goals as goal

pub loop-at-init : goal.loop-at-init
loop-at-init c = record {
  cuts = cuts_begin c.args.sender c.args.control.now;
  size = ap (λ ps. length ps) (sym c.ports.ensures.ports) ∙ sym c.len-at-end.ensures.len;
}

pub loop-at-preserved : goal.loop-at-preserved
loop-at-preserved c = record {
  cuts = cuts_more c.args.sender c.args.control.now c.loop-at.control c.cut_at.new.control c.loop-at.at c.loop-at.invariant.cuts
      (omega (arith, c.loop-at.invariant.size, c.loop-at-test.true)) c.cut_at.ensures.left c.cut_at.ensures.fewer;
  size = c.loop-at.invariant.size;
}

pub returns-clause-left : goal.returns-clause-left
returns-clause-left c =
    (cuts_all c.args.sender c.args.control.now c.loop-at.control c.loop-at.at c.loop-at.invariant.cuts
    (omega (arith, c.loop-at.invariant.size, c.loop-at-test.false))).0

pub returns-clause-fewer : goal.returns-clause-fewer
returns-clause-fewer c =
    (cuts_all c.args.sender c.args.control.now c.loop-at.control c.loop-at.at c.loop-at.invariant.cuts
    (omega (arith, c.loop-at.invariant.size, c.loop-at-test.false))).1
