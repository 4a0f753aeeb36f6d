use Rattle.std.proofs.Common.{sym, ◌∙◌, arith, refl}
use Rattle.iox_handles.specs.Places.{handles_there}
use Rattle.iox_handles.proofs.NodeListLemmas.{entry_at, gone_more}
use Rattle.iox_handles.proofs.numbered.first_there.Goals as goal

pub loop-at-init : goal.loop-at-init
loop-at-init c = record {
  gone = λ i v past low is. absurd (omega (arith, past, low));
  size = refl;
}

pub returns-then-is_listed_there-clause-gone : goal.returns-then-is_listed_there-clause-gone
returns-then-is_listed_there-clause-gone c = c.loop-at.invariant.gone

pub loop-at-preserved : goal.loop-at-preserved
loop-at-preserved c = record {
  gone = gone_more c.args.node (handles_there c.args.places.now) c.args.list.now c.args.from c.loop-at.at (entry_at 0 0) c.loop-at-test.true
      (sym c.is_listed_there.ensures ∙ c.if-is_listed_there.false) c.loop-at.invariant.gone;
  size = c.loop-at.invariant.size;
}

pub returns-clause-none : goal.returns-clause-none
returns-clause-none c none i v past low is =
    let end = c.loop-at-test.false in c.loop-at.invariant.gone i v past (omega (arith, low, end)) is
