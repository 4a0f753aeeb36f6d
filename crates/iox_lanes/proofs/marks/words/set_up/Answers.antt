use Rattle.std.proofs.Common.{◌∙◌, ◌-◌, arith}
use Rattle.iox_lanes.proofs.Words.{marked_word, set_step, tell_all}
use Rattle.iox_lanes.proofs.marks.words.set_up.Goals as goal

pub loop-at-preserved : goal.loop-at-preserved
loop-at-preserved c =
    let words = c.loop-at.words in
    let words' = c.set_mark.new.words in
    let at = c.loop-at.at in
    let below = c.loop-at.invariant.within in
    let some = c.loop-at-test.true in
    record {
      within = omega (arith, below);
      some = marked_word words' (at - 1) c.set_mark.ensures.here;
      tells = λ marks most tells. set_step words words' marks at some (omega (arith, below, most)) c.loop-at.invariant.some
          c.set_mark.ensures.here c.set_mark.ensures.others c.set_mark.ensures.words (c.loop-at.invariant.tells marks most tells);
      others = λ k from. c.set_mark.ensures.others k (λ e. omega (arith, e, from, below, some)) ∙ c.loop-at.invariant.others k from;
    }

pub returns-clause-tells : goal.returns-clause-tells
returns-clause-tells c marks most tells =
    tell_all c.loop-at.words marks c.loop-at.at (omega (arith, c.loop-at-test.false)) (c.loop-at.invariant.tells marks most tells)
