use Rattle.std.proofs.Common.{◌≡◌, ◌≤◌, ◌∙◌, false, ap, arith}
use Rattle.iox_lanes.specs.Marks.{is_set, word_at}
use Rattle.iox_lanes.proofs.Words.{clear_step, clear_tells, tell_all}
use Rattle.iox_lanes.proofs.marks.words.clear_up.Goals as goal

pub loop-at-preserved : goal.loop-at-preserved
loop-at-preserved c =
    let words = c.loop-at.words in
    let words' = c.clear_mark.new.words in
    let at = c.loop-at.at in
    let below = c.loop-at.invariant.within in
    let some = c.loop-at-test.true in
    let empty : word_at words at ≡ 0 = omega (arith, c.if-words-at-ne0.false) in
    let none : is_set (word_at words at) ≡ false = ap is_set empty in
    record {
      within = omega (arith, below);
      tells = λ marks most tells of.
          let before = c.loop-at.invariant.tells marks most tells of in
          let within : at ≤ marks = omega (arith, below, most) in (
            clear_step words words' marks at some within none
                c.clear_mark.ensures.here c.clear_mark.ensures.others c.clear_mark.ensures.words before.0,
            clear_tells words words' marks at some within c.clear_mark.ensures.others c.clear_mark.ensures.less before.0,
          );
      others = λ k from. c.clear_mark.ensures.others k (λ e. omega (arith, e, from, below, some)) ∙ c.loop-at.invariant.others k from;
    }

pub returns-clause-tells : goal.returns-clause-tells
returns-clause-tells c marks most tells of =
    let before = c.loop-at.invariant.tells marks most tells of in
    tell_all c.loop-at.words marks c.loop-at.at (omega (arith, c.loop-at-test.false)) before.0
