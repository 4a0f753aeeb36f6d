use Rattle.std.proofs.Common.{◌<◌, ◌*◌, ◌∙◌, sym, arith}
use Rattle.iox_lanes.specs.Marks.{first_of}
use Rattle.iox_lanes.proofs.Words.{down_below, first_of_next, first_of_rises}
use Rattle.iox_lanes.proofs.marks.words.lowest_word.Goals as goal

pub loop-preserved : goal.loop-preserved
loop-preserved c =
    let marks = 64 * first_of c.args.levels in
    let mark = c.first_mark-at.result in
    let next = first_of_next c.loop.counter in
    let rises = first_of_rises c.loop.counter c.args.levels c.loop-test.true in
    let low = c.loop.invariant.low in
    let high = c.loop.invariant.high in
    let from = c.first_mark-at.ensures.from in
    let within = c.first_mark-at.ensures.within in
    let most : mark < marks = omega (arith, next, rises, high, within) in
    record {
      low = omega (arith, next, low, from);
      high = omega (arith, next, high, within);
      some = sym (c.requires.tells mark most) ∙ c.first_mark-at.ensures.here;
      below = λ n above under. down_below c.args.words.now marks (first_of c.loop.counter) c.loop.at mark c.requires.tells most
          from within c.loop.invariant.below c.first_mark-at.ensures.below n (omega (arith, next, above)) under;
    }
