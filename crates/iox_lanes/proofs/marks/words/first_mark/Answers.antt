use Rattle.std.proofs.Common.{◌<◌, ◌^◌, arith, rules}
use Rattle.iox_lanes.specs.Marks.{word_at}
use Rattle.iox_lanes.proofs.Words.{lowest, lowest_below, lowest_here, set_within}
use Rattle.iox_lanes.proofs.marks.words.first_mark.Goals as goal

pub overflow_add-result : goal.overflow_add-result
overflow_add-result c =
    let fits : word_at c.args.words.now c.args.at < 2 ^ 64 = search rules in
    let low = lowest c.args.words.now c.args.at c.requires.some fits in
    let within = set_within c.args.words.now c.args.at c.requires.some in
    let most = c.requires.fits in
    omega (arith, low.0, within, most)

pub returns-clause-here : goal.returns-clause-here
returns-clause-here c =
    let fits : word_at c.args.words.now c.args.at < 2 ^ 64 = search rules in
    lowest_here c.args.words.now c.args.at c.requires.some fits

pub returns-clause-below : goal.returns-clause-below
returns-clause-below c =
    let fits : word_at c.args.words.now c.args.at < 2 ^ 64 = search rules in
    lowest_below c.args.words.now c.args.at c.requires.some fits
