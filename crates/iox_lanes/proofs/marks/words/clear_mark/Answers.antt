use Rattle.std.proofs.Common.{◌<◌, ◌^◌, rules}
use Rattle.iox_lanes.proofs.Words.{cleared_less}
use Rattle.iox_lanes.proofs.marks.words.clear_mark.Goals as goal

pub returns-clause-less : goal.returns-clause-less
returns-clause-less c =
    let fits : c.without_mark.result < 2 ^ 64 = search rules in
    cleared_less c.args.words.now c.args.mark c.without_mark.result c.requires fits
    c.without_mark.ensures.here c.without_mark.ensures.others
