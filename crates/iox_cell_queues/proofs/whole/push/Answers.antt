use Rattle.std.proofs.Common.{◌+◌, ◌≤◌, ◌^◌, ◌-◌, arith, sym, ◌∙◌}
use Rattle.iox_cell_queues.specs.Cells.{size}
use Rattle.iox_cell_queues.proofs.WholeLemmas.{push_soon, pushed, push_says, known_is_whole}
use Rattle.iox_cell_queues.proofs.whole.push.Goals as goal

pub finish-requires : goal.finish-requires
finish-requires g c =
    let small = c.args.words.now.small in
    let room = c.requires.holds.0 in
    let memory : size c.args.site + 1 ≤ 2 ^ 64 - 1 = omega (arith, small, room) in
    let whole = known_is_whole g.T.Words c.args.site.width c.args.value g.met.T.Words.laws c.known.ensures (c.requires.words ∙ sym c.requires.wide) in
    (c.requires.fits, (c.requires.holds.0, push_soon _ g.T.Words c.args.site c.args.words.now.items c.requires.holds c.args.value whole (2 ^ 64 - 1) memory))

pub of_push-requires : goal.of_push-requires
of_push-requires g c =
    let whole = known_is_whole g.T.Words c.args.site.width c.args.value g.met.T.Words.laws c.known.ensures (c.requires.words ∙ sym c.requires.wide) in
    push_says _ g.T.Words c.args.site c.args.words.now.items c.requires.holds c.args.value whole _ _ c.finish.ensures

pub returns-clause-queue : goal.returns-clause-queue
returns-clause-queue g c =
    let whole = known_is_whole g.T.Words c.args.site.width c.args.value g.met.T.Words.laws c.known.ensures (c.requires.words ∙ sym c.requires.wide) in
    (pushed _ g.T.Words c.args.site c.args.words.now.items c.requires.holds c.args.value whole _ _ _ c.finish.ensures c.of_push.ensures).queue

pub returns-clause-accesses : goal.returns-clause-accesses
returns-clause-accesses g c =
    let whole = known_is_whole g.T.Words c.args.site.width c.args.value g.met.T.Words.laws c.known.ensures (c.requires.words ∙ sym c.requires.wide) in
    (pushed _ g.T.Words c.args.site c.args.words.now.items c.requires.holds c.args.value whole _ _ _ c.finish.ensures c.of_push.ensures).accesses

pub returns-clause-holds : goal.returns-clause-holds
returns-clause-holds g c =
    let whole = known_is_whole g.T.Words c.args.site.width c.args.value g.met.T.Words.laws c.known.ensures (c.requires.words ∙ sym c.requires.wide) in
    (pushed _ g.T.Words c.args.site c.args.words.now.items c.requires.holds c.args.value whole _ _ _ c.finish.ensures c.of_push.ensures).holds

pub returns-clause-outside : goal.returns-clause-outside
returns-clause-outside g c =
    let whole = known_is_whole g.T.Words c.args.site.width c.args.value g.met.T.Words.laws c.known.ensures (c.requires.words ∙ sym c.requires.wide) in
    (pushed _ g.T.Words c.args.site c.args.words.now.items c.requires.holds c.args.value whole _ _ _ c.finish.ensures c.of_push.ensures).outside
