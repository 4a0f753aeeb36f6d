use Rattle.std.proofs.Common.{◌<◌, ◌^◌, slice_index, length, arith}
use Rattle.iox_queue_calls.proofs.WholeLemmas.{empty_holds, values-empty}
use Rattle.iox_queue_calls.proofs.whole.holds_when_empty.Goals as goal

pub returns-clause-holds : goal.returns-clause-holds
returns-clause-holds c =
    let room = c.requires.room in
    let inside : c.args.site.base < length c.args.words.now.items = omega arith in
    let position : slice_index c.args.words.now.items c.args.site.base < 2 ^ 64 = c.type_inv.words c.args.site.base 0 inside in
    empty_holds c.args.site c.args.words.now.items c.requires.some c.requires.room c.requires.empty position

pub returns-clause-waiting : goal.returns-clause-waiting
returns-clause-waiting c = values-empty c.args.site c.args.words.now.items c.requires.empty
