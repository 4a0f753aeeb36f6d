use Rattle.std.proofs.Common.{rules, ◌≡◌, ◌<◌, ◌^◌, length, arith, ◌∙◌, slice_index}
use Rattle.std.proofs.lemmas.Grind.{get_or_default_zero}
use Rattle.iox_set_steps.proofs.AtomicEventLemmas.{new_atomic_holds}
use Rattle.iox_set_steps.proofs.unrestricted_atomic.machine.AtomicMachine.new.Goals as goal

pub new-requires : goal.new-requires
new-requires g c =
    let room = c.requires.room in
    let inside : c.args.base < length c.args.words.items = omega arith in
    let at : c.index-version.result.now ≡ slice_index c.args.words.items c.args.base = c.index-version.ensures ∙ get_or_default_zero c.args.words.items c.args.base _ inside in
    let small : slice_index c.args.words.items c.args.base < 2 ^ 64 = omega (arith, at, c.type_inv._version) in
    new_atomic_holds g.row.N c.args.words.items c.args.base c.args.parties _ c.requires.room (search rules) small c.in_ok-parties.ensures.new
