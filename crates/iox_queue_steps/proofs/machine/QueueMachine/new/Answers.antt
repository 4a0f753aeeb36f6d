use Rattle.std.proofs.Common.{◌≡◌, ◌<◌, ◌^◌, slice_index, length, arith, ◌∙◌}
use Rattle.std.proofs.lemmas.Grind.{get_or_default_zero}
use Rattle.iox_queue_steps.proofs.NewMachines.{new_parties_played}
use Rattle.iox_queue_steps.proofs.machine.QueueMachine.new.Goals as goal

pub new-requires : goal.new-requires
new-requires c =
    let room = c.requires.room in
    let inside : c.args.site.base < length c.args.words.items = omega arith in
    let at : c.index-position.result.now ≡ slice_index c.args.words.items c.args.site.base = c.index-position.ensures ∙ get_or_default_zero c.args.words.items c.args.site.base _ inside in
    let position : slice_index c.args.words.items c.args.site.base < 2 ^ 64 = omega (arith, at, c.type_inv.position) in
    new_parties_played _ _ _ c.in_ok-parties.ensures c.requires.some c.requires.room c.requires.empty position
