use Rattle.std.proofs.Common.{◌≡◌, ◌<◌, ◌^◌, slice_index, length, arith, ◌∙◌, ap}
use Rattle.std.proofs.lemmas.Grind.{get_or_default_zero}
use Rattle.iox_cell_queues.specs.CellEntries.{plain, site_of}
use Rattle.iox_cell_queues.proofs.EntryLemmas.{new_is_plain}
use Rattle.iox_cell_queues.proofs.NewMachines.{new_parties_played}
use Rattle.iox_cell_queues.proofs.machine.CellMachine.new.Goals as goal

pub new-requires : goal.new-requires
new-requires g c =
    let room = c.requires.room in
    let inside : c.args.site.base < length c.args.words.items = omega arith in
    let at : c.index-position.result.now ≡ slice_index c.args.words.items c.args.site.base = c.index-position.ensures
    ∙ get_or_default_zero c.args.words.items c.args.site.base _ inside in
    let position : slice_index c.args.words.items c.args.site.base < 2 ^ 64 = omega (arith, at, c.type_inv._position) in
    (c.requires.words, new_parties_played g.T.Words _ _ c.in_ok-parties.parties.items c.in_ok-parties.ensures c.requires.room c.requires.empty position)

pub returns-clause-is_new : goal.returns-clause-is_new
returns-clause-is_new g c =
    ap plain c.new.ensures ∙ (new_is_plain c.args.site c.args.words.items c.in_ok-parties.parties.items c.in_ok-parties.ensures).0

pub returns-clause-stands : goal.returns-clause-stands
returns-clause-stands g c =
    ap site_of c.new.ensures ∙ (new_is_plain c.args.site c.args.words.items c.in_ok-parties.parties.items c.in_ok-parties.ensures).1
