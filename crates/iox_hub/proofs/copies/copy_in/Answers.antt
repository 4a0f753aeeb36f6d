use Rattle.std.specs.Prelude.{flat_map, length}
use Rattle.iox_hub.proofs.CopyingWords.{copied_is}
use Rattle.iox_hub.proofs.copies.copy_in.Goals as goal

pub returns : goal.returns
returns g c =
    copied_is c.args.store.now c.lend_uninit.new.self c.write_from_slice.new.self c.args.slot (length c.args.values.now) (g.H.Words.words c.args.user)
    (flat_map g.E.Words.words c.args.values.now) c.requires.there c.lend_uninit.ensures c.write_from_slice.ensures
