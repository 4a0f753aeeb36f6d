use Rattle.iox_slots.proofs.CallerLemmas.{pool_of_slot, taken_is_there}
use Rattle.iox_control.proofs.control.Control.got.Goals as goal

pub got_entry-entry-requires : goal.got_entry-entry-requires
got_entry-entry-requires c =
    pool_of_slot c.args.self.now.tables.pools c.args.pool c.args.slot (taken_is_there c.args.self.now.tables.pools c.args.pool c.args.slot c.requires.taken)
