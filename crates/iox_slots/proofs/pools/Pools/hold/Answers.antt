use Rattle.std.proofs.Common.{◌∙◌, List, Option, ap}
use Rattle.iox_tables.specs.HubStates.Tables.{PoolState, slot_at}
use Rattle.iox_slots.specs.Pools.{free_count}
use Rattle.iox_slots.proofs.CallerLemmas.{one_more_here}
use Rattle.iox_slots.proofs.CountLemmas.{counted_hold}
use Rattle.iox_slots.proofs.pools.Pools.hold.Goals as goal

pub returns-clause-more : goal.returns-clause-more
returns-clause-more c =
    ap (λ (pools : List (Option PoolState)). (slot_at pools c.args.place c.args.slot).holders) c.hold_at.ensures
    ∙ one_more_here c.args.self.now c.args.place c.args.slot c.requires.taken

pub returns-clause-counted : goal.returns-clause-counted
returns-clause-counted c =
    ap (λ (pools : List (Option PoolState)). free_count pools c.args.place) c.hold_at.ensures
    ∙ counted_hold c.args.self.now c.args.place c.args.slot c.requires.taken
