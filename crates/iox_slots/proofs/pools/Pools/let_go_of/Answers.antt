use Rattle.std.proofs.Common.{◌∙◌, List, Option, ap}
use Rattle.iox_tables.specs.HubStates.Tables.{PoolState}
use Rattle.iox_slots.specs.Pools.{free_count}
use Rattle.iox_slots.proofs.CountLemmas.{counted_let_go}
use Rattle.iox_slots.proofs.pools.Pools.let_go_of.Goals as goal

pub returns-clause-counted : goal.returns-clause-counted
returns-clause-counted c =
    ap (λ (pools : List (Option PoolState)). free_count pools c.args.place) c.leave_at.ensures
    ∙ counted_let_go c.args.self.now c.args.place c.args.slot
