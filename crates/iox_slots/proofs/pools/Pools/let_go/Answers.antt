use Rattle.std.proofs.Common.{◌∙◌, List, Option, ap}
use Rattle.iox_tables.specs.HubStates.Tables.{PoolState, slot_at}
use Rattle.iox_slots.specs.Pools.{free_count}
use Rattle.iox_slots.proofs.CallerLemmas.{one_less_here}
use Rattle.iox_slots.proofs.CountLemmas.{counted_let_go}
use Rattle.iox_slots.proofs.pools.Pools.let_go.Goals as goal

pub returns-clause-counted : goal.returns-clause-counted
returns-clause-counted c =
    ap (λ (pools : List (Option PoolState)). free_count pools c.args.place) c.let_go_at.ensures.left
    ∙ counted_let_go c.args.self.now c.args.place c.args.slot

pub returns-clause-less : goal.returns-clause-less
returns-clause-less c =
    ap (λ (pools : List (Option PoolState)). (slot_at pools c.args.place c.args.slot).holders) c.let_go_at.ensures.left
    ∙ one_less_here c.args.self.now c.args.place c.args.slot
