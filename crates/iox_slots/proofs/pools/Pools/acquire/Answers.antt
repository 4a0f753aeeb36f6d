use Rattle.std.proofs.Common.{◌+◌, ◌∙◌, List, Option, ap, sym, subst}
use Rattle.iox_tables.specs.HubStates.Tables.{PoolState}
use Rattle.iox_slots.specs.Pools.{Acquires, free_count}
use Rattle.iox_slots.proofs.CallerLemmas.{acquires}
use Rattle.iox_slots.proofs.CountLemmas.{counted_acquire}
use Rattle.iox_slots.proofs.pools.Pools.acquire.Goals as goal

pub returns-in-Some-clause-acquired : goal.returns-in-Some-clause-acquired
returns-in-Some-clause-acquired c =
    subst (Acquires c.args.self.now c.args.place c.in-Some.slot) (sym c.in-Some.ensures.acquired)
    (acquires c.args.self.now c.args.place c.in-Some.slot c.in-Some.ensures.free)

pub returns-in-Some-clause-counted : goal.returns-in-Some-clause-counted
returns-in-Some-clause-counted c =
    ap (λ (pools : List (Option PoolState)). free_count pools c.args.place + 1) c.in-Some.ensures.acquired
    ∙ counted_acquire c.args.self.now c.args.place c.in-Some.slot c.in-Some.ensures.free
