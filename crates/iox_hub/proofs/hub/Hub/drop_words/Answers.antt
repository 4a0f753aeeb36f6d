use Rattle.iox_hub.proofs.ReleasingWords.{drop_keeps, drop_leaves, drop_shows}
use Rattle.iox_hub.proofs.hub.Hub.drop_words.Goals as goal

pub invariant_of-self : goal.invariant_of-self
invariant_of-self g c =
    drop_keeps _ c.self.invariant c.pools.result.now c.args.place c.pools.ensures c.ids.result c.ids.ensures c.in-None.is _
    c.vacate.ensures

pub returns-in-None-clause-left : goal.returns-in-None-clause-left
returns-in-None-clause-left g c =
    rw (← c.self.view_is)
    (drop_leaves _ c.self.invariant c.pools.result.now c.args.place c.pools.ensures c.ids.result c.ids.ensures c.in-None.is _
    c.vacate.ensures)

pub returns-in-None-clause-shown : goal.returns-in-None-clause-shown
returns-in-None-clause-shown g c =
    rw (← c.self.view_is)
    (drop_shows _ c.self.invariant c.pools.result.now c.args.place c.pools.ensures c.ids.result c.ids.ensures c.in-None.is _
    c.vacate.ensures)
