use Rattle.iox_tables.specs.HubStates.Tables.{pool_at}
use Rattle.iox_control_making.proofs.Walks.{is_vacant, not_vacant, place_is}
use Rattle.iox_control_making.proofs.places.vacant_place.Goals as goal

pub loop-place-preserved : goal.loop-place-preserved
loop-place-preserved c =
    not_vacant (λ p. (p.node_id, p.port_id)) c.args.pools.now c.loop-place.place c.ids.result c.is_none.result c.ids.ensures c.is_none.ensures c.if-is_none.false c.loop-place.invariant

pub returns-then-is_none : goal.returns-then-is_none
returns-then-is_none c =
    place_is c.args.pools.now c.loop-place.place c.loop-place.invariant
    (is_vacant (λ p. (p.node_id, p.port_id)) (pool_at c.args.pools.now c.loop-place.place) c.ids.result c.is_none.result c.ids.ensures c.is_none.ensures c.if-is_none.true)
