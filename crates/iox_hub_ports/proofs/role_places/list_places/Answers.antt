use Rattle.std.proofs.Common.{arith, ◌∙◌}
use Rattle.iox_hub_ports.proofs.Listing.{lists_all, lists_on}
use Rattle.iox_hub_ports.proofs.role_places.list_places.Goals as goal

pub put-requires : goal.put-requires
put-requires c =
    omega (arith, c.loop-place.invariant.lists.size, c.loop-place-test.true, c.loop-place.invariant.size, c.loop-place.invariant.capacity, c.requires)

pub loop-place-preserved : goal.loop-place-preserved
loop-place-preserved c = record {
  lists = lists_on c.args.role c.args.ports.now.items c.loop-place.list.items c.put.new.list.items c.loop-place.place c.index.result.now
      c.loop-place.invariant.lists (omega (arith, c.loop-place-test.true, c.loop-place.invariant.size)) c.index.ensures c.put.ensures.items;
  size = c.loop-place.invariant.size;
  capacity = c.put.ensures.capacity ∙ c.loop-place.invariant.capacity;
}

pub returns-clause-places : goal.returns-clause-places
returns-clause-places c =
    lists_all c.args.role c.args.ports.now.items c.loop-place.list.items c.loop-place.place c.loop-place.invariant.lists
    (omega (arith, c.loop-place-test.false, c.loop-place.invariant.size))
