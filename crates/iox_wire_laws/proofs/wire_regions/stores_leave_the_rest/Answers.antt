use Rattle.iox_wire_laws.proofs.WireRegions.SlotStores.{stores_leave_the_rest, stores_leave_the_contents}
use Rattle.iox_wire_laws.proofs.wire_regions.stores_leave_the_rest.Goals as goal

pub returns-clause-words : goal.returns-clause-words
returns-clause-words c = stores_leave_the_rest

pub returns-clause-contents : goal.returns-clause-contents
returns-clause-contents c = stores_leave_the_contents
