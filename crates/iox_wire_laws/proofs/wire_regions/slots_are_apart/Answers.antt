use Rattle.iox_wire_laws.proofs.WireRegions.SlotWords.{words_are_in_their_region, worked_ports_have_regions}
use Rattle.iox_wire_laws.proofs.WireRegions.SlotStores.{places_tell_their_slot}
use Rattle.iox_wire_laws.proofs.wire_regions.slots_are_apart.Goals as goal

pub returns-clause-within : goal.returns-clause-within
returns-clause-within c = words_are_in_their_region

pub returns-clause-told : goal.returns-clause-told
returns-clause-told c = places_tell_their_slot

pub returns-clause-worked : goal.returns-clause-worked
returns-clause-worked c = worked_ports_have_regions
