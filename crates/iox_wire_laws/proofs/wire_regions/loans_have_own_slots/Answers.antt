use Rattle.iox_wire_laws.proofs.WireRegions.OwnSlots.{loans_have_own_slots, own_slots_are_no_handles}
use Rattle.iox_wire_laws.proofs.wire_regions.loans_have_own_slots.Goals as goal

pub returns-clause-own : goal.returns-clause-own
returns-clause-own c = loans_have_own_slots

pub returns-clause-handles : goal.returns-clause-handles
returns-clause-handles c = own_slots_are_no_handles
