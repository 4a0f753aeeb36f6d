use Rattle.iox_wire_laws.proofs.WireRegions.MessageStores.{loans_are_stored, messages_stay, writes_are_stored}
use Rattle.iox_wire_laws.proofs.wire_regions.slots_hold_their_messages.Goals as goal

pub returns-clause-stay : goal.returns-clause-stay
returns-clause-stay c = messages_stay

pub returns-clause-loans : goal.returns-clause-loans
returns-clause-loans c = loans_are_stored

pub returns-clause-writes : goal.returns-clause-writes
returns-clause-writes c = writes_are_stored
