use Rattle.iox_wire_laws.proofs.WireRegions.MessageLoads.{headers_are_there, headers_tell_their_messages, reads_find_their_messages}
use Rattle.iox_wire_laws.proofs.wire_regions.loads_find_their_messages.Goals as goal

pub returns-clause-reads : goal.returns-clause-reads
returns-clause-reads c = reads_find_their_messages

pub returns-clause-there : goal.returns-clause-there
returns-clause-there c = headers_are_there

pub returns-clause-headers : goal.returns-clause-headers
returns-clause-headers c = headers_tell_their_messages
