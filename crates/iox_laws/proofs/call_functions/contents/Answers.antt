use Rattle.iox_laws.proofs.CallFunctions.Holding.{each_write_is_whole, each_read_is_whole}
use Rattle.iox_laws.proofs.call_functions.contents.Goals as goal

pub returns-clause-writes : goal.returns-clause-writes
returns-clause-writes c = each_write_is_whole

pub returns-clause-reads : goal.returns-clause-reads
returns-clause-reads c = each_read_is_whole
