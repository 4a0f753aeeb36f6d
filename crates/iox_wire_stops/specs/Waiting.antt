-- The queues in which the messages wait that a receive would visit.
use Rattle.iox_wire_ways.specs.Source.{Source}
use Rattle.iox_wire_ways.specs.Stop.{Stop}

-- the stop at the queue of a source
abbrev pub stop_of : Source → Stop
stop_of s = record { way = s.way; place = s.place }
