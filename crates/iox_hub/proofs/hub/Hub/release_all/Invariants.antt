use Rattle.std.proofs.Common.{◌≡◌, length}
use Rattle.std.specs.Prelude.{◌≢◌}
use Rattle.iox_control_releasing.specs.Goings.{StaysTidy}
use Rattle.iox_hub.specs.Cleaning.{LeadsOn}
use Rattle.iox_hub.specs.Keeping.{Keeps}
use Rattle.iox_hub.specs.Listings.{NoneBefore, held_ports, numbers_had}
use Rattle.iox_hub.proofs.hub.Hub.release_all.Given as goal

-- what is left is yet to be released, and the rest was
abbrev pub invariant-loop : goal.invariant-loop
invariant-loop g l = record {
  leads : LeadsOn l.fn.self l.self l.node;
  keeps : Keeps (λ other n. other ≢ l.node) l.fn.self l.self;
  request : l.self.request ≡ l.fn.self.request;
  response : l.self.response ≡ l.fn.self.response;
  before : NoneBefore l.ahead (held_ports l.self.control.tables.ports l.node);
  tidy : StaysTidy l.fn.self.control.tables l.self.control.tables;
}

abbrev pub decreases-loop : goal.decreases-loop
decreases-loop g l = length (numbers_had l.self.control.tables l.node)
