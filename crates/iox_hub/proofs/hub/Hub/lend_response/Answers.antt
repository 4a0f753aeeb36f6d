use Rattle.std.proofs.Common.{ap, Option, is_some}
use Rattle.iox_hub_ports.specs.HubStates.Tables.{HandleState}
use Rattle.iox_hub.proofs.SendingHubs.{active_of_hub}
use Rattle.iox_hub.proofs.hub.Hub.lend_response.Goals as goal

pub near_known-requires : goal.near_known-requires
near_known-requires g c =
    let active = active_of_hub c.self.invariant c.args.self.now c.self.view_is c.args.node c.args.number c.requires.has in ap (λ (o : Option HandleState). is_some o) active.1.there

pub lend_response_in_room-requires-clause-entry : goal.lend_response_in_room-requires-clause-entry
lend_response_in_room-requires-clause-entry g c = rw (← c.self.view_is) c.in-Some.ensures

pub returns-then-is_few : goal.returns-then-is_few
returns-then-is_few g c = record {
  left = c.lend_response_in_room.ensures.left;
  whole = c.lend_response_in_room.ensures.whole;
  has = c.lend_response_in_room.ensures.has;
  new = c.lend_response_in_room.ensures.new;
  keeps = c.lend_response_in_room.ensures.keeps;
  memory = λ e. absurd (c.lend_response_in_room.ensures.memory e);
}
