use Rattle.std.proofs.Common.{rules}
use Rattle.iox_model.specs.Settings.{Shape}
use Rattle.iox_port_commands.specs.Settings.{settings_of}
use Rattle.iox_port_commands.specs.Shapes.{shape_of}
use Rattle.iox_nodes.proofs.FirstStates.{first_room, first_service, first_state}
use Rattle.iox_nodes.proofs.service.Service.first.Goals as goal

pub invariant_of-result : goal.invariant_of-result
invariant_of-result g c =
    let q : Shape = shape_of g.Q.Payload.MANY g.Q.Element.Words.WORDS g.Q.Element.Words.words g.QH.Words.words c.args.request in
    let p : Shape = shape_of g.P.Payload.MANY g.P.Element.Words.WORDS g.P.Element.Words.words g.PH.Words.words c.args.response in
    record {
      service = first_service (settings_of c.args.settings) q p c.args.id c.in-Ok.members.members c.in_ok-hub.hub
          c.in-Ok.ensures.made c.in_ok-hub.ensures c.is_in_order.ensures.reached c.requires.valid (c.requires.small q p)
          (search rules) (search rules);
      room = first_room (settings_of c.args.settings) q p c.in-Ok.members c.in_ok-hub.hub c.in-Ok.ensures.room c.in_ok-hub.ensures;
    }

pub returns-in-Ok : goal.returns-in-Ok
returns-in-Ok g c =
    first_state (settings_of c.args.settings) _ _ c.args.id c.in-Ok.members.members c.in_ok-hub.hub c.in-Ok.ensures.made c.in_ok-hub.ensures
