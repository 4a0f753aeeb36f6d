use Rattle.std.proofs.Common.{subst, sym}
use Rattle.iox_model.specs.declared.kind.Role.TheVariants.{Server}
use Rattle.iox_model.specs.Messages.{closed_for}
use Rattle.iox_hub_ports.specs.HubStates.Ways.{with_states_on}
use Rattle.iox_hub_ports.specs.InPlace.{AllApart}
use Rattle.iox_hub_ports.specs.Ports.{state_ways}
use Rattle.iox_control.specs.Controls.{ControlState}
use Rattle.iox_control.proofs.InPlaceLemmas.{with_those_ports}
use Rattle.iox_control.proofs.control.Control.close_all_in.Goals as goal

pub close_with_servers-requires : goal.close_with_servers-requires
close_with_servers-requires c = subst (λ (d : ControlState). AllApart d.tables.ports) (sym c.self.view_is) c.requires.apart

pub returns : goal.returns
returns c =
    with_those_ports (λ ps. with_states_on (λ r. closed_for r c.args.label.request) ps (state_ways c.args.client c.args.label.lane Server ps))
    c.self.inside.handles c.args.self.now c.self.view_is c.close_with_servers.ensures
