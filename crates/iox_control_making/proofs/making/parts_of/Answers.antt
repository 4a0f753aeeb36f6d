use Rattle.std.proofs.Common.{ap₂, ◌∙◌, map, filter}
use Rattle.iox_model.specs.Settings.{other_role}
use Rattle.iox_lanes.specs.Incomings.{no_pipes}
use Rattle.iox_tables.specs.HubStates.Tables.{HubSettings}
use Rattle.iox_hub_ports.specs.Ports.{port_of}
use Rattle.iox_tables.specs.HubMaking.NewPorts.{is_other, pipe_between, room_for_gone}
use Rattle.iox_tables.specs.HubMaking.OneByOne.{all_connected, most_of}
use Rattle.iox_control_making.specs.Links.{bare, links_between}
use Rattle.iox_control_making.proofs.making.parts_of.Goals as goal

pub returns : goal.returns
returns c = record {
  port = c.new.ensures
      ∙ ap₂ (port_of c.args.info) c.in_ok-expired.ensures c.in_ok-incoming.ensures
      ∙ ap₂ (λ (u : HubSettings) ps. port_of c.args.info (no_pipes (room_for_gone u c.args.info.role))
      (all_connected (no_pipes (most_of u (other_role c.args.info.role))) (map (λ p. pipe_between u p (bare c.args.info)) (filter (λ p. is_other p (bare c.args.info)) ps))))
      c.settings-settings.ensures c.ports.ensures.ports;
  links = c.in_ok-links.ensures ∙ ap₂ (λ (u : HubSettings) ps. links_between u ps (bare c.args.info)) c.settings-settings.ensures c.ports-2.ensures.ports;
}
