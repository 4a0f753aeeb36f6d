-- A new port and its pipes, before others are connected to it.
use Rattle.std.specs.Prelude.{◌≡◌, filter, map}
use Rattle.iox_model.specs.Settings.{other_role}
use Rattle.iox_lanes.specs.Incomings.{no_pipes}
use Rattle.iox_tables.specs.HubStates.Tables.{HubTables}
use Rattle.iox_hub_ports.specs.declared.info.PortInfo.{PortInfo}
use Rattle.iox_hub_ports.specs.Ports.{port_of}
use Rattle.iox_tables.specs.HubMaking.NewPorts.{is_other, pipe_between, room_for_gone}
use Rattle.iox_tables.specs.HubMaking.OneByOne.{all_connected, most_of}
use Rattle.iox_control_making.specs.declared.making.Parts.{Parts}
use Rattle.iox_control_making.specs.Links.{bare, links_between}

-- A pipe comes to the port from each of the other role, and one leads from it to each.
pub record IsOfParts (t : HubTables) (info : PortInfo) (parts : Parts) : Type 0 where
  pub port :
      parts.port
      ≡ port_of info (no_pipes (room_for_gone t.settings info.role))
      (all_connected (no_pipes (most_of t.settings (other_role info.role)))
      (map (λ p. pipe_between t.settings p (bare info))
      (filter (λ p. is_other p (bare info)) t.ports)))
  pub links : parts.links.items ≡ links_between t.settings t.ports (bare info)
