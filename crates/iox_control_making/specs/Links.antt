-- The pipes from a new port to others, and how they are connected one after another.
use Rattle.std.specs.Prelude.{List, [], ◌∷◌, filter, map}
use Rattle.iox_lanes.specs.Incomings.{no_pipes}
use Rattle.iox_tables.specs.HubStates.Tables.{HubSettings, PortState}
use Rattle.iox_tables.specs.HubStates.Ways.{with_port}
use Rattle.iox_hub_ports.specs.declared.info.PortInfo.{PortInfo}
use Rattle.iox_hub_ports.specs.Ports.{port_of, with_connected}
use Rattle.iox_tables.specs.HubMaking.NewPorts.{is_other, pipe_between}
use Rattle.iox_control_making.specs.declared.pipes.Link.{Link}

-- the port, before anything comes to it
abbrev pub bare : PortInfo → PortState
bare info = port_of info (no_pipes 0) (no_pipes 0)

-- the pipes from a new port to each of the other role
abbrev pub links_between : HubSettings → List PortState → PortState → List Link
links_between settings ports new =
    map (λ p. record { to = p.number; pipe = pipe_between settings new p })
    (filter (λ p. is_other p new) ports)

-- each of these pipes leads to its port, the last of them first
abbrev pub all_linked : List PortState → List Link → List PortState
all_linked ports [] = ports
all_linked ports (l ∷ ls) = with_port (λ p. with_connected p l.pipe) (all_linked ports ls) l.to
