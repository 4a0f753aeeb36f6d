-- How many ports of each role there are, and how many messages they have.
use Rattle.std.specs.Prelude.{ℕ, ◌+◌, ◌*◌, List}
use Rattle.iox_model.specs.declared.kind.Role.{Role}
use Rattle.iox_model.specs.declared.kind.Role.TheVariants.{Client, Server}
use Rattle.iox_tables.specs.HubStates.Tables.{PortState}
use Rattle.iox_control_making.specs.declared.sizes.Sizes.{Sizes}
use Rattle.iox_control_making.specs.Bounds.{count_of, kept_of, sizes_of}

-- no port
abbrev pub no_sizes : Sizes
no_sizes = record {
  clients = 0;
  servers = 0;
  client_messages = 0;
  server_messages = 0;
  client_kept = 0;
  server_kept = 0;
}

-- what the ports come to
abbrev pub sizes_among : List PortState → Sizes
sizes_among ports = record {
  clients = count_of Client ports;
  servers = count_of Server ports;
  client_messages = sizes_of Client ports;
  server_messages = sizes_of Server ports;
  client_kept = kept_of Client ports;
  server_kept = kept_of Server ports;
}

-- one port more, of that role and size
abbrev pub with_size : Sizes → Role → ℕ → Sizes
with_size s Client size =
    record s { clients = s.clients + 1; client_messages = s.client_messages + size }
with_size s Server size =
    record s { servers = s.servers + 1; server_messages = s.server_messages + size }

-- to a port of that role and size so many pipes lead from ports that are gone
abbrev pub with_kept : Sizes → Role → ℕ → ℕ → Sizes
with_kept s Client size kept = record s { client_kept = s.client_kept + kept * size }
with_kept s Server size kept = record s { server_kept = s.server_kept + kept }

-- how many lanes lead to so many ports
abbrev pub all_lanes : Sizes → ℕ
all_lanes s = s.servers * (s.client_messages + s.clients) + (s.client_kept + s.server_kept)

-- the most handles that so many ports may have, where so many responses, and so many requests, may
-- be received on one lane
abbrev pub all_handles : Sizes → ℕ → ℕ → ℕ
all_handles s responses requests =
    s.servers * (s.client_messages * responses + s.clients * requests)
    + (s.client_kept * responses + s.server_kept * requests)
    + (s.client_messages + s.server_messages)
