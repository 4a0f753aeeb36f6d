-- A hub as it starts.
use Rattle.std.specs.Prelude.{[], max, true}
use Rattle.iox_types.specs.FirstLimits.{first_active_requests, first_borrowed_responses, first_clients, first_expired, first_loaned_requests, first_loaned_responses, first_nodes, first_response_buffer, first_servers}
use Rattle.iox_types.specs.declared.backpressure.AllocationStrategy.TheVariants as allocations
use Rattle.iox_types.specs.declared.backpressure.BackpressureStrategy.TheVariants as strategies
use Rattle.iox_model.specs.Settings.{Shape}
use Rattle.iox_tables.specs.HubStates.Tables.{HubSettings}
use Rattle.iox_control.specs.Controls.{new_control}
use Rattle.iox_hub.specs.Hubs.{HubState}

-- the settings of a service where nobody sets others
abbrev pub default_settings : HubSettings
default_settings = record {
  clients = first_clients;
  servers = first_servers;
  nodes = first_nodes;
  active_requests = first_active_requests;
  loaned_requests = first_loaned_requests;
  response_buffer = first_response_buffer;
  borrowed_responses = first_borrowed_responses;
  loaned_responses = first_loaned_responses;
  client_expired = first_expired;
  server_expired = first_expired;
  request_overflow = true;
  response_overflow = true;
  fire_and_forget = true;
  client_strategy = strategies.RetryUntilDelivered;
  server_strategy = strategies.RetryUntilDelivered;
  client_allocation = allocations.Static;
  server_allocation = allocations.Static;
}

-- each limit of 0 is 1; those of what is kept of ports that are gone may be 0
abbrev pub started : HubSettings → HubSettings
started s = record s {
  clients = max 1 s.clients;
  servers = max 1 s.servers;
  nodes = max 1 s.nodes;
  active_requests = max 1 s.active_requests;
  loaned_requests = max 1 s.loaned_requests;
  response_buffer = max 1 s.response_buffer;
  borrowed_responses = max 1 s.borrowed_responses;
  loaned_responses = max 1 s.loaned_responses;
}

-- no port was made
abbrev pub new_hub : HubSettings → Shape → Shape → HubState
new_hub settings request response = record {
  control = new_control (started settings);
  words = [];
  request = request;
  response = response;
  handlers = [];
}
