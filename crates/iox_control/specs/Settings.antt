-- The settings of a hub, as its tables have them.
use Rattle.iox_control.specs.declared.settings.Settings.{Settings}
use Rattle.iox_hub_ports.specs.HubStates.Tables.{HubSettings}

-- the same numbers and strategies
abbrev pub settings_of : Settings → HubSettings
settings_of s = record {
  clients = s.clients;
  servers = s.servers;
  nodes = s.nodes;
  active_requests = s.active_requests;
  loaned_requests = s.loaned_requests;
  response_buffer = s.response_buffer;
  borrowed_responses = s.borrowed_responses;
  loaned_responses = s.loaned_responses;
  client_expired = s.client_expired;
  server_expired = s.server_expired;
  request_overflow = s.request_overflow;
  response_overflow = s.response_overflow;
  fire_and_forget = s.fire_and_forget;
  client_strategy = s.client_strategy;
  server_strategy = s.server_strategy;
  client_allocation = s.client_allocation;
  server_allocation = s.server_allocation;
}
