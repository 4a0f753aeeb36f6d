-- The limits of a service where nobody sets others: in its description, in its hub, in the machine.
use Rattle.std.specs.Prelude.{◌≡◌}
use Rattle.iox_configs.specs.FirstSettings.{first_request_response}
use Rattle.iox_configs.specs.declared.config.patterns.RequestResonse.{RequestResonse}
use Rattle.iox_nodes.specs.Starts.{default_settings}
use Rattle.iox_model.specs.Defaults.{defaults}
use Rattle.iox_tables.specs.HubStates.States.{Given, limits_of}
use Rattle.iox_tables.specs.HubStates.Tables.{HubSettings, HubTables}

-- what a description says, as a hub has it
abbrev pub settings_of : RequestResonse → HubSettings
settings_of r = record {
  clients = r.max_clients;
  servers = r.max_servers;
  nodes = r.max_nodes;
  active_requests = r.max_active_requests_per_client;
  loaned_requests = r.max_loaned_requests;
  response_buffer = r.max_response_buffer_size;
  borrowed_responses = r.max_borrowed_responses_per_pending_response;
  loaned_responses = r.server_max_loaned_responses_per_request;
  client_expired = r.client_expired_connection_buffer;
  server_expired = r.server_expired_connection_buffer;
  request_overflow = r.enable_safe_overflow_for_requests;
  response_overflow = r.enable_safe_overflow_for_responses;
  fire_and_forget = r.enable_fire_and_forget_requests;
  client_strategy = r.client_backpressure_strategy;
  server_strategy = r.server_backpressure_strategy;
  client_allocation = r.client_allocation_strategy;
  server_allocation = r.server_allocation_strategy;
}

-- They are the same. The machine has the shapes of messages beside them.
pub record FirstLimitsAgree : Type 0 where
  pub described : settings_of first_request_response ≡ default_settings
  pub shown :
      (x : Given) (t : HubTables) → t.settings ≡ default_settings
      → limits_of x t ≡ record defaults { request = x.request; response = x.response }
