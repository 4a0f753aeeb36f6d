-- The settings of each messaging pattern before anybody changes them.
use Rattle.std.specs.Prelude.{◌≡◌, true, None}
use Rattle.iox_types.specs.declared.backpressure.BackpressureStrategy.TheVariants.{RetryUntilDelivered}
use Rattle.iox_types.specs.declared.backpressure.AllocationStrategy.TheVariants.{Static}
use Rattle.iox_configs.specs.declared.config.patterns.RequestResonse.{RequestResonse}
use Rattle.iox_configs.specs.declared.config.patterns.PublishSubscribe.{PublishSubscribe}
use Rattle.iox_configs.specs.declared.config.patterns.Event.{Event}
use Rattle.iox_configs.specs.declared.config.patterns.Blackboard.{Blackboard}
use Rattle.iox_configs.specs.declared.config.defaults.Defaults.{Defaults}
use Rattle.iox_configs.specs.declared.config.Config.{Config}
use Rattle.iox_types.specs.FirstLimits.{first_clients, first_servers, first_nodes, first_active_requests, first_loaned_requests, first_response_buffer, first_borrowed_responses, first_loaned_responses, first_expired}
use Rattle.iox_configs.specs.Paths.{first_root}

-- the settings of a request-response service before anybody changes them
abbrev pub first_request_response : RequestResonse
first_request_response = record {
  max_clients = first_clients;
  max_servers = first_servers;
  max_nodes = first_nodes;
  max_active_requests_per_client = first_active_requests;
  max_loaned_requests = first_loaned_requests;
  max_response_buffer_size = first_response_buffer;
  max_borrowed_responses_per_pending_response = first_borrowed_responses;
  server_max_loaned_responses_per_request = first_loaned_responses;
  client_expired_connection_buffer = first_expired;
  server_expired_connection_buffer = first_expired;
  enable_safe_overflow_for_requests = true;
  enable_safe_overflow_for_responses = true;
  enable_fire_and_forget_requests = true;
  client_backpressure_strategy = RetryUntilDelivered;
  server_backpressure_strategy = RetryUntilDelivered;
  client_allocation_strategy = Static;
  server_allocation_strategy = Static;
}

-- the settings of a publish-subscribe service before anybody changes them
abbrev pub first_publish_subscribe : PublishSubscribe
first_publish_subscribe = record {
  max_publishers = 2;
  max_subscribers = 8;
  max_nodes = 20;
  publisher_history_size = 0;
  publisher_max_loaned_samples = 2;
  subscriber_max_buffer_size = 2;
  subscriber_max_borrowed_samples = 2;
  enable_safe_overflow = true;
}

-- the settings of an event service before anybody changes them
abbrev pub first_event : Event
first_event = record {
  max_notifiers = 16;
  max_listeners = 16;
  max_nodes = 36;
  event_id_max_value = 255;
  deadline = None;
  notifier_created_event = None;
  notifier_dropped_event = None;
  notifier_dead_event = None;
}

-- the settings of a blackboard service before anybody changes them
abbrev pub first_blackboard : Blackboard
first_blackboard = record { max_readers = 8; max_nodes = 20 }

-- the settings of all four messaging patterns before anybody changes them
abbrev pub first_settings : Defaults
first_settings = record {
  request_response = first_request_response;
  publish_subscribe = first_publish_subscribe;
  event = first_event;
  blackboard = first_blackboard;
}

-- the configuration before anybody changes it
abbrev pub IsFirstConfig : Config → Type 0
IsFirstConfig c = (c.global.root_path ≡ first_root) × (c.defaults ≡ first_settings)
