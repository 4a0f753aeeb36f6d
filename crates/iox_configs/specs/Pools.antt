-- How many messages a port's data segment needs, so that every loan within its limits finds one.
use Rattle.std.specs.Prelude.{ℕ, ◌+◌, ◌*◌}
use Rattle.iox_types.specs.PoolSizes.{client_pool, server_pool}
use Rattle.iox_configs.specs.declared.config.patterns.RequestResonse.{RequestResonse}
use Rattle.iox_configs.specs.declared.config.patterns.PublishSubscribe.{PublishSubscribe}

-- a client that lends so many requests at once
abbrev pub client_chunks : RequestResonse → ℕ → ℕ
client_chunks l loaned = client_pool loaned l.max_active_requests_per_client l.max_servers

-- a server that lends so many responses for each request at once
abbrev pub server_chunks : RequestResonse → ℕ → ℕ
server_chunks l loaned =
    server_pool loaned l.max_active_requests_per_client l.max_clients
    (client_chunks l l.max_loaned_requests)
    (l.max_response_buffer_size + l.max_borrowed_responses_per_pending_response)

-- a publisher that lends so many samples at once
abbrev pub publisher_samples : PublishSubscribe → ℕ → ℕ
publisher_samples l loaned =
    l.max_subscribers * (l.subscriber_max_buffer_size + l.subscriber_max_borrowed_samples)
    + l.publisher_history_size + loaned
