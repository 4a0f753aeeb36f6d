-- The limits of a request-response service where nobody sets others.
use Rattle.std.specs.Prelude.{ℕ}

-- how many clients there may be
abbrev pub first_clients : ℕ
first_clients = 8

-- how many servers there may be
abbrev pub first_servers : ℕ
first_servers = 2

-- how many nodes there may be
abbrev pub first_nodes : ℕ
first_nodes = 20

-- how many pending responses a client may have; as many of its requests may wait for one server,
-- and be held by it
abbrev pub first_active_requests : ℕ
first_active_requests = 4

-- how many requests a client may have on loan
abbrev pub first_loaned_requests : ℕ
first_loaned_requests = 2

-- how many responses of one server may wait for one pending response
abbrev pub first_response_buffer : ℕ
first_response_buffer = 2

-- how many received responses of one server a pending response may hold
abbrev pub first_borrowed_responses : ℕ
first_borrowed_responses = 2

-- how many responses a server may have on loan for one request
abbrev pub first_loaned_responses : ℕ
first_loaned_responses = 2

-- how many messages of connections that are gone a port keeps
abbrev pub first_expired : ℕ
first_expired = 128
