-- How many messages a port ever needs at once, by the limits of its service.
use Rattle.std.specs.Prelude.{ℕ, ◌+◌, ◌*◌}

-- the most messages that a client ever needs at once: those loaned, those active, and at each
-- server those that wait and those received
abbrev pub client_pool : ℕ → ℕ → ℕ → ℕ
client_pool loaned active servers = loaned + active + 2 * servers * active

-- the most messages that a server ever needs at once: loans for all active requests, and on each
-- client's lanes those that wait and those received
abbrev pub server_pool : ℕ → ℕ → ℕ → ℕ → ℕ → ℕ
server_pool loans active clients lanes each =
    loans * active * clients + clients * lanes * each
