-- Which ports are connected to each other.
use Rattle.std.specs.Prelude.{ℕ, Bool, not, ◌&&◌, if◌then◌else◌, ◌==◌, List, map, filter, flat_map, Option, find}
use Rattle.std.specs.List.{list_any, range_with_len}
use Rattle.std.specs.Option.{option_map_or}
use Rattle.iox_model.specs.declared.kind.Role.{Role}
use Rattle.iox_model.specs.declared.kind.Role.TheVariants.{Client, Server}
use Rattle.iox_model.specs.declared.way.Way.{Way}
use Rattle.iox_model.specs.Settings.{is_client, same_role, other_role, buffer_of, borrow_limit_of, overflow_of}
use Rattle.iox_model.specs.States.{Port, Fixed}
use Rattle.iox_model.specs.Maps.{has_number}
use Rattle.iox_model.specs.Messages.{request_way, response_way}

-- the connected port of that number
abbrev pub port_at : Fixed → ℕ → Option Port
port_at f n = find (λ p. p.number == n) f.ports

-- whether a port of that number is connected
abbrev pub is_connected_port : Fixed → ℕ → Bool
is_connected_port f n = list_any (λ p. p.number == n) f.ports

-- the role of a connected port
abbrev pub role_at : Fixed → ℕ → Role
role_at f port = option_map_or (λ p. p.role) (port_at f port) Client

-- the node of a connected port
abbrev pub node_of_port : Fixed → ℕ → ℕ
node_of_port f port = option_map_or (λ p. p.node) (port_at f port) 0

-- how many lanes a client has
abbrev pub lanes_of : Fixed → ℕ → ℕ
lanes_of f client = option_map_or (λ p. p.pool) (port_at f client) 0

-- the numbers of the connected ports of a role, oldest first
abbrev pub ports_of_role : Fixed → Role → List ℕ
ports_of_role f role = map (λ p. p.number) (filter (λ p. same_role p.role role) f.ports)

-- the numbers of a node's ports
abbrev pub ports_of_node : Fixed → ℕ → List ℕ
ports_of_node f node = map (λ p. p.number) (filter (λ p. p.node == node) f.ports)

-- whether the node forgot the node of that port
abbrev pub forgot_port : Fixed → ℕ → ℕ → Bool
forgot_port f node port =
    list_any (λ p. (p.number == port) && has_number p.node (f.forgot node)) f.ports

-- the connected ports of a role that the node did not forget
abbrev pub others : Fixed → ℕ → Role → List ℕ
others f node role =
    map (λ p. p.number)
    (filter (λ p. same_role p.role role && not (has_number p.node (f.forgot node))) f.ports)

-- whether the sender still counts what it delivered on the way: it is connected, and its node did
-- not forget the receiver's
abbrev pub is_counted_on : Fixed → Way → Bool
is_counted_on f w =
    is_connected_port f w.sender && not (forgot_port f (node_of_port f w.sender) w.receiver)

-- the most messages that may wait on the way
abbrev pub buffer_on : Fixed → Way → ℕ
buffer_on f w = buffer_of f.limits (role_at f w.sender)

-- whether a full queue of this way gives up its oldest message
abbrev pub overflows_on : Fixed → Way → Bool
overflows_on f w = overflow_of f.limits (role_at f w.sender)

-- the most messages of the way that its receiver may have; the receiver is connected, the sender
-- may be gone
abbrev pub borrow_limit_on : Fixed → Way → ℕ
borrow_limit_on f w = borrow_limit_of f.limits (other_role (role_at f w.receiver))

-- the ways on which a client delivers: to each server
abbrev pub ways_from_client : Fixed → ℕ → List Way
ways_from_client f client = map (request_way client) (ports_of_role f Server)

-- the ways of a server's responses to one client, one on each lane
abbrev pub lanes_to : Fixed → ℕ → ℕ → List Way
lanes_to f server client =
    map (λ lane. response_way client lane server) (range_with_len 0 (lanes_of f client))

-- the ways of a server's responses to all clients
abbrev pub ways_from_server : Fixed → ℕ → List Way
ways_from_server f server = flat_map (lanes_to f server) (ports_of_role f Client)

-- the ways on which a port sends
abbrev pub ways_from : Fixed → ℕ → List Way
ways_from f port =
    if is_client (role_at f port) then ways_from_client f port else ways_from_server f port
