-- The making of a port, and the commands of a hub.
use Rattle.std.specs.Prelude.{◌≡◌, ℕ, ◌+◌, ◌*◌, ◌-◌, ◌^◌, Bool, true, false, not, ◌||◌, if◌then◌else◌, nat_lt, nat_le, [], ◌∷◌, ◌++◌, length, Option, min, max, unwrap_or}
use Rattle.std.specs.Option.{option_map_or}
use Rattle.iox_model.specs.declared.kind.Role.{Role}
use Rattle.iox_model.specs.declared.kind.Role.TheVariants.{Client, Server}
use Rattle.iox_types.specs.PoolSizes.{client_pool, server_pool}
use Rattle.iox_types.specs.declared.identifiers.system_id.UniqueSystemId.{UniqueSystemId}
use Rattle.iox_types.specs.declared.backpressure.BackpressureStrategy.{BackpressureStrategy}
use Rattle.iox_types.specs.declared.backpressure.AllocationStrategy.{AllocationStrategy}
use Rattle.iox_model.specs.declared.reply.Refusal.TheVariants.{UnableToCreatePortTag, UnableToCreateDataSegment, ExceedsMaxSupportedClients, ExceedsMaxSupportedServers}
use Rattle.iox_model.specs.declared.reply.Reply.TheVariants as replies
use Rattle.iox_model.specs.Settings.{message_size, has_layout, shape_of, is_static, Shape, Limits, max_slots}
use Rattle.iox_model.specs.States.{Port, Fixed, State}
use Rattle.iox_model.specs.WholeCalls.{UnlessRefused, IsWholeCall}
use Rattle.iox_model.specs.Maps.{or_else, refused_if}
use Rattle.iox_model.specs.Counts.{with_fixed}
use Rattle.iox_model.specs.Commands.{Refusal, Reply, Options, PortCommand, PortReply, HubCommand, Create, Use, asking, answer_of}
use Rattle.iox_model.specs.Peers.{ports_of_role}

-- the most messages that a client needs
abbrev pub pool_of_client : Limits → ℕ
pool_of_client l = client_pool l.loaned_requests l.active_requests l.servers

-- the most messages that a server needs, with so many loans of one request
abbrev pub pool_of_server : Limits → ℕ → ℕ
pool_of_server l loans =
    server_pool loans l.active_requests l.clients (pool_of_client l)
    (l.response_buffer + l.borrowed_responses)

-- how many loans one request may have: the maker's number, or the service's, and at least 1
abbrev pub loans_of_one : Limits → Options → ℕ
loans_of_one l o = max 1 (unwrap_or o.loaned_responses l.loaned_responses)

-- the most messages that a port needs
abbrev pub worst_pool : Limits → Role → Options → ℕ
worst_pool l Client o = pool_of_client l
worst_pool l Server o = pool_of_server l (loans_of_one l o)

-- the pool that a maker chose, raised to at least 1 and cut to the most that is needed
abbrev pub chosen_pool : Limits → Role → Options → ℕ
chosen_pool l role o =
    option_map_or (λ n. max 1 (min n (worst_pool l role o))) o.pool (worst_pool l role o)

-- the greatest length of the port's messages: 1 where an element is a message
abbrev pub longest_of : Shape → Options → ℕ
longest_of x o = if x.many then o.max_slice_len else 1

-- how many ports of a role a service may have
abbrev pub most_ports : Limits → Role → ℕ
most_ports l Client = l.clients
most_ports l Server = l.servers

-- the refusal where there are as many ports of the role as there may be
abbrev pub too_many_ports : Role → Refusal
too_many_ports Client = ExceedsMaxSupportedClients
too_many_ports Server = ExceedsMaxSupportedServers

-- the service's strategy for a full receiver
abbrev pub strategy_of : Limits → Role → BackpressureStrategy
strategy_of l Client = l.client_strategy
strategy_of l Server = l.server_strategy

-- the service's strategy for messages that grow
abbrev pub allocation_of : Limits → Role → AllocationStrategy
allocation_of l Client = l.client_allocation
allocation_of l Server = l.server_allocation

-- whether a port is too large: a pool past its bound, a count or a size of bytes past 2^64, or a
-- message with no layout
abbrev pub is_large : Limits → Role → Options → Bool
is_large l role o =
    let x : Shape = shape_of l role in
    (nat_le (2 ^ 64) (worst_pool l role o) || nat_lt max_slots (chosen_pool l role o))
    || (not (has_layout x (longest_of x o))
    || nat_le (2 ^ 64) (chosen_pool l role o * message_size x (longest_of x o)))

-- why the making of a port is refused: the first test that fails; `memory` says whether memory is
-- there
abbrev pub making_refusal : Fixed → Role → Options → Bool → Option Refusal
making_refusal f role o memory =
    or_else (refused_if (nat_le (2 ^ 32) f.ports_made) UnableToCreatePortTag)
    (or_else (refused_if (is_large f.limits role o || not memory) UnableToCreateDataSegment)
    (refused_if (nat_le (most_ports f.limits role) (length (ports_of_role f role)))
    (too_many_ports role)))

-- the new port; its id is its node's with the count of ports made before it
abbrev pub new_port : Fixed → ℕ → Role → UniqueSystemId → Options → Port
new_port f node role id o = record {
  number = f.next_number;
  node = node;
  role = role;
  node_id = id;
  id = record id { counter = f.ports_made };
  pool = chosen_pool f.limits role o;
  longest = longest_of (shape_of f.limits role) o;
  grows = not (is_static (unwrap_or o.allocation (allocation_of f.limits role)));
  strategy = unwrap_or o.strategy (strategy_of f.limits role);
  handler = o.handler;
  loaned_responses = loans_of_one f.limits o;
  held = true;
}

-- the fixed part of the state, with one more port
abbrev pub with_port : Fixed → Port → Fixed
with_port f p =
    record f {
      ports = f.ports ++ p ∷ [];
      next_number = f.next_number + 1;
      ports_made = f.ports_made + 1;
    }

-- the reply to the making of a port
abbrev pub port_reply : Role → ℕ → Reply
port_reply Client n = replies.Client n
port_reply Server n = replies.Server n

-- the making of a port, with its reply and the state that it leaves
abbrev pub IsMaking : State → ℕ → Role → UniqueSystemId → Options → Reply → State → Type 0
IsMaking s node role id o reply s' =
    (memory : Bool) × UnlessRefused (making_refusal s.fixed role o memory) s reply s'
    ((reply ≡ port_reply role s.fixed.next_number)
    × (s' ≡ with_fixed s (with_port s.fixed (new_port s.fixed node role id o))))

-- A command that this node asks of a hub may have this reply and lead to that state. It reads and
-- changes no node of a service.
abbrev pub IsHubCommand : State → ℕ → HubCommand → Reply → State → Type 0
IsHubCommand s node (Create role id o) reply s' = IsMaking s node role id o reply s'
IsHubCommand s node (Use call) reply s' = IsWholeCall s node call reply s'

-- a command as the code is given it, with the code's reply
abbrev pub IsPortCommand : State → PortCommand → PortReply → State → Type 0
IsPortCommand s command reply s' =
    IsHubCommand s (asking command).0 (asking command).1 (answer_of reply) s'
