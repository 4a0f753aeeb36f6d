-- What the making of a port does to the tables of a hub.
use Rattle.std.specs.Prelude.{◌≡◌, ℕ, ◌+◌, ◌^◌, Bool, true, false, not, ◌||◌, if◌then◌else◌, nat_le, List, [], ◌∷◌, ◌++◌, length, map, filter, replicate, Option, Some, None, unwrap_or}
use Rattle.iox_laws.specs.UniqueSystemId.{UniqueSystemId}
use Rattle.iox_model.specs.declared.kind.Role.{Role}
use Rattle.iox_model.specs.declared.kind.Role.TheVariants.{Client, Server}
use Rattle.iox_model.specs.declared.reply.Refusal.TheVariants.{UnableToCreateDataSegment, UnableToCreatePortTag}
use Rattle.iox_model.specs.declared.reply.Reply.TheVariants.{Refused}
use Rattle.iox_model.specs.Commands.{Create, Options, Refusal}
use Rattle.iox_model.specs.Makings.{IsHubCommand, allocation_of, chosen_pool, is_large, loans_of_one, longest_of, making_refusal, most_ports, port_reply, strategy_of, too_many_ports}
use Rattle.iox_model.specs.Maps.{AreDistinct, has_number, or_else, put_at, refused_if}
use Rattle.iox_model.specs.Settings.{Limits, is_client, is_static, other_role, same_role, shape_of}
use Rattle.iox_lanes.specs.Incomings.{no_pipes}
use Rattle.iox_lanes.specs.Pipes.{PipeState, new_pipe}
use Rattle.iox_tables.specs.HubStates.Tables.{HubSettings, HubTables, PoolState, PortState, no_slot, numbers_of, port_in}
use Rattle.iox_tables.specs.HubStates.Ways.{with_pipes}
use Rattle.iox_tables.specs.HubStates.States.{Given, expired_in, fixed_of, limits_of, state_shown}
use Rattle.iox_tables.specs.HubStates.Steps.{is_there}
use Rattle.iox_tables.specs.HubStates.Wirings.{IsWired, buffer_from, limit_from, numbers_of_role}
use Rattle.iox_tables.specs.HubMaking.FreePools.{NobodyHas, OthersStay}

-- ---- pipes

-- how many lanes come to the port from one sender: a client has one for each of its messages
abbrev pub width_of : PortState → ℕ
width_of p = if is_client p.role then p.size else 1

-- how many request states lie beside what comes from the port: one for each request
abbrev pub states_of : PortState → ℕ
states_of p = if is_client p.role then p.size else 0

-- the pipe from one port to another, on which nothing was ever sent
abbrev pub pipe_between : HubSettings → PortState → PortState → PipeState
pipe_between settings from to =
    new_pipe from.number from.pool (width_of to) (buffer_from settings from.role)
    (limit_from settings from.role) (states_of from)

-- the port of a pair that exchanges messages with the other
abbrev pub is_other : PortState → PortState → Bool
is_other p q = same_role p.role (other_role q.role)

-- a connected port, with a pipe from the new one if their roles differ
abbrev pub connected_to : HubSettings → PortState → PortState → PortState
connected_to settings new p =
    if is_other p new
    then
    record p {
      incoming = with_pipes p.incoming (p.incoming.pipes ++ pipe_between settings new p ∷ []);
    }
    else p

-- the new port, with a pipe from each connected port of the other role
abbrev pub connected_from : HubSettings → List PortState → PortState → PortState
connected_from settings ports new =
    record new {
      incoming =
          with_pipes new.incoming
          (map (λ p. pipe_between settings p new) (filter (λ p. is_other p new) ports));
    }

-- the ports with the new one, which is the last
abbrev pub ports_with : HubSettings → List PortState → PortState → List PortState
ports_with settings ports new =
    map (connected_to settings new) ports ++ connected_from settings ports new ∷ []

-- ---- the new port

-- how many ports that are gone a port of this role keeps the messages of
abbrev pub room_for_gone : HubSettings → Role → ℕ
room_for_gone settings Client = settings.client_expired
room_for_gone settings Server =
    if settings.fire_and_forget then settings.server_expired else 0

-- the new port before it is connected; its pool will be in that place
abbrev pub port_made :
    Given → HubTables → ℕ → Role → UniqueSystemId → Options → ℕ → PortState
port_made x t node role id o place =
    let l : Limits = limits_of x t in record {
      number = t.next_number;
      node = node;
      role = role;
      node_id = id;
      id = record id { counter = t.ports_made };
      pool = place;
      size = chosen_pool l role o;
      longest = longest_of (shape_of l role) o;
      grows = not (is_static (unwrap_or o.allocation (allocation_of l role)));
      strategy = unwrap_or o.strategy (strategy_of l role);
      loaned_responses = loans_of_one l o;
      held = true;
      loans = 0;
      expired = no_pipes (room_for_gone t.settings role);
      incoming = no_pipes (most_ports l (other_role role));
    }

-- the pool of a new port: each of its slots is free
abbrev pub pool_made : PortState → PoolState
pool_made p = record {
  port = p.number;
  node_id = p.node_id;
  port_id = p.id;
  slots = replicate p.size no_slot;
}

-- the tables with one more port, and with these pools
abbrev pub with_port_made : HubTables → PortState → List (Option PoolState) → HubTables
with_port_made t new pools =
    record t {
      next_number = t.next_number + 1;
      ports_made = t.ports_made + 1;
      ports = ports_with t.settings t.ports new;
      pools = pools;
    }

-- the given words are those, and the new port has this handler
abbrev pub given_made : Given → Given → ℕ → Option (List ℕ) → Given
given_made x words n handler =
    record x {
      handler = put_at x.handler n handler;
      user = words.user;
      payload = words.payload;
      filled = words.filled;
    }

-- ---- the machine's command

-- why the making is refused: the first test that fails
abbrev pub making_refused : Given → HubTables → Role → Options → Bool → Option Refusal
making_refused x t role o memory =
    or_else (refused_if (nat_le (2 ^ 32) t.ports_made) UnableToCreatePortTag)
    (or_else
    (refused_if (is_large (limits_of x t) role o || not memory) UnableToCreateDataSegment)
    (refused_if
    (nat_le (most_ports (limits_of x t) role) (length (numbers_of_role role t.ports)))
    (too_many_ports role)))

-- The next number is no port's, no two ports have one number, each is wired, and nothing is kept of
-- a port of the next number.
pub record CanTakePort (t : HubTables) : Type 0 where
  pub fresh : is_there t.ports t.next_number ≡ false
  pub apart : AreDistinct (numbers_of t.ports)
  pub wired : (n : ℕ) (p : PortState) → port_in t.ports n ≡ Some p → IsWired t p
  pub unkept : (n : ℕ) → has_number t.next_number (expired_in t.ports n) ≡ false

-- The making of a port is the machine's: it is refused by the same tests, and leaves the state that
-- the tables then show. Nobody has messages of the new pool's place, and all other pools stay.
pub record MakingIsShown (x : Given) (t : HubTables) (node : ℕ) (role : Role)
    (id : UniqueSystemId) (o : Options) : Type 0
  where
    pub test : (memory : Bool)
        → making_refusal (fixed_of x t) role o memory ≡ making_refused x t role o memory
    pub refused :
        (memory : Bool) (r : Refusal) → making_refused x t role o memory ≡ Some r
        → IsHubCommand (state_shown x t) node (Create role id o) (Refused r) (state_shown x t)
    pub made :
        (memory : Bool) (place : ℕ) (words : Given) (pools : List (Option PoolState))
        → making_refused x t role o memory ≡ None → CanTakePort t → NobodyHas t place
        → OthersStay place x t.pools words pools
        → IsHubCommand (state_shown x t) node (Create role id o) (port_reply role t.next_number)
        (state_shown (given_made x words t.next_number o.handler)
        (with_port_made t (port_made x t node role id o place) pools))

-- The making of a port is the machine's command: the same refusals, and the state that the tables
-- then show.
abbrev pub EachMakingIsShown : Type 0
EachMakingIsShown =
    (x : Given) (t : HubTables) (node : ℕ) (role : Role) (id : UniqueSystemId) (o : Options)
    → MakingIsShown x t node role id o
