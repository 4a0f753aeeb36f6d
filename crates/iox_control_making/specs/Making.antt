-- What is asked of a new port, and what the tables are with it.
use Rattle.std.specs.Prelude.{◌≡◌, ℕ, ◌+◌, ◌<◌, ◌≤◌, ◌^◌, Bool, true, false, not, ◌||◌, if◌then◌else◌, nat_le, length, Option, Some, None, unwrap_or}
use Rattle.iox_types.specs.declared.identifiers.system_id.UniqueSystemId.{UniqueSystemId}
use Rattle.iox_model.specs.declared.kind.Role.{Role}
use Rattle.iox_model.specs.declared.kind.Role.TheVariants.{Client, Server}
use Rattle.iox_model.specs.declared.reply.Refusal.TheVariants.{UnableToCreateDataSegment, UnableToCreatePortTag}
use Rattle.iox_model.specs.declared.reply.Reply.TheVariants.{Refused}
use Rattle.iox_model.specs.Commands.{Create, Options, Refusal}
use Rattle.iox_model.specs.Makings.{IsHubCommand, allocation_of, chosen_pool, is_large, loans_of_one, longest_of, port_reply, strategy_of, too_many_ports}
use Rattle.iox_model.specs.Maps.{or_else}
use Rattle.iox_model.specs.Settings.{is_static, other_role, shape_of}
use Rattle.iox_lanes.specs.Incomings.{no_pipes}
use Rattle.iox_tables.specs.HubStates.Tables.{HubTables, PortState}
use Rattle.iox_tables.specs.HubStates.States.{Given, limits_of, state_shown}
use Rattle.iox_hub_ports.specs.declared.info.PortInfo.{PortInfo}
use Rattle.iox_hub_ports.specs.Ports.{port_of}
use Rattle.iox_slots.specs.Pools.{place_for_one, with_one_more}
use Rattle.iox_tables.specs.HubMaking.FreePools.{OthersStay}
use Rattle.iox_tables.specs.HubMaking.NewPorts.{given_made, pool_made, room_for_gone, with_port_made}
use Rattle.iox_tables.specs.HubMaking.OneByOne.{most_of}
use Rattle.iox_control.specs.Controls.{ControlState}
use Rattle.iox_control_making.specs.declared.asked.Asked.{Asked}
use Rattle.iox_control_making.specs.declared.asked.NotMade.{NotMade}
use Rattle.iox_control_making.specs.declared.asked.NotMade.TheVariants.{DataSegment, PortTag, TooManyPorts}
use Rattle.iox_control_making.specs.declared.sizes.Sizes.{Sizes}
use Rattle.iox_control_making.specs.Bounds.{count_of}
use Rattle.iox_control_making.specs.Sizes.{all_handles, all_lanes}

-- ---- what is asked

-- The options ask for that: whether the port is too large, and if not, what it is.
pub record AsksFor (x : Given) (t : HubTables) (role : Role) (o : Options) (asked : Asked)
    : Type 0
  where
    pub large : asked.large ≡ is_large (limits_of x t) role o
    pub size : asked.large ≡ false → chosen_pool (limits_of x t) role o ≡ asked.size
    pub longest : asked.large ≡ false → longest_of (shape_of (limits_of x t) role) o ≡ asked.longest
    pub grows :
        asked.large ≡ false
        → not (is_static (unwrap_or o.allocation (allocation_of (limits_of x t) role)))
        ≡ asked.grows
    pub strategy :
        asked.large ≡ false
        → unwrap_or o.strategy (strategy_of (limits_of x t) role) ≡ asked.strategy
    pub loans : asked.large ≡ false → loans_of_one (limits_of x t) o ≡ asked.loaned_responses

-- why the machine refuses it
abbrev pub refusal_of : Role → NotMade → Refusal
refusal_of role PortTag = UnableToCreatePortTag
refusal_of role DataSegment = UnableToCreateDataSegment
refusal_of role TooManyPorts = too_many_ports role

-- why the port is not made: the first test that fails; `memory` says whether memory is there
abbrev pub not_made : HubTables → Role → Asked → Bool → Option NotMade
not_made t role asked memory =
    or_else (if nat_le (2 ^ 32) t.ports_made then Some PortTag else None)
    (or_else (if asked.large || not memory then Some DataSegment else None)
    (if nat_le (most_of t.settings role) (count_of role t.ports) then Some TooManyPorts else None))

-- ---- the new port

-- what is said of the new port, whose pool is in the first vacant place
abbrev pub info_asked : HubTables → ℕ → Role → UniqueSystemId → Asked → PortInfo
info_asked t node role id asked = record {
  number = t.next_number;
  node = node;
  role = role;
  node_id = id;
  id = record id { counter = t.ports_made };
  pool = place_for_one t.pools;
  size = asked.size;
  longest = asked.longest;
  grows = asked.grows;
  strategy = asked.strategy;
  loaned_responses = asked.loaned_responses;
  held = true;
  loans = 0;
}

-- the new port, before it is connected
abbrev pub port_asked : HubTables → ℕ → Role → UniqueSystemId → Asked → PortState
port_asked t node role id asked =
    port_of (info_asked t node role id asked) (no_pipes (room_for_gone t.settings role))
    (no_pipes (most_of t.settings (other_role role)))

-- the tables with the new port, and with its pool
abbrev pub with_asked : HubTables → PortState → HubTables
with_asked t new = with_port_made t new (with_one_more t.pools (pool_made new))

-- ---- room

-- There is room for all handles of so many ports, and their holders can be counted.
pub record HasRoomForPorts (c : ControlState) (s : Sizes) : Type 0 where
  pub enough :
      all_handles s c.tables.settings.borrowed_responses c.tables.settings.active_requests ≤ c.room
  pub counted : all_lanes s + length c.tables.handles + c.room < 2 ^ 64

-- how many there are of that role
abbrev pub count_in : Sizes → Role → ℕ
count_in s Client = s.clients
count_in s Server = s.servers

-- ---- the machine's command

-- The making is the machine's, whatever there is besides: the words of all other messages stay.
abbrev pub MakesWhole : HubTables → ℕ → Role → UniqueSystemId → Asked → HubTables → Type 0
MakesWhole t node role id asked t' =
    (x words : Given) (o : Options) → AsksFor x t role o asked
    → OthersStay (place_for_one t.pools) x t.pools words t'.pools
    → IsHubCommand (state_shown x t) node (Create role id o) (port_reply role t.next_number)
    (state_shown (given_made x words t.next_number o.handler) t')

-- So is the refusal.
abbrev pub RefusesWhole :
    HubTables → ℕ → Role → UniqueSystemId → Asked → NotMade → HubTables → Type 0
RefusesWhole t node role id asked r t' =
    (x : Given) (o : Options) → AsksFor x t role o asked
    → IsHubCommand (state_shown x t) node (Create role id o) (Refused (refusal_of role r))
    (state_shown x t')
