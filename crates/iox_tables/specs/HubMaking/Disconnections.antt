-- What the disconnection of a port does to the tables of a hub, and when it comes.
use Rattle.std.specs.Prelude.{◌≡◌, ℕ, Bool, true, false, not, ◌&&◌, ◌||◌, if◌then◌else◌, ◌==◌, List, map, filter, Some}
use Rattle.std.specs.List.{list_any}
use Rattle.std.specs.Option.{option_map_or}
use Rattle.iox_model.specs.Expiries.{disconnected, is_last_gone, released}
use Rattle.iox_model.specs.Maps.{AreDistinct, has_number}
use Rattle.iox_lanes.specs.Incomings.{IncomingState}
use Rattle.iox_tables.specs.HubStates.Tables.{HandleState, HubTables, PortState, numbers_of, pipe_from, port_in}
use Rattle.iox_tables.specs.HubStates.Ways.{with_pipes}
use Rattle.iox_tables.specs.HubStates.States.{Given, expired_in, fixed_of, state_shown}
use Rattle.iox_tables.specs.HubStates.Ends.{OfEachHandle}
use Rattle.iox_tables.specs.HubStates.Steps.{is_there}
use Rattle.iox_tables.specs.HubStates.Wirings.{IsWired}
use Rattle.iox_tables.specs.HubBooks.Hubs.{HaveWidths}
use Rattle.iox_tables.specs.HubMaking.Expirings.{KeepsExpired, with_expired}

-- ---- the ports that are left

-- what comes in, but not from that sender
abbrev pub without_sender : ℕ → IncomingState → IncomingState
without_sender n c = with_pipes c (filter (λ q. not (q.sender == n)) c.pipes)

-- the port once that sender is gone: the pipe from it is one from ports that are gone if something
-- waits there, and else no more
abbrev pub cut_from : ℕ → PortState → PortState
cut_from n p = record p {
  expired = with_expired p.expired (pipe_from p.incoming.pipes n);
  incoming = without_sender n p.incoming;
}

-- the ports but the one of that number, each cut from it
abbrev pub ports_without : ℕ → List PortState → List PortState
ports_without n ports = map (cut_from n) (filter (λ p. not (p.number == n)) ports)

-- the tables once that port is gone: with it go the pipes to it, the pipes from it that are not
-- kept, and the request states that lie there
abbrev pub with_disconnected : HubTables → ℕ → HubTables
with_disconnected t n = record t { ports = ports_without n t.ports }

-- whether what leads to the one port from the other is left: what comes from a port that is gone
-- is left if it is kept
abbrev pub is_left : ℕ → List PortState → ℕ → ℕ → Bool
is_left n ports to from =
    if to == n then false else
    (if (from == n) || has_number from (expired_in ports to)
    then has_number from (expired_in (ports_without n ports) to) else true)

-- ---- the machine's disconnection

-- The port may go: it is connected, no other has its number, each port is wired, has as many lanes
-- from each other as it should, and keeps pipes of ports that are gone.
pub record MayGo (t : HubTables) (n : ℕ) : Type 0 where
  pub there : is_there t.ports n ≡ true
  pub apart : AreDistinct (numbers_of t.ports)
  pub wired : (k : ℕ) (p : PortState) → port_in t.ports k ≡ Some p → IsWired t p
  pub kept : (k : ℕ) (p : PortState) → port_in t.ports k ≡ Some p → KeepsExpired t p
  pub widths : HaveWidths t

-- A port's disconnection is the machine's.
abbrev pub DisconnectionsAreShown : Type 0
DisconnectionsAreShown =
    (x : Given) (t : HubTables) (n : ℕ) → MayGo t n
    → disconnected (state_shown x t) n ≡ state_shown x (with_disconnected t n)

-- ---- when it comes

-- the port's own value is still there
abbrev pub is_held_in : List PortState → ℕ → Bool
is_held_in ports n = list_any (λ p. (p.number == n) && p.held) ports

-- the node of the port; 0 where it is not connected
abbrev pub node_in : List PortState → ℕ → ℕ
node_in ports n = option_map_or (λ p. p.node) (port_in ports n) 0

-- whether the handle is the port's
abbrev pub is_of_port : List PortState → ℕ → HandleState → Bool
is_of_port ports n h = (h.node == node_in ports n) && (h.port == n)

-- whether the port's own value and all its handles are released
abbrev pub is_unused : HubTables → ℕ → Bool
is_unused t n = not (is_held_in t.ports n) && not (list_any (is_of_port t.ports n) t.handles)

-- the tables once the port is gone, if nothing of it is left
abbrev pub with_released : HubTables → ℕ → HubTables
with_released t n = if is_unused t n then with_disconnected t n else t

-- The machine's test is that of the tables, and so is what it does.
pub record ReleaseIsShown (x : Given) (t : HubTables) (n : ℕ) : Type 0 where
  pub test : is_last_gone (fixed_of x t) n ≡ is_unused t n
  pub does : MayGo t n → released (state_shown x t) n ≡ state_shown x (with_released t n)

-- The machine's test whether anything of a port is left is that of the tables, and so is what
-- follows.
abbrev pub ReleasesAreShown : Type 0
ReleasesAreShown = (x : Given) (t : HubTables) (n : ℕ) → ReleaseIsShown x t n

-- the handle is on the node of its port
abbrev pub IsAtHome : HubTables → HandleState → Type 0
IsAtHome t h = h.node ≡ node_in t.ports h.port

-- Where handles are on the nodes of their ports, and numbers are distinct, a look at the port and a
-- look for one handle of it tell.
abbrev pub UnusedIsTold : Type 0
UnusedIsTold =
    (t : HubTables) (n : ℕ) (p : PortState) → port_in t.ports n ≡ Some p
    → AreDistinct (numbers_of t.ports) → OfEachHandle (IsAtHome t) t.handles
    → is_unused t n ≡ (not p.held && not (list_any (λ h. h.port == n) t.handles))
