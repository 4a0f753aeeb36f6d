-- Code removes the first of a number and connects one pipe after another, where there is room: that
-- comes to the same.
use Rattle.std.specs.Prelude.{◌≡◌, ℕ, ◌≤◌, true, false, if◌then◌else◌, nat_le, ◌==◌, List, [], ◌∷◌, filter, length, map, Option, Some}
use Rattle.iox_model.specs.declared.kind.Role.{Role}
use Rattle.iox_model.specs.declared.kind.Role.TheVariants.{Client, Server}
use Rattle.iox_model.specs.Settings.{other_role}
use Rattle.iox_lanes.specs.Incomings.{IncomingState, connected}
use Rattle.iox_lanes.specs.Pipes.{PipeState}
use Rattle.iox_tables.specs.HubStates.Tables.{HubSettings, HubTables, PoolState, PortState, pipe_from, port_in}
use Rattle.iox_tables.specs.HubStates.Ways.{with_pipes}
use Rattle.iox_tables.specs.HubStates.Releases.{with_value_released}
use Rattle.iox_tables.specs.HubStates.Wirings.{numbers_of_role}
use Rattle.iox_tables.specs.HubMaking.Disconnections.{with_disconnected}
use Rattle.iox_tables.specs.HubMaking.Expirings.{with_expired}
use Rattle.iox_tables.specs.HubMaking.NewPorts.{connected_from, connected_to, is_other, pipe_between, with_port_made}
use Rattle.iox_tables.specs.HubMaking.Wires.{AreConnected}

-- ---- removals

-- the first of that number is gone
abbrev pub without_first_by : {A : Type 0} → (A → ℕ) → List A → ℕ → List A
without_first_by key [] n = []
without_first_by key (x ∷ xs) n = if key x == n then xs else x ∷ without_first_by key xs n

-- that connected sender is gone: the first pipe from it is kept if something waits there, and else
-- no more
abbrev pub without_first_pipe : ℕ → PortState → PortState
without_first_pipe n p =
    record p {
      expired = with_expired p.expired (pipe_from p.incoming.pipes n);
      incoming =
          with_pipes p.incoming (without_first_by (λ q. q.sender) p.incoming.pipes n);
    }

-- Where the port of a number is removed, and then each other port is without it, the port is
-- disconnected.
abbrev pub PortsGoOneByOne : Type 0
PortsGoOneByOne =
    (t : HubTables) (n : ℕ) → AreConnected t
    → map (without_first_pipe n) (without_first_by (λ p. p.number) t.ports n)
    ≡ (with_disconnected t n).ports

-- ---- room

-- how many ports of that role there may be
abbrev pub most_of : HubSettings → Role → ℕ
most_of settings Client = settings.clients
most_of settings Server = settings.servers

-- There are no more ports of a role than there may be, and each port has room for pipes from as
-- many of the other role.
pub record HaveRoom (t : HubTables) : Type 0 where
  pub few : (role : Role) → length (numbers_of_role role t.ports) ≤ most_of t.settings role
  pub most :
      (n : ℕ) (p : PortState) → port_in t.ports n ≡ Some p
      → p.incoming.most ≡ most_of t.settings (other_role p.role)

-- the pipes are connected, one after another, each where there is room
abbrev pub all_connected : IncomingState → List PipeState → IncomingState
all_connected c [] = c
all_connected c (q ∷ qs) = all_connected (connected c q) qs

-- Where one more port of a role may be, each port of the other role takes the pipe from it; and the
-- new port takes a pipe from each of them.
pub record PipesHaveRoom (t : HubTables) (new : PortState) : Type 0 where
  pub others :
      (n : ℕ) (p : PortState) → port_in t.ports n ≡ Some p → is_other p new ≡ true
      → connected_to t.settings new p
      ≡ record p { incoming = connected p.incoming (pipe_between t.settings new p) }
  pub newest :
      new.incoming.pipes ≡ []
      → new.incoming.most ≡ most_of t.settings (other_role new.role)
      → connected_from t.settings t.ports new
      ≡ record new {
        incoming =
            all_connected new.incoming
            (map (λ p. pipe_between t.settings p new) (filter (λ p. is_other p new) t.ports));
      }

-- Where a new port is not one too many, there is room for all its pipes.
abbrev pub NewPipesHaveRoom : Type 0
NewPipesHaveRoom =
    (t : HubTables) (new : PortState) → AreConnected t → HaveRoom t
    → nat_le (most_of t.settings new.role) (length (numbers_of_role new.role t.ports)) ≡ false
    → PipesHaveRoom t new

-- Room stays as a port goes, as a port's own value is released, and as a port is made that is not
-- one too many.
pub record RoomStays (t : HubTables) : Type 0 where
  pub gone : (n : ℕ) → HaveRoom t → HaveRoom (with_disconnected t n)
  pub released : (n : ℕ) → HaveRoom t → HaveRoom (with_value_released t n)
  pub made :
      (new : PortState) (pools : List (Option PoolState)) → HaveRoom t
      → nat_le (most_of t.settings new.role) (length (numbers_of_role new.role t.ports)) ≡ false
      → new.incoming.most ≡ most_of t.settings (other_role new.role)
      → HaveRoom (with_port_made t new pools)

-- There is room for ports and pipes as ports come and go.
abbrev pub RoomAlwaysStays : Type 0
RoomAlwaysStays = (t : HubTables) → RoomStays t
