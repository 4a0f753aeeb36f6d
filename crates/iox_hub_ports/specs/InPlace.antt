-- Ports in their places: what is asked of one, how one is changed, and where those of a role are.
use Rattle.std.specs.Prelude.{◌≡◌, ℕ, ◌+◌, ◌≤◌, if◌then◌else◌, ◌==◌, List, [], ◌∷◌, map, length, Option, Some, None, slice_get, slice_set}
use Rattle.std.specs.Option.{option_map_or}
use Rattle.iox_model.specs.declared.kind.Role.{Role}
use Rattle.iox_model.specs.declared.kind.Role.TheVariants.{Client, Server}
use Rattle.iox_model.specs.Maps.{AreDistinct}
use Rattle.iox_model.specs.Settings.{same_role}
use Rattle.iox_tables.specs.Incomings.{IsFirstAt}
use Rattle.iox_tables.specs.Pipes.{PipeState}
use Rattle.iox_tables.specs.HubStates.Tables.{PortState, pipe_from, pipes_of, senders_of}

-- ---- one port

-- what the pipe from this sender says; `none` where there is no such pipe
abbrev pub on_pipe_from : {A : Type 0} → (PipeState → A) → A → PortState → ℕ → A
on_pipe_from f none p sender = option_map_or f (pipe_from (pipes_of p) sender) none

-- ---- the port in a place

-- what the port in that place says; `none` where there is none
abbrev pub in_place : {A : Type 0} → (PortState → A) → A → List PortState → ℕ → A
in_place f none ports place = option_map_or f (slice_get ports place) none

-- the port in that place is changed; the ports stay as they are where there is none
abbrev pub with_place : (PortState → PortState) → List PortState → ℕ → List PortState
with_place f ports place =
    option_map_or (λ p. slice_set ports place (f p)) (slice_get ports place) ports

-- the ports in these places are changed, one after another
abbrev pub with_places : (PortState → PortState) → List PortState → List ℕ → List PortState
with_places f ports [] = ports
with_places f ports (place ∷ places) = with_places f (with_place f ports place) places

-- the pipe of that rank, of those from connected senders to the port in that place, is the first
-- from its sender
abbrev pub IsFirstIn : List PortState → ℕ → ℕ → Type 0
IsFirstIn ports place rank =
    (p : PortState) → slice_get ports place ≡ Some p → IsFirstAt p.incoming.pipes rank

-- no two pipes to one port are from one sender
abbrev pub AllApart : List PortState → Type 0
AllApart ports =
    (place : ℕ) (p : PortState) → slice_get ports place ≡ Some p
    → AreDistinct (senders_of (pipes_of p))

-- ---- where the ports of a role are

-- the roles of ports
abbrev pub roles_of : List PortState → List Role
roles_of ports = map (λ p. p.role) ports

-- the places of that role, where the first of all is this one
abbrev pub places_from : Role → ℕ → List Role → List ℕ
places_from role k [] = []
places_from role k (r ∷ rs) =
    if same_role r role then k ∷ places_from role (k + 1) rs else places_from role (k + 1) rs

-- the places of the ports of that role, ascending
abbrev pub places_of : Role → List PortState → List ℕ
places_of role ports = places_from role 0 (roles_of ports)

-- the place that is the only one
abbrev pub only_of : List ℕ → Option ℕ
only_of places = if length places == 1 then slice_get places 0 else None

-- ---- lists of places that are kept

-- The places of clients and of servers, and for how many ports there is room.
pub record RolePlacesState : Type 0 where
  pub most : ℕ
  pub clients : List ℕ
  pub servers : List ℕ

-- no port, and room for so many
abbrev pub none_listed : ℕ → RolePlacesState
none_listed most = record { most = most; clients = []; servers = [] }

-- the places of these ports
abbrev pub listed : ℕ → List PortState → RolePlacesState
listed most ports =
    record { most = most; clients = places_of Client ports; servers = places_of Server ports }

-- ---- only for proofs of this crate

-- There is memory in each list for so many ports.
pub record HaveRoom (most clients servers : ℕ) : Type 0 where
  pub for_clients : most ≤ clients
  pub for_servers : most ≤ servers
