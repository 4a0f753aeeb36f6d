-- What is said of ports stays as lanes are emptied.
use Rattle.std.specs.Prelude.{◌≡◌, ℕ, suc, ◌+◌, Bool, true, false, if◌then◌else◌, List, [], ◌∷◌, length, map, filter, Option, Some, None, slice_get, refl}
use Rattle.std.specs.Option.{option_map, option_map_or}
use Rattle.std.proofs.Common.{sym, ap, ◌∙◌}
use Rattle.std.proofs.lemmas.Option.{slice_get-map}
use Rattle.iox_model.specs.declared.kind.Role.{Role}
use Rattle.iox_model.specs.declared.way.Way.{Way}
use Rattle.iox_model.specs.Maps.{has_number}
use Rattle.iox_model.specs.Settings.{same_role}
use Rattle.iox_lanes.specs.Lanes.{LaneState}
use Rattle.iox_lanes.specs.Pipes.{PipeState, with_lane}
use Rattle.iox_tables.specs.HubStates.Tables.{PortState, first_by, port_in, senders_of}
use Rattle.iox_tables.specs.HubStates.Ways.{lane_on, with_lane_on, with_lanes_on, with_pipe_from, with_pipe_of, with_pipes}
use Rattle.iox_tables.specs.HubStates.Changes.{emptied_lane}
use Rattle.iox_tables.proofs.HubStates.Keys.{same_mapped}
use Rattle.iox_hub_ports.specs.declared.info.PortInfo.{PortInfo}
use Rattle.iox_tables.specs.HubStates.Wirings.{numbers_of_role}
use Rattle.iox_hub_ports.specs.InPlace.{places_from, places_of, roles_of}
use Rattle.iox_hub_ports.specs.Ports.{info_at, info_in, info_of}
use Rattle.iox_tables.proofs.HubBooks.Frames.{first_map, some_map}
use Rattle.iox_tables.specs.HubLoans.Lenders.{size_in}
use Rattle.iox_control.specs.Controls.{ControlState, IsControl}
use Rattle.iox_control_retrieving.specs.Retrieving.{GetsBack}

-- what is said of all ports
abbrev pub infos_of : List PortState → List PortInfo
infos_of ports = map info_of ports

pipe_info : (h : PipeState → PipeState) (s : ℕ) (p : PortState) → info_of (with_pipe_of h p s) ≡ info_of p
pipe_info h s p = step (has_number s (senders_of p.expired.pipes))
  where
    step : (b : Bool)
        → info_of (if b then record p { expired = with_pipes p.expired (with_pipe_from h p.expired.pipes s) } else record p { incoming = with_pipes p.incoming (with_pipe_from h p.incoming.pipes s) })
        ≡ info_of p
    step true = refl
    step false = refl

pub lanes_infos : (g : LaneState → LaneState) (ports : List PortState) (ws : List Way) → infos_of (with_lanes_on g ports ws) ≡ infos_of ports
lanes_infos g ports [] = refl
lanes_infos g ports (w ∷ ws) =
    lanes_infos g (with_lane_on g ports w) ws
    ∙ same_mapped (λ p. p.number) (λ p. with_pipe_of (λ q. with_lane g q w.lane) p w.sender) info_of (pipe_info (λ q. with_lane g q w.lane) w.sender) ports w.receiver

pub infos_stay : (c new : ControlState) (ws : List Way) → GetsBack c ws new → infos_of new.tables.ports ≡ infos_of c.tables.ports
infos_stay c new ws got = ap (λ (d : ControlState). infos_of d.tables.ports) got.left ∙ lanes_infos emptied_lane c.tables.ports ws

-- ---- by number, and by place

by_number : (ports : List PortState) (n : ℕ) → info_in ports n ≡ first_by (λ i. i.number) (infos_of ports) n
by_number ports n = sym (first_map (λ p. p.number) (λ i. i.number) info_of (λ p. refl) ports n)

pub same_info : (xs ys : List PortState) (n : ℕ) → infos_of xs ≡ infos_of ys → info_in xs n ≡ info_in ys n
same_info xs ys n same = by_number xs n ∙ ap (λ is. first_by (λ i. i.number) is n) same ∙ sym (by_number ys n)

pub same_info_at : (xs ys : List PortState) (i : ℕ) → infos_of xs ≡ infos_of ys → info_at xs i ≡ info_at ys i
same_info_at xs ys i same = sym (slice_get-map info_of xs i) ∙ ap (λ is. slice_get is i) same ∙ slice_get-map info_of ys i

size_by : (ports : List PortState) (n : ℕ) → size_in ports n ≡ option_map_or (λ i. i.size) (info_in ports n) 0
size_by ports n = step (port_in ports n)
  where
    step : (o : Option PortState) → option_map_or (λ p. p.size) o 0 ≡ option_map_or (λ i. i.size) (option_map info_of o) 0
    step (Some p) = refl
    step None = refl

pub same_size : (xs ys : List PortState) (n : ℕ) → infos_of xs ≡ infos_of ys → size_in xs n ≡ size_in ys n
same_size xs ys n same = size_by xs n ∙ ap (λ o. option_map_or (λ (i : PortInfo). i.size) o 0) (same_info xs ys n same) ∙ sym (size_by ys n)

-- the port of which that is said
pub port_of_info : (ports : List PortState) (n : ℕ) (info : PortInfo) → info_in ports n ≡ Some info → (p : PortState) × (port_in ports n ≡ Some p) × (info_of p ≡ info)
port_of_info ports n info said = some_map info_of (port_in ports n) info said

-- messages that come from a port are of its pool
pub pool_is : (c : ControlState) (info : PortInfo) (w : Way) → IsControl c → info_in c.tables.ports w.sender ≡ Some info
    → (l : LaneState) → lane_on c.tables.ports w ≡ Some l → l.pool ≡ info.pool
pool_is c info w order said l at =
    let p = port_of_info c.tables.ports w.sender info said in
    (order.order.lanes w l p.0 at p.1).of_pool ∙ ap (λ (i : PortInfo). i.pool) p.2

-- ---- by role

roles_by : (ports : List PortState) → roles_of ports ≡ map (λ (i : PortInfo). i.role) (infos_of ports)
roles_by [] = refl
roles_by (p ∷ ps) = ap (λ rs. p.role ∷ rs) (roles_by ps)

pub same_places : (role : Role) (xs ys : List PortState) → infos_of xs ≡ infos_of ys → places_of role xs ≡ places_of role ys
same_places role xs ys same =
    ap (places_from role 0) (roles_by xs ∙ ap (λ (is : List PortInfo). map (λ (i : PortInfo). i.role) is) same ∙ sym (roles_by ys))

numbers_by : (role : Role) (ports : List PortState)
    → numbers_of_role role ports ≡ map (λ (i : PortInfo). i.number) (filter (λ (i : PortInfo). same_role i.role role) (infos_of ports))
numbers_by role [] = refl
numbers_by role (p ∷ ps) = step (same_role p.role role) (numbers_by role ps)
  where
    step : (b : Bool)
        → numbers_of_role role ps ≡ map (λ (i : PortInfo). i.number) (filter (λ (i : PortInfo). same_role i.role role) (infos_of ps))
        → map (λ (q : PortState). q.number) (if b then p ∷ filter (λ (q : PortState). same_role q.role role) ps else filter (λ (q : PortState). same_role q.role role) ps)
        ≡ map (λ (i : PortInfo). i.number) (if b then info_of p ∷ filter (λ (i : PortInfo). same_role i.role role) (infos_of ps) else filter (λ (i : PortInfo). same_role i.role role) (infos_of ps))
    step true rest = ap (λ ns. p.number ∷ ns) rest
    step false rest = rest

pub same_numbers : (role : Role) (xs ys : List PortState) → infos_of xs ≡ infos_of ys → numbers_of_role role xs ≡ numbers_of_role role ys
same_numbers role xs ys same =
    numbers_by role xs
    ∙ ap (λ (is : List PortInfo). map (λ (i : PortInfo). i.number) (filter (λ (i : PortInfo). same_role i.role role) is)) same
    ∙ sym (numbers_by role ys)

-- there are as many places of a role as numbers
pub as_many : (role : Role) (k : ℕ) (ports : List PortState) → length (places_from role k (roles_of ports)) ≡ length (numbers_of_role role ports)
as_many role k [] = refl
as_many role k (p ∷ ps) = step (same_role p.role role) (as_many role (k + 1) ps)
  where
    step : (b : Bool) → length (places_from role (k + 1) (roles_of ps)) ≡ length (numbers_of_role role ps)
        → length (if b then k ∷ places_from role (k + 1) (roles_of ps) else places_from role (k + 1) (roles_of ps))
        ≡ length (map (λ (q : PortState). q.number) (if b then p ∷ filter (λ (q : PortState). same_role q.role role) ps else filter (λ (q : PortState). same_role q.role role) ps))
    step true rest = ap suc rest
    step false rest = rest
