-- A step in the place of a port is the change on the way of its number.
use Rattle.std.specs.Prelude.{◌≡◌, ℕ, zero, suc, ◌+◌, ◌<◌, Bool, true, false, if◌then◌else◌, ◌||◌, ◌==◌, List, [], ◌∷◌, ◌++◌, map, filter, length, IfSome, Option, Some, None, slice_get, slice_set, refl}
use Rattle.std.specs.List.{position_from}
use Rattle.std.specs.Option.{option_map_or}
use Rattle.std.proofs.Common.{sym, ap, subst, ◌∙◌, cond}
use Rattle.std.proofs.lemmas.Bool.{or_parts}
use Rattle.iox_handles.specs.Tables.{Contents}
use Rattle.iox_model.specs.declared.kind.Role.{Role}
use Rattle.iox_model.specs.declared.way.RequestState.{RequestState}
use Rattle.iox_model.specs.declared.way.RequestState.TheVariants.{Closed}
use Rattle.iox_model.specs.declared.way.Way.{Way}
use Rattle.iox_model.specs.Maps.{AreDistinct, has_number}
use Rattle.iox_model.specs.Settings.{same_role}
use Rattle.iox_laws.proofs.WeaveLaws.MapLemmas.{eqb-refl}
use Rattle.iox_lanes.specs.declared.pipe.Next.{Next}
use Rattle.iox_lanes.specs.Lanes.{LaneState, without_returned}
use Rattle.iox_lanes.specs.Pipes.{on_lane, with_lane}
use Rattle.iox_lanes.specs.PipeSteps.{pushed, pushed_out}
use Rattle.iox_hub_ports.specs.HubStates.Tables.{PoolState, PortState, numbers_of, pipe_from, pipes_of, port_in}
use Rattle.iox_hub_ports.specs.HubStates.Ways.{lanes_from, states_from, with_lane_on, with_lanes_on, with_pipe_of, with_states_on}
use Rattle.iox_hub_ports.specs.HubStates.Wirings.{numbers_of_role}
use Rattle.iox_hub_ports.specs.InPlace.{AllApart, in_place, on_pipe_from, places_from, places_of, roles_of, with_place, with_places}
use Rattle.iox_hub_ports.specs.Ports.{PortsState, on_way, place_in, state_from, state_of_way, with_lane_at}
use Rattle.iox_hub_ports.specs.Ports.{pushed as pushed_on_way, pushed_out as pushed_out_of_way, with_ports as ports_with}
use Rattle.iox_hub_ports.proofs.HubStates.Keys.{lane_sender}
use Rattle.iox_hub_ports.proofs.Apart.{apart_in_place, senders_stay}
use Rattle.iox_hub_ports.proofs.AtPlaces.{changes_at}
use Rattle.iox_hub_ports.proofs.Finding.{at_place, is_within, place_is_at}
use Rattle.iox_hub_ports.proofs.Firsts.{lane_there}
use Rattle.iox_hub_ports.proofs.Hinted.{pushed_alike, pushed_out_alike}
use Rattle.iox_hub_ports.proofs.InPlace.{asked_by_number}
use Rattle.iox_hub_ports.proofs.Keeping.{lanes_keep, states_keep}
use Rattle.iox_hub_ports.proofs.Seats.{first_at}
use Rattle.iox_control.specs.declared.settings.Settings.{Settings}
use Rattle.iox_control.specs.Controls.{ControlState, IsControl, control_of, with_ports}

-- a port stands in the place
pub place_within : (ports : List PortState) (n i : ℕ) → place_in ports n ≡ Some i → i < length ports
place_within ports n i there = is_within ports n i (place_is_at ports n i there)

lane_of_port : {A : Type 0} (f : LaneState → A) (none : A) (s lane : ℕ) (o : Option PortState)
    → option_map_or (λ p. on_pipe_from (λ q. on_lane f none q lane) none p s) o none
    ≡ option_map_or f (slice_get (lanes_from (option_map_or pipes_of o []) s) lane) none
lane_of_port f none s lane (Some p) = lane_there f none lane (pipe_from (pipes_of p) s)
lane_of_port f none s lane None = refl

-- what the lane says in the place, the way says
pub lane_told_in : {A : Type 0} (f : LaneState → A) (none : A) (ports : List PortState) (s lane n i : ℕ) → place_in ports n ≡ Some i
    → in_place (λ p. on_pipe_from (λ q. on_lane f none q lane) none p s) none ports i
    ≡ on_way f none ports (record { sender = s; receiver = n; lane = lane })
lane_told_in f none ports s lane n i there =
    asked_by_number ports n i (λ p. on_pipe_from (λ q. on_lane f none q lane) none p s) none there ∙ lane_of_port f none s lane (port_in ports n)

-- ---- the tables

-- other ports in the same tables
pub with_those_ports : (f : List PortState → List PortState) {settings : Settings} {calls next made : ℕ} {ps now : PortsState} (handles : Contents)
    {pools : List (Option PoolState)} (c : ControlState) → control_of settings calls next made ps handles pools ≡ c → now ≡ ports_with ps (f ps.ports)
    → control_of settings calls next made now handles pools ≡ with_ports c (f c.tables.ports)
with_those_ports f {settings} {calls} {next} {made} {ps} {now} handles {pools} c is changed =
    ap (λ (qs : PortsState). control_of settings calls next made qs handles pools) changed ∙ ap (λ (d : ControlState). with_ports d (f d.tables.ports)) is

-- ---- no sender comes twice

front_apart : (xs ys : List ℕ) → AreDistinct (xs ++ ys) → AreDistinct xs
front_apart [] ys d = tt
front_apart (x ∷ xs) ys d = (not_in_front xs d.0, front_apart xs ys d.1)
  where
    not_in_front : (zs : List ℕ) → has_number x (zs ++ ys) ≡ false → has_number x zs ≡ false
    not_in_front [] e = refl
    not_in_front (z ∷ zs) e =
        let parts = or_parts (z == x) (has_number x (zs ++ ys)) e in
        ap (λ b. b || has_number x zs) parts.0 ∙ not_in_front zs parts.1

-- between calls no two pipes to one port are from one sender
pub all_apart : (c : ControlState) → IsControl c → AllApart c.tables.ports
all_apart c o i p there =
    (o.order.wired.each p.number p
    (first_at c.tables.ports i p (front_apart (numbers_of c.tables.ports) (map (λ h. h.number) c.tables.handles) o.order.numbers.apart) there)).apart

-- once a message was got back from the port in a place, that is still so
pub got_apart : (o : Option Next) (old new : PortsState) (i s : ℕ) → AreDistinct (numbers_of old.ports) → AllApart old.ports
    → IfSome o (λ n. new ≡ ports_with old (with_lane_at without_returned old.ports i s n.lane)) → (o ≡ None → new ≡ old) → AllApart new.ports
got_apart None old new i s numbers all got none = subst (λ (ps : PortsState). AllApart ps.ports) (sym (none refl)) all
got_apart (Some n) old new i s numbers all got none =
    subst (λ (ps : PortsState). AllApart ps.ports) (sym got)
    (subst AllApart (changes_at old.ports i s n.lane numbers without_returned)
    (apart_in_place (λ p. with_pipe_of (λ q. with_lane without_returned q n.lane) p s)
    (senders_stay (λ q. with_lane without_returned q n.lane) (lane_sender without_returned n.lane) s) old.ports i all))

-- ---- the port that stands in a place

pub place_of_port : (ports : List PortState) (i : ℕ) (p : PortState) → AreDistinct (numbers_of ports) → slice_get ports i ≡ Some p → place_in ports p.number ≡ Some i
place_of_port ports i p apart there =
    at_place ports p.number i apart
    (ap (λ (o : Option PortState). option_map_or (λ q. q.number == p.number) o false) there ∙ eqb-refl p.number)

position_of : (n k : ℕ) (ports : List PortState) → position_from (λ (p : PortState). p.number == n) k ports ≡ position_from (λ m. m == n) k (numbers_of ports)
position_of n k [] = refl
position_of n k (p ∷ ps) = ap (λ (o : Option ℕ). cond (p.number == n) (Some k) o) (position_of n (k + 1) ps)

-- a port stays in its place as long as the numbers stay
pub place_stays : (ps qs : List PortState) (n : ℕ) → numbers_of ps ≡ numbers_of qs → place_in ps n ≡ place_in qs n
place_stays ps qs n same = position_of n 0 ps ∙ ap (position_from (λ m. m == n) 0) same ∙ sym (position_of n 0 qs)

pub lanes_keep_place : (g : LaneState → LaneState) (ports : List PortState) (ws : List Way) (n : ℕ) → place_in (with_lanes_on g ports ws) n ≡ place_in ports n
lanes_keep_place g ports ws n = place_stays (with_lanes_on g ports ws) ports n (lanes_keep g ports ws)

pub states_keep_place : (f : RequestState → RequestState) (ports : List PortState) (ws : List Way) (n : ℕ) → place_in (with_states_on f ports ws) n ≡ place_in ports n
states_keep_place f ports ws n = place_stays (with_states_on f ports ws) ports n (states_keep f ports ws)

-- ---- pushes

pub out_told : (ports : List PortState) (w : Way) → on_way (λ l. pushed_out l) None ports w ≡ on_way pushed_out_of_way None ports w
out_told ports w = λ i. on_way (λ l. pushed_out_alike l i) None ports w

pub push_left : (ports : List PortState) (w : Way) (k : ℕ) → with_lane_on (λ l. pushed l k) ports w ≡ with_lane_on (λ l. pushed_on_way l k) ports w
push_left ports w k = λ i. with_lane_on (λ l. pushed_alike l k i) ports w

-- ---- a request state

state_of_port : (s lane : ℕ) (o : Option PortState)
    → option_map_or (λ p. state_from p s lane) o Closed
    ≡ option_map_or (λ r. r) (slice_get (states_from (option_map_or pipes_of o []) s) lane) Closed
state_of_port s lane (Some p) = refl
state_of_port s lane None = refl

pub state_told_in : (ports : List PortState) (w : Way) (i : ℕ) → place_in ports w.sender ≡ Some i
    → in_place (λ p. state_from p w.receiver w.lane) Closed ports i ≡ state_of_way ports w
state_told_in ports w i there =
    asked_by_number ports w.sender i (λ p. state_from p w.receiver w.lane) Closed there ∙ state_of_port w.receiver w.lane (port_in ports w.sender)

-- ---- a walk

module _ (f : PortState → PortState) (same : (p : PortState) → (f p).role ≡ p.role) where
  later_place : (x : PortState) (xs : List PortState) (i : ℕ) → with_place f (x ∷ xs) (suc i) ≡ x ∷ with_place f xs i
  later_place x xs i = later (slice_get xs i)
    where
      later : (o : Option PortState)
          → option_map_or (λ p. slice_set (x ∷ xs) (suc i) (f p)) o (x ∷ xs) ≡ x ∷ option_map_or (λ p. slice_set xs i (f p)) o xs
      later (Some p) = refl
      later None = refl

  roles_in_place : (ports : List PortState) (i : ℕ) → roles_of (with_place f ports i) ≡ roles_of ports
  roles_in_place [] i = refl
  roles_in_place (x ∷ xs) zero = ap (λ r. r ∷ roles_of xs) (same x)
  roles_in_place (x ∷ xs) (suc i) = ap roles_of (later_place x xs i) ∙ ap (λ rs. x.role ∷ rs) (roles_in_place xs i)

  -- so do the numbers of the ports of each role
  module _ (same_number : (p : PortState) → (f p).number ≡ p.number) (role : Role) where
    abbrev chosen : Bool → ℕ → List ℕ → List ℕ
    chosen b n ns = if b then n ∷ ns else ns

    pulled : (q : PortState) (qs : List PortState) → numbers_of_role role (q ∷ qs) ≡ chosen (same_role q.role role) q.number (numbers_of_role role qs)
    pulled q qs = pull (same_role q.role role)
      where
        pull : (b : Bool) → map (λ (p : PortState). p.number) (if b then q ∷ filter (λ p. same_role p.role role) qs else filter (λ p. same_role p.role role) qs)
            ≡ chosen b q.number (numbers_of_role role qs)
        pull true = refl
        pull false = refl

    pub of_role_in_place : (ports : List PortState) (i : ℕ) → numbers_of_role role (with_place f ports i) ≡ numbers_of_role role ports
    of_role_in_place [] i = refl
    of_role_in_place (x ∷ xs) zero =
        pulled (f x) xs
        ∙ ap (λ r. chosen (same_role r role) (f x).number (numbers_of_role role xs)) (same x)
        ∙ ap (λ n. chosen (same_role x.role role) n (numbers_of_role role xs)) (same_number x) ∙ sym (pulled x xs)
    of_role_in_place (x ∷ xs) (suc i) =
        ap (numbers_of_role role) (later_place x xs i) ∙ pulled x (with_place f xs i)
        ∙ ap (chosen (same_role x.role role) x.number) (of_role_in_place xs i) ∙ sym (pulled x xs)

  -- the places of each role stay
  pub places_in_place : (role : Role) (ports : List PortState) (i : ℕ) → places_of role (with_place f ports i) ≡ places_of role ports
  places_in_place role ports i = ap (places_from role 0) (roles_in_place ports i)

  pub places_in_places : (role : Role) (ports : List PortState) (places : List ℕ) → places_of role (with_places f ports places) ≡ places_of role ports
  places_in_places role ports [] = refl
  places_in_places role ports (i ∷ is) = places_in_places role (with_place f ports i) is ∙ places_in_place role ports i
