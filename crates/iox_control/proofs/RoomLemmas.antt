-- There is room for ports and pipes as lanes, request states and what is kept of a port change.
use Rattle.std.specs.Prelude.{◌≡◌, ℕ, ◌+◌, ◌≤◌, Bool, true, false, if◌then◌else◌, ◌==◌, List, [], ◌∷◌, filter, length, map, Option, Some, None, refl}
use Rattle.std.specs.Option.{option_map, option_map_or}
use Rattle.std.proofs.Common.{sym, ap, subst, ◌∙◌}
use Rattle.std.proofs.lemmas.Option.{none-some}
use Rattle.iox_lanes.specs.declared.wanted.Wanted.{Wanted}
use Rattle.iox_lanes.specs.Incomings.{all_visited_of}
use Rattle.iox_lanes.specs.Lanes.{LaneState}
use Rattle.iox_lanes.specs.Pipes.{PipeState, with_lane, with_state}
use Rattle.iox_lanes.specs.Searches.{LabelsByPlace}
use Rattle.iox_lanes.specs.Visited.{all_visits}
use Rattle.iox_model.specs.declared.kind.Role.{Role}
use Rattle.iox_model.specs.declared.way.RequestState.{RequestState}
use Rattle.iox_model.specs.declared.way.Way.{Way}
use Rattle.iox_model.specs.Maps.{has_number}
use Rattle.iox_model.specs.Settings.{other_role, same_role}
use Rattle.iox_hub_ports.specs.HubStates.Tables.{HubTables, PortState, first_by, port_in, senders_of}
use Rattle.iox_hub_ports.specs.HubStates.Ways.{with_lane_on, with_lanes_on, with_pipe_from, with_pipe_of, with_pipes, with_port, with_state_on, with_states_on}
use Rattle.iox_hub_ports.specs.HubStates.Receives.{has_got, visited_port}
use Rattle.iox_hub_ports.specs.HubStates.Wirings.{numbers_of_role}
use Rattle.iox_hub_ports.proofs.HubStates.Keys.{same_mapped}
use Rattle.iox_hub_ports.specs.HubMaking.OneByOne.{HaveRoom, most_of}

-- all that room asks of a port
pub record Seat : Type 0 where
  pub number : ℕ
  pub role : Role
  pub most : ℕ

abbrev pub seat_of : PortState → Seat
seat_of p = record { number = p.number; role = p.role; most = p.incoming.most }

abbrev pub seats_of : List PortState → List Seat
seats_of ports = map seat_of ports

-- ---- room depends only on that

abbrev numbers_by : Role → List Seat → List ℕ
numbers_by role seats = map (λ s. s.number) (filter (λ s. same_role s.role role) seats)

by_seats : (role : Role) (ports : List PortState) → numbers_of_role role ports ≡ numbers_by role (seats_of ports)
by_seats role [] = refl
by_seats role (p ∷ ps) = step (same_role p.role role) (by_seats role ps)
  where
    step : (b : Bool) → numbers_of_role role ps ≡ numbers_by role (seats_of ps)
        → map (λ (q : PortState). q.number) (if b then p ∷ filter (λ (q : PortState). same_role q.role role) ps else filter (λ (q : PortState). same_role q.role role) ps)
        ≡ map (λ (s : Seat). s.number) (if b then seat_of p ∷ filter (λ (s : Seat). same_role s.role role) (seats_of ps) else filter (λ (s : Seat). same_role s.role role) (seats_of ps))
    step true rest = ap (λ ns. p.number ∷ ns) rest
    step false rest = rest

seat_in : (ports : List PortState) (n : ℕ) → option_map seat_of (port_in ports n) ≡ first_by (λ s. s.number) (seats_of ports) n
seat_in [] n = refl
seat_in (p ∷ ps) n = step (p.number == n) (seat_in ps n)
  where
    step : (b : Bool) → option_map seat_of (port_in ps n) ≡ first_by (λ s. s.number) (seats_of ps) n
        → option_map seat_of (if b then Some p else port_in ps n) ≡ (if b then Some (seat_of p) else first_by (λ s. s.number) (seats_of ps) n)
    step true rest = refl
    step false rest = rest

pub room_as : (t t' : HubTables) → t'.settings ≡ t.settings → seats_of t'.ports ≡ seats_of t.ports → HaveRoom t → HaveRoom t'
room_as t t' settings seats have = record {
  few = λ role.
      let numbers : numbers_of_role role t'.ports ≡ numbers_of_role role t.ports =
      by_seats role t'.ports ∙ ap (numbers_by role) seats ∙ sym (by_seats role t.ports) in
      subst (λ s. length (numbers_of_role role t'.ports) ≤ most_of s role) (sym settings)
      (subst (λ (ns : List ℕ). length ns ≤ most_of t.settings role) (sym numbers) (have.few role));
  most = λ n p there.
      step n p (port_in t.ports n) refl
      (seat_in t.ports n ∙ ap (λ (ss : List Seat). first_by (λ s. s.number) ss n) (sym seats) ∙ sym (seat_in t'.ports n) ∙ ap (option_map seat_of) there);
}
  where
    step : (n : ℕ) (p : PortState) (o : Option PortState) → port_in t.ports n ≡ o → option_map seat_of o ≡ Some (seat_of p)
        → p.incoming.most ≡ most_of t'.settings (other_role p.role)
    step n p None there e = absurd (none-some (seat_of p) e)
    step n p (Some q) there e =
        let same : seat_of q ≡ seat_of p = ap (λ (o : Option Seat). option_map_or (λ s. s) o (seat_of q)) e in
        ap (λ (s : Seat). s.most) (sym same) ∙ have.most n q there
        ∙ ap (λ (s : Seat). most_of t.settings (other_role s.role)) same
        ∙ ap (λ s. most_of s (other_role p.role)) (sym settings)

-- ---- changes that leave it

pipe_seat : (h : PipeState → PipeState) (s : ℕ) (p : PortState) → seat_of (with_pipe_of h p s) ≡ seat_of p
pipe_seat h s p = step (has_number s (senders_of p.expired.pipes))
  where
    step : (b : Bool)
        → seat_of (if b then record p { expired = with_pipes p.expired (with_pipe_from h p.expired.pipes s) } else record p { incoming = with_pipes p.incoming (with_pipe_from h p.incoming.pipes s) })
        ≡ seat_of p
    step true = refl
    step false = refl

port_seat : (f : PortState → PortState) → ((p : PortState) → seat_of (f p) ≡ seat_of p) → (ports : List PortState) (n : ℕ) → seats_of (with_port f ports n) ≡ seats_of ports
port_seat f same ports n = same_mapped (λ p. p.number) f seat_of same ports n

pub lane_seats : (g : LaneState → LaneState) (ports : List PortState) (w : Way) → seats_of (with_lane_on g ports w) ≡ seats_of ports
lane_seats g ports w = port_seat (λ p. with_pipe_of (λ q. with_lane g q w.lane) p w.sender) (pipe_seat (λ q. with_lane g q w.lane) w.sender) ports w.receiver

pub lanes_seats : (g : LaneState → LaneState) (ports : List PortState) (ws : List Way) → seats_of (with_lanes_on g ports ws) ≡ seats_of ports
lanes_seats g ports [] = refl
lanes_seats g ports (w ∷ ws) = lanes_seats g (with_lane_on g ports w) ws ∙ lane_seats g ports w

pub state_seats : (g : RequestState → RequestState) (ports : List PortState) (w : Way) → seats_of (with_state_on g ports w) ≡ seats_of ports
state_seats g ports w = port_seat (λ p. with_pipe_of (λ q. with_state g q w.lane) p w.receiver) (pipe_seat (λ q. with_state g q w.lane) w.receiver) ports w.sender

pub states_seats : (g : RequestState → RequestState) (ports : List PortState) (ws : List Way) → seats_of (with_states_on g ports ws) ≡ seats_of ports
states_seats g ports [] = refl
states_seats g ports (w ∷ ws) = states_seats g (with_state_on g ports w) ws ∙ state_seats g ports w

pub loan_seats : (ports : List PortState) (n k : ℕ) → seats_of (with_port (λ p. record p { loans = p.loans + k }) ports n) ≡ seats_of ports
loan_seats ports n k = port_seat (λ p. record p { loans = p.loans + k }) (λ p. refl) ports n

pub value_seats : (ports : List PortState) (n : ℕ) → seats_of (with_port (λ p. record p { held = false }) ports n) ≡ seats_of ports
value_seats ports n = port_seat (λ p. record p { held = false }) (λ p. refl) ports n

pub visit_seats : (wanted : Wanted) (labels : LabelsByPlace) (lane : ℕ) (ports : List PortState) (n : ℕ)
    → seats_of (with_port (visited_port wanted labels lane) ports n) ≡ seats_of ports
visit_seats wanted labels lane ports n = port_seat (visited_port wanted labels lane) each ports n
  where
    step : (p : PortState) (b : Bool) → (if b then p.incoming else all_visited_of wanted labels lane p.incoming).most ≡ p.incoming.most
    step p true = refl
    step p false = refl

    each : (p : PortState) → seat_of (visited_port wanted labels lane p) ≡ seat_of p
    each p = ap (λ m. record { number = p.number; role = p.role; most = m }) (step p (has_got (all_visits wanted labels lane p.expired.pipes)))
