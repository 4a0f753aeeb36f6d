-- What changes of lanes and request states show, of all tables.
use Rattle.std.specs.Prelude.{◌≡◌, ℕ, Bool, true, false, not, ◌||◌, if◌then◌else◌, ◌==◌, nat_lt, List, [], ◌∷◌, length, map, Option, Some, None, is_some, refl}
use Rattle.std.specs.List.{list_any}
use Rattle.std.specs.Option.{option_map, option_map_or}
use Rattle.std.proofs.Common.{sym, ap, ap₂, ◌∙◌}
use Rattle.iox_model.specs.declared.way.Way.{Way}
use Rattle.iox_model.specs.declared.way.RequestState.{RequestState}
use Rattle.iox_model.specs.declared.way.RequestState.TheVariants.{Named}
use Rattle.iox_model.specs.Maps.{same_way, is_empty}
use Rattle.iox_model.specs.Messages.{closed_for, hinted_for}
use Rattle.iox_model.specs.Peers.{is_connected_port}
use Rattle.iox_model.specs.States as m
use Rattle.iox_laws.specs.CallFunctions.Sends.{full_of}
use Rattle.iox_lanes.specs.Lanes.{LaneState, delivered, has_waiting, is_full, without_oldest}
use Rattle.iox_lanes.specs.Pipes.{PipeState, with_lane, with_state}
use Rattle.iox_tables.specs.HubStates.Tables.{HubTables, PortState, port_in}
use Rattle.iox_tables.specs.HubStates.Ways.{OnWays, at, at_each, lane_on, state_on, with_lane_on, with_pipe_of, with_state_on}
use Rattle.iox_tables.specs.HubStates.Shown.{MessagesByPlace, borrowed_in, shown, waiting_in}
use Rattle.iox_tables.specs.HubStates.States.{Given, fixed_of, message_of, port_of, state_shown}
use Rattle.iox_tables.specs.HubStates.Changes.{emptied_lane, pushed_lane, with_lanes, with_states, OnEach}
use Rattle.iox_tables.specs.HubStates.Steps.{ClosesAreShown, DeliveriesAreShown, EmptyingIsShown, FullIsShown, HintsAreShown, IsOpenTo, IsOpenToNew, IsOpenable, OneLaneIsOneWay, OneStateIsOneWay, OpensAreShown, PushesAreShown, WaitingIsShown, is_there}
use Rattle.iox_tables.proofs.HubStates.Fixing.{Leaves, buffer_is, fixed_left}
use Rattle.iox_tables.proofs.HubStates.Keys.{all_lanes_stay, all_states_stay, at_is, lane_sender, lane_turned, lanes_stay, lanes_turned, port_shows, same_expired, same_number, state_sender, state_turned, states_stay, states_turned}
use Rattle.iox_tables.proofs.HubStates.Phases.{MayPush, closes_all, delivers_all, empties_all, full_is, hints_all, opens_all, pushes_all}

pub one_lane_is_one_way : OneLaneIsOneWay
one_lane_is_one_way g ports w = (lane_turned g ports w, states_stay g ports w)

pub one_state_is_one_way : OneStateIsOneWay
one_state_is_one_way g ports w = (state_turned g ports w, lanes_stay g ports w)

-- ---- ports, handles and counts stay

module _ (h : PipeState → PipeState) (keeps : (q : PipeState) → (h q).sender ≡ q.sender) (sender : ℕ) where
  pub pipe_leaves : Leaves (λ p. with_pipe_of h p sender)
  pipe_leaves = record {
    number = λ p. same_number h keeps sender p;
    port = λ x p. port_shows h keeps (port_of x) p sender (λ ps. refl) (λ ps. refl);
    loans = λ p. port_shows h keeps (λ q. q.loans) p sender (λ ps. refl) (λ ps. refl);
    expired = λ p. same_expired h keeps sender p;
  }

-- a change of a lane leaves what its receiver has
abbrev pub KeepsTaken : (LaneState → LaneState) → Type 0
KeepsTaken g = (l : LaneState) → length (g l).taken ≡ length l.taken

same_count : (g : LaneState → LaneState) → KeepsTaken g → (lanes : OnWays LaneState) (w : Way) → borrowed_in (at g lanes w) ≡ borrowed_in lanes
same_count g keeps lanes w = λ i v. (ap (λ o. option_map_or (λ l. length l.taken) o 0) (at_is g lanes w v) ∙ step (same_way v w) (lanes v)) i
  where
    step : (b : Bool) (o : Option LaneState) → option_map_or (λ l. length l.taken) (if b then option_map g o else o) 0 ≡ option_map_or (λ l. length l.taken) o 0
    step true (Some l) = keeps l
    step true None = refl
    step false o = refl

pub lanes_fixed : (g : LaneState → LaneState) → KeepsTaken g → (x : Given) (t : HubTables) (ws : List Way) → fixed_of x (with_lanes g t ws) ≡ fixed_of x t
lanes_fixed g keeps x t [] = refl
lanes_fixed g keeps x t (w ∷ ws) =
    lanes_fixed g keeps x (record t { ports = with_lane_on g t.ports w }) ws
    ∙ fixed_left (λ p. with_pipe_of (λ q. with_lane g q w.lane) p w.sender) (pipe_leaves (λ q. with_lane g q w.lane) (lane_sender g w.lane) w.sender) x t w.receiver
    ∙ ap (λ b. record (fixed_of x t) { borrowed = b }) (ap borrowed_in (lane_turned g t.ports w) ∙ same_count g keeps (lane_on t.ports) w)

pub states_fixed : (g : RequestState → RequestState) (x : Given) (t : HubTables) (ws : List Way) → fixed_of x (with_states g t ws) ≡ fixed_of x t
states_fixed g x t [] = refl
states_fixed g x t (w ∷ ws) =
    states_fixed g x (record t { ports = with_state_on g t.ports w }) ws
    ∙ fixed_left (λ p. with_pipe_of (λ q. with_state g q w.lane) p w.receiver) (pipe_leaves (λ q. with_state g q w.lane) (state_sender g w.lane) w.receiver) x t w.sender
    ∙ ap (λ b. record (fixed_of x t) { borrowed = b }) (ap borrowed_in (lanes_stay g t.ports w))

-- what tables show once lanes changed
pub lanes_shown : (g : LaneState → LaneState) → KeepsTaken g → (x : Given) (t : HubTables) (ws : List Way)
    → state_shown x (with_lanes g t ws) ≡ shown x.members (fixed_of x t) (message_of x t.pools) (at_each g (lane_on t.ports) ws) (state_on t.ports)
lanes_shown g keeps x t ws = λ i.
    shown x.members (lanes_fixed g keeps x t ws i) (message_of x t.pools) (lanes_turned g t.ports ws i) (all_states_stay g t.ports ws i)

-- and request states
pub states_shown : (g : RequestState → RequestState) (x : Given) (t : HubTables) (ws : List Way)
    → state_shown x (with_states g t ws) ≡ shown x.members (fixed_of x t) (message_of x t.pools) (lane_on t.ports) (at_each g (state_on t.ports) ws)
states_shown g x t ws = λ i.
    shown x.members (states_fixed g x t ws i) (message_of x t.pools) (all_lanes_stay g t.ports ws i) (states_turned g t.ports ws i)

-- ---- what is so of each way

pub on_each : {A : Type 0} (P Q : Way → A → Type 0) (on : OnWays A) → ((w : Way) (a : A) → P w a → Q w a) → (ws : List Way) → OnEach P on ws → OnEach Q on ws
on_each P Q on f [] has = tt
on_each P Q on f (w ∷ ws) has = ((has.0.0, has.0.1, f w has.0.0 has.0.2), on_each P Q on f ws has.1)

pub connected_is : (x : Given) (ports : List PortState) (n : ℕ) → list_any (λ (p : m.Port). p.number == n) (map (port_of x) ports) ≡ is_there ports n
connected_is x [] n = refl
connected_is x (p ∷ ps) n = step (p.number == n) (connected_is x ps n)
  where
    step : (b : Bool) → list_any (λ (p : m.Port). p.number == n) (map (port_of x) ps) ≡ is_there ps n
        → (b || list_any (λ (p : m.Port). p.number == n) (map (port_of x) ps)) ≡ is_some (if b then Some p else port_in ps n)
    step true e = refl
    step false e = e

-- ---- the steps of a sender

pub emptying_is_shown : EmptyingIsShown
emptying_is_shown x t ws once =
    lanes_shown emptied_lane (λ l. refl) x t ws
    ∙ empties_all x.members (fixed_of x t) (message_of x t.pools) (state_on t.ports) (lane_on t.ports) ws once

pub deliveries_are_shown : DeliveriesAreShown
deliveries_are_shown x t pool k ws apart has =
    lanes_shown (λ l. delivered l k) (λ l. refl) x t ws
    ∙ delivers_all x.members (fixed_of x t) (message_of x t.pools) (state_on t.ports) (lane_on t.ports) pool k ws apart
    (on_each (IsOpenTo t pool) (λ w l. (l.pool ≡ pool) × (is_connected_port (fixed_of x t) w.sender ≡ true)) (lane_on t.ports)
    (λ w l may. (may.of_pool, connected_is x t.ports w.sender ∙ may.sender)) ws has)

pub push_keeps : (k : ℕ) → KeepsTaken (pushed_lane k)
push_keeps k l = step (nat_lt l.buffer (length (delivered l k).waiting))
  where
    step : (b : Bool) → length (if b then without_oldest (delivered l k) else delivered l k).taken ≡ length l.taken
    step true = refl
    step false = refl

pub pushes_are_shown : PushesAreShown
pushes_are_shown x t pool k ws apart has =
    lanes_shown (pushed_lane k) (push_keeps k) x t ws
    ∙ pushes_all x.members (fixed_of x t) (message_of x t.pools) (state_on t.ports) (lane_on t.ports) pool k ws apart
    (on_each (IsOpenToNew x t pool k) (MayPush x.members (fixed_of x t) (message_of x t.pools) pool k) (lane_on t.ports)
    (λ w l may. record {
      of_pool = may.open_to.of_pool;
      counts = connected_is x t.ports w.sender ∙ may.open_to.sender;
      buffer = may.open_to.buffer ∙ sym (buffer_is x t w);
      once = may.once;
    }) ws has)

pub full_is_shown : FullIsShown
full_is_shown x t pool [] full has = refl
full_is_shown x t pool (w ∷ ws) full has =
    ap (λ b. full_of (state_shown x t) ws (if b then w ∷ full else full))
    (full_is x.members (fixed_of x t) (message_of x t.pools) (state_on t.ports) (lane_on t.ports) w has.0.0 has.0.1 (has.0.2.buffer ∙ sym (buffer_is x t w))
    ∙ sym (ap (λ o. option_map_or is_full o true) has.0.1))
    ∙ full_is_shown x t pool ws (if option_map_or is_full (lane_on t.ports w) true then w ∷ full else full) has.1

-- ---- request states

pub opens_are_shown : OpensAreShown
opens_are_shown x t id ws apart has =
    states_shown (λ r. Named id false) x t ws
    ∙ opens_all x.members (fixed_of x t) (message_of x t.pools) (lane_on t.ports) (state_on t.ports) id ws apart
    (on_each (IsOpenable t) (λ w r. is_connected_port (fixed_of x t) w.receiver ≡ true) (state_on t.ports)
    (λ w r may. connected_is x t.ports w.receiver ∙ may) ws has)

pub closes_are_shown : ClosesAreShown
closes_are_shown x t id ws =
    states_shown (λ r. closed_for r id) x t ws
    ∙ closes_all x.members (fixed_of x t) (message_of x t.pools) (lane_on t.ports) (state_on t.ports) id ws

pub hints_are_shown : HintsAreShown
hints_are_shown x t id ws =
    states_shown (λ r. hinted_for r id) x t ws
    ∙ hints_all x.members (fixed_of x t) (message_of x t.pools) (lane_on t.ports) (state_on t.ports) id ws

-- ---- questions

pub waiting_is_shown : WaitingIsShown
waiting_is_shown x t [] = refl
waiting_is_shown x t (w ∷ ws) = ap₂ (λ a b. a || b) (step (lane_on t.ports w)) (waiting_is_shown x t ws)
  where
    lines : (f : MessagesByPlace) (pool : ℕ) (ks : List ℕ) → not (is_empty (map (f pool) ks)) ≡ not (is_empty ks)
    lines f pool [] = refl
    lines f pool (k ∷ ks) = refl

    step : (o : Option LaneState) → not (is_empty (option_map_or (waiting_in (message_of x t.pools)) o [])) ≡ option_map_or has_waiting o false
    step (Some l) = lines (message_of x t.pools) l.pool l.waiting
    step None = refl
