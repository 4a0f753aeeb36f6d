-- What a hub's tables keep as a request is opened, is delivered and becomes a pending response.
use Rattle.std.specs.Prelude.{◌≡◌, ℕ, ◌+◌, ◌<◌, ◌≤◌, ◌^◌, Bool, true, false, ◌||◌, if◌then◌else◌, List, [], ◌∷◌, ◌++◌, length, map, slice_get, Option, None, refl}
use Rattle.std.specs.Option.{option_map_or}
use Rattle.std.proofs.Common.{sym, ap, subst, ◌∙◌, arith}
use Rattle.iox_model.specs.declared.kind.Role.TheVariants.{Server}
use Rattle.iox_model.specs.declared.kind.Kind.TheVariants.{PendingResponse}
use Rattle.iox_model.specs.declared.way.RequestState.{RequestState}
use Rattle.iox_model.specs.declared.way.RequestState.TheVariants.{Named}
use Rattle.iox_model.specs.declared.way.Way.{Way}
use Rattle.iox_model.specs.Handles.{is_own, is_request_loan, is_response_loan, same_kind}
use Rattle.iox_model.specs.Messages.{request_way, response_way}
use Rattle.iox_lanes.specs.declared.wanted.Label.{Label}
use Rattle.iox_lanes.specs.Pipes.{with_state}
use Rattle.iox_tables.specs.HubStates.Changes.{with_lanes, with_states, OnEach}
use Rattle.iox_tables.specs.HubStates.Ends.{with_call, with_changed}
use Rattle.iox_tables.specs.HubStates.Releases.{pending_states, request_of}
use Rattle.iox_tables.specs.HubStates.Sendings.{pending_of}
use Rattle.iox_tables.specs.HubStates.Sends.{with_opened}
use Rattle.iox_model.specs.Maps.{not_in}
use Rattle.iox_tables.specs.HubStates.Steps.{full_in}
use Rattle.iox_tables.specs.HubStates.Tables.{HandleState, HubTables, PoolState, PortState, labels_of}
use Rattle.iox_tables.specs.HubStates.Ways.{OnWays, lane_on, with_lanes_on, with_pipe_of, with_state_on, with_states_on}
use Rattle.iox_tables.specs.HubStates.Wirings.{IsHandle, numbers_of_role}
use Rattle.iox_lanes.specs.Lanes.{LaneState}
use Rattle.iox_tables.proofs.HubStates.Keys.{all_lanes_stay, same_mapped}
use Rattle.iox_tables.specs.HubBooks.Keeps.{AreTargetsOf, delivers}
use Rattle.iox_tables.specs.HubBooks.Rooms.{may_come, most_holders}
use Rattle.iox_tables.proofs.HubBooks.Frames.{AreAlike, lanes_on_bare, states_on_bare}
use Rattle.iox_tables.proofs.HubBooks.Little.{little_changes_keep_order}
use Rattle.iox_tables.proofs.HubBooks.Targets.{each_has_its_targets}
use Rattle.iox_hub_delivering.specs.Counts.{AreCountedBy, NeedsAsMuch, SendsAreCounted}
use Rattle.iox_hub_delivering.specs.Deliveries.{HasDelivered}
use Rattle.iox_hub_delivering.proofs.Before.{named_stays}
use Rattle.iox_hub_delivering.proofs.Counted.{each_send_is_counted, each_send_needs_as_much}
use Rattle.iox_hub_delivering.proofs.Delivered.{delivered_requests_keep_order}
use Rattle.iox_control.specs.Controls.{AreCounted, ControlState, IsControl, with_tables}
use Rattle.iox_control.proofs.RoomLemmas.{lanes_seats, room_as, states_seats}
use Rattle.iox_control_requests.specs.Deliveries.{ways_that_get}
use Rattle.iox_control_requests.specs.Requests.{ways_of, with_request_sent}
use Rattle.iox_control_requests.specs.Servers.{request_ways, server_in}
use Rattle.iox_control_requests.proofs.Walks.{in_map, listed, server_kept, server_of, servers_first, servers_stay}
use Rattle.iox_tables.proofs.HubBooks.OneGiven.{gives_bare}

-- ---- request states change

counted_by : (t : HubTables) → AreCounted t → SendsAreCounted t.calls t.ports
counted_by t counted = each_send_is_counted t.calls t.ports (record { loans = counted.loans; deliveries = counted.deliveries })

as_much : (room m n : ℕ) → n ≡ m → m ≤ room → n ≤ room
as_much room m n same fits = omega (arith, same, fits)

as_many : (room m n : ℕ) → n ≡ m → m + room < 2 ^ 64 → n + room < 2 ^ 64
as_many room m n same fits = omega (arith, same, fits)

pub opens_keep : (c : ControlState) (g : RequestState → RequestState) (ws : List Way) → IsControl c → IsControl (with_tables c (with_states g c.tables ws))
opens_keep c g ws o =
    let s : AreCountedBy c.tables.calls (with_states_on g c.tables.ports ws) = (counted_by c.tables o.counted).opened g ws in
    let needs : NeedsAsMuch c.tables (with_states g c.tables ws) = (each_send_needs_as_much c.tables).opened g ws in record {
      order = (little_changes_keep_order c.tables o.order).0 g ws;
      counted = record { calls = o.counted.calls; ports = o.counted.ports; numbers = o.counted.numbers; loans = s.loans; deliveries = s.deliveries };
      room = as_much c.room (may_come c.tables) (may_come (with_states g c.tables ws)) needs.come o.room;
      holders = as_many c.room (most_holders c.tables) (most_holders (with_states g c.tables ws)) needs.holders o.holders;
      ports = room_as c.tables (with_states g c.tables ws) refl (states_seats g c.tables.ports ws) o.ports;
      buffers = o.buffers;
    }

-- the ways of requests stay
abbrev pub all_listed : List (Option ℕ) → List ℕ
all_listed [] = []
all_listed (o ∷ os) = listed o ++ all_listed os

pub by_servers : (ports : List PortState) → numbers_of_role Server ports ≡ all_listed (map server_of ports)
by_servers [] = refl
by_servers (p ∷ ps) = servers_first p ps ∙ ap (λ ns. listed (server_of p) ++ ns) (by_servers ps)

state_servers : (g : RequestState → RequestState) (ports : List PortState) (ws : List Way) → map server_of (with_states_on g ports ws) ≡ map server_of ports
state_servers g ports [] = refl
state_servers g ports (w ∷ ws) =
    state_servers g (with_state_on g ports w) ws
    ∙ same_mapped (λ p. p.number) (λ p. with_pipe_of (λ q. with_state g q w.lane) p w.receiver) server_of
    (server_kept (λ q. with_state g q w.lane) w.receiver) ports w.sender

pub lanes_keep_servers : (g : LaneState → LaneState) (ports : List PortState) (ws : List Way) → numbers_of_role Server (with_lanes_on g ports ws) ≡ numbers_of_role Server ports
lanes_keep_servers g ports ws = by_servers (with_lanes_on g ports ws) ∙ ap all_listed (servers_stay g ports ws) ∙ sym (by_servers ports)

pub same_numbers : (g : RequestState → RequestState) (ports : List PortState) (ws : List Way) → numbers_of_role Server (with_states_on g ports ws) ≡ numbers_of_role Server ports
same_numbers g ports ws = by_servers (with_states_on g ports ws) ∙ ap all_listed (state_servers g ports ws) ∙ sym (by_servers ports)

pub server_stays_then : (g : RequestState → RequestState) (ports : List PortState) (ws : List Way) (i : ℕ) → server_in (with_states_on g ports ws) i ≡ server_in ports i
server_stays_then g ports ws i =
    in_map (with_states_on g ports ws) i ∙ ap (λ (ns : List (Option ℕ)). option_map_or (λ r. r) (slice_get ns i) None) (state_servers g ports ws) ∙ sym (in_map ports i)

pub same_ways : (client : ℕ) (g : RequestState → RequestState) (ports : List PortState) (ws : List Way) → request_ways client (with_states_on g ports ws) ≡ request_ways client ports
same_ways client g ports ws =
    ap (map (request_way client)) (same_numbers g ports ws)

-- ---- the send of a request

module _ (c : ControlState) (h : HandleState) (overflow : Bool) where
  abbrev id : ℕ
  id = request_of c.tables h

  abbrev opens : List Way
  opens = pending_states c.tables h

  abbrev opened : HubTables
  opened = with_opened c.tables id opens

  pub same_lanes : lane_on opened.ports ≡ lane_on c.tables.ports
  same_lanes = all_lanes_stay (λ r. Named id false) c.tables.ports opens

  pub ways_stay : request_ways h.port opened.ports ≡ request_ways h.port c.tables.ports
  ways_stay = same_ways h.port (λ r. Named id false) c.tables.ports opens

  same_get : (on on' : OnWays LaneState) (ws : List Way) → on ≡ on' → (ports ports' : List PortState) → lane_on ports ≡ on → lane_on ports' ≡ on'
      → ways_that_get overflow ports ws ≡ ways_that_get overflow ports' ws
  same_get on on' ws e ports ports' a b =
      ap (λ (o : OnWays LaneState). if overflow then ws else not_in (full_in o ws []) ws) (a ∙ e ∙ sym b)

  pub get_stays : ways_that_get overflow opened.ports (request_ways h.port opened.ports) ≡ ways_of c.tables h overflow
  get_stays =
      ap (ways_that_get overflow opened.ports) ways_stay
      ∙ same_get (lane_on opened.ports) (lane_on c.tables.ports) (request_ways h.port c.tables.ports) same_lanes opened.ports c.tables.ports refl refl

  pub named_then : (node n : ℕ) → IsHandle c.tables node n h → IsHandle opened node n h
  named_then node n named = named_stays c.tables opened.ports c.tables.pools (states_on_bare (λ r. Named id false) c.tables.ports opens) node n h named

  pub each_stays : (P : Way → LaneState → Type 0) → OnEach P (lane_on c.tables.ports) (request_ways h.port c.tables.ports)
      → OnEach P (lane_on opened.ports) (request_ways h.port opened.ports)
  each_stays P each =
      subst (λ (on : OnWays LaneState). OnEach P on (request_ways h.port opened.ports)) (sym same_lanes)
      (subst (OnEach P (lane_on c.tables.ports)) (sym ways_stay) each)

  pub each_stayed : (P : Way → LaneState → Type 0) → OnEach P (lane_on opened.ports) (request_ways h.port opened.ports)
      → OnEach P (lane_on c.tables.ports) (request_ways h.port c.tables.ports)
  each_stayed P each =
      subst (λ (on : OnWays LaneState). OnEach P on (request_ways h.port c.tables.ports)) same_lanes
      (subst (OnEach P (lane_on opened.ports)) ways_stay each)

  -- what is left at the end
  abbrev at_end : HubTables → ℕ → List (Option PoolState) → HubTables
  at_end t count pools =
      record (with_call (with_changed (with_lanes (delivers overflow h.slot) t (ways_of c.tables h overflow)) (pending_of h count))) { pools = pools }

  pub delivered_is : (c2 c3 : ControlState) → c2 ≡ with_tables c opened
      → c3 ≡ with_tables c2 (record (with_lanes (delivers overflow h.slot) c2.tables (ways_that_get overflow c2.tables.ports (request_ways h.port c2.tables.ports))) { pools = c3.tables.pools })
      → c3 ≡ with_tables c (record (with_lanes (delivers overflow h.slot) opened (ways_of c.tables h overflow)) { pools = c3.tables.pools })
  delivered_is c2 c3 first second =
      second
      ∙ ap (λ (d : ControlState). with_tables d (record (with_lanes (delivers overflow h.slot) d.tables (ways_that_get overflow d.tables.ports (request_ways h.port d.tables.ports))) { pools = c3.tables.pools })) first
      ∙ ap (λ ws. with_tables c (record (with_lanes (delivers overflow h.slot) opened ws) { pools = c3.tables.pools })) get_stays

  pub count_is : (c2 : ControlState) (count : ℕ) → c2 ≡ with_tables c opened
      → count ≡ length (ways_that_get overflow c2.tables.ports (request_ways h.port c2.tables.ports)) → count ≡ length (ways_of c.tables h overflow)
  count_is c2 count first counts =
      counts ∙ ap (λ (d : ControlState). length (ways_that_get overflow d.tables.ports (request_ways h.port d.tables.ports))) first ∙ ap length get_stays

  pub sent_is : (c3 c4 : ControlState) (count : ℕ)
      → c3 ≡ with_tables c (record (with_lanes (delivers overflow h.slot) opened (ways_of c.tables h overflow)) { pools = c3.tables.pools })
      → count ≡ length (ways_of c.tables h overflow)
      → c4 ≡ with_tables c3 (with_call (with_changed c3.tables (pending_of h count)))
      → (c4 ≡ with_tables c (record (with_request_sent c.tables h overflow) { pools = c4.tables.pools })) × (c4.tables.pools ≡ c3.tables.pools)
  sent_is c3 c4 count second counted third =
      let pools : c4.tables.pools ≡ c3.tables.pools = ap (λ (d : ControlState). d.tables.pools) third in (
        third
            ∙ ap (λ (d : ControlState). with_tables d (with_call (with_changed d.tables (pending_of h count)))) second
            ∙ ap (λ m. with_tables c (at_end opened m c3.tables.pools)) counted
            ∙ ap (λ ps. with_tables c (at_end opened (length (ways_of c.tables h overflow)) ps)) (sym pools),
        pools,
      )

  pub holders_are : (c2 c3 : ControlState) → c2 ≡ with_tables c opened
      → HasDelivered overflow h.slot (lane_on c2.tables.ports) (ways_that_get overflow c2.tables.ports (request_ways h.port c2.tables.ports)) c2.tables.pools c3.tables.pools
      → HasDelivered overflow h.slot (lane_on c.tables.ports) (ways_of c.tables h overflow) c.tables.pools c3.tables.pools
  holders_are c2 c3 first has =
      subst (λ (on : OnWays LaneState). HasDelivered overflow h.slot on (ways_of c.tables h overflow) c.tables.pools c3.tables.pools) same_lanes
      (subst (λ ws. HasDelivered overflow h.slot (lane_on opened.ports) ws c.tables.pools c3.tables.pools) get_stays
      (subst (λ (d : ControlState). HasDelivered overflow h.slot (lane_on d.tables.ports) (ways_that_get overflow d.tables.ports (request_ways h.port d.tables.ports)) d.tables.pools c3.tables.pools) first has))

  pub opened_is : (c2 : ControlState) (l : Label) → l ≡ labels_of c.tables.pools h.pool h.slot
      → c2 ≡ with_tables c (with_states (λ r. Named l.request false) c.tables (map (response_way h.port l.lane) (numbers_of_role Server c.tables.ports)))
      → c2 ≡ with_tables c opened
  opened_is c2 l label is =
      is ∙ ap (λ (k : Label). with_tables c (with_states (λ r. Named k.request false) c.tables (map (response_way h.port k.lane) (numbers_of_role Server c.tables.ports)))) label

  module _ (node n : ℕ) (order : IsControl c) (few : c.tables.calls ≤ 2 ^ 56) (named : IsHandle c.tables node n h) (kind : is_request_loan h.kind ≡ true)
      (pools : List (Option PoolState)) (delivered : HasDelivered overflow h.slot (lane_on c.tables.ports) (ways_of c.tables h overflow) c.tables.pools pools) where
    abbrev ws : List Way
    ws = ways_of c.tables h overflow

    targets : AreTargetsOf opened h ws
    targets = step overflow
      where
        all : AreTargetsOf opened h (request_ways h.port opened.ports)
        all = (each_has_its_targets opened node n h (opens_keep c (λ r. Named id false) opens order).order (named_then node n named)).requests kind

        all' : AreTargetsOf opened h (request_ways h.port c.tables.ports)
        all' = subst (AreTargetsOf opened h) ways_stay all

        step : (b : Bool) → AreTargetsOf opened h (ways_that_get b c.tables.ports (request_ways h.port c.tables.ports))
        step true = all'
        step false =
            (each_has_its_targets opened node n h (opens_keep c (λ r. Named id false) opens order).order (named_then node n named)).left
            (full_in (lane_on c.tables.ports) (request_ways h.port c.tables.ports) []) (request_ways h.port c.tables.ports) all'

    is_own_then : is_own h.kind ≡ true
    is_own_then = ap (λ b. b || (is_response_loan h.kind || same_kind h.kind PendingResponse)) kind

    abbrev given : HubTables
    given = with_lanes (delivers overflow h.slot) opened ws

    abbrev count : ℕ
    count = length ws

    abbrev left : HubTables
    left = at_end opened count pools

    needs_lanes : NeedsAsMuch opened given
    needs_lanes = (each_send_needs_as_much opened).delivered overflow h.slot ws

    needs_handle : NeedsAsMuch given (with_changed given (pending_of h count))
    needs_handle =
        (each_send_needs_as_much given).pending node n h count
        (named_stays opened given.ports opened.pools (lanes_alike) node n h (named_then node n named)) is_own_then
      where
        lanes_alike : AreAlike opened.ports given.ports
        lanes_alike = lanes_on_bare (delivers overflow h.slot) (gives_bare overflow h.slot) opened.ports ws

    pub sent_keeps : IsControl (with_tables c left)
    sent_keeps =
        let o : IsControl (with_tables c opened) = opens_keep c (λ r. Named id false) opens order in
        let s : AreCountedBy (c.tables.calls + 1) given.ports = (counted_by opened o.counted).delivered overflow h.slot ws targets.apart in
        let come : may_come left ≡ may_come opened = needs_handle.come ∙ needs_lanes.come in
        let most : most_holders left ≡ most_holders opened = needs_handle.holders ∙ needs_lanes.holders in record {
          order =
              (little_changes_keep_order (record (with_changed given (pending_of h count)) { pools = pools })
              (delivered_requests_keep_order opened node n h overflow ws count pools o.order (named_then node n named) kind targets
              (subst (λ (on : OnWays LaneState). HasDelivered overflow h.slot on ws c.tables.pools pools) (sym same_lanes) delivered))).2;
          counted = record {
            calls = omega (arith, few);
            ports = o.counted.ports;
            numbers = let numbers = o.counted.numbers in omega (arith, numbers);
            loans = s.loans;
            deliveries = s.deliveries;
          };
          room = as_much c.room (may_come opened) (may_come left) come o.room;
          holders = as_many c.room (most_holders opened) (most_holders left) most o.holders;
          ports = room_as opened left refl (lanes_seats (delivers overflow h.slot) opened.ports ws) o.ports;
          buffers = o.buffers;
        }
