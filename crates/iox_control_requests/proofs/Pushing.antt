-- The walk that opens a request with each server, and delivers it there, with overflow.
use Rattle.std.specs.Prelude.{◌≡◌, ℕ, ◌+◌, ◌-◌, ◌<◌, ◌≤◌, ◌^◌, true, false, List, [], ◌∷◌, ◌++◌, length, map, take, Option, Some, None, slice_get, refl}
use Rattle.std.specs.Option.{option_map, option_map_or}
use Rattle.std.proofs.Common.{sym, ap, subst, ◌∙◌, arith}
use Rattle.std.proofs.lemmas.Option.{slice_get-map}
use Rattle.iox_tables.proofs.HubBooks.Frames.{length_map, states_on_bare}
use Rattle.iox_model.specs.declared.kind.Role.TheVariants.{Server}
use Rattle.iox_model.specs.declared.way.RequestState.{RequestState}
use Rattle.iox_model.specs.declared.way.RequestState.TheVariants.{Named}
use Rattle.iox_model.specs.declared.way.Way.{Way}
use Rattle.iox_model.specs.Handles.{is_request_loan}
use Rattle.iox_model.specs.Messages.{request_way, response_way}
use Rattle.iox_lanes.specs.declared.wanted.Label.{Label}
use Rattle.iox_lanes.specs.Lanes.{IsSound, LaneState}
use Rattle.iox_tables.specs.HubStates.Changes.{OnEach, with_lanes, with_states}
use Rattle.iox_tables.specs.HubStates.Releases.{pending_states, request_of}
use Rattle.iox_tables.specs.HubStates.Sends.{with_opened}
use Rattle.iox_tables.specs.HubStates.Tables.{HandleState, PortState, labels_of, slot_at}
use Rattle.iox_tables.specs.HubStates.Ways.{OnWays, lane_on, with_lane_on, with_lanes_on, with_state_on, with_states_on}
use Rattle.iox_tables.specs.HubStates.Wirings.{IsHandle, numbers_of_role}
use Rattle.iox_tables.specs.HubBooks.Keeps.{delivers}
use Rattle.iox_tables.proofs.HubStates.Keys.{all_lanes_stay}
use Rattle.iox_hub_ports.specs.InPlace.{places_from, places_of}
use Rattle.iox_hub_ports.specs.Ports.{on_way, on_way_at, pushed, pushed_out, with_lane_at}
use Rattle.iox_hub_ports.proofs.Keeping.{states_keep_roles}
use Rattle.iox_hub_phases.proofs.Agreeing.{way_agree}
use Rattle.iox_slots.specs.Pools.{with_slot}
use Rattle.iox_slots.specs.Slots.{held}
use Rattle.iox_hub_delivering.specs.Deliveries.{HasDelivered, pushed_out_by}
use Rattle.iox_hub_delivering.specs.Steps.{EachStepDelivers, with_out}
use Rattle.iox_hub_delivering.proofs.Before.{named_stays}
use Rattle.iox_control.specs.Controls.{ControlState, IsControl, with_ports, with_tables}
use Rattle.iox_control_requests.specs.Deliveries.{CanTake, with_pushed}
use Rattle.iox_control_requests.specs.Requests.{ways_of}
use Rattle.iox_control_requests.specs.Servers.{request_ways, server_in}
use Rattle.iox_control_requests.proofs.Delivering.{IsGiven, begins, can_take, gives_one, is_taken, reached, sound_next, still_fits, within}
use Rattle.iox_control_requests.proofs.Free.{gets_are}
use Rattle.iox_control_requests.proofs.Gives.{OfLane}
use Rattle.iox_control_requests.proofs.Opened.{lanes_keep_servers, opened_is, opens_keep, same_numbers, same_ways, server_stays_then}
use Rattle.iox_control_requests.proofs.Takes.{full_out, full_takes}
use Rattle.iox_control_requests.proofs.Turned.{state_first}
use Rattle.iox_control_requests.proofs.Walks.{HasRank, as_many_servers, first_and_next, has_rank, on_server, take_all, ways_all, with_server}

states_next : (g : RequestState → RequestState) (ports : List PortState) (ws : List Way) (v : Way) → with_states_on g ports (ws ++ v ∷ []) ≡ with_state_on g (with_states_on g ports ws) v
states_next g ports [] v = refl
states_next g ports (w ∷ ws) v = states_next g (with_state_on g ports w) ws v

-- what two functions tell of a lane is the same
told_alike : (f g : LaneState → Option ℕ) (o : Option LaneState) → ((l : LaneState) → o ≡ Some l → f l ≡ g l) → option_map_or f o None ≡ option_map_or g o None
told_alike f g None same = refl
told_alike f g (Some l) same = same l refl

module _ (c : ControlState) (h : HandleState) (label : Label) where
  abbrev naming : RequestState → RequestState
  naming r = Named label.request false

  abbrev opens : List Way
  opens = map (response_way h.port label.lane) (numbers_of_role Server c.tables.ports)

  -- the request is opened with the first servers
  abbrev pub with_first_opened : ℕ → ControlState
  with_first_opened i = with_tables c (with_states naming c.tables (take i opens))

  -- with the first servers it is opened, and to them it is delivered
  abbrev pub IsPushed : ControlState → ℕ → Type 0
  IsPushed now i = IsGiven (with_first_opened i) now h true i i

  pub begins_pushed : IsPushed c 0
  begins_pushed = begins c h true

  lanes_then : (i : ℕ) → lane_on (with_first_opened i).tables.ports ≡ lane_on c.tables.ports
  lanes_then i = all_lanes_stay naming c.tables.ports (take i opens)

  ways_then : (i : ℕ) → request_ways h.port (with_first_opened i).tables.ports ≡ request_ways h.port c.tables.ports
  ways_then i = same_ways h.port naming c.tables.ports (take i opens)

  numbers_then : (i : ℕ) → numbers_of_role Server (with_first_opened i).tables.ports ≡ numbers_of_role Server c.tables.ports
  numbers_then i = same_numbers naming c.tables.ports (take i opens)

  reached_then : (j k : ℕ) → reached true (with_first_opened j).tables.ports h.port k ≡ take k (request_ways h.port c.tables.ports)
  reached_then j k =
      gets_are true (with_first_opened j).tables.ports (take k (request_ways h.port (with_first_opened j).tables.ports)) ∙ ap (take k) (ways_then j)

  each_then : (P : Way → LaneState → Type 0) (i : ℕ) → OnEach P (lane_on c.tables.ports) (request_ways h.port c.tables.ports)
      → OnEach P (lane_on (with_first_opened i).tables.ports) (request_ways h.port (with_first_opened i).tables.ports)
  each_then P i each =
      subst (λ (on : OnWays LaneState). OnEach P on (request_ways h.port (with_first_opened i).tables.ports)) (sym (lanes_then i))
      (subst (OnEach P (lane_on c.tables.ports)) (sym (ways_then i)) each)

  named_later : (i node n : ℕ) → IsHandle c.tables node n h → IsHandle (with_first_opened i).tables node n h
  named_later i node n named =
      named_stays c.tables (with_first_opened i).tables.ports c.tables.pools (states_on_bare naming c.tables.ports (take i opens)) node n h named

  pub order_later : (i : ℕ) → IsControl c → IsControl (with_first_opened i)
  order_later i order = opens_keep c naming (take i opens) order

  -- ---- one more server

  module _ (now : ControlState) (i place : ℕ) (done : IsPushed now i) (at : slice_get (places_of Server now.tables.ports) i ≡ Some place)
      (node n : ℕ) (named : IsHandle c.tables node n h) (order : IsControl c) (kind : is_request_loan h.kind ≡ true)
      (lanes : OnEach (λ w l. CanTake h.pool l) (lane_on c.tables.ports) (request_ways h.port c.tables.ports)) (steps : EachStepDelivers) where
    pub slot_taken : 0 < (slot_at now.tables.pools h.pool h.slot).holders
    slot_taken =
        is_taken (with_first_opened i) now h true i i done place at (node, n, named_later i node n named) (order_later i order).order kind
        (each_then (λ w l. CanTake h.pool l) i lanes) steps

    pub slot_fits : (slot_at now.tables.pools h.pool h.slot).holders < 2 ^ 64 - 1
    slot_fits =
        still_fits (with_first_opened i) now h true i i done place at (node, n, named_later i node n named) (order_later i order).order kind
        (each_then (λ w l. CanTake h.pool l) i lanes) steps (order_later i order).holders

    pub sound_later : OfLane now.tables.ports place h.port IsSound → OnEach (λ w l. IsSound l) (lane_on c.tables.ports) (take i (request_ways h.port c.tables.ports))
        → OnEach (λ w l. IsSound l) (lane_on c.tables.ports) (take (i + 1) (request_ways h.port c.tables.ports))
    sound_later sound before =
        subst (λ (on : OnWays LaneState). OnEach (λ w l. IsSound l) on (take (i + 1) (request_ways h.port c.tables.ports))) (lanes_then i)
        (subst (λ vs. OnEach (λ w l. IsSound l) (lane_on (with_first_opened i).tables.ports) (take (i + 1) vs)) (ways_then i)
        (sound_next (with_first_opened i) now h true i i done place at (node, n, named_later i node n named) (order_later i order).order kind
        (each_then (λ w l. CanTake h.pool l) i lanes) sound
        (subst (λ vs. OnEach (λ w l. IsSound l) (lane_on (with_first_opened i).tables.ports) (take i vs)) (sym (ways_then i))
        (subst (λ (on : OnWays LaneState). OnEach (λ w l. IsSound l) on (take i (request_ways h.port c.tables.ports))) (sym (lanes_then i)) before))))

    abbrev rank : HasRank now.tables.ports i place
    rank = has_rank now.tables.ports i place at

    abbrev server : ℕ
    server = rank.port.number

    abbrev v : Way
    v = response_way h.port label.lane server

    abbrev w : Way
    w = request_way h.port server

    abbrev deliver : LaneState → LaneState
    deliver = delivers true h.slot

    -- ---- first it is opened there

    abbrev opened_there : ControlState
    opened_there = with_ports now (with_state_on naming now.tables.ports v)

    numbers_now : numbers_of_role Server now.tables.ports ≡ numbers_of_role Server c.tables.ports
    numbers_now =
        ap (λ (d : ControlState). numbers_of_role Server d.tables.ports) done.so
        ∙ lanes_keep_servers deliver (with_first_opened i).tables.ports (reached true (with_first_opened i).tables.ports h.port i)
        ∙ numbers_then i

    one_opened : (with_first_opened (i + 1)).tables.ports ≡ with_state_on naming (with_first_opened i).tables.ports v
    one_opened =
        ap (with_states_on naming c.tables.ports)
        (first_and_next opens i v
        (slice_get-map (response_way h.port label.lane) (numbers_of_role Server c.tables.ports) i
        ∙ ap (option_map (response_way h.port label.lane)) (ap (λ ns. slice_get ns i) (sym numbers_now) ∙ rank.listed)))
        ∙ states_next naming c.tables.ports (take i opens) v

    ports_opened : with_state_on naming (with_lanes_on deliver (with_first_opened i).tables.ports (reached true (with_first_opened i).tables.ports h.port i)) v
        ≡ with_lanes_on deliver (with_first_opened (i + 1)).tables.ports (reached true (with_first_opened (i + 1)).tables.ports h.port i)
    ports_opened =
        ap (λ ws. with_state_on naming (with_lanes_on deliver (with_first_opened i).tables.ports ws) v) (reached_then i i)
        ∙ state_first h.port naming deliver label.lane server (numbers_of_role Server c.tables.ports) i (with_first_opened i).tables.ports
        ∙ ap (λ ps. with_lanes_on deliver ps (take i (request_ways h.port c.tables.ports))) (sym one_opened)
        ∙ ap (with_lanes_on deliver (with_first_opened (i + 1)).tables.ports) (sym (reached_then (i + 1) i))

    given_then : IsGiven (with_first_opened (i + 1)) opened_there h true i i
    given_then = record {
      so = ap (λ (d : ControlState). with_ports d (with_state_on naming d.tables.ports v)) done.so
          ∙ ap (λ ps. with_tables c (record (c.tables) { ports = ps; pools = now.tables.pools })) ports_opened;
      pools =
          subst (λ ws. HasDelivered true h.slot (lane_on (with_first_opened (i + 1)).tables.ports) ws c.tables.pools now.tables.pools)
          (reached_then i i ∙ sym (reached_then (i + 1) i))
          (subst (λ (on : OnWays LaneState). HasDelivered true h.slot on (reached true (with_first_opened i).tables.ports h.port i) c.tables.pools now.tables.pools)
          (lanes_then i ∙ sym (lanes_then (i + 1))) done.pools);
      counted = done.counted ∙ ap length (reached_then i i ∙ sym (reached_then (i + 1) i));
      few = omega arith;
    }

    -- ---- then it is pushed

    lanes_as_before : lane_on opened_there.tables.ports ≡ lane_on now.tables.ports
    lanes_as_before = all_lanes_stay naming now.tables.ports (v ∷ [])

    there_then : server_in opened_there.tables.ports place ≡ Some server
    there_then = server_stays_then naming now.tables.ports (v ∷ []) place ∙ rank.server

    at_then : slice_get (places_of Server opened_there.tables.ports) i ≡ Some place
    at_then = ap (λ rs. slice_get (places_from Server 0 rs) i) (states_keep_roles naming now.tables.ports (v ∷ [])) ∙ at

    its_lane : (P : LaneState → Type 0) → OfLane now.tables.ports place h.port P → (l : LaneState) → lane_on opened_there.tables.ports w ≡ Some l → P l
    its_lane P of l there = of rank.port rank.there l (ap (λ (on : OnWays LaneState). on w) (sym lanes_as_before) ∙ there)

    takes_there : OfLane now.tables.ports place h.port (CanTake h.pool)
    takes_there =
        can_take (with_first_opened i) now h true i i done place at (node, n, named_later i node n named) (order_later i order).order kind
        (each_then (λ w l. CanTake h.pool l) i lanes)

    module _ (sound : OfLane now.tables.ports place h.port IsSound) (e : ControlState) where
      ports_are : with_lane_on (λ l. pushed l h.slot) opened_there.tables.ports w ≡ with_lane_at deliver opened_there.tables.ports place h.port 0
      ports_are =
          way_agree (λ l. pushed l h.slot) deliver opened_there.tables.ports w
          (λ l there. full_takes h.pool l (its_lane IsSound sound l there) (its_lane (CanTake h.pool) takes_there l there) h.slot)
          ∙ sym (with_server deliver opened_there.tables.ports place h.port server there_then)

      out_is : on_way pushed_out None now.tables.ports w ≡ on_way_at (pushed_out_by true h.slot) None opened_there.tables.ports place h.port 0
      out_is =
          ap (λ (on : OnWays LaneState). option_map_or pushed_out (on w) None) (sym lanes_as_before)
          ∙ told_alike pushed_out (pushed_out_by true h.slot) (lane_on opened_there.tables.ports w)
          (λ l there. full_out h.pool l (its_lane IsSound sound l there) (its_lane (CanTake h.pool) takes_there l there) h.slot)
          ∙ sym (on_server (pushed_out_by true h.slot) None opened_there.tables.ports place h.port server there_then)

      pub pushes_one : ((p : PortState) → slice_get now.tables.ports place ≡ Some p → e ≡ with_pushed now p.number h label) → IsPushed e (i + 1)
      pushes_one is =
          gives_one (with_first_opened (i + 1)) opened_there h true i i given_then place at_then (node, n, named_later (i + 1) node n named)
          (order_later (i + 1) order).order kind (each_then (λ w l. CanTake h.pool l) (i + 1) lanes) steps e refl
          (is rank.port rank.there
          ∙ ap (λ ps. with_tables now (record (now.tables) { ports = ps; pools = with_out (with_slot held now.tables.pools h.pool h.slot) h.pool (on_way pushed_out None now.tables.ports w) })) ports_are
          ∙ ap (λ o. with_tables now (record (now.tables) { ports = with_lane_at deliver opened_there.tables.ports place h.port 0; pools = with_out (with_slot held now.tables.pools h.pool h.slot) h.pool o })) out_is)

  -- ---- all servers

  pub within_later : (now : ControlState) (i : ℕ) → IsPushed now i → (told : List PortState) → told ≡ now.tables.ports → i < length (places_of Server c.tables.ports)
      → i < length (places_of Server told)
  within_later now i done told same below =
      within (with_first_opened i) now h true i i done told same
      (let as_many : length (places_of Server (with_first_opened i).tables.ports) ≡ length (places_of Server c.tables.ports) =
      ap (λ rs. length (places_from Server 0 rs)) (states_keep_roles naming c.tables.ports (take i opens)) in
      omega (arith, below, as_many))

  module _ (now : ControlState) (i : ℕ) (done : IsPushed now i) (past : length (places_of Server c.tables.ports) ≤ i) (is_label : label ≡ labels_of c.tables.pools h.pool h.slot) where
    all_ways : reached true (with_first_opened i).tables.ports h.port i ≡ request_ways h.port c.tables.ports
    all_ways = reached_then i i ∙ ways_all h.port c.tables.ports i past

    all_opened : with_first_opened i ≡ with_tables c (with_opened c.tables (request_of c.tables h) (pending_states c.tables h))
    all_opened =
        ap (λ ws. with_tables c (with_states naming c.tables ws))
        (take_all opens i
        (let many : length (places_of Server c.tables.ports) ≡ length (numbers_of_role Server c.tables.ports) = as_many_servers c.tables.ports in
        let same : length opens ≡ length (numbers_of_role Server c.tables.ports) = length_map (response_way h.port label.lane) (numbers_of_role Server c.tables.ports) in
        omega (arith, past, many, same)))
        ∙ opened_is c h true (with_tables c (with_states naming c.tables opens)) label is_label refl

    pub pushes_all : now
        ≡ with_tables c
        (record (with_lanes (delivers true h.slot) (with_opened c.tables (request_of c.tables h) (pending_states c.tables h)) (ways_of c.tables h true)) { pools = now.tables.pools })
    pushes_all =
        done.so
        ∙ ap (λ ws. with_tables (with_first_opened i) (record (with_lanes (delivers true h.slot) (with_first_opened i).tables ws) { pools = now.tables.pools })) all_ways
        ∙ ap (λ (d : ControlState). with_tables d (record (with_lanes (delivers true h.slot) d.tables (request_ways h.port c.tables.ports)) { pools = now.tables.pools })) all_opened

    pub hands_to_all : HasDelivered true h.slot (lane_on c.tables.ports) (ways_of c.tables h true) c.tables.pools now.tables.pools
    hands_to_all =
        subst (λ ws. HasDelivered true h.slot (lane_on c.tables.ports) ws c.tables.pools now.tables.pools) all_ways
        (subst (λ (on : OnWays LaneState). HasDelivered true h.slot on (reached true (with_first_opened i).tables.ports h.port i) c.tables.pools now.tables.pools)
        (lanes_then i) done.pools)

  pub counts_servers : (count : ℕ) → count ≡ length (places_of Server c.tables.ports) → count ≡ length (ways_of c.tables h true)
  counts_servers count is =
      is ∙ as_many_servers c.tables.ports ∙ sym (length_map (request_way h.port) (numbers_of_role Server c.tables.ports))
