-- The releases of handles keep the tables of a hub in order.
use Rattle.std.specs.Prelude.{◌≡◌, ℕ, ◌+◌, ◌≤◌, Bool, true, false, ◌&&◌, if◌then◌else◌, ◌==◌, List, [], ◌∷◌, Option, Some, None, slice_get, slice_set, refl}
use Rattle.std.specs.Option.{option_map, option_map_or}
use Rattle.std.proofs.Common.{sym, ap, ap₂, subst, ◌∙◌, arith, inl, inr}
use Rattle.std.proofs.lemmas.Option.{none-some}
use Rattle.iox_model.specs.declared.way.RequestState.{RequestState}
use Rattle.iox_model.specs.declared.way.Way.{Way}
use Rattle.iox_model.specs.Handles.{is_received}
use Rattle.iox_model.specs.Maps.{same_way}
use Rattle.iox_model.specs.Messages.{closed_for}
use Rattle.iox_laws.proofs.WeaveLaws.MapLemmas.{eqb-refl, same_way-true}
use Rattle.iox_lanes.specs.Lanes.{LaneState, is_taken, rank_in, released, with_returned, without_taken}
use Rattle.iox_lanes.specs.Pipes.{PipeState, with_state}
use Rattle.std.specs.List.{swap_remove}
use Rattle.iox_tables.specs.HubStates.Tables.{HandleState, HubTables, PortState, pipe_from, pipes_of, port_in}
use Rattle.iox_tables.specs.HubStates.Ways.{lane_on, with_lane_on, with_pipe_of, with_state_on, with_states_on}
use Rattle.iox_tables.specs.HubStates.Releases.{IsHeldOn, pending_states, request_of}
use Rattle.iox_tables.specs.HubStates.Shown.{by_lane}
use Rattle.iox_tables.specs.HubStates.Steps.{places_on}
use Rattle.iox_tables.specs.HubStates.Wirings.{IsHandle}
use Rattle.iox_tables.proofs.HubStates.Keys.{all_lanes_stay, at_is, flip, lane_turned}
use Rattle.iox_tables.specs.HubBooks.Counts.{OfAllLanes, how_often, in_pipe, in_port, is_at, lane_count, on_lanes, total}
use Rattle.iox_tables.specs.HubBooks.Handles.{is_from, way_in}
use Rattle.iox_tables.specs.HubBooks.Hubs.{AreInOrder, HasEachPlaceOnce}
use Rattle.iox_tables.specs.HubBooks.Keeps.{LoanReleasesKeepOrder, PendingReleasesKeepOrder, RequestReleasesKeepOrder, ResponseReleasesKeepOrder}
use Rattle.iox_tables.proofs.HubBooks.Eachs.{OfPipe, OfPort, all_with_first, lane_keeps, port_keeps}
use Rattle.iox_tables.proofs.HubBooks.Frames.{bare_lane, lane_on_bare, states_on_bare}
use Rattle.iox_tables.proofs.HubBooks.Held.{held_on}
use Rattle.iox_tables.proofs.HubBooks.LaneCounts.{fewer_taken, on_places}
use Rattle.iox_tables.proofs.HubBooks.LaneLists.{lanes_same}
use Rattle.iox_tables.proofs.HubBooks.LaneTotals.{port_no_pipe, port_pipe}
use Rattle.iox_tables.proofs.HubBooks.Release.{GaveBack, kept}
use Rattle.iox_tables.proofs.HubBooks.Totals.{first_none, total-last, total_first}

plus_none : (n : ℕ) → n + 0 ≡ n
plus_none n = omega arith

-- ---- a lane gives one back

without_shows : {B : Type 0} (show : LaneState → B) (l : LaneState) (k : ℕ) → ((ks : List ℕ) → show (record l { taken = ks }) ≡ show l) → show (without_taken l k) ≡ show l
without_shows show l k same = step (rank_in l.taken k)
  where
    step : (o : Option ℕ) → show (option_map_or (λ i. record l { taken = swap_remove l.taken i k }) o l) ≡ show l
    step (Some i) = same (swap_remove l.taken i k)
    step None = refl

released_bare : (k : ℕ) (l : LaneState) → bare_lane (released l k) ≡ bare_lane l
released_bare k l = step (is_taken l k)
  where
    step : (b : Bool) → bare_lane (if b then with_returned (without_taken l k) k else l) ≡ bare_lane l
    step true = without_shows bare_lane l k (λ ks. refl)
    step false = refl

released_places : (f : ℕ → ℕ) (k : ℕ) (l : LaneState) → total f (places_on (released l k)) ≡ total f (places_on l)
released_places f k l = step (is_taken l k) refl
  where
    moved : is_taken l k ≡ true → total f (places_on (with_returned (without_taken l k) k)) ≡ total f (places_on l)
    moved e =
        let new = on_places f (with_returned (without_taken l k) k) in
        let old = on_places f l in
        let back = total-last f (without_taken l k).returned k in
        let same : total f (without_taken l k).returned ≡ total f l.returned = ap (total f) (without_shows (λ m. m.returned) l k (λ ks. refl)) in
        let waits : total f (without_taken l k).waiting ≡ total f l.waiting = ap (total f) (without_shows (λ m. m.waiting) l k (λ ks. refl)) in
        let fewer = fewer_taken f l k e in omega (arith, new, old, back, same, waits, fewer)

    step : (b : Bool) → is_taken l k ≡ b → total f (places_on (if b then with_returned (without_taken l k) k else l)) ≡ total f (places_on l)
    step true e = moved e
    step false e = refl

released_taken : (f : ℕ → ℕ) (k : ℕ) (l : LaneState) → is_taken l k ≡ true → total f (released l k).taken + f k ≡ total f l.taken
released_taken f k l e = ap (λ (b : Bool). total f (if b then with_returned (without_taken l k) k else l).taken + f k) e ∙ fewer_taken f l k e

released_count : (pool j k : ℕ) (l : LaneState) → lane_count pool j (released l k) ≡ lane_count pool j l
released_count pool j k l =
    ap₂ (λ (p n : ℕ). if p == pool then n else 0) (ap (λ (m : LaneState). m.pool) (released_bare k l)) (released_places (λ n. if n == j then 1 else 0) k l)

-- ---- request states change nothing of lanes

module _ (g : RequestState → RequestState) where
  state_pipe : (f : LaneState → ℕ) (q : PipeState) (i : ℕ) → in_pipe f (with_state g q i) ≡ in_pipe f q
  state_pipe f q i = step (slice_get q.states i)
    where
      step : (o : Option RequestState) → in_pipe f (option_map_or (λ r. record q { states = slice_set q.states i (g r) }) o q) ≡ in_pipe f q
      step (Some r) = refl
      step None = refl

  state_port : (f : LaneState → ℕ) (p : PortState) (s i : ℕ) → in_port f (with_pipe_of (λ q. with_state g q i) p s) ≡ in_port f p
  state_port f p s i = step (pipe_from (pipes_of p) s) refl
    where
      step : (o : Option PipeState) → pipe_from (pipes_of p) s ≡ o → in_port f (with_pipe_of (λ q. with_state g q i) p s) ≡ in_port f p
      step (Some q) e = let all = port_pipe f (λ q. with_state g q i) p s q e in let same = state_pipe f q i in omega (arith, all, same)
      step None e = ap (in_port f) (port_no_pipe f (λ q. with_state g q i) p s e)

  pub states_total : (f : LaneState → ℕ) (ports : List PortState) (ws : List Way) → on_lanes f (with_states_on g ports ws) ≡ on_lanes f ports
  states_total f ports [] = refl
  states_total f ports (w ∷ ws) = states_total f (with_state_on g ports w) ws ∙ step (port_in ports w.sender) refl
    where
      step : (o : Option PortState) → port_in ports w.sender ≡ o → on_lanes f (with_state_on g ports w) ≡ on_lanes f ports
      step (Some p) e =
          let all = total_first (λ x. x.number) (λ x. with_pipe_of (λ q. with_state g q w.lane) x w.receiver) (in_port f) ports w.sender p e in
          let same = state_port f p w.receiver w.lane in omega (arith, all, same)
      step None e = ap (on_lanes f) (first_none (λ x. x.number) (λ x. with_pipe_of (λ q. with_state g q w.lane) x w.receiver) ports w.sender e)

  pub states_keep : (P : LaneState → Type 0) (ports : List PortState) (ws : List Way) → OfAllLanes P ports → OfAllLanes P (with_states_on g ports ws)
  states_keep P ports [] a = a
  states_keep P ports (w ∷ ws) a =
      states_keep P (with_state_on g ports w) ws
      (all_with_first (OfPort P) (λ p. p.number) (λ p. with_pipe_of (λ q. with_state g q w.lane) p w.receiver) ports w.sender
      (λ p b. port_keeps P (λ q. with_state g q w.lane) p w.receiver (λ q c. pipe q c) b) a)
    where
      pipe : (q : PipeState) → OfPipe P q → OfPipe P (with_state g q w.lane)
      pipe q c = step (slice_get q.states w.lane)
        where
          step : (o : Option RequestState) → OfPipe P (option_map_or (λ r. record q { states = slice_set q.states w.lane (g r) }) o q)
          step (Some r) = c
          step None = c

  pub states_too : (t : HubTables) (h : HandleState) (ports : List PortState) (ws : List Way) → GaveBack t h ports → GaveBack t h (with_states_on g ports ws)
  states_too t h ports ws gave = record {
    alike = states_on_bare g ports ws ∙ gave.alike;
    lanes = λ pool k. states_total (lane_count pool k) ports ws ∙ gave.lanes pool k;
    once = states_keep HasEachPlaceOnce ports ws gave.once;
    places = λ w k. ap (λ on. by_lane (λ l. how_often k (places_on l)) 0 on w) (all_lanes_stay g ports ws) ∙ gave.places w k;
    taken = λ w l k at.
        ap (λ on. by_lane (λ (m : LaneState). how_often k m.taken) 0 on w + (if is_from t.pools w l.pool k h then 1 else 0)) (all_lanes_stay g ports ws) ∙ gave.taken w l k at;
  }

-- ---- what a release does to ports

module _ (t : HubTables) (order : AreInOrder t) (node n : ℕ) (h : HandleState) (named : IsHandle t node n h) where
  -- what was not received is not given back
  pub not_received : is_received h.kind ≡ false → GaveBack t h t.ports
  not_received not = record {
    alike = refl;
    lanes = λ pool k. refl;
    once = order.once;
    places = λ w k. refl;
    taken = λ w l k at.
        ap₂ (λ (o : Option LaneState) (b : Bool). option_map_or (λ m. how_often k m.taken) o 0 + (if b && (same_way (way_in t.pools h) w && is_at l.pool k h) then 1 else 0)) at not
        ∙ plus_none (how_often k l.taken);
  }

  module _ (received : is_received h.kind ≡ true) where
    abbrev the_way : Way
    the_way = way_in t.pools h

    abbrev new_ports : List PortState
    new_ports = with_lane_on (λ l. released l h.slot) t.ports the_way

    turned : (w : Way) → lane_on new_ports w ≡ (if same_way w the_way then option_map (λ l. released l h.slot) (lane_on t.ports w) else lane_on t.ports w)
    turned w = ap (λ on. on w) (lane_turned (λ l. released l h.slot) t.ports the_way) ∙ at_is (λ l. released l h.slot) (lane_on t.ports) the_way w

    places : (w : Way) (k : ℕ) → by_lane (λ l. how_often k (places_on l)) 0 (lane_on new_ports) w ≡ by_lane (λ l. how_often k (places_on l)) 0 (lane_on t.ports) w
    places w k = ap (λ o. option_map_or (λ l. how_often k (places_on l)) o 0) (turned w) ∙ step (same_way w the_way) (lane_on t.ports w)
      where
        step : (b : Bool) (o : Option LaneState)
            → option_map_or (λ l. how_often k (places_on l)) (if b then option_map (λ l. released l h.slot) o else o) 0 ≡ option_map_or (λ l. how_often k (places_on l)) o 0
        step true (Some l) = released_places (λ n. if n == k then 1 else 0) h.slot l
        step true None = refl
        step false o = refl

    flipped : (w : Way) → same_way the_way w ≡ same_way w the_way
    flipped w =
        ap₂ (λ a b. a && b) (flip the_way.sender w.sender) (ap₂ (λ a b. a && b) (flip the_way.receiver w.receiver) (flip the_way.lane w.lane))

    held_lane : (l : LaneState) → lane_on t.ports the_way ≡ Some l → (l.pool ≡ h.pool) × (is_taken l h.slot ≡ true)
    held_lane l at = step (held_on t node n h order named received)
      where
        step : IsHeldOn t the_way h → (l.pool ≡ h.pool) × (is_taken l h.slot ≡ true)
        step (inl a) =
            let same : a.0 ≡ l = ap (λ o. option_map_or (λ (m : LaneState). m) o l) (sym a.1 ∙ at) in
            (ap (λ (m : LaneState). m.pool) (sym same) ∙ a.2, ap (λ m. is_taken m h.slot) (sym same) ∙ a.3)
        step (inr gone) = absurd (none-some l (sym gone.0 ∙ at))

    taken : (w : Way) (l : LaneState) (k : ℕ) → lane_on t.ports w ≡ Some l
        → by_lane (λ m. how_often k m.taken) 0 (lane_on new_ports) w + (if is_from t.pools w l.pool k h then 1 else 0) ≡ how_often k l.taken
    taken w l k at =
        ap (λ o. option_map_or (λ (m : LaneState). how_often k m.taken) o 0 + (if is_from t.pools w l.pool k h then 1 else 0))
        (turned w ∙ ap (λ o. if same_way w the_way then option_map (λ m. released m h.slot) o else o) at)
        ∙ ap₂ (λ (a b : Bool). option_map_or (λ (m : LaneState). how_often k m.taken) (if same_way w the_way then Some (released l h.slot) else Some l) 0 + (if a && (b && is_at l.pool k h) then 1 else 0))
        received (flipped w)
        ∙ step (same_way w the_way) refl
      where
        step : (b : Bool) → same_way w the_way ≡ b
            → option_map_or (λ (m : LaneState). how_often k m.taken) (if b then Some (released l h.slot) else Some l) 0 + (if b && is_at l.pool k h then 1 else 0) ≡ how_often k l.taken
        step true e =
            let held = held_lane l (ap (lane_on t.ports) (sym (same_way-true w the_way e)) ∙ at) in
            ap (λ (c : Bool). how_often k (released l h.slot).taken + (if c && (h.slot == k) then 1 else 0)) (ap (λ c. h.pool == c) held.0 ∙ eqb-refl h.pool)
            ∙ released_taken (λ n. if n == k then 1 else 0) h.slot l held.1
        step false e = plus_none (how_often k l.taken)

    pub given_back : GaveBack t h new_ports
    given_back = record {
      alike = lane_on_bare (λ l. released l h.slot) (released_bare h.slot) t.ports the_way;
      lanes = λ pool k. lanes_same (lane_count pool k) (λ l. released l h.slot) (λ l. released_count pool k h.slot l) t.ports (the_way ∷ []);
      once =
          lane_keeps HasEachPlaceOnce (λ l. released l h.slot) t.ports the_way
          (λ l has k. subst (λ c. c ≤ 1) (sym (released_places (λ n. if n == k then 1 else 0) h.slot l)) (has k)) order.once;
      places = places;
      taken = taken;
    }

-- ---- the laws

pub loan_releases_keep_order : LoanReleasesKeepOrder
loan_releases_keep_order t node n h pools order named not fewer = kept t order node n h named.there t.ports (not_received t order node n h named not) pools fewer

pub pending_releases_keep_order : PendingReleasesKeepOrder
pending_releases_keep_order t node n h pools order named kind fewer =
    kept t order node n h named.there (with_states_on (λ r. closed_for r (request_of t h)) t.ports (pending_states t h))
    (states_too (λ r. closed_for r (request_of t h)) t h t.ports (pending_states t h) (not_received t order node n h named (ap is_received kind))) pools fewer

pub response_releases_keep_order : ResponseReleasesKeepOrder
response_releases_keep_order t node n h pools order named received fewer =
    kept t order node n h named.there (new_ports t order node n h named received) (given_back t order node n h named received) pools fewer

pub request_releases_keep_order : RequestReleasesKeepOrder
request_releases_keep_order t node n h own pools order named received fewer =
    kept t order node n h named.there (with_states_on (λ r. closed_for r (request_of t h)) (new_ports t order node n h named received) (own ∷ []))
    (states_too (λ r. closed_for r (request_of t h)) t h (new_ports t order node n h named received) (own ∷ []) (given_back t order node n h named received)) pools fewer
