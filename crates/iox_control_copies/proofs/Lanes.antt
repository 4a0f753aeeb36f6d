-- The lane of an awaited response, before and after its server got all back.
use Rattle.std.specs.Prelude.{◌≡◌, ℕ, ◌+◌, ◌<◌, ◌≤◌, Bool, true, false, ◌||◌, if◌then◌else◌, List, [], ◌∷◌, map, flat_map, Option, Some, None, slice_get, refl}
use Rattle.std.specs.List.{range_with_len}
use Rattle.std.specs.Option.{option_map, option_map_or}
use Rattle.std.proofs.Common.{sym, ap, subst, ◌∙◌, arith, inl, inr, true≢false}
use Rattle.std.proofs.lemmas.Option.{slice_get_within}
use Rattle.iox_model.specs.declared.kind.Role.{Role}
use Rattle.iox_model.specs.declared.kind.Role.TheVariants.{Client, Server}
use Rattle.iox_model.specs.declared.way.RequestState.{RequestState}
use Rattle.iox_model.specs.declared.way.RequestState.TheVariants.{Closed}
use Rattle.iox_model.specs.declared.way.Way.{Way}
use Rattle.iox_model.specs.Maps.{has_way, same_way}
use Rattle.iox_model.specs.Messages.{response_way}
use Rattle.iox_model.specs.Settings.{is_client, other_role}
use Rattle.iox_laws.proofs.WeaveLedger.Lists.{IsAmong, among-back, among-front, among-way, number-among}
use Rattle.iox_laws.proofs.WeaveLedger.Ranges.{range-has}
use Rattle.iox_lanes.specs.Lanes.{LaneState}
use Rattle.iox_tables.specs.HubStates.Tables.{HubTables, PortState, pipes_of, port_in}
use Rattle.iox_tables.specs.HubStates.Ways.{OnWays, lane_on, state_on, states_from, with_lane_on, with_lanes_on}
use Rattle.iox_tables.specs.HubStates.Changes.{emptied_lane}
use Rattle.iox_tables.specs.HubStates.Wirings.{numbers_of_role}
use Rattle.iox_tables.proofs.HubStates.Fixing.{first_key}
use Rattle.iox_tables.proofs.HubStates.Keys.{at_is, lane_turned}
use Rattle.iox_tables.specs.HubBooks.Hubs.{AreInOrder}
use Rattle.iox_tables.proofs.HubBooks.Sendable.{lane_there, of_role}
use Rattle.iox_tables.specs.HubLoans.CopySends.{is_lender_awaited}
use Rattle.iox_tables.specs.HubLoans.Lenders.{Lender, size_in, ways_by, ways_to_client, with_got_back}
use Rattle.iox_tables.specs.HubLoans.Questions.{names_request}
use Rattle.iox_control_copies.specs.Answers.{way_of}
use Rattle.iox_tables.proofs.HubLending.Owning.{two}

-- ---- lists

mapped : {A B : Type 0} (f : A → B) (a : A) (xs : List A) → IsAmong a xs → IsAmong (f a) (map f xs)
mapped f a [] among = absurd among
mapped f a (x ∷ xs) (inl e) = inl (ap f e)
mapped f a (x ∷ xs) (inr among) = inr (mapped f a xs among)

flat : {A B : Type 0} (f : A → List B) (a : A) (b : B) (xs : List A) → IsAmong a xs → IsAmong b (f a) → IsAmong b (flat_map f xs)
flat f a b [] among has = absurd among
flat f a b (x ∷ xs) (inl e) has = among-front b (f x) (flat_map f xs) (subst (λ z. IsAmong b (f z)) e has)
flat f a b (x ∷ xs) (inr among) has = among-back b (f x) (flat_map f xs) (flat f a b xs among has)

-- ---- lanes that are emptied

-- a lane is emptied if its way is one of these
abbrev if_in : Bool → LaneState → LaneState
if_in b l = if b then emptied_lane l else l

lanes_emptied : (vs : List Way) (ports : List PortState) (w : Way) (l : LaneState) → lane_on ports w ≡ Some l
    → lane_on (with_lanes_on emptied_lane ports vs) w ≡ Some (if_in (has_way w vs) l)
lanes_emptied [] ports w l at = at
lanes_emptied (v ∷ vs) ports w l at = step (same_way w v) refl (λ ps m e. lanes_emptied vs ps w m e)
  where
    turned : (b : Bool) → same_way w v ≡ b → lane_on (with_lane_on emptied_lane ports v) w ≡ (if b then option_map emptied_lane (lane_on ports w) else lane_on ports w)
    turned b e =
        ap (λ (on : OnWays LaneState). on w) (lane_turned emptied_lane ports v) ∙ at_is emptied_lane (lane_on ports) v w
        ∙ ap (λ (c : Bool). if c then option_map emptied_lane (lane_on ports w) else lane_on ports w) e

    twice : (b : Bool) → Some (if_in b (emptied_lane l)) ≡ Some (emptied_lane l)
    twice true = refl
    twice false = refl

    step : (b : Bool) → same_way w v ≡ b
        → ((ps : List PortState) (m : LaneState) → lane_on ps w ≡ Some m → lane_on (with_lanes_on emptied_lane ps vs) w ≡ Some (if_in (has_way w vs) m))
        → lane_on (with_lanes_on emptied_lane (with_lane_on emptied_lane ports v) vs) w ≡ Some (if_in (b || has_way w vs) l)
    step true e more =
        more (with_lane_on emptied_lane ports v) (emptied_lane l) (turned true e ∙ ap (option_map emptied_lane) at) ∙ twice (has_way w vs)
    step false e more = more (with_lane_on emptied_lane ports v) l (turned false e ∙ at)

-- ---- an awaited response

named_state : (id : ℕ) (o : Option RequestState) → names_request false id (option_map_or (λ r. r) o Closed) ≡ true → (r : RequestState) × (o ≡ Some r)
named_state id (Some r) e = (r, refl)
named_state id None e = absurd (true≢false (sym e))

up : (k m : ℕ) → k < m → k < 0 + m
up k m e = omega (arith, e)

none_below : (k : ℕ) → 0 ≤ k
none_below k = omega arith

module _ (t : HubTables) (order : AreInOrder t) (y : Lender) (there : port_in t.ports y.port.number ≡ Some y.port) (server : y.port.role ≡ Server)
    (awaited : is_lender_awaited t y ≡ true)
  where
    abbrev w : Way
    w = way_of y

    client_among : IsAmong y.client (numbers_of_role Client t.ports)
    client_among = number-among y.client (numbers_of_role Client t.ports) (two _ _ awaited).0

    the_client : (p : PortState) × (port_in t.ports y.client ≡ Some p) × (p.role ≡ Client)
    the_client = of_role t order Client y.client client_among

    the_state : (r : RequestState) × (state_on t.ports w ≡ Some r)
    the_state = named_state y.request (state_on t.ports w) (two _ _ awaited).1

    low : y.lane < the_client.0.size
    low =
        let c = the_client in
        let width = order.widths y.port.number y.client y.port c.0 there c.1 (server ∙ sym (ap other_role c.2)) in
        let within = slice_get_within (states_from (pipes_of y.port) c.0.number) y.lane the_state.0
        (ap (λ k. slice_get (states_from (pipes_of y.port) k) y.lane) (first_key (λ (p : PortState). p.number) t.ports y.client c.0 c.1)
        ∙ sym (ap (λ o. slice_get (states_from (option_map_or pipes_of o []) y.client) y.lane) there) ∙ the_state.1) in
        subst (λ (r : Role). y.lane < (if is_client r then c.0.size else 0)) c.2 (subst (λ k. y.lane < k) width.states within)

    pub the_lane : (l : LaneState) × (lane_on t.ports w ≡ Some l)
    the_lane =
        let c = the_client in
        lane_there t order y.client y.port.number y.lane c.0 y.port c.1 there (c.2 ∙ sym (ap other_role server))
        (subst (λ (r : Role). y.lane < (if is_client r then c.0.size else 1)) (sym c.2) low)

    is_one : has_way w (ways_by Server t y.port.number) ≡ true
    is_one =
        let c = the_client in
        let size : size_in t.ports y.client ≡ c.0.size = ap (λ o. option_map_or (λ (p : PortState). p.size) o 0) c.1 in
        among-way w (ways_by Server t y.port.number)
        (flat (ways_to_client t y.port.number) y.client w (numbers_of_role Client t.ports) client_among
        (mapped (λ lane. response_way y.client lane y.port.number) y.lane (range_with_len 0 (size_in t.ports y.client))
        (range-has 0 (size_in t.ports y.client) y.lane (none_below y.lane) (up y.lane (size_in t.ports y.client) (subst (λ k. y.lane < k) (sym size) low)))))

    pub lane_back : lane_on (with_got_back t y.port).ports w ≡ Some (emptied_lane the_lane.0)
    lane_back =
        ap (λ (r : Role). lane_on (with_lanes_on emptied_lane t.ports (ways_by r t y.port.number)) w) server
        ∙ lanes_emptied (ways_by Server t y.port.number) t.ports w the_lane.0 the_lane.1
        ∙ ap (λ b. Some (if_in b the_lane.0)) is_one
