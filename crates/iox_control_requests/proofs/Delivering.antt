-- The walk that delivers to all servers, one after another.
use Rattle.std.specs.Prelude.{◌≡◌, ℕ, ◌+◌, ◌-◌, ◌<◌, ◌≤◌, ◌^◌, Bool, true, false, not, ◌||◌, if◌then◌else◌, List, [], ◌∷◌, ◌++◌, length, take, drop, filter, Option, Some, None, slice_get, refl}
use Rattle.std.specs.Bool.{OnFalse, OnTrue}
use Rattle.std.specs.Option.{option_map_or}
use Rattle.std.proofs.Common.{sym, ap, subst, ◌∙◌, arith, append_assoc, true≢false}
use Rattle.std.proofs.lemmas.List.{length-append}
use Rattle.std.proofs.lemmas.List.Elements.{filter-append}
use Rattle.std.proofs.lemmas.Option.{none-some, same_Some}
use Rattle.iox_model.specs.declared.kind.Role.TheVariants.{Server}
use Rattle.iox_model.specs.declared.way.Way.{Way}
use Rattle.iox_model.specs.Handles.{is_request_loan, is_response_loan}
use Rattle.iox_model.specs.Messages.{request_way}
use Rattle.iox_model.specs.Settings.{same_role}
use Rattle.iox_lanes.specs.Lanes.{IsSound, LaneState, is_full}
use Rattle.iox_tables.specs.HubStates.Changes.{OnEach, with_lanes}
use Rattle.iox_tables.specs.HubStates.Tables.{HandleState, PoolState, PortState, slot_at}
use Rattle.iox_tables.specs.HubStates.Ways.{OnWays, lane_on, with_lane_on, with_lanes_on}
use Rattle.iox_tables.specs.HubStates.Wirings.{IsHandle}
use Rattle.iox_hub_ports.specs.InPlace.{places_from, places_of}
use Rattle.iox_hub_ports.specs.Ports.{on_way_at, way_from, with_lane_at}
use Rattle.iox_hub_ports.proofs.Keeping.{lanes_keep_roles}
use Rattle.iox_tables.specs.HubBooks.Hubs.{AreInOrder}
use Rattle.iox_tables.specs.HubBooks.Keeps.{AreTargetsOf, delivers}
use Rattle.iox_tables.specs.HubBooks.Rooms.{CanCountHolders}
use Rattle.iox_tables.proofs.HubBooks.Delivering.{lane_elsewhere}
use Rattle.iox_tables.proofs.HubBooks.Targets.{each_has_its_targets}
use Rattle.iox_slots.specs.Pools.{with_slot}
use Rattle.iox_slots.specs.Slots.{held}
use Rattle.iox_hub_delivering.specs.Deliveries.{HasDelivered, pushed_out_by}
use Rattle.iox_hub_delivering.specs.Steps.{DeliversOneMore, EachStepDelivers, with_out}
use Rattle.iox_control.specs.Controls.{ControlState, with_tables}
use Rattle.iox_control_requests.specs.Deliveries.{CanTake, ways_that_get, with_given}
use Rattle.iox_control_requests.specs.Servers.{is_full_on, request_ways, server_in}
use Rattle.iox_control_requests.proofs.Free.{gets, gets_are}
use Rattle.iox_control_requests.proofs.Gives.{OfLane}
use Rattle.iox_control_requests.proofs.Subs.{each_at, next_is_new, some_are_targets}
use Rattle.iox_control_requests.proofs.Walks.{on_server, server_stays, HasRank, has_rank, ways_all, ways_one, ways_split, with_server}

-- the ways to the first servers that get the message
abbrev pub reached : Bool → List PortState → ℕ → ℕ → List Way
reached overflow ports client i = filter (gets overflow ports) (take i (request_ways client ports))

-- The first servers are done.
pub record IsGiven (c now : ControlState) (h : HandleState) (overflow : Bool) (i count : ℕ) : Type 0 where
  pub so :
      now
      ≡ with_tables c
      (record (with_lanes (delivers overflow h.slot) c.tables (reached overflow c.tables.ports h.port i)) {
        pools = now.tables.pools;
      })
  pub pools : HasDelivered overflow h.slot (lane_on c.tables.ports) (reached overflow c.tables.ports h.port i) c.tables.pools now.tables.pools
  pub counted : count ≡ length (reached overflow c.tables.ports h.port i)
  pub few : count ≤ i

pub begins : (c : ControlState) (h : HandleState) (overflow : Bool) → IsGiven c c h overflow 0 0
begins c h overflow = record {
  so = refl;
  pools = record { same = refl; holders = λ pool j. refl };
  counted = refl;
  few = omega arith;
}

pub as_is : (c d d' : ControlState) (h : HandleState) (overflow : Bool) (i n n' : ℕ) → d ≡ d' → n ≡ n' → IsGiven c d' h overflow i n' → IsGiven c d h overflow i n
as_is c d d' h overflow i n n' same counts given =
    subst (λ (m : ℕ). IsGiven c d h overflow i m) (sym counts) (subst (λ (e : ControlState). IsGiven c e h overflow i n') (sym same) given)

-- what is so of each, and of one more
each_append : (P : Way → LaneState → Type 0) (on : OnWays LaneState) (ws : List Way) (w : Way) → OnEach P on ws
    → (l : LaneState) × (on w ≡ Some l) × P w l → OnEach P on (ws ++ w ∷ [])
each_append P on [] w before one = (one, tt)
each_append P on (v ∷ vs) w before one = (before.0, each_append P on vs w before.1 one)

-- all lanes are sound once the last is
pub all_sound : (ports : List PortState) (client i : ℕ) → length (places_of Server ports) ≤ i → OnEach (λ w l. IsSound l) (lane_on ports) (take i (request_ways client ports))
    → OnEach (λ w l. IsSound l) (lane_on ports) (request_ways client ports)
all_sound ports client i past each = subst (OnEach (λ w l. IsSound l) (lane_on ports)) (ways_all client ports i past) each

pub when_true : (b : Bool) (P : Type 0) → b ≡ true → OnTrue b P → P
when_true true P e p = p
when_true false P e p = absurd (true≢false (sym e))

pub when_false : (b : Bool) (P : Type 0) → b ≡ false → OnFalse b P → P
when_false false P e p = p
when_false true P e p = absurd (true≢false e)

-- ---- all are done

module _ (c now : ControlState) (h : HandleState) (overflow : Bool) (i count : ℕ) (past : length (places_of Server c.tables.ports) ≤ i) (done : IsGiven c now h overflow i count) where
  all_reached : reached overflow c.tables.ports h.port i ≡ ways_that_get overflow c.tables.ports (request_ways h.port c.tables.ports)
  all_reached =
      ap (filter (gets overflow c.tables.ports)) (ways_all h.port c.tables.ports i past)
      ∙ gets_are overflow c.tables.ports (request_ways h.port c.tables.ports)

  pub counts_all : count ≡ length (ways_that_get overflow c.tables.ports (request_ways h.port c.tables.ports))
  counts_all = done.counted ∙ ap length all_reached

  pub leaves_all :
      now
      ≡ with_tables c
      (record (with_lanes (delivers overflow h.slot) c.tables (ways_that_get overflow c.tables.ports (request_ways h.port c.tables.ports))) {
        pools = now.tables.pools;
      })
  leaves_all =
      done.so
      ∙ ap (λ ws. with_tables c (record (with_lanes (delivers overflow h.slot) c.tables ws) { pools = now.tables.pools })) all_reached

  pub hands_all : HasDelivered overflow h.slot (lane_on c.tables.ports)
      (ways_that_get overflow c.tables.ports (request_ways h.port c.tables.ports)) c.tables.pools now.tables.pools
  hands_all = subst (λ ws. HasDelivered overflow h.slot (lane_on c.tables.ports) ws c.tables.pools now.tables.pools) all_reached done.pools

-- ---- the next server

module _ (c now : ControlState) (h : HandleState) (overflow : Bool) (i count : ℕ) (done : IsGiven c now h overflow i count) where
  abbrev ports : List PortState
  ports = c.tables.ports

  abbrev before : List Way
  before = reached overflow ports h.port i

  same_ports : now.tables.ports ≡ with_lanes_on (delivers overflow h.slot) ports before
  same_ports = ap (λ (d : ControlState). d.tables.ports) done.so

  -- the servers are as before, each in its place
  pub same_places : places_of Server now.tables.ports ≡ places_of Server ports
  same_places =
      ap (places_of Server) same_ports ∙ ap (places_from Server 0) (lanes_keep_roles (delivers overflow h.slot) ports before)

  -- a rank below theirs is one of the servers
  pub within : (told : List PortState) → told ≡ now.tables.ports → i < length (places_of Server ports) → i < length (places_of Server told)
  within told same below =
      let as_many : length (places_of Server told) ≡ length (places_of Server ports) = ap (λ ps. length (places_of Server ps)) same ∙ ap length same_places in
      omega (arith, below, as_many)

  more : (count' : ℕ) → count ≤ i → count' ≡ count → count' ≤ i + 1
  more count' few same = omega (arith, few, same)

  stays : (now' : ControlState) → now' ≡ now → reached overflow ports h.port (i + 1) ≡ before → IsGiven c now' h overflow (i + 1) count
  stays now' same left =
      subst (λ (d : ControlState). IsGiven c d h overflow (i + 1) count) (sym same)
      (record {
        so = done.so
            ∙ ap (λ ws. with_tables c (record (with_lanes (delivers overflow h.slot) c.tables ws) { pools = now.tables.pools })) (sym left);
        pools = subst (λ ws. HasDelivered overflow h.slot (lane_on ports) ws c.tables.pools now.tables.pools) (sym left) done.pools;
        counted = done.counted ∙ ap length (sym left);
        few = more count done.few refl;
      })

  module _ (place : ℕ) (at : slice_get (places_of Server now.tables.ports) i ≡ Some place) (named : (node : ℕ) × (n : ℕ) × IsHandle c.tables node n h)
      (order : AreInOrder c.tables) (kind : is_request_loan h.kind ≡ true)
      (lanes : OnEach (λ w l. CanTake h.pool l) (lane_on ports) (request_ways h.port ports)) where
    abbrev rank : HasRank ports i place
    rank = has_rank ports i place (ap (λ ks. slice_get ks i) (sym same_places) ∙ at)

    abbrev server : ℕ
    server = rank.port.number

    in_now : server_in now.tables.ports place ≡ Some server
    in_now = ap (λ ps. server_in ps place) same_ports ∙ server_stays (delivers overflow h.slot) ports before place ∙ rank.server

    abbrev w : Way
    w = request_way h.port server

    split : request_ways h.port ports ≡ take i (request_ways h.port ports) ++ w ∷ drop (i + 1) (request_ways h.port ports)
    split =
        ways_split h.port ports (i + 1)
        ∙ ap (λ ws. ws ++ drop (i + 1) (request_ways h.port ports)) (ways_one h.port ports i server rank.listed)
        ∙ append_assoc (take i (request_ways h.port ports)) (w ∷ []) (drop (i + 1) (request_ways h.port ports))

    targets : AreTargetsOf c.tables h (take i (request_ways h.port ports) ++ w ∷ drop (i + 1) (request_ways h.port ports))
    targets = subst (AreTargetsOf c.tables h) split ((each_has_its_targets c.tables named.0 named.1 h order named.2).requests kind)

    lane : (l : LaneState) × (lane_on ports w ≡ Some l) × CanTake h.pool l
    lane =
        each_at (λ v l. CanTake h.pool l) (lane_on ports) (take i (request_ways h.port ports)) (drop (i + 1) (request_ways h.port ports)) w
        (subst (OnEach (λ v l. CanTake h.pool l) (lane_on ports)) split lanes)

    same_lane : lane_on now.tables.ports w ≡ lane_on ports w
    same_lane =
        ap (λ ps. lane_on ps w) same_ports
        ∙ lane_elsewhere (delivers overflow h.slot) ports before w
        (next_is_new (gets overflow ports) w (drop (i + 1) (request_ways h.port ports)) (take i (request_ways h.port ports)) targets.apart)

    -- what the delivery asks
    number_is : (p : PortState) → slice_get now.tables.ports place ≡ Some p → p.number ≡ server
    number_is p at = step (same_role p.role Server) (ap (λ (o : Option PortState). option_map_or (λ q. if same_role q.role Server then Some q.number else None) o None) (sym at) ∙ in_now)
      where
        step : (b : Bool) → (if b then Some p.number else None) ≡ Some server → p.number ≡ server
        step true e = same_Some p.number server e
        step false e = absurd (none-some server e)

    pub can_take : OfLane now.tables.ports place h.port (CanTake h.pool)
    can_take p at l it =
        subst (CanTake h.pool)
        (same_Some lane.0 l (sym lane.1 ∙ sym same_lane ∙ ap (λ n. lane_on now.tables.ports (way_from h.port 0 n)) (sym (number_is p at)) ∙ it))
        lane.2

    -- its lane is sound
    pub sound_next : OfLane now.tables.ports place h.port IsSound → OnEach (λ v l. IsSound l) (lane_on ports) (take i (request_ways h.port ports))
        → OnEach (λ v l. IsSound l) (lane_on ports) (take (i + 1) (request_ways h.port ports))
    sound_next sound before =
        subst (OnEach (λ v l. IsSound l) (lane_on ports)) (sym (ways_one h.port ports i server rank.listed))
        (each_append (λ v l. IsSound l) (lane_on ports) (take i (request_ways h.port ports)) w before (lane.0, lane.1, at_port (slice_get now.tables.ports place) refl))
      where
        at_port : (o : Option PortState) → slice_get now.tables.ports place ≡ o → IsSound lane.0
        at_port (Some p) at = sound p at lane.0 (ap (λ n. lane_on now.tables.ports (way_from h.port 0 n)) (number_is p at) ∙ same_lane ∙ lane.1)
        at_port None at =
            absurd (none-some server (ap (λ (o : Option PortState). option_map_or (λ q. if same_role q.role Server then Some q.number else None) o None) (sym at) ∙ in_now))

    module _ (steps : EachStepDelivers) where
      one_more : DeliversOneMore overflow c.tables h before w lane.0 now.tables.pools
      one_more =
          steps c.tables named.0 named.1 h overflow before w lane.0 now.tables.pools order named.2
          (ap (λ b. b || is_response_loan h.kind) kind)
          (some_are_targets (gets overflow ports) w (drop (i + 1) (request_ways h.port ports)) c.tables h (take i (request_ways h.port ports)) targets)
          lane.1 done.pools

      pub is_taken : 0 < (slot_at now.tables.pools h.pool h.slot).holders
      is_taken = one_more.taken

      pub still_fits : CanCountHolders c.room c.tables → (slot_at now.tables.pools h.pool h.slot).holders < 2 ^ 64 - 1
      still_fits can = let fits = one_more.fits in omega (arith, fits, can)

      module _ (now' : ControlState) where
        full_as_before : on_way_at is_full true now.tables.ports place h.port 0 ≡ is_full_on ports w
        full_as_before =
            on_server is_full true now.tables.ports place h.port server in_now
            ∙ ap (λ o. option_map_or is_full o true) same_lane

        next_is : (b : Bool) → b ≡ (overflow || not (on_way_at is_full true now.tables.ports place h.port 0))
            → reached overflow ports h.port (i + 1) ≡ before ++ (if b then w ∷ [] else [])
        next_is b told =
            ap (filter (gets overflow ports)) (ways_one h.port ports i server rank.listed)
            ∙ filter-append (gets overflow ports) (take i (request_ways h.port ports)) (w ∷ [])
            ∙ ap (λ a. before ++ (if a then w ∷ [] else [])) (sym (told ∙ ap (λ a. overflow || not a) full_as_before))

        -- it got nothing
        pub gives_nothing : false ≡ (overflow || not (on_way_at is_full true now.tables.ports place h.port 0)) → now' ≡ now
            → IsGiven c now' h overflow (i + 1) count
        gives_nothing told same = stays now' same (next_is false told ∙ append_none before)
          where
            append_none : (xs : List Way) → xs ++ [] ≡ xs
            append_none [] = refl
            append_none (x ∷ xs) = ap (λ ys. x ∷ ys) (append_none xs)

        -- it got the message
        lanes_next : (g : LaneState → LaneState) (ps : List PortState) (ws : List Way) (v : Way) → with_lane_on g (with_lanes_on g ps ws) v ≡ with_lanes_on g ps (ws ++ v ∷ [])
        lanes_next g ps [] v = refl
        lanes_next g ps (u ∷ ws) v = lanes_next g (with_lane_on g ps u) ws v

        ports_next : with_lane_at (delivers overflow h.slot) now.tables.ports place h.port 0 ≡ with_lanes_on (delivers overflow h.slot) ports (before ++ w ∷ [])
        ports_next =
            with_server (delivers overflow h.slot) now.tables.ports place h.port server in_now
            ∙ ap (λ ps. with_lane_on (delivers overflow h.slot) ps w) same_ports
            ∙ lanes_next (delivers overflow h.slot) ports before w

        out_is : on_way_at (pushed_out_by overflow h.slot) None now.tables.ports place h.port 0 ≡ pushed_out_by overflow h.slot lane.0
        out_is =
            on_server (pushed_out_by overflow h.slot) None now.tables.ports place h.port server in_now
            ∙ ap (λ o. option_map_or (pushed_out_by overflow h.slot) o None) (same_lane ∙ lane.1)

        abbrev new_pools : List (Option PoolState)
        new_pools = with_out (with_slot held now.tables.pools h.pool h.slot) h.pool (pushed_out_by overflow h.slot lane.0)

        given_is : now' ≡ with_given now place h overflow
            → now' ≡ with_tables c (record (c.tables) { ports = with_lanes_on (delivers overflow h.slot) ports (before ++ w ∷ []); pools = new_pools })
        given_is is =
            is
            ∙ ap (λ ps. with_tables now (record (now.tables) { ports = ps; pools = with_out (with_slot held now.tables.pools h.pool h.slot) h.pool (on_way_at (pushed_out_by overflow h.slot) None now.tables.ports place h.port 0) })) ports_next
            ∙ ap (λ o. with_tables now (record (now.tables) { ports = with_lanes_on (delivers overflow h.slot) ports (before ++ w ∷ []); pools = with_out (with_slot held now.tables.pools h.pool h.slot) h.pool o })) out_is
            ∙ ap (λ (d : ControlState). with_tables d (record (d.tables) { ports = with_lanes_on (delivers overflow h.slot) ports (before ++ w ∷ []); pools = new_pools })) done.so

        pub gives_one : true ≡ (overflow || not (on_way_at is_full true now.tables.ports place h.port 0)) → now' ≡ with_given now place h overflow
            → IsGiven c now' h overflow (i + 1) (count + 1)
        gives_one told is =
            let left = next_is true told in
            let so = given_is is in
            let pools : now'.tables.pools ≡ new_pools = ap (λ (d : ControlState). d.tables.pools) so in record {
              so = so
                  ∙ ap (λ (ps : List (Option PoolState)). with_tables c (record (c.tables) { ports = with_lanes_on (delivers overflow h.slot) ports (before ++ w ∷ []); pools = ps })) (sym pools)
                  ∙ ap (λ ws. with_tables c (record (with_lanes (delivers overflow h.slot) c.tables ws) { pools = now'.tables.pools })) (sym left);
              pools = subst (λ ws. HasDelivered overflow h.slot (lane_on ports) ws c.tables.pools now'.tables.pools) (sym left)
                  (subst (HasDelivered overflow h.slot (lane_on ports) (before ++ w ∷ []) c.tables.pools) (sym pools) one_more.delivered);
              counted = ap (λ n. n + 1) done.counted ∙ sym (length-append before (w ∷ [])) ∙ ap length (sym left);
              few = let few = done.few in omega (arith, few);
            }
