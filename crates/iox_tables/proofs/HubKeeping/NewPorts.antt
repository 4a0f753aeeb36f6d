-- What of the tables of a hub stays as a port is made, and what its pool, pipes and lanes are.
use Rattle.std.specs.Prelude.{◌≡◌, ◌⊎◌, ℕ, ◌<◌, ◌≤◌, Bool, true, false, ◌||◌, if◌then◌else◌, ◌==◌, List, [], ◌∷◌, ◌++◌, map, filter, length, Option, Some, None, is_some, slice_get, refl}
use Rattle.std.specs.Option.{option_map, option_map_or}
use Rattle.std.proofs.Common.{sym, ap, append_assoc, subst, ◌∙◌, arith, inl, inr, true≢false, eqb-true}
use Rattle.std.proofs.lemmas.Bool.{or_right}
use Rattle.std.proofs.lemmas.List.{map-append}
use Rattle.std.proofs.lemmas.Option.{none-some}
use Rattle.iox_model.specs.declared.kind.Role.{Role}
use Rattle.iox_model.specs.declared.kind.Role.TheVariants.{Client}
use Rattle.iox_model.specs.declared.way.Way.{Way}
use Rattle.iox_model.specs.Expiries.{is_end}
use Rattle.iox_model.specs.Maps.{has_number, or_else}
use Rattle.iox_model.specs.Settings.{other_role, same_role}
use Rattle.iox_laws.proofs.WeaveLaws.MapLemmas.{eqb-refl}
use Rattle.iox_lanes.specs.Incomings.{IncomingState}
use Rattle.iox_lanes.specs.Lanes.{LaneState}
use Rattle.iox_lanes.specs.Pipes.{PipeState}
use Rattle.iox_tables.specs.HubStates.Tables.{HubTables, PoolState, PortState, SlotState, no_slot, owner_of, pipe_from, pipes_of, pipes_to, pool_at, port_in, senders_of, slot_at}
use Rattle.iox_tables.specs.HubStates.Ways.{lane_on, lanes_from, states_from}
use Rattle.iox_tables.specs.HubStates.States.{expired_in}
use Rattle.iox_tables.specs.HubStates.Steps.{is_there, places_on}
use Rattle.iox_tables.proofs.HubStates.Emptied.{has-append}
use Rattle.iox_tables.specs.HubStates.Wirings.{IsWired, numbers_of_role, role_in}
use Rattle.iox_tables.proofs.HubStates.Fixing.{first_key}
use Rattle.iox_tables.proofs.HubStates.Keys.{first_append, flip, has_some}
use Rattle.iox_tables.specs.HubBooks.Counts.{OfAllLanes, how_often, lane_count, uses}
use Rattle.iox_tables.specs.HubBooks.Hubs.{AreInOrder, AreWired, HasEachPlaceOnce, HasPool, HasWidth, HaveNumbers, HavePools, HaveSerials, HaveWidths, HoldersAreCounted, IsUsed, LanesAreOfSenders, PlacesAreOfSenders, ResponsesAreOnTheirLanes, numbers_in}
use Rattle.iox_tables.proofs.HubBooks.Used.{used_on_lane}
use Rattle.iox_tables.specs.HubMaking.FreePools.{IsPut}
use Rattle.iox_tables.specs.HubMaking.NewPorts.{connected_from, connected_to, is_other, pipe_between, pool_made, states_of, width_of, with_port_made}
use Rattle.iox_tables.specs.HubMaking.Wires.{AreConnected, IsNewLane, IsNewPipe, PortIsNew}
use Rattle.iox_tables.proofs.HubMaking.Connecting.{old_there, port_with, shows_same, there_with}
use Rattle.iox_tables.proofs.HubMaking.Joining.{new_ports_are_connected}
use Rattle.iox_tables.specs.HubKeeping.Keeps.{MayBeMade}
use Rattle.iox_tables.proofs.HubKeeping.NewLanes.{length_same, same_or, new_lanes_are, new_lanes_same}
use Rattle.iox_tables.proofs.HubKeeping.Ordered.{are_connected, not_there, unkept, used_else}

-- a connected port is among those of its role
pub in_role : (ports : List PortState) (n : ℕ) (p : PortState) (role : Role) → port_in ports n ≡ Some p → same_role p.role role ≡ true
    → has_number n (numbers_of_role role ports) ≡ true
in_role [] n p role at is = absurd (none-some p at)
in_role (q ∷ qs) n p role at is = step (q.number == n) refl (same_role q.role role) refl at (λ e. in_role qs n p role e is)
  where
    behind : (b : Bool) → has_number n (numbers_of_role role qs) ≡ true → (b || has_number n (numbers_of_role role qs)) ≡ true
    behind true e = refl
    behind false e = e

    step : (a : Bool) → (q.number == n) ≡ a → (b : Bool) → same_role q.role role ≡ b → (if a then Some q else port_in qs n) ≡ Some p
        → (port_in qs n ≡ Some p → has_number n (numbers_of_role role qs) ≡ true)
        → has_number n (map (λ x. x.number) (if b then q ∷ filter (λ x. same_role x.role role) qs else filter (λ x. same_role x.role role) qs)) ≡ true
    step true e true h there rest = ap (λ (b : Bool). b || has_number n (numbers_of_role role qs)) e
    step true e false h there rest = absurd (true≢false (sym is ∙ ap (λ (o : Option PortState). same_role (option_map_or (λ x. x.role) o q.role) role) (sym there) ∙ h))
    step false e true h there rest = behind (q.number == n) (rest there)
    step false e false h there rest = rest there

pub some_is : {A : Type 0} (o : Option A) → is_some o ≡ true → (x : A) × (o ≡ Some x)
some_is (Some x) e = (x, refl)
some_is None e = absurd (true≢false (sym e))

pub same_self : (a b : Role) → a ≡ b → same_role a b ≡ true
same_self a b e = subst (λ r. same_role a r ≡ true) e (itself a)
  where
    itself : (r : Role) → same_role r r ≡ true
    itself Client = refl
    itself _ = refl

module _ (t : HubTables) (new : PortState) (pools : List (Option PoolState)) (order : AreInOrder t) (may : MayBeMade t new)
    (put : IsPut t.pools new.pool (pool_made new) pools)
  where
    abbrev u : HubTables
    u = with_port_made t new pools

    abbrev last : PortState
    last = connected_from t.settings t.ports new

    abbrev C : PortState → PortState
    C p = connected_to t.settings new p

    pub fresh : is_there t.ports new.number ≡ false
    fresh = ap (is_there t.ports) may.number ∙ not_there t order

    new_unkept : (n : ℕ) → has_number new.number (expired_in t.ports n) ≡ false
    new_unkept n = ap (λ k. has_number k (expired_in t.ports n)) may.number ∙ unkept t order n

    bare : new.expired.pipes ≡ []
    bare = ap (λ (c : IncomingState). c.pipes) may.none

    pub is_new : PortIsNew t new u
    is_new = (new_ports_are_connected t new pools (are_connected t order) fresh new_unkept may.none).0

    connected : AreConnected u
    connected = (new_ports_are_connected t new pools (are_connected t order) fresh new_unkept may.none).1

    pub old_port : (k : ℕ) (p : PortState) → port_in t.ports k ≡ Some p → port_in u.ports k ≡ Some (C p)
    old_port k p at = old_there t.settings t.ports new k p at

    pub shows : {B : Type 0} (show : PortState → B) → ((p : PortState) (ps : List PipeState) → show (record p { incoming = record (p.incoming) { pipes = ps } }) ≡ show p) → (p : PortState) → show (C p) ≡ show p
    shows show same p = shows_same t.settings t.ports new show p (same p)

    pub not_new : (k : ℕ) (p : PortState) → port_in t.ports k ≡ Some p → (k == new.number) ≡ false
    not_new k p at = step (k == new.number) refl
      where
        step : (b : Bool) → (k == new.number) ≡ b → b ≡ false
        step false e = refl
        step true e = absurd (true≢false (sym (ap (λ (o : Option PortState). is_some o) at) ∙ ap (is_there t.ports) (eqb-true k new.number e) ∙ fresh))

    -- each port was there, or is the new one
    abbrev pub Was : ℕ → PortState → Type 0
    Was k p = ((q : PortState) × (port_in t.ports k ≡ Some q) × (p ≡ C q)) ⊎ ((k ≡ new.number) × (p ≡ last))

    pub port_was : (k : ℕ) (p : PortState) → port_in u.ports k ≡ Some p → Was k p
    port_was k p at = step (port_in t.ports k) refl (new.number == k) refl (sym (port_with t.settings t.ports new k) ∙ at)
      where
        same : (a b : PortState) → Some a ≡ Some b → b ≡ a
        same a b e = sym (ap (λ (o : Option PortState). option_map_or (λ x. x) o a) e)

        step : (o : Option PortState) → port_in t.ports k ≡ o → (b : Bool) → (new.number == k) ≡ b → or_else (option_map (connected_to t.settings new) o) (if b then Some last else None) ≡ Some p → Was k p
        step (Some q) is b e h = inl (q, is, same (C q) p h)
        step None is true e h = inr (sym (eqb-true new.number k e), same last p h)
        step None is false e h = absurd (none-some p h)

    port_else : (k : ℕ) → (k == new.number) ≡ false → port_in u.ports k ≡ option_map (connected_to t.settings new) (port_in t.ports k)
    port_else k other =
        port_with t.settings t.ports new k
        ∙ ap (λ (b : Bool). or_else (option_map (connected_to t.settings new) (port_in t.ports k)) (if b then Some last else None)) (flip new.number k ∙ other)
        ∙ or_none (option_map (connected_to t.settings new) (port_in t.ports k))
      where
        or_none : (o : Option PortState) → or_else o None ≡ o
        or_none (Some p) = refl
        or_none None = refl

    pub there_else : (k : ℕ) → (k == new.number) ≡ false → is_there u.ports k ≡ is_there t.ports k
    there_else k other = there_with t.settings t.ports new k ∙ ap (λ (b : Bool). is_there t.ports k || b) (flip new.number k ∙ other) ∙ or_false (is_there t.ports k)
      where
        or_false : (b : Bool) → (b || false) ≡ b
        or_false true = refl
        or_false false = refl

    role_else : (k : ℕ) → (k == new.number) ≡ false → role_in u.ports k ≡ role_in t.ports k
    role_else k other = ap (λ o. option_map_or (λ (p : PortState). p.role) o Client) (port_else k other) ∙ step (port_in t.ports k)
      where
        step : (o : Option PortState) → option_map_or (λ (p : PortState). p.role) (option_map (connected_to t.settings new) o) Client ≡ option_map_or (λ (p : PortState). p.role) o Client
        step (Some p) = shows (λ q. q.role) (λ q ps. refl) p
        step None = refl

    pub slot_else : (q k : ℕ) → (q == new.pool) ≡ false → slot_at t.pools q k ≡ slot_at pools q k
    slot_else q k other = ap (λ o. option_map_or (λ (s : SlotState). s) (slice_get (option_map_or (λ (p : PoolState). p.slots) o []) k) no_slot) (put.others q other)

    pub owner_else : (q : ℕ) → (q == new.pool) ≡ false → owner_of t.pools q ≡ owner_of pools q
    owner_else q other = ap (λ o. option_map_or (λ (p : PoolState). p.port) o 0) (put.others q other)

    slot_new : (k : ℕ) → slot_at pools new.pool k ≡ no_slot
    slot_new k =
        ap (λ o. option_map_or (λ (s : SlotState). s) (slice_get (option_map_or (λ (p : PoolState). p.slots) o []) k) no_slot) put.there
        ∙ same_or new.size no_slot k

    pub else_if_used : (q k : ℕ) → IsUsed t q k → (q == new.pool) ≡ false
    else_if_used q k used = used_else t order new.pool may.place q k used

    used_before : (q k : ℕ) → IsUsed u q k → ((q == new.pool) ≡ false) × IsUsed t q k
    used_before q k used = step (q == new.pool) refl
      where
        step : (b : Bool) → (q == new.pool) ≡ b → (b ≡ false) × IsUsed t q k
        step false e = (refl, subst (λ (s : SlotState). 1 ≤ s.holders) (sym (slot_else q k e)) used)
        step true e =
            let zero : (slot_at pools q k).holders ≡ 0 = ap (λ i. (slot_at pools i k).holders) (eqb-true q new.pool e) ∙ ap (λ (s : SlotState). s.holders) (slot_new k) in
            absurd (omega (arith, zero, used))

    pub counted : HoldersAreCounted u
    counted pool k = step (pool == new.pool) refl
      where
        nothing : (a b c : ℕ) → lane_count pool k (Rattle.iox_lanes.specs.Lanes.empty_lane a b c) ≡ 0
        nothing a b c = by_case (a == pool)
          where
            by_case : (d : Bool) → (if d then how_often k [] else 0) ≡ 0
            by_case true = refl
            by_case false = refl

        old : (slot_at t.pools pool k).holders ≡ uses u pool k
        old =
            let lanes = new_lanes_same t.settings t.ports new bare (lane_count pool k) nothing in
            let before = order.counted pool k in omega (arith, lanes, before)

        step : (b : Bool) → (pool == new.pool) ≡ b → (slot_at pools pool k).holders ≡ uses u pool k
        step false e = ap (λ (s : SlotState). s.holders) (sym (slot_else pool k e)) ∙ old
        step true e =
            ap (λ i. (slot_at pools i k).holders) (eqb-true pool new.pool e) ∙ ap (λ (s : SlotState). s.holders) (slot_new k) ∙ sym (may.place.slots k)
            ∙ ap (λ i. (slot_at t.pools i k).holders) (sym (eqb-true pool new.pool e)) ∙ old

    pub serials : HaveSerials u
    serials = record { apart = apart; below = λ n k p at used. below n k p used (port_was n p at) }
      where
        apart : (pool j k : ℕ) → IsUsed u pool j → IsUsed u pool k → (slot_at pools pool j).serial ≡ (slot_at pools pool k).serial → j ≡ k
        apart pool j k a b e =
            let c = used_before pool j a in
            let d = used_before pool k b in
            order.serials.apart pool j k c.1 d.1 (ap (λ (s : SlotState). s.serial) (slot_else pool j c.0) ∙ e ∙ ap (λ (s : SlotState). s.serial) (sym (slot_else pool k d.0)))

        below : (n k : ℕ) (p : PortState) → IsUsed u p.pool k → Was n p → (slot_at pools p.pool k).serial < p.loans
        below n k p used (inl q) =
            let before = used_before p.pool k used in
            let pool : p.pool ≡ q.0.pool = ap (λ (x : PortState). x.pool) q.2 ∙ shows (λ x. x.pool) (λ x ps. refl) q.0 in
            let loans : q.0.loans ≡ p.loans = sym (ap (λ (x : PortState). x.loans) q.2 ∙ shows (λ x. x.loans) (λ x ps. refl) q.0) in
            let low : (slot_at t.pools p.pool k).serial < q.0.loans
            = subst (λ i. (slot_at t.pools i k).serial < q.0.loans) (sym pool) (order.serials.below n k q.0 q.1 (subst (λ i. IsUsed t i k) pool before.1)) in
            subst (λ (s : SlotState). s.serial < p.loans) (slot_else p.pool k before.0) (subst (λ i. (slot_at t.pools p.pool k).serial < i) loans low)
        below n k p used (inr q) =
            absurd (true≢false (sym (ap (λ (x : PortState). x.pool == new.pool) q.1 ∙ eqb-refl new.pool) ∙ (used_before p.pool k used).0))

    -- each pool was there, or is the new one
    abbrev PoolWas : ℕ → PoolState → Type 0
    PoolWas i a = ((pool_at t.pools i ≡ Some a) × ((i == new.pool) ≡ false)) ⊎ ((i ≡ new.pool) × (a.port ≡ t.next_number))

    pub has_pools : HavePools u
    has_pools = record { each = λ n p at. each n p (port_was n p at); apart = apart }
      where
        each : (n : ℕ) (p : PortState) → Was n p → HasPool u p
        each n p (inl q) =
            let has = order.pools.each n q.0 q.1 in
            record {
              pool = has.pool;
              there = ap (λ (x : PortState). pool_at pools x.pool) q.2 ∙ ap (pool_at pools) (shows (λ x. x.pool) (λ x ps. refl) q.0) ∙ sym (put.others q.0.pool (may.place.ports n q.0 q.1)) ∙ has.there;
              port = has.port ∙ sym (ap (λ (x : PortState). x.number) q.2 ∙ shows (λ x. x.number) (λ x ps. refl) q.0);
              node_id = has.node_id ∙ sym (ap (λ (x : PortState). x.node_id) q.2 ∙ shows (λ x. x.node_id) (λ x ps. refl) q.0);
              port_id = has.port_id ∙ sym (ap (λ (x : PortState). x.id) q.2 ∙ shows (λ x. x.id) (λ x ps. refl) q.0);
              size = has.size ∙ sym (ap (λ (x : PortState). x.size) q.2 ∙ shows (λ x. x.size) (λ x ps. refl) q.0);
            }
        each n p (inr q) = record {
          pool = pool_made new;
          there = ap (λ (x : PortState). pool_at pools x.pool) q.1 ∙ put.there;
          port = sym (ap (λ (x : PortState). x.number) q.1);
          node_id = sym (ap (λ (x : PortState). x.node_id) q.1);
          port_id = sym (ap (λ (x : PortState). x.id) q.1);
          size = length_same new.size no_slot ∙ sym (ap (λ (x : PortState). x.size) q.1);
        }

        of : (i : ℕ) (a : PoolState) → pool_at pools i ≡ Some a → PoolWas i a
        of i a at = step (i == new.pool) refl
          where
            step : (b : Bool) → (i == new.pool) ≡ b → PoolWas i a
            step false e = inl (put.others i e ∙ at, e)
            step true e = inr (
              eqb-true i new.pool e,
              ap (λ (o : Option PoolState). option_map_or (λ x. x.port) o 0) (sym at ∙ ap (pool_at pools) (eqb-true i new.pool e) ∙ put.there) ∙ may.number,
            )

        apart : (i j : ℕ) (a b : PoolState) → pool_at pools i ≡ Some a → pool_at pools j ≡ Some b → a.port ≡ b.port → i ≡ j
        apart i j a b p q e = step (of i a p) (of j b q)
          where
            step : PoolWas i a → PoolWas j b → i ≡ j
            step (inl x) (inl y) = order.pools.apart i j a b x.0 y.0 e
            step (inl x) (inr y) = let low = order.numbers.owners i a x.0 in let high = y.1 in absurd (omega (arith, low, high, e))
            step (inr x) (inl y) = let low = order.numbers.owners j b y.0 in let high = x.1 in absurd (omega (arith, low, high, e))
            step (inr x) (inr y) = x.0 ∙ sym y.0

    pipe_else : (r s : ℕ) → (r == new.number) ≡ false → (s == new.number) ≡ false → pipe_from (pipes_to u.ports r) s ≡ pipe_from (pipes_to t.ports r) s
    pipe_else r s other sender = ap (λ o. pipe_from (option_map_or pipes_of o []) s) (port_else r other) ∙ of (port_in t.ports r)
      where
        or_none : (o : Option PipeState) → or_else o None ≡ o
        or_none (Some p) = refl
        or_none None = refl

        step : (p : PortState) (b : Bool)
            → pipe_from (pipes_of (if b then record p { incoming = record (p.incoming) { pipes = p.incoming.pipes ++ pipe_between t.settings new p ∷ [] } } else p)) s ≡ pipe_from (pipes_of p) s
        step p false = refl
        step p true =
            ap (λ ps. pipe_from ps s) (sym (append_assoc p.expired.pipes p.incoming.pipes (pipe_between t.settings new p ∷ [])))
            ∙ first_append (λ q. q.sender) (pipes_of p) (pipe_between t.settings new p ∷ []) s
            ∙ ap (λ (b : Bool). or_else (pipe_from (pipes_of p) s) (if b then Some (pipe_between t.settings new p) else None)) (flip new.number s ∙ sender)
            ∙ or_none (pipe_from (pipes_of p) s)

        of : (o : Option PortState) → pipe_from (option_map_or pipes_of (option_map (connected_to t.settings new) o) []) s ≡ pipe_from (option_map_or pipes_of o []) s
        of (Some p) = step p (is_other p new)
        of None = refl

    ends : (w : Way) → is_end new.number w ≡ false → ((w.receiver == new.number) ≡ false) × ((w.sender == new.number) ≡ false)
    ends w e = step (w.sender == new.number) (w.receiver == new.number) e
      where
        step : (a b : Bool) → (a || b) ≡ false → (b ≡ false) × (a ≡ false)
        step true b h = absurd (true≢false h)
        step false b h = (h, refl)

    pub lane_else : (w : Way) → is_end new.number w ≡ false → lane_on u.ports w ≡ lane_on t.ports w
    lane_else w e = let f = ends w e in ap (λ o. slice_get (option_map_or (λ (q : PipeState). q.lanes) o []) w.lane) (pipe_else w.receiver w.sender f.0 f.1)

    -- each lane was there, or is a new one at an end of the new port
    abbrev LaneWas : Way → LaneState → Type 0
    LaneWas w l = ((lane_on t.ports w ≡ Some l) × (is_end new.number w ≡ false)) ⊎ (IsNewLane u w l × (is_end new.number w ≡ true))

    pub lane_was : (w : Way) (l : LaneState) → lane_on u.ports w ≡ Some l → LaneWas w l
    lane_was w l at = step (is_end new.number w) refl (is_new.lanes w l at)
      where
        step : (b : Bool) → is_end new.number w ≡ b → ((lane_on t.ports w ≡ Some l) × (is_end new.number w ≡ false)) ⊎ IsNewLane u w l → LaneWas w l
        step false e h = inl (sym (lane_else w e) ∙ at, e)
        step true e (inl q) = absurd (true≢false (sym e ∙ q.1))
        step true e (inr q) = inr (q, e)

    pub lanes : LanesAreOfSenders u
    lanes w l sender at from = step (lane_was w l at)
      where
        old : lane_on t.ports w ≡ Some l → (w.sender == new.number) ≡ false → Was w.sender sender → Rattle.iox_tables.specs.HubBooks.Hubs.IsLaneOf u sender l
        old there other (inl q) =
            let is = order.lanes w l q.0 there q.1 in record {
              of_pool = is.of_pool ∙ sym (ap (λ (x : PortState). x.pool) q.2 ∙ shows (λ x. x.pool) (λ x ps. refl) q.0);
              buffer = is.buffer ∙ ap (Rattle.iox_tables.specs.HubStates.Wirings.buffer_from t.settings) (sym (ap (λ (x : PortState). x.role) q.2 ∙ shows (λ x. x.role) (λ x ps. refl) q.0));
            }
        old there other (inr q) = absurd (true≢false (sym (ap (λ k. k == new.number) q.0 ∙ eqb-refl new.number) ∙ other))

        step : LaneWas w l → Rattle.iox_tables.specs.HubBooks.Hubs.IsLaneOf u sender l
        step (inl q) = old q.0 (ends w q.1).1 (port_was w.sender sender from)
        step (inr q) =
            let same : q.0.from ≡ sender = ap (λ (o : Option PortState). option_map_or (λ x. x) o sender) (sym q.0.sender ∙ from) in record {
              of_pool = ap (λ (x : LaneState). x.pool) q.0.lane ∙ ap (λ (x : PortState). x.pool) same;
              buffer = ap (λ (x : LaneState). x.buffer) q.0.lane ∙ ap (λ (x : PortState). Rattle.iox_tables.specs.HubStates.Wirings.buffer_from t.settings x.role) same;
            }

    pub labels : ResponsesAreOnTheirLanes u
    labels w l k at client has = step (lane_was w l at)
      where
        step : LaneWas w l → (slot_at pools l.pool k).lane ≡ w.lane
        step (inl q) =
            ap (λ (s : SlotState). s.lane) (sym (slot_else l.pool k (else_if_used l.pool k (used_on_lane t order w l k q.0 has))))
            ∙ order.labels w l k q.0 (sym (role_else w.receiver (ends w q.1).0) ∙ client) has
        step (inr q) = absurd (true≢false (sym has ∙ ap (λ (x : LaneState). has_number k (places_on x)) q.0.lane))

    pub owners : PlacesAreOfSenders u
    owners w l k at has = step (lane_was w l at)
      where
        step : LaneWas w l → owner_of pools l.pool ≡ w.sender
        step (inl q) = sym (owner_else l.pool (else_if_used l.pool k (used_on_lane t order w l k q.0 has))) ∙ order.owners w l k q.0 has
        step (inr q) = absurd (true≢false (sym has ∙ ap (λ (x : LaneState). has_number k (places_on x)) q.0.lane))

    pub once : OfAllLanes HasEachPlaceOnce u.ports
    once = new_lanes_are t.settings t.ports new bare HasEachPlaceOnce (λ a b c k. omega arith) order.once

    pub wired : AreWired u
    wired = record { each = connected.wired; kept = connected.kept; limits = connected.limits }

    pub widths : HaveWidths u
    widths n m to from a b roles = made (some_is (pipe_from (pipes_of to) m) found)
      where
        role_back : (x y : Role) → x ≡ other_role y → y ≡ other_role x
        role_back x y e = sym (twice y) ∙ ap other_role (sym e)
          where
            twice : (r : Role) → other_role (other_role r) ≡ r
            twice Client = refl
            twice _ = refl

        found : is_some (pipe_from (pipes_of to) m) ≡ true
        found =
            sym (has_some (pipes_of to) m)
            ∙ ap (has_number m) (map-append (λ (q : PipeState). q.sender) to.expired.pipes to.incoming.pipes)
            ∙ has-append m (senders_of to.expired.pipes) (senders_of to.incoming.pipes)
            ∙ or_right (has_number m (senders_of to.expired.pipes)) (has_number m (senders_of to.incoming.pipes))
            (ap (has_number m) (connected.wired n to a).senders
            ∙ in_role u.ports m from (other_role to.role) b (same_self from.role (other_role to.role) (role_back to.role from.role roles)))

        own : from.number ≡ m
        own = first_key (λ (x : PortState). x.number) u.ports m from b

        made : (pipe : PipeState) × (pipe_from (pipes_of to) m ≡ Some pipe) → HasWidth to from
        made p = step (is_new.pipes n m p.0 (ap (λ o. pipe_from (option_map_or pipes_of o []) m) a ∙ p.1))
          where
            lanes_are : lanes_from (pipes_of to) from.number ≡ p.0.lanes
            lanes_are = ap (lanes_from (pipes_of to)) own ∙ ap (λ (o : Option PipeState). option_map_or (λ q. q.lanes) o []) p.1

            states_are : states_from (pipes_of to) from.number ≡ p.0.states
            states_are = ap (states_from (pipes_of to)) own ∙ ap (λ (o : Option PipeState). option_map_or (λ q. q.states) o []) p.1

            old : pipe_from (pipes_to t.ports n) m ≡ Some p.0 → (n == new.number) ≡ false → (m == new.number) ≡ false → Was n to → Was m from → HasWidth to from
            old there x y (inr q) z = absurd (true≢false (sym (ap (λ k. k == new.number) q.0 ∙ eqb-refl new.number) ∙ x))
            old there x y (inl q) (inr r) = absurd (true≢false (sym (ap (λ k. k == new.number) r.0 ∙ eqb-refl new.number) ∙ y))
            old there x y (inl q) (inl r) =
                let role_to : to.role ≡ q.0.role = ap (λ (x : PortState). x.role) q.2 ∙ shows (λ x. x.role) (λ x ps. refl) q.0 in
                let role_from : from.role ≡ r.0.role = ap (λ (x : PortState). x.role) r.2 ∙ shows (λ x. x.role) (λ x ps. refl) r.0 in
                let before = order.widths n m q.0 r.0 q.1 r.1 (sym role_to ∙ roles ∙ ap other_role role_from) in
                let number : r.0.number ≡ m = first_key (λ (x : PortState). x.number) t.ports m r.0 r.1 in
                let pipe : pipe_from (pipes_of q.0) r.0.number ≡ Some p.0 = ap (pipe_from (pipes_of q.0)) number ∙ ap (λ o. pipe_from (option_map_or pipes_of o []) m) (sym q.1) ∙ there in
                record {
                  lanes = ap (λ (ls : List LaneState). length ls) (lanes_are ∙ ap (λ (o : Option PipeState). option_map_or (λ q. q.lanes) o []) (sym pipe))
                      ∙ before.lanes ∙ sym (ap width_of q.2 ∙ shows width_of (λ x ps. refl) q.0);
                  states = ap (λ (ls : List _). length ls) (states_are ∙ ap (λ (o : Option PipeState). option_map_or (λ q. q.states) o []) (sym pipe))
                      ∙ before.states ∙ sym (ap states_of r.2 ∙ shows states_of (λ x ps. refl) r.0);
                }

            step : ((pipe_from (pipes_to t.ports n) m ≡ Some p.0) × ((n == new.number) ≡ false) × ((m == new.number) ≡ false)) ⊎ IsNewPipe u n m p.0 → HasWidth to from
            step (inl q) = old q.0 q.1 q.2 (port_was n to a) (port_was m from b)
            step (inr q) =
                let same_to : q.to ≡ to = ap (λ (o : Option PortState). option_map_or (λ x. x) o to) (sym q.goes ∙ a) in
                let same_from : q.from ≡ from = ap (λ (o : Option PortState). option_map_or (λ x. x) o from) (sym q.comes ∙ b) in
                record {
                  lanes = ap (λ (ls : List LaneState). length ls) (lanes_are ∙ ap (λ (x : PipeState). x.lanes) q.is) ∙ length_same (width_of q.to) _ ∙ ap width_of same_to;
                  states = ap (λ (ls : List _). length ls) (states_are ∙ ap (λ (x : PipeState). x.states) q.is) ∙ length_same (states_of q.from) _ ∙ ap states_of same_from;
                }
