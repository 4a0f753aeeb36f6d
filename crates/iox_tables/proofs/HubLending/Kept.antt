-- Whoever has a slot of a port's pool has it for that port: on a lane from it, or in its handle.
use Rattle.std.specs.Prelude.{◌≡◌, ℕ, zero, suc, ◌+◌, ◌<◌, ◌≤◌, Bool, true, false, ◌&&◌, ◌||◌, if◌then◌else◌, ◌==◌, nat_lt, List, [], ◌∷◌, ◌++◌, map, flat_map, filter, length, Option, Some, None, is_some, slice_get, refl}
use Rattle.std.specs.List.{range_with_len}
use Rattle.std.specs.Option.{option_map_or}
use Rattle.std.proofs.Common.{sym, ap, ap₂, subst, ◌∙◌, arith, inl, inr, true≢false, eqb-true}
use Rattle.std.proofs.lemmas.Option.{none-some, slice_get_within}
use Rattle.iox_model.specs.declared.kind.Kind.TheVariants.{ActiveRequest}
use Rattle.iox_model.specs.declared.kind.Role.{Role}
use Rattle.iox_model.specs.declared.kind.Role.TheVariants.{Client, Server}
use Rattle.iox_model.specs.declared.way.Way.{Way}
use Rattle.iox_model.specs.Handles.{is_own, is_received, same_kind}
use Rattle.iox_model.specs.Maps.{has_number, same_way}
use Rattle.iox_model.specs.Messages.{request_way, response_way}
use Rattle.iox_model.specs.Settings.{is_client, other_role, same_role}
use Rattle.iox_laws.proofs.WeaveLaws.MapLemmas.{eqb-refl, same_way-refl}
use Rattle.iox_laws.proofs.WeaveLedger.Lists.{IsAmong, NoRepeats, among-any, among-back, among-filter, among-front, among-map, among-number, distinct-no_repeats, number-among}
use Rattle.iox_laws.proofs.WeaveLedger.Ranges.{range-has}
use Rattle.iox_lanes.specs.Lanes.{LaneState}
use Rattle.iox_lanes.specs.Pipes.{PipeState}
use Rattle.iox_tables.specs.HubStates.Tables.{HandleState, HubTables, PoolState, PortState, first_by, labels_of, numbers_of, owner_of, pipe_from, pipes_of, pool_at, port_in, senders_of, slot_at}
use Rattle.iox_tables.specs.HubStates.Ways.{lane_on, lanes_from}
use Rattle.iox_tables.specs.HubStates.Steps.{is_there, places_on}
use Rattle.iox_tables.specs.HubStates.Wirings.{numbers_of_role}
use Rattle.iox_tables.proofs.HubStates.Keys.{has_some}
use Rattle.iox_tables.specs.HubBooks.Counts.{how_often, in_pipe, in_port, is_at, lane_count, lane_uses, handle_uses, total}
use Rattle.iox_tables.specs.HubBooks.Handles.{IsFromLane, IsOfPoolOrGone, IsOfPort, is_from, way_in}
use Rattle.iox_tables.specs.HubBooks.Hubs.{AreInOrder, IsUsed}
use Rattle.iox_tables.proofs.HubBooks.Held.{IsCountedIn, each_counts}
use Rattle.iox_tables.proofs.HubBooks.Places.{has_often}
use Rattle.iox_tables.proofs.HubBooks.Sendable.{of_role}
use Rattle.iox_tables.proofs.HubBooks.Used.{at_itself, passes_once}
use Rattle.iox_tables.proofs.HubBooks.Ways.{sends_in}
use Rattle.iox_tables.specs.HubLoans.Lenders.{size_in, ways_by, ways_to_client}
use Rattle.iox_tables.specs.HubLoans.Pools.{is_slot_held, is_slot_kept, is_slot_out}
use Rattle.iox_tables.specs.HubLoans.Slots.{is_place}
use Rattle.iox_tables.proofs.HubLoans.Dry.{or_left, or_right}
use Rattle.iox_tables.specs.HubLending.Keeping.{HasMessage, HaveMessages, HeldSlotsAreKept, has_holder}
use Rattle.iox_tables.proofs.HubLending.Owning.{has_its_pool, kept_used, number_is, of_each, port_is, same_some, two}
use Rattle.iox_tables.specs.HubMaking.NewPorts.{width_of}

-- ---- lists

pub both : (a b : Bool) → a ≡ true → b ≡ true → (a && b) ≡ true
both a b e f = ap₂ (λ x y. x && y) e f

-- what counts something has one that does
pub counting : {A : Type 0} (f : A → ℕ) (xs : List A) → 1 ≤ total f xs → (x : A) × IsAmong x xs × (1 ≤ f x)
counting f [] some = absurd (omega (arith, some))
counting {A} f (x ∷ xs) some = step (f x) refl (counting f xs)
  where
    step : (n : ℕ) → f x ≡ n → (1 ≤ total f xs → (y : A) × IsAmong y xs × (1 ≤ f y)) → (y : A) × IsAmong y (x ∷ xs) × (1 ≤ f y)
    step zero e rest = let r = rest (omega (arith, some, e)) in (r.0, inr r.1, r.2)
    step (suc n) e rest = (x, inl refl, omega (arith, e))

pub counting_at : {A : Type 0} (f : A → ℕ) (xs : List A) → 1 ≤ total f xs → (i : ℕ) × (x : A) × (slice_get xs i ≡ Some x) × (1 ≤ f x)
counting_at f [] some = absurd (omega (arith, some))
counting_at {A} f (x ∷ xs) some = step (f x) refl (counting_at f xs)
  where
    step : (n : ℕ) → f x ≡ n → (1 ≤ total f xs → (i : ℕ) × (y : A) × (slice_get xs i ≡ Some y) × (1 ≤ f y)) → (i : ℕ) × (y : A) × (slice_get (x ∷ xs) i ≡ Some y) × (1 ≤ f y)
    step zero e rest = let r = rest (omega (arith, some, e)) in (suc r.0, r.1, r.2, r.3)
    step (suc n) e rest = (0, x, refl, omega (arith, e))

passes : (b : Bool) → 1 ≤ (if b then 1 else 0) → b ≡ true
passes true e = refl
passes false e = absurd (omega (arith, e))

pub no_repeats-front : {A : Type 0} (xs ys : List A) → NoRepeats (xs ++ ys) → NoRepeats xs
no_repeats-front [] ys d = tt
no_repeats-front (x ∷ xs) ys d = (λ p. d.0 (among-front x xs ys p), no_repeats-front xs ys d.1)

pub first_own : {A : Type 0} (key : A → ℕ) (xs : List A) (a : A) → NoRepeats (map key xs) → IsAmong a xs → first_by key xs (key a) ≡ Some a
first_own key [] a once among = absurd among
first_own key (x ∷ xs) a once (inl e) = ap (λ (b : Bool). if b then Some x else first_by key xs (key a)) (ap (λ n. key x == n) (ap key e) ∙ eqb-refl (key x)) ∙ ap Some (sym e)
first_own {A} key (x ∷ xs) a once (inr among) = step (key x == key a) refl (first_own key xs a once.1 among)
  where
    step : (b : Bool) → (key x == key a) ≡ b → first_by key xs (key a) ≡ Some a → (if b then Some x else first_by key xs (key a)) ≡ Some a
    step true e rest = absurd (once.0 (subst (λ n. IsAmong n (map key xs)) (sym (eqb-true (key x) (key a) e)) (among-map key a xs among)))
    step false e rest = rest

among-flat : {A B : Type 0} (f : A → List B) (a : A) (b : B) (xs : List A) → IsAmong a xs → IsAmong b (f a) → IsAmong b (flat_map f xs)
among-flat f a b [] p q = absurd p
among-flat f a b (x ∷ xs) (inl e) q = among-front b (f x) (flat_map f xs) (subst (λ y. IsAmong b (f y)) e q)
among-flat f a b (x ∷ xs) (inr p) q = among-back b (f x) (flat_map f xs) (among-flat f a b xs p q)

-- ---- roles

same_role-refl : (r : Role) → same_role r r ≡ true
same_role-refl Client = refl
same_role-refl Server = refl

other_other : (r : Role) → other_role (other_role r) ≡ r
other_other Client = refl
other_other Server = refl

-- ---- ways

module _ (t : HubTables) (order : AreInOrder t) where
  pub numbers_apart : NoRepeats (numbers_of t.ports)
  numbers_apart = no_repeats-front (numbers_of t.ports) (map (λ h. h.number) t.handles) (distinct-no_repeats _ order.numbers.apart)

  -- the port of a pool is one
  pub same_port : (m n : ℕ) (q p : PortState) → port_in t.ports m ≡ Some q → port_in t.ports n ≡ Some p → q.pool ≡ p.pool → m ≡ n
  same_port m n q p at there e =
      sym (number_is t order m q at) ∙ sym (has_its_pool t order m q at).owner ∙ ap (owner_of t.pools) e ∙ (has_its_pool t order n p there).owner
      ∙ number_is t order n p there

  -- a port of that number and role is among those of the role
  of_its_role : (m : ℕ) (q : PortState) → IsAmong q t.ports → (role : Role) → q.role ≡ role → q.number ≡ m → IsAmong m (numbers_of_role role t.ports)
  of_its_role m q among role e is =
      subst (λ i. IsAmong i (numbers_of_role role t.ports)) is
      (among-map (λ (x : PortState). x.number) q (filter (λ (x : PortState). same_role x.role role) t.ports)
      (among-filter (λ (x : PortState). same_role x.role role) q t.ports among (ap (λ r. same_role r role) e ∙ same_role-refl role)))

  first-among : (ps : List PortState) (m : ℕ) (q : PortState) → port_in ps m ≡ Some q → IsAmong q ps
  first-among [] m q at = absurd (none-some q at)
  first-among (x ∷ xs) m q at = step (x.number == m) at (first-among xs m q)
    where
      step : (b : Bool) → (if b then Some x else port_in xs m) ≡ Some q → (port_in xs m ≡ Some q → IsAmong q xs) → IsAmong q (x ∷ xs)
      step true is rest = inl (sym (same_some x q is))
      step false is rest = inr (rest is)

  module _ (n : ℕ) (p : PortState) (there : port_in t.ports n ≡ Some p) where
    -- lanes to a server are one, to a client as many as its size
    one_of_width : (w : Way) (q : PortState) → port_in t.ports w.receiver ≡ Some q → w.sender ≡ p.number → (role : Role) → p.role ≡ role → q.role ≡ other_role role
        → w.lane < width_of q → IsAmong w (ways_by role t p.number)
    one_of_width w q at from Client e other low =
        let last : w.lane < 1 = subst (λ r. w.lane < (if is_client r then q.size else 1)) other low in
        subst (λ (v : Way). IsAmong v (map (request_way p.number) (numbers_of_role Server t.ports))) (is_way last)
        (among-map (request_way p.number) w.receiver (numbers_of_role Server t.ports) (of_its_role w.receiver q (first-among t.ports w.receiver q at) Server other (number_is t order w.receiver q at)))
      where
        none : (i : ℕ) → i < 1 → 0 ≡ i
        none i lt = omega (arith, lt)

        is_way : w.lane < 1 → request_way p.number w.receiver ≡ w
        is_way last = ap₂ (λ (s i : ℕ). record { sender = s; receiver = w.receiver; lane = i }) (sym from) (none w.lane last)
    one_of_width w q at from Server e other low =
        let few : w.lane < q.size = subst (λ r. w.lane < (if is_client r then q.size else 1)) other low in
        let size : size_in t.ports w.receiver ≡ q.size = ap (λ o. option_map_or (λ (x : PortState). x.size) o 0) at in
        among-flat (ways_to_client t p.number) w.receiver w (numbers_of_role Client t.ports)
        (of_its_role w.receiver q (first-among t.ports w.receiver q at) Client other (number_is t order w.receiver q at))
        (subst (λ (v : Way). IsAmong v (ways_to_client t p.number w.receiver)) is_way
        (among-map (λ lane. response_way w.receiver lane p.number) w.lane (range_with_len 0 (size_in t.ports w.receiver))
        (range-has 0 (size_in t.ports w.receiver) w.lane (below w.lane) (subst (λ i. w.lane < 0 + i) (sym size) (up w.lane q.size few)))))
      where
        below : (i : ℕ) → 0 ≤ i
        below i = omega arith

        up : (i m : ℕ) → i < m → i < 0 + m
        up i m lt = omega (arith, lt)

        is_way : response_way w.receiver w.lane p.number ≡ w
        is_way = ap (λ (s : ℕ). record { sender = s; receiver = w.receiver; lane = w.lane }) (sym from)

    -- a lane with messages of the port's pool is on one of its ways
    pub way_is : (w : Way) (l : LaneState) (k : ℕ) → lane_on t.ports w ≡ Some l → l.pool ≡ p.pool → has_number k (places_on l) ≡ true → IsAmong w (ways_by p.role t p.number)
    way_is w l k at pool has = at_port (port_in t.ports w.receiver) refl at
      where
        at_pipe : (q : PortState) → port_in t.ports w.receiver ≡ Some q → (o : Option PipeState) → pipe_from (pipes_of q) w.sender ≡ o
            → slice_get (option_map_or (λ (x : PipeState). x.lanes) o []) w.lane ≡ Some l → IsAmong w (ways_by p.role t p.number)
        at_pipe q port None pipe is = absurd (none-some l is)
        at_pipe q port (Some x) pipe is =
            let its = order.pools.each n p there in
            let owner : w.sender ≡ n
            = sym (order.owners w l k at has) ∙ ap (owner_of t.pools) pool ∙ ap (λ o. option_map_or (λ (y : PoolState). y.port) o 0) its.there ∙ its.port ∙ number_is t order n p there in
            let sends : has_number w.sender (senders_of (pipes_of q)) ≡ true = has_some (pipes_of q) w.sender ∙ ap is_some pipe in
            let connected : is_there t.ports w.sender ≡ true = ap (is_there t.ports) owner ∙ ap is_some there in
            let r = of_role t order (other_role q.role) w.sender (number-among w.sender _ (sends_in t order w.receiver q port w.sender connected sends)) in
            let from : w.sender ≡ p.number = owner ∙ sym (number_is t order n p there) in
            let same : r.0 ≡ p = port_is t order n p there w.sender r.0 r.1 from in
            let role : p.role ≡ other_role q.role = ap (λ (y : PortState). y.role) (sym same) ∙ r.2 in
            let other : q.role ≡ other_role p.role = sym (other_other q.role) ∙ ap other_role (sym role) in
            let width = order.widths w.receiver n q p port there other in
            let lanes : lanes_from (pipes_of q) p.number ≡ x.lanes = ap (lanes_from (pipes_of q)) (sym from) ∙ ap (λ o. option_map_or (λ (y : PipeState). y.lanes) o []) pipe in
            one_of_width w q port from p.role refl other
            (subst (λ i. w.lane < i) (sym (ap (λ (ls : List LaneState). length ls) lanes) ∙ width.lanes) (slice_get_within x.lanes w.lane l is))

        at_port : (o : Option PortState) → port_in t.ports w.receiver ≡ o → slice_get (lanes_from (option_map_or pipes_of o []) w.sender) w.lane ≡ Some l → IsAmong w (ways_by p.role t p.number)
        at_port None port is = absurd (none-some l is)
        at_port (Some q) port is = at_pipe q port (pipe_from (pipes_of q) w.sender) refl is

    out_on : (w : Way) (l : LaneState) (k : ℕ) → lane_on t.ports w ≡ Some l → l.pool ≡ p.pool → has_number k (places_on l) ≡ true → is_slot_out t p k ≡ true
    out_on w l k at pool has =
        among-any (λ v. option_map_or (λ m. has_number k (places_on m)) (lane_on t.ports v) false) w (ways_by p.role t p.number) (way_is w l k at pool has)
        (ap (λ o. option_map_or (λ (m : LaneState). has_number k (places_on m)) o false) at ∙ has)

    -- ---- lanes

    on_lane : (k : ℕ) → 1 ≤ lane_uses t.ports p.pool k → is_slot_out t p k ≡ true
    on_lane k some =
        let q = counting (in_port (lane_count p.pool k)) t.ports some in
        let x = counting (in_pipe (lane_count p.pool k)) (pipes_of q.0) q.2 in
        let l = counting_at (lane_count p.pool k) x.0.lanes x.2 in
        let port : port_in t.ports q.0.number ≡ Some q.0 = first_own (λ (y : PortState). y.number) t.ports q.0 numbers_apart q.1 in
        let pipe : pipe_from (pipes_of q.0) x.0.sender ≡ Some x.0
        = first_own (λ (y : PipeState). y.sender) (pipes_of q.0) x.0 (distinct-no_repeats _ (order.wired.each q.0.number q.0 port).apart) x.1 in
        let w : Way = record { sender = x.0.sender; receiver = q.0.number; lane = l.0 } in
        let at : lane_on t.ports w ≡ Some l.1
        = ap (λ o. slice_get (lanes_from (option_map_or pipes_of o []) x.0.sender) l.0) port ∙ ap (λ o. slice_get (option_map_or (λ (y : PipeState). y.lanes) o []) l.0) pipe ∙ l.2 in
        let its = counted l.1 (l.1.pool == p.pool) refl l.3 in
        out_on w l.1 k at its.0 (has_often k (places_on l.1) its.1)
      where
        counted : (l : LaneState) (b : Bool) → (l.pool == p.pool) ≡ b → 1 ≤ (if b then how_often k (places_on l) else 0) → (l.pool ≡ p.pool) × (1 ≤ how_often k (places_on l))
        counted l true e many = (eqb-true l.pool p.pool e, many)
        counted l false e many = absurd (omega (arith, many))

    -- ---- handles

    in_handle : HaveMessages t → (k : ℕ) (h : HandleState) → IsAmong h t.handles → h.pool ≡ p.pool → h.slot ≡ k → is_slot_kept t p k ≡ true
    in_handle messages k h among pool slot = step (is_own h.kind) refl
      where
        of : IsOfPort t h
        of = of_each (IsOfPort t) h t.handles order.ports among

        own : is_own h.kind ≡ true → is_slot_held t p k ≡ true
        own e =
            let number : h.port ≡ p.number = same_port h.port n of.port p of.there there (sym (of.of_pool e) ∙ pool) ∙ sym (number_is t order n p there) in
            among-any (λ g. (g.port == p.number) && (is_own g.kind && is_place p.pool k g.pool g.slot)) h t.handles among
            (both (h.port == p.number) _ (ap (λ i. i == p.number) number ∙ eqb-refl p.number)
            (both (is_own h.kind) _ e (both (h.pool == p.pool) (h.slot == k) (ap (λ i. i == p.pool) pool ∙ eqb-refl p.pool) (ap (λ i. i == k) slot ∙ eqb-refl k))))

        sender_is : (way_in t.pools h).sender ≡ p.number
        sender_is = by_kind (same_kind h.kind ActiveRequest) refl ∙ ap (owner_of t.pools) pool ∙ (has_its_pool t order n p there).owner
          where
            by_kind : (b : Bool) → same_kind h.kind ActiveRequest ≡ b
                → (if b then request_way h.client h.port else response_way h.port (labels_of t.pools h.pool h.slot).lane (owner_of t.pools h.pool)).sender ≡ owner_of t.pools h.pool
            by_kind true e = of.client e
            by_kind false e = refl

        received : is_received h.kind ≡ true → is_slot_out t p k ≡ true
        received e = by_lane (of_each (IsFromLane t) h t.handles order.received among e)
          where
            by_lane : IsOfPoolOrGone t (way_in t.pools h) h.pool → is_slot_out t p k ≡ true
            by_lane (inr gone) = absurd (true≢false (sym (ap is_some (ap (port_in t.ports) (sender_is ∙ number_is t order n p there) ∙ there)) ∙ gone.1))
            by_lane (inl a) =
                let from : is_from t.pools (way_in t.pools h) a.0.pool h.slot h ≡ true
                = both (is_received h.kind) _ e
                (both (same_way (way_in t.pools h) (way_in t.pools h)) _ (same_way-refl (way_in t.pools h)) (subst (λ i. is_at i h.slot h ≡ true) (sym a.2) (at_itself h))) in
                let taken = order.taken (way_in t.pools h) a.0 h.slot a.1 in
                let below = of_each (IsCountedIn t.handles) h t.handles (each_counts t.handles) among (λ g. if is_from t.pools (way_in t.pools h) a.0.pool h.slot g then 1 else 0) in
                let some = passes_once (is_from t.pools (way_in t.pools h) a.0.pool h.slot) h from in
                let often : 1 ≤ how_often h.slot a.0.taken = omega (arith, taken, below, some) in
                out_on (way_in t.pools h) a.0 k a.1 (a.2 ∙ pool)
                (subst (λ j. has_number j (places_on a.0) ≡ true) slot
                (among-number h.slot (places_on a.0)
                (among-back h.slot a.0.returned (a.0.waiting ++ a.0.taken) (among-back h.slot a.0.waiting a.0.taken (number-among h.slot a.0.taken (has_often h.slot a.0.taken often))))))

        not_own : (a b : Bool) → a ≡ false → (a || b) ≡ true → b ≡ true
        not_own true b e is = absurd (true≢false e)
        not_own false b e is = is

        step : (b : Bool) → is_own h.kind ≡ b → is_slot_kept t p k ≡ true
        step true e = or_left (is_slot_held t p k) (is_slot_out t p k) (own e)
        step false e =
            or_right (is_slot_held t p k) (is_slot_out t p k)
            (received (not_own (is_own h.kind) (is_received h.kind) e (of_each HasMessage h t.handles messages among)))

    pub used_kept : HaveMessages t → (k : ℕ) → IsUsed t p.pool k → is_slot_kept t p k ≡ true
    used_kept messages k used = step (handle_uses t.handles p.pool k) refl
      where
        counted : (slot_at t.pools p.pool k).holders ≡ handle_uses t.handles p.pool k + lane_uses t.ports p.pool k
        counted = order.counted p.pool k

        step : (m : ℕ) → handle_uses t.handles p.pool k ≡ m → is_slot_kept t p k ≡ true
        step zero e = or_right (is_slot_held t p k) (is_slot_out t p k) (on_lane k (omega (arith, counted, used, e)))
        step (suc m) e =
            let r = counting (λ h. if is_at p.pool k h then 1 else 0) t.handles (omega (arith, e)) in
            let at = two (r.0.pool == p.pool) (r.0.slot == k) (passes (is_at p.pool k r.0) r.2) in
            in_handle messages k r.0 r.1 (eqb-true r.0.pool p.pool at.0) (eqb-true r.0.slot k at.1)

-- ---- both

same_bool : (a b : Bool) → (a ≡ true → b ≡ true) → (b ≡ true → a ≡ true) → a ≡ b
same_bool true b to back = sym (to refl)
same_bool false true to back = back refl
same_bool false false to back = refl

pub some_holder : (n : ℕ) → 1 ≤ n → nat_lt 0 n ≡ true
some_holder n e = grind (arith, e)

holder_some : (n : ℕ) → nat_lt 0 n ≡ true → 1 ≤ n
holder_some n e = grind (arith, e)

pub held_slots_are_kept : HeldSlotsAreKept
held_slots_are_kept t n k p order messages there =
    same_bool (is_slot_kept t p k) (has_holder (slot_at t.pools p.pool k))
    (λ e. some_holder _ (kept_used t order n p there k e))
    (λ e. used_kept t order n p there messages k (holder_some _ e))
