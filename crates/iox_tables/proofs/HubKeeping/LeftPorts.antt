-- What of the tables of a hub stays as a port goes.
use Rattle.std.specs.Prelude.{◌≡◌, ◌⊎◌, ℕ, ◌+◌, ◌<◌, Bool, true, false, not, ◌||◌, if◌then◌else◌, ◌==◌, List, [], ◌∷◌, ◌++◌, drop, map, filter, length, Option, Some, None, is_some, refl}
use Rattle.std.specs.Option.{option_map, option_map_or}
use Rattle.std.proofs.Common.{sym, ap, ap₂, subst, ◌∙◌, arith, inl, inr, true≢false, eqb-true}
use Rattle.std.proofs.lemmas.Bool.{or_left}
use Rattle.std.proofs.lemmas.Option.{none-some}
use Rattle.iox_model.specs.declared.kind.Role.TheVariants.{Client}
use Rattle.iox_model.specs.declared.way.Way.{Way}
use Rattle.iox_model.specs.Maps.{AreDistinct, has_number}
use Rattle.iox_model.specs.Settings.{other_role}
use Rattle.iox_laws.proofs.WeaveLedger.Lists.{IsAmong, NoRepeats, among-append, among-back, among-front, among-number, distinct-no_repeats, filter-among, no_repeats-distinct, number-among}
use Rattle.iox_lanes.specs.Lanes.{LaneState}
use Rattle.iox_lanes.specs.Pipes.{PipeState}
use Rattle.iox_tables.specs.HubStates.Tables.{HubTables, PoolState, PortState, numbers_of, pipe_from, pipes_of, pipes_to, pool_at, port_in, senders_of, slot_at}
use Rattle.iox_tables.specs.HubStates.States.{expired_in}
use Rattle.iox_tables.specs.HubStates.Steps.{is_there}
use Rattle.iox_tables.proofs.HubStates.Emptied.{has-append}
use Rattle.iox_tables.specs.HubStates.Ways.{lane_on}
use Rattle.iox_tables.specs.HubStates.Wirings.{IsWired, role_in}
use Rattle.iox_tables.proofs.HubStates.Fixing.{first_key}
use Rattle.iox_tables.specs.HubBooks.Counts.{OfAll, OfAllLanes, lane_count, lane_uses}
use Rattle.iox_tables.specs.HubBooks.Hubs.{AreInOrder, AreWired, HasEachPlaceOnce, HasPool, HaveNumbers, HavePools, HaveSerials, HaveWidths, HoldersAreCounted, IsUsed, LanesAreOfSenders, PlacesAreOfSenders, ResponsesAreOnTheirLanes, numbers_in}
use Rattle.iox_tables.specs.HubBooks.Keeps.{bare_pool, bare_slot}
use Rattle.iox_tables.proofs.HubBooks.Eachs.{OfPipe, OfPort, all-append, all-back, all-front, all_first}
use Rattle.iox_tables.proofs.HubBooks.Frames.{length_map}
use Rattle.iox_tables.proofs.HubBooks.Structures.{pool_after, pool_before, same_lane, same_owner, same_serial}
use Rattle.iox_tables.specs.HubMaking.Disconnections.{cut_from, is_left, ports_without, with_disconnected}
use Rattle.iox_tables.specs.HubMaking.Expirings.{KeepsExpired, with_expired}
use Rattle.iox_tables.specs.HubMaking.Wires.{AreConnected, PortIsGone}
use Rattle.iox_tables.proofs.HubMaking.Firsts.{has_first}
use Rattle.iox_tables.proofs.HubMaking.Kept.{by_kept, kept_or_new}
use Rattle.iox_tables.proofs.HubMaking.Leaving.{gone_ports_leave_others}
use Rattle.iox_tables.proofs.HubMaking.Summing.{gone_lanes_count}
use Rattle.iox_tables.specs.HubKeeping.Keeps.{lost_uses}
use Rattle.iox_tables.proofs.HubKeeping.Ordered.{are_connected, lanes_sum, may_go, senders_apart}
use Rattle.iox_tables.specs.HubMaking.NewPorts.{states_of, width_of}
use Rattle.iox_tables.specs.HubLending.Emptying.{HasFewerHolders}

-- ---- lists

-- what is so of all is so of those that pass a test
pub all_filter : {A : Type 0} (P : A → Type 0) (test : A → Bool) (xs : List A) → OfAll P xs → OfAll P (filter test xs)
all_filter P test [] a = tt
all_filter P test (x ∷ xs) a = step (test x) (all_filter P test xs a.1)
  where
    step : (b : Bool) → OfAll P (filter test xs) → OfAll P (if b then x ∷ filter test xs else filter test xs)
    step true rest = (a.0, rest)
    step false rest = rest

no_repeats-fewer : (test : ℕ → Bool) (xs ys : List ℕ) → NoRepeats (xs ++ ys) → NoRepeats (filter test xs ++ ys)
no_repeats-fewer test [] ys d = d
no_repeats-fewer test (x ∷ xs) ys d = step (test x) (no_repeats-fewer test xs ys d.1)
  where
    apart : IsAmong x (filter test xs) ⊎ IsAmong x ys → ⊥
    apart (inl p) = d.0 (among-front x xs ys (filter-among test x xs p).0)
    apart (inr p) = d.0 (among-back x xs ys p)

    step : (b : Bool) → NoRepeats (filter test xs ++ ys) → NoRepeats ((if b then x ∷ filter test xs else filter test xs) ++ ys)
    step true rest = ((λ p. apart (among-append x (filter test xs) ys p)), rest)
    step false rest = rest

module _ (t : HubTables) (n : ℕ) (pools : List (Option PoolState)) (order : AreInOrder t) (there : is_there t.ports n ≡ true)
    (fewer : HasFewerHolders t.pools pools (lost_uses t n))
  where
    abbrev u : HubTables
    u = record (with_disconnected t n) { pools = pools }

    pub is_gone : PortIsGone t n
    is_gone = (gone_ports_leave_others t n (are_connected t order) (may_go t order n there)).0

    connected : AreConnected (with_disconnected t n)
    connected = (gone_ports_leave_others t n (are_connected t order) (may_go t order n there)).1

    -- ---- ports

    -- each port was there, and is not the one that went
    pub port_was : (k : ℕ) (p : PortState) → port_in u.ports k ≡ Some p → (q : PortState) × (port_in t.ports k ≡ Some q) × (p ≡ cut_from n q) × ((k == n) ≡ false)
    port_was k p at = step (k == n) refl (port_in t.ports k) refl (sym (is_gone.ports k) ∙ at)
      where
        step : (b : Bool) → (k == n) ≡ b → (o : Option PortState) → port_in t.ports k ≡ o → (if b then None else option_map (cut_from n) o) ≡ Some p
            → (q : PortState) × (port_in t.ports k ≡ Some q) × (p ≡ cut_from n q) × ((k == n) ≡ false)
        step true e o is h = absurd (none-some p h)
        step false e None is h = absurd (none-some p h)
        step false e (Some q) is h = (q, is, sym (ap (λ (o : Option PortState). option_map_or (λ x. x) o p) h), e)

    pub port_left : (k : ℕ) (q : PortState) → port_in t.ports k ≡ Some q → (k == n) ≡ false → port_in u.ports k ≡ Some (cut_from n q)
    port_left k q at other = is_gone.ports k ∙ ap₂ (λ (b : Bool) o. if b then None else option_map (cut_from n) o) other at

    role_left : (k : ℕ) → (k == n) ≡ false → role_in u.ports k ≡ role_in t.ports k
    role_left k other =
        ap (λ o. option_map_or (λ (p : PortState). p.role) o Client) (is_gone.ports k ∙ ap (λ (b : Bool). if b then None else option_map (cut_from n) (port_in t.ports k)) other)
        ∙ step (port_in t.ports k)
      where
        step : (o : Option PortState) → option_map_or (λ (p : PortState). p.role) (option_map (cut_from n) o) Client ≡ option_map_or (λ (p : PortState). p.role) o Client
        step (Some p) = refl
        step None = refl

    -- ---- slots

    pub lanes_counted : (pool k : ℕ) → lane_uses t.ports pool k ≡ lane_uses u.ports pool k + lost_uses t n pool k
    lanes_counted pool k =
        let old = lanes_sum (lane_count pool k) t.ports in
        let new = lanes_sum (lane_count pool k) (ports_without n t.ports) in
        let all = gone_lanes_count (lane_count pool k) n t.ports (senders_apart t order) in omega (arith, old, new, all)

    pub counted : HoldersAreCounted u
    counted pool k =
        let before = order.counted pool k in
        let lanes = lanes_counted pool k in
        let holders = fewer.holders pool k in omega (arith, before, lanes, holders)

    used_before : (pool k : ℕ) → IsUsed u pool k → IsUsed t pool k
    used_before pool k used = let holders = fewer.holders pool k in omega (arith, holders, used)

    pub serials : HaveSerials u
    serials = record {
      apart = λ pool j k a b e.
          order.serials.apart pool j k (used_before pool j a) (used_before pool k b) (same_serial t.pools pools fewer.same pool j ∙ e ∙ sym (same_serial t.pools pools fewer.same pool k));
      below = λ m k p at used.
          let q = port_was m p at in
          let is : p.pool ≡ q.0.pool = ap (λ (x : PortState). x.pool) q.2 in
          let low : (slot_at t.pools p.pool k).serial < q.0.loans
          = subst (λ c. (slot_at t.pools c k).serial < q.0.loans) (sym is) (order.serials.below m k q.0 q.1 (subst (λ c. IsUsed t c k) is (used_before p.pool k used))) in
          subst (λ c. c < p.loans) (same_serial t.pools pools fewer.same p.pool k) (subst (λ c. (slot_at t.pools p.pool k).serial < c) (sym (ap (λ (x : PortState). x.loans) q.2)) low);
    }

    pub has_pools : HavePools u
    has_pools = record { each = each; apart = apart }
      where
        slots_are : (a b : PoolState) → bare_pool a ≡ bare_pool b → length a.slots ≡ length b.slots
        slots_are a b e = sym (length_map bare_slot a.slots) ∙ ap (λ (p : PoolState). length p.slots) e ∙ length_map bare_slot b.slots

        each : (k : ℕ) (p : PortState) → port_in u.ports k ≡ Some p → HasPool u p
        each k p at =
            let q = port_was k p at in
            let old = order.pools.each k q.0 q.1 in
            let new = pool_after t.pools pools fewer.same q.0.pool old.pool old.there in record {
              pool = new.0;
              there = ap (λ (x : PortState). pool_at pools x.pool) q.2 ∙ new.1;
              port = ap (λ (x : PoolState). x.port) new.2 ∙ old.port ∙ sym (ap (λ (x : PortState). x.number) q.2);
              node_id = ap (λ (x : PoolState). x.node_id) new.2 ∙ old.node_id ∙ sym (ap (λ (x : PortState). x.node_id) q.2);
              port_id = ap (λ (x : PoolState). x.port_id) new.2 ∙ old.port_id ∙ sym (ap (λ (x : PortState). x.id) q.2);
              size = slots_are new.0 old.pool new.2 ∙ old.size ∙ sym (ap (λ (x : PortState). x.size) q.2);
            }

        apart : (i j : ℕ) (a b : PoolState) → pool_at pools i ≡ Some a → pool_at pools j ≡ Some b → a.port ≡ b.port → i ≡ j
        apart i j a b p q e =
            let c = pool_before t.pools pools fewer.same i a p in
            let d = pool_before t.pools pools fewer.same j b q in
            order.pools.apart i j c.0 d.0 c.1 d.1 (ap (λ (x : PoolState). x.port) c.2 ∙ e ∙ sym (ap (λ (x : PoolState). x.port) d.2))

    -- ---- numbers

    pub numbers : HaveNumbers u
    numbers = record { apart = apart; below = below; owners = owners; kept = gone_low }
      where
        names : List ℕ
        names = map (λ h. h.number) t.handles

        kept : List ℕ
        kept = filter (λ k. not (k == n)) (numbers_of t.ports)

        are : numbers_in u ≡ kept ++ names
        are = ap (λ ns. ns ++ names) is_gone.numbers

        apart : AreDistinct (numbers_in u)
        apart = subst AreDistinct (sym are) (no_repeats-distinct (kept ++ names) (no_repeats-fewer (λ k. not (k == n)) (numbers_of t.ports) names (distinct-no_repeats (numbers_in t) order.numbers.apart)))

        old : (k : ℕ) → IsAmong k kept ⊎ IsAmong k names → IsAmong k (numbers_in t)
        old k (inl p) = among-front k (numbers_of t.ports) names (filter-among (λ j. not (j == n)) k (numbers_of t.ports) p).0
        old k (inr p) = among-back k (numbers_of t.ports) names p

        below : (k : ℕ) → has_number k (numbers_in u) ≡ true → k < t.next_number
        below k has =
            order.numbers.below k
            (among-number k (numbers_in t) (old k (among-append k kept names (number-among k (kept ++ names) (subst (λ ns. has_number k ns ≡ true) are has)))))

        owners : (place : ℕ) (q : PoolState) → pool_at pools place ≡ Some q → q.port < t.next_number
        owners place q at =
            let p = pool_before t.pools pools fewer.same place q at in
            subst (λ k. k < t.next_number) (ap (λ (x : PoolState). x.port) p.2) (order.numbers.owners place p.0 p.1)

        itself : n < t.next_number
        itself =
            order.numbers.below n
            (has-append n (numbers_of t.ports) names ∙ or_left (has_number n (numbers_of t.ports)) (has_number n names) (has_first (λ (x : PortState). x.number) t.ports n ∙ there))

        gone_low : (k : ℕ) (p : PortState) → port_in u.ports k ≡ Some p → (j : ℕ) → has_number j (senders_of p.expired.pipes) ≡ true → j < t.next_number
        gone_low k p at j has =
            let q = port_was k p at in step (j == n) refl q.0 q.1 (sym (ap (λ (x : PortState). has_number j (senders_of x.expired.pipes)) q.2) ∙ has)
          where
            step : (b : Bool) → (j == n) ≡ b → (q : PortState) → port_in t.ports k ≡ Some q → has_number j (senders_of (cut_from n q).expired.pipes) ≡ true → j < t.next_number
            step true e q is h = subst (λ i. i < t.next_number) (sym (eqb-true j n e)) itself
            step false e q is h =
                order.numbers.kept k q is j
                (kept_or_new n q.expired (pipe_from q.incoming.pipes n) (λ x from. first_key (λ (y : PipeState). y.sender) q.incoming.pipes n x from) j h e)

    -- ---- lanes

    pub lane_was : (w : Way) (l : LaneState) → lane_on u.ports w ≡ Some l → (lane_on t.ports w ≡ Some l) × ((w.receiver == n) ≡ false)
    lane_was w l at = step (w.receiver == n) refl (sym (is_gone.lanes w) ∙ at)
      where
        some_if : (b : Bool) → (if b then lane_on t.ports w else None) ≡ Some l → lane_on t.ports w ≡ Some l
        some_if true e = e
        some_if false e = absurd (none-some l e)

        step : (b : Bool) → (w.receiver == n) ≡ b → (if is_left n t.ports w.receiver w.sender then lane_on t.ports w else None) ≡ Some l
            → (lane_on t.ports w ≡ Some l) × (b ≡ false)
        step false eb e = (some_if (is_left n t.ports w.receiver w.sender) e, refl)
        step true eb e =
            absurd (none-some l
            (sym (ap (λ (b : Bool). if (if b then false else (if (w.sender == n) || has_number w.sender (expired_in t.ports w.receiver) then has_number w.sender (expired_in u.ports w.receiver) else true)) then lane_on t.ports w else None) eb) ∙ e))

    pub once : OfAllLanes HasEachPlaceOnce u.ports
    once = each (filter (λ p. not (p.number == n)) t.ports) (all_filter (OfPort HasEachPlaceOnce) (λ p. not (p.number == n)) t.ports order.once)
      where
        cut : (p : PortState) → OfPort HasEachPlaceOnce p → OfPort HasEachPlaceOnce (cut_from n p)
        cut p a =
            all-append (OfPipe HasEachPlaceOnce) (with_expired p.expired (pipe_from p.incoming.pipes n)).pipes (filter (λ q. not (q.sender == n)) p.incoming.pipes)
            (by_kept (λ c. OfAll (OfPipe HasEachPlaceOnce) c.pipes) p.expired (pipe_from p.incoming.pipes n) old
            (λ q e r. all-append (OfPipe HasEachPlaceOnce) p.expired.pipes (q ∷ []) old (sent q e, tt))
            (λ q e r. all-append (OfPipe HasEachPlaceOnce) (drop 1 p.expired.pipes) (q ∷ []) (behind p.expired.pipes old) (sent q e, tt)))
            (all_filter (OfPipe HasEachPlaceOnce) (λ q. not (q.sender == n)) p.incoming.pipes (all-back (OfPipe HasEachPlaceOnce) p.expired.pipes p.incoming.pipes a))
          where
            old : OfAll (OfPipe HasEachPlaceOnce) p.expired.pipes
            old = all-front (OfPipe HasEachPlaceOnce) p.expired.pipes p.incoming.pipes a

            sent : (q : PipeState) → pipe_from p.incoming.pipes n ≡ Some q → OfPipe HasEachPlaceOnce q
            sent q e = all_first (OfPipe HasEachPlaceOnce) (λ x. x.sender) p.incoming.pipes n q (all-back (OfPipe HasEachPlaceOnce) p.expired.pipes p.incoming.pipes a) e

            behind : (qs : List PipeState) → OfAll (OfPipe HasEachPlaceOnce) qs → OfAll (OfPipe HasEachPlaceOnce) (drop 1 qs)
            behind [] b = tt
            behind (x ∷ xs) b = b.1

        each : (ps : List PortState) → OfAll (OfPort HasEachPlaceOnce) ps → OfAll (OfPort HasEachPlaceOnce) (map (cut_from n) ps)
        each [] a = tt
        each (p ∷ ps) a = (cut p a.0, each ps a.1)

    pub lanes : LanesAreOfSenders u
    lanes w l sender at from =
        let q = port_was w.sender sender from in
        let is = order.lanes w l q.0 (lane_was w l at).0 q.1 in record {
          of_pool = is.of_pool ∙ sym (ap (λ (x : PortState). x.pool) q.2);
          buffer = is.buffer ∙ sym (ap (λ (x : PortState). Rattle.iox_tables.specs.HubStates.Wirings.buffer_from t.settings x.role) q.2);
        }

    pub labels : ResponsesAreOnTheirLanes u
    labels w l k at client has =
        let was = lane_was w l at in
        sym (same_lane t.pools pools fewer.same l.pool k) ∙ order.labels w l k was.0 (sym (role_left w.receiver was.1) ∙ client) has

    pub owners : PlacesAreOfSenders u
    owners w l k at has = sym (same_owner t.pools pools fewer.same l.pool) ∙ order.owners w l k (lane_was w l at).0 has

    -- ---- pipes

    pub wired : AreWired u
    wired = record { each = each; kept = kept; limits = connected.limits }
      where
        each : (k : ℕ) (p : PortState) → port_in u.ports k ≡ Some p → IsWired u p
        each k p at = let it = connected.wired k p at in record { senders = it.senders; apart = it.apart; none_kept = it.none_kept }

        kept : (k : ℕ) (p : PortState) → port_in u.ports k ≡ Some p → KeepsExpired u p
        kept k p at = let it = connected.kept k p at in record { room = it.room; few = it.few; gone = it.gone; wide = it.wide }

    -- what leads from one connected port to another is left
    left_between : (i j : ℕ) → (i == n) ≡ false → (j == n) ≡ false → is_there t.ports j ≡ true → is_left n t.ports i j ≡ true
    left_between i j a b connected_too =
        ap₂ (λ (c d : Bool). if c then false else (if d then has_number j (expired_in u.ports i) else true)) a
        (ap₂ (λ (c d : Bool). c || d) b (off (port_in t.ports i) refl))
      where
        either : (p : PortState) → port_in t.ports i ≡ Some p → (b : Bool) → has_number j (senders_of p.expired.pipes) ≡ b → b ≡ false
        either p at false e = refl
        either p at true e = absurd (true≢false (sym connected_too ∙ ap (λ (o : Option PortState). is_some o) ((order.wired.kept i p at).gone j e)))

        off : (o : Option PortState) → port_in t.ports i ≡ o → has_number j (option_map_or (λ (p : PortState). senders_of p.expired.pipes) o []) ≡ false
        off None at = refl
        off (Some p) at = either p at (has_number j (senders_of p.expired.pipes)) refl

    pub widths : HaveWidths u
    widths i j to from a b roles =
        let q = port_was i to a in
        let r = port_was j from b in
        let before = order.widths i j q.0 r.0 q.1 r.1 (sym (ap (λ (x : PortState). x.role) q.2) ∙ roles ∙ ap (λ (x : PortState). other_role x.role) r.2) in
        let own : from.number ≡ j = first_key (λ (x : PortState). x.number) u.ports j from b in
        let old : r.0.number ≡ j = first_key (λ (x : PortState). x.number) t.ports j r.0 r.1 in
        let pipe : pipe_from (pipes_of to) from.number ≡ pipe_from (pipes_of q.0) r.0.number
        = ap (pipe_from (pipes_of to)) own ∙ ap (λ o. pipe_from (option_map_or pipes_of o []) j) (sym a) ∙ is_gone.pipes i j
        ∙ ap (λ (x : Bool). if x then pipe_from (pipes_to t.ports i) j else None) (left_between i j q.3 r.3 (ap (λ (o : Option PortState). is_some o) r.1)) ∙ ap (λ o. pipe_from (option_map_or pipes_of o []) j) q.1
        ∙ ap (pipe_from (pipes_of q.0)) (sym old) in
        record {
          lanes = ap (λ (o : Option PipeState). length (option_map_or (λ x. x.lanes) o [])) pipe ∙ before.lanes ∙ sym (ap width_of q.2);
          states = ap (λ (o : Option PipeState). length (option_map_or (λ x. x.states) o [])) pipe ∙ before.states ∙ sym (ap states_of r.2);
        }
