-- The disconnection of a port of which nothing is left keeps the tables of a hub in order.
use Rattle.std.specs.Prelude.{◌≡◌, ℕ, ◌<◌, Bool, true, false, not, ◌&&◌, ◌||◌, if◌then◌else◌, ◌==◌, List, [], ◌∷◌, Option, Some, None, is_some, refl}
use Rattle.std.specs.List.{list_any}
use Rattle.std.specs.Option.{option_map_or}
use Rattle.std.proofs.Common.{sym, ap, ap₂, subst, ◌∙◌, arith, inl, inr, true≢false, eqb-true, eq-eqb}
use Rattle.iox_model.specs.declared.way.Way.{Way}
use Rattle.iox_model.specs.Handles.{is_received}
use Rattle.iox_model.specs.Maps.{has_number, same_way}
use Rattle.iox_tables.specs.HubStates.Tables.{HandleState, HubTables, PoolState, PortState, port_in, senders_of, slot_at}
use Rattle.iox_tables.specs.HubStates.States.{expired_in}
use Rattle.iox_tables.specs.HubStates.Ways.{lane_on}
use Rattle.iox_tables.specs.HubStates.Ends.{OfEachHandle}
use Rattle.iox_tables.specs.HubStates.Steps.{is_there}
use Rattle.iox_tables.specs.HubBooks.Counts.{is_at}
use Rattle.iox_tables.specs.HubBooks.Handles.{IsAlone, IsFromLane, IsOfPoolOrGone, IsOfPort, LoansAreAlone, TakenHaveHandles, way_in}
use Rattle.iox_tables.specs.HubBooks.Hubs.{AreInOrder}
use Rattle.iox_tables.proofs.HubBooks.Going.{each_both}
use Rattle.iox_tables.proofs.HubBooks.Held.{IsCountedIn, each_counts, each_handle_from}
use Rattle.iox_tables.proofs.HubBooks.Structures.{same_lane, same_owner}
use Rattle.iox_tables.proofs.HubBooks.Used.{at_itself, passes_once}
use Rattle.iox_tables.specs.HubMaking.Disconnections.{cut_from, is_held_in, is_left, is_of_port, is_unused, node_in, with_disconnected}
use Rattle.iox_tables.proofs.HubMaking.Disconnecting.{there_left}
use Rattle.iox_tables.specs.HubKeeping.Keeps.{DisconnectionsKeepOrder, lost_uses}
use Rattle.iox_tables.proofs.HubKeeping.LeftPorts as left
use Rattle.iox_tables.proofs.HubKeeping.Ordered.{one_from, total_each, way_receiver, way_same}
use Rattle.iox_tables.specs.HubLending.Emptying.{HasFewerHolders}

both_not : (a b : Bool) → (not a && not b) ≡ true → b ≡ false
both_not true b e = absurd (true≢false (sym e))
both_not false true e = absurd (true≢false (sym e))
both_not false false e = refl

none_is : (test : HandleState → Bool) (hs : List HandleState) → list_any test hs ≡ false → OfEachHandle (λ h. test h ≡ false) hs
none_is test [] e = tt
none_is test (h ∷ hs) e = (first (test h) (list_any test hs) e, none_is test hs (rest (test h) (list_any test hs) e))
  where
    first : (a b : Bool) → (a || b) ≡ false → a ≡ false
    first true b e = absurd (true≢false e)
    first false b e = refl

    rest : (a b : Bool) → (a || b) ≡ false → b ≡ false
    rest true b e = absurd (true≢false e)
    rest false b e = e

module _ (t : HubTables) (n : ℕ) (pools : List (Option PoolState)) (order : AreInOrder t) (there : is_there t.ports n ≡ true) (unused : is_unused t n ≡ true)
    (fewer : HasFewerHolders t.pools pools (lost_uses t n))
  where
    abbrev u : HubTables
    u = record (with_disconnected t n) { pools = pools }

    -- what is so of each handle
    abbrev Known : HandleState → Type 0
    Known h = IsOfPort t h × ((h.port == n) ≡ false)

    others : OfEachHandle (λ h. is_of_port t.ports n h ≡ false) t.handles
    others = none_is (is_of_port t.ports n) t.handles (both_not (is_held_in t.ports n) (list_any (is_of_port t.ports n) t.handles) unused)

    known : OfEachHandle Known t.handles
    known =
        each_handle_from (λ h. IsOfPort t h × (is_of_port t.ports n h ≡ false)) Known (λ h is. (is.0, other h is.0 is.1 (h.port == n) refl)) t.handles
        (each_both (IsOfPort t) (λ h. is_of_port t.ports n h ≡ false) t.handles order.ports others)
      where
        other : (h : HandleState) → IsOfPort t h → is_of_port t.ports n h ≡ false → (b : Bool) → (h.port == n) ≡ b → b ≡ false
        other h is not_its false e = refl
        other h is not_its true e =
            let node : h.node ≡ node_in t.ports n
            = is.on_node ∙ sym (ap (λ o. option_map_or (λ (p : PortState). p.node) o 0) (ap (port_in t.ports) (sym (eqb-true h.port n e)) ∙ is.there)) in
            absurd (true≢false (sym (ap₂ (λ (a b : Bool). a && b) (eq-eqb h.node (node_in t.ports n) node) e) ∙ not_its))

    way_stays : (h : HandleState) → way_in t.pools h ≡ way_in pools h
    way_stays h = way_same t.pools pools h (same_lane t.pools pools fewer.same h.pool h.slot) (same_owner t.pools pools fewer.same h.pool)

    of_port : (h : HandleState) → Known h → IsOfPort u h
    of_port h is =
        let o = is.0 in
        record {
          port = cut_from n o.port;
          there = left.port_left t n pools order there fewer h.port o.port o.there is.1;
          on_node = o.on_node;
          role = o.role;
          either = o.either;
          of_pool = o.of_pool;
          lane = λ own client. subst (λ k. k < o.port.size) (same_lane t.pools pools fewer.same h.pool h.slot) (o.lane own client);
          client = λ e. o.client e ∙ same_owner t.pools pools fewer.same h.pool;
        }

    alone : LoansAreAlone u
    alone =
        each_handle_from (λ h. IsCountedIn t.handles h × IsAlone t h) (IsAlone u) (λ h is loan. stays h is.0 (is.1 loan)) t.handles
        (each_both (IsCountedIn t.handles) (IsAlone t) t.handles (each_counts t.handles) order.alone)
      where
        stays : (h : HandleState) → IsCountedIn t.handles h → (slot_at t.pools h.pool h.slot).holders ≡ 1 → (slot_at pools h.pool h.slot).holders ≡ 1
        stays h counts one =
            let all = order.counted h.pool h.slot in
            let below = counts (λ k. if is_at h.pool h.slot k then 1 else 0) in
            let some = passes_once (is_at h.pool h.slot) h (at_itself h) in
            let lanes = left.lanes_counted t n pools order there fewer h.pool h.slot in
            let holders = fewer.holders h.pool h.slot in omega (arith, one, all, below, some, lanes, holders)

    taken : TakenHaveHandles u
    taken w l k at =
        order.taken w l k (left.lane_was t n pools order there fewer w l at).0
        ∙ total_each (one_from t.pools w l.pool k) (one_from pools w l.pool k) t.handles
        (each_handle_from Known (λ h. one_from t.pools w l.pool k h ≡ one_from pools w l.pool k h)
        (λ h is. ap (λ x. if is_received h.kind && (same_way x w && is_at l.pool k h) then 1 else 0) (way_stays h)) t.handles known)

    from_lane : (h : HandleState) → Known h × IsFromLane t h → IsFromLane u h
    from_lane h is received =
        subst (λ w. IsOfPoolOrGone u w h.pool) (way_stays h)
        (step (is.1 received) (is_left n t.ports (way_in t.pools h).receiver (way_in t.pools h).sender) refl ((left.is_gone t n pools order there fewer).lanes (way_in t.pools h)))
      where
        receiver : ((way_in t.pools h).receiver == n) ≡ false
        receiver = ap (λ k. k == n) (way_receiver t.pools h) ∙ is.0.1

        -- a lane is left unless its sender is gone
        sender : (a b : Bool) → ((way_in t.pools h).sender == n) ≡ a → has_number (way_in t.pools h).sender (expired_in t.ports (way_in t.pools h).receiver) ≡ b
            → (if a || b then has_number (way_in t.pools h).sender (expired_in u.ports (way_in t.pools h).receiver) else true) ≡ false
            → is_there u.ports (way_in t.pools h).sender ≡ false
        sender false false ea eb e = absurd (true≢false e)
        sender true b ea eb e = there_left n t.ports (way_in t.pools h).sender ∙ ap (λ (x : Bool). if x then false else is_there t.ports (way_in t.pools h).sender) ea
        sender false true ea eb e = there_left n t.ports (way_in t.pools h).sender ∙ ap₂ (λ (x y : Bool). if x then false else y) ea (off (port_in t.ports (way_in t.pools h).receiver) refl eb)
          where
            off : (o : Option PortState) → port_in t.ports (way_in t.pools h).receiver ≡ o
                → has_number (way_in t.pools h).sender (option_map_or (λ (p : PortState). senders_of p.expired.pipes) o []) ≡ true
                → is_there t.ports (way_in t.pools h).sender ≡ false
            off None at has = absurd (true≢false (sym has))
            off (Some p) at has = ap (λ (o : Option PortState). is_some o) ((order.wired.kept (way_in t.pools h).receiver p at).gone (way_in t.pools h).sender has)

        gone : is_left n t.ports (way_in t.pools h).receiver (way_in t.pools h).sender ≡ false → is_there u.ports (way_in t.pools h).sender ≡ false
        gone e =
            sender ((way_in t.pools h).sender == n) (has_number (way_in t.pools h).sender (expired_in t.ports (way_in t.pools h).receiver)) refl refl
            (sym (ap (λ (b : Bool). if b then false else (if ((way_in t.pools h).sender == n) || has_number (way_in t.pools h).sender (expired_in t.ports (way_in t.pools h).receiver)
            then has_number (way_in t.pools h).sender (expired_in u.ports (way_in t.pools h).receiver) else true)) receiver) ∙ e)

        still_gone : is_there t.ports (way_in t.pools h).sender ≡ false → is_there u.ports (way_in t.pools h).sender ≡ false
        still_gone e = there_left n t.ports (way_in t.pools h).sender ∙ either ((way_in t.pools h).sender == n)
          where
            either : (b : Bool) → (if b then false else is_there t.ports (way_in t.pools h).sender) ≡ false
            either true = refl
            either false = e

        none_if : (b : Bool) → lane_on t.ports (way_in t.pools h) ≡ None → (if b then lane_on t.ports (way_in t.pools h) else None) ≡ None
        none_if true e = e
        none_if false e = refl

        step : IsOfPoolOrGone t (way_in t.pools h) h.pool → (b : Bool) → is_left n t.ports (way_in t.pools h).receiver (way_in t.pools h).sender ≡ b
            → lane_on u.ports (way_in t.pools h) ≡ (if is_left n t.ports (way_in t.pools h).receiver (way_in t.pools h).sender then lane_on t.ports (way_in t.pools h) else None)
            → IsOfPoolOrGone u (way_in t.pools h) h.pool
        step (inr a) b e lane = inr (lane ∙ none_if (is_left n t.ports (way_in t.pools h).receiver (way_in t.pools h).sender) a.0, still_gone a.1)
        step (inl a) true e lane = inl (a.0, lane ∙ ap (λ (x : Bool). if x then lane_on t.ports (way_in t.pools h) else None) e ∙ a.1, a.2)
        step (inl a) false e lane = inr (lane ∙ ap (λ (x : Bool). if x then lane_on t.ports (way_in t.pools h) else None) e, gone e)

    pub in_order : AreInOrder u
    in_order = record {
      counted = left.counted t n pools order there fewer;
      serials = left.serials t n pools order there fewer;
      pools = left.has_pools t n pools order there fewer;
      once = left.once t n pools order there fewer;
      lanes = left.lanes t n pools order there fewer;
      labels = left.labels t n pools order there fewer;
      owners = left.owners t n pools order there fewer;
      widths = left.widths t n pools order there fewer;
      wired = left.wired t n pools order there fewer;
      numbers = left.numbers t n pools order there fewer;
      ports = each_handle_from Known (IsOfPort u) of_port t.handles known;
      alone = alone;
      own = order.own;
      taken = taken;
      received = each_handle_from (λ h. Known h × IsFromLane t h) (IsFromLane u) from_lane t.handles (each_both Known (IsFromLane t) t.handles known order.received);
    }

pub disconnections_keep_order : DisconnectionsKeepOrder
disconnections_keep_order t n pools order there unused fewer = in_order t n pools order there unused fewer
