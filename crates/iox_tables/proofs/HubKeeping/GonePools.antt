-- A pool that is of no port, and that nobody has messages of, may go.
use Rattle.std.specs.Prelude.{◌≡◌, ℕ, zero, suc, ◌<◌, ◌≤◌, Bool, true, false, ◌&&◌, if◌then◌else◌, ◌==◌, List, [], ◌∷◌, Option, Some, None, slice_get, slice_set, refl}
use Rattle.std.specs.Option.{option_map_or}
use Rattle.std.proofs.Common.{sym, ap, subst, ◌∙◌, arith, true≢false, eqb-true}
use Rattle.std.proofs.Math.Dec.{eqb-suc-suc}
use Rattle.std.proofs.lemmas.Option.{none-some}
use Rattle.iox_model.specs.Handles.{is_received}
use Rattle.iox_model.specs.Maps.{same_way}
use Rattle.iox_laws.proofs.WeaveLaws.MapLemmas.{eqb-refl}
use Rattle.iox_tables.specs.HubStates.Tables.{HandleState, HubTables, PoolState, PortState, SlotState, no_slot, owner_of, pool_at, port_in, slot_at}
use Rattle.iox_tables.specs.HubStates.Ends.{OfEachHandle}
use Rattle.iox_tables.specs.HubBooks.Counts.{is_at, uses}
use Rattle.iox_tables.specs.HubBooks.Handles.{IsAlone, IsFromLane, IsOfPoolOrGone, IsOfPort, way_in}
use Rattle.iox_tables.specs.HubBooks.Hubs.{AreInOrder, HasPool, HavePools, HaveSerials, HoldersAreCounted, IsUsed}
use Rattle.iox_tables.proofs.HubBooks.Going.{each_both}
use Rattle.iox_tables.proofs.HubBooks.Held.{each_handle_from}
use Rattle.iox_tables.proofs.HubBooks.Used.{used_on_lane}
use Rattle.iox_tables.specs.HubMaking.FreePools.{with_pool_gone}
use Rattle.iox_tables.specs.HubKeeping.Connected.{IsFreePlace}
use Rattle.iox_tables.specs.HubKeeping.Keeps.{PoolsMayGo}
use Rattle.iox_tables.proofs.HubKeeping.Ordered.{each_used, one_from, total_each, used_else, way_same}

gone_at : (pools : List (Option PoolState)) (i : ℕ) → pool_at (slice_set pools i None) i ≡ None
gone_at [] i = refl
gone_at (p ∷ ps) zero = refl
gone_at (p ∷ ps) (suc i) = gone_at ps i

others_at : (pools : List (Option PoolState)) (i j : ℕ) → (j == i) ≡ false → pool_at pools j ≡ pool_at (slice_set pools i None) j
others_at [] i j e = refl
others_at (p ∷ ps) zero zero e = absurd (true≢false (sym (eqb-refl 0) ∙ e))
others_at (p ∷ ps) zero (suc j) e = refl
others_at (p ∷ ps) (suc i) zero e = refl
others_at (p ∷ ps) (suc i) (suc j) e = others_at ps i j (sym (eqb-suc-suc j i) ∙ e)

module _ (t : HubTables) (place : ℕ) (order : AreInOrder t) (free : IsFreePlace t place) where
  abbrev u : HubTables
  u = with_pool_gone t place

  abbrev pools : List (Option PoolState)
  pools = slice_set t.pools place None

  slot_else : (q k : ℕ) → (q == place) ≡ false → slot_at t.pools q k ≡ slot_at pools q k
  slot_else q k other = ap (λ o. option_map_or (λ (s : SlotState). s) (slice_get (option_map_or (λ (p : PoolState). p.slots) o []) k) no_slot) (others_at t.pools place q other)

  slot_gone : (k : ℕ) → slot_at pools place k ≡ no_slot
  slot_gone k = ap (λ o. option_map_or (λ (s : SlotState). s) (slice_get (option_map_or (λ (p : PoolState). p.slots) o []) k) no_slot) (gone_at t.pools place)

  -- a pool that is there was there
  pool_was : (i : ℕ) (a : PoolState) → pool_at pools i ≡ Some a → pool_at t.pools i ≡ Some a
  pool_was i a at = step (i == place) refl
    where
      step : (b : Bool) → (i == place) ≡ b → pool_at t.pools i ≡ Some a
      step false e = others_at t.pools place i e ∙ at
      step true e = absurd (none-some a (sym (gone_at t.pools place) ∙ ap (pool_at pools) (sym (eqb-true i place e)) ∙ at))

  used_before : (q k : ℕ) → IsUsed u q k → ((q == place) ≡ false) × IsUsed t q k
  used_before q k used = step (q == place) refl
    where
      step : (b : Bool) → (q == place) ≡ b → (b ≡ false) × IsUsed t q k
      step false e = (refl, subst (λ (s : SlotState). 1 ≤ s.holders) (sym (slot_else q k e)) used)
      step true e =
          let none : (slot_at pools q k).holders ≡ 0 = ap (λ i. (slot_at pools i k).holders) (eqb-true q place e) ∙ ap (λ (s : SlotState). s.holders) (slot_gone k) in
          absurd (omega (arith, none, used))

  counted : HoldersAreCounted u
  counted pool k = step (pool == place) refl
    where
      step : (b : Bool) → (pool == place) ≡ b → (slot_at pools pool k).holders ≡ uses t pool k
      step false e = ap (λ (s : SlotState). s.holders) (sym (slot_else pool k e)) ∙ order.counted pool k
      step true e =
          ap (λ i. (slot_at pools i k).holders) (eqb-true pool place e) ∙ ap (λ (s : SlotState). s.holders) (slot_gone k) ∙ sym (free.slots k)
          ∙ ap (λ i. (slot_at t.pools i k).holders) (sym (eqb-true pool place e)) ∙ order.counted pool k

  serials : HaveSerials u
  serials = record {
    apart = λ pool j k a b e.
        let c = used_before pool j a in
        let d = used_before pool k b in
        order.serials.apart pool j k c.1 d.1 (ap (λ (s : SlotState). s.serial) (slot_else pool j c.0) ∙ e ∙ ap (λ (s : SlotState). s.serial) (sym (slot_else pool k d.0)));
    below = λ n k p at used.
        let before = used_before p.pool k used in
        subst (λ (s : SlotState). s.serial < p.loans) (slot_else p.pool k before.0) (order.serials.below n k p at before.1);
  }

  has_pools : HavePools u
  has_pools = record {
    each = λ n p at. has n p at (order.pools.each n p at);
    apart = λ i j a b p q e. order.pools.apart i j a b (pool_was i a p) (pool_was j b q) e;
  }
    where
      has : (n : ℕ) (p : PortState) → port_in t.ports n ≡ Some p → HasPool t p → HasPool u p
      has n p at old = record {
        pool = old.pool;
        there = sym (others_at t.pools place p.pool (free.ports n p at)) ∙ old.there;
        port = old.port;
        node_id = old.node_id;
        port_id = old.port_id;
        size = old.size;
      }

  -- ---- handles

  abbrev Used : HandleState → Type 0
  Used h = IsUsed t h.pool h.slot

  slot_stays : (h : HandleState) → Used h → slot_at t.pools h.pool h.slot ≡ slot_at pools h.pool h.slot
  slot_stays h used = slot_else h.pool h.slot (used_else t order place free h.pool h.slot used)

  owner_stays : (h : HandleState) → Used h → owner_of t.pools h.pool ≡ owner_of pools h.pool
  owner_stays h used = ap (λ o. option_map_or (λ (p : PoolState). p.port) o 0) (others_at t.pools place h.pool (used_else t order place free h.pool h.slot used))

  way_stays : (h : HandleState) → Used h → way_in t.pools h ≡ way_in pools h
  way_stays h used = way_same t.pools pools h (ap (λ (s : SlotState). s.lane) (slot_stays h used)) (owner_stays h used)

  -- what is so of each handle, for a reason that it is used too
  each_is : (P Q : HandleState → Type 0) → ((h : HandleState) → Used h → P h → Q h) → OfEachHandle P t.handles → OfEachHandle Q t.handles
  each_is P Q from a = each_handle_from (λ h. Used h × P h) Q (λ h is. from h is.0 is.1) t.handles (each_both Used P t.handles (each_used t order) a)

  of_port : (h : HandleState) → Used h → IsOfPort t h → IsOfPort u h
  of_port h used o = record {
    port = o.port;
    there = o.there;
    on_node = o.on_node;
    role = o.role;
    either = o.either;
    of_pool = o.of_pool;
    lane = λ own client. subst (λ (s : SlotState). s.lane < o.port.size) (slot_stays h used) (o.lane own client);
    client = λ e. o.client e ∙ owner_stays h used;
  }

  pub in_order : AreInOrder u
  in_order = record {
    counted = counted;
    serials = serials;
    pools = has_pools;
    once = order.once;
    lanes = λ w l sender at from. let is = order.lanes w l sender at from in record { of_pool = is.of_pool; buffer = is.buffer };
    labels = λ w l k at client has.
        ap (λ (s : SlotState). s.lane) (sym (slot_else l.pool k (used_else t order place free l.pool k (used_on_lane t order w l k at has)))) ∙ order.labels w l k at client has;
    owners = λ w l k at has.
        sym (ap (λ o. option_map_or (λ (p : PoolState). p.port) o 0) (others_at t.pools place l.pool (used_else t order place free l.pool k (used_on_lane t order w l k at has))))
        ∙ order.owners w l k at has;
    widths = order.widths;
    wired = record {
      each = λ n p at. let it = order.wired.each n p at in record { senders = it.senders; apart = it.apart; none_kept = it.none_kept };
      kept = λ n p at. let it = order.wired.kept n p at in record { room = it.room; few = it.few; gone = it.gone; wide = it.wide };
      limits = order.wired.limits;
    };
    numbers = record { apart = order.numbers.apart; below = order.numbers.below; owners = λ i q at. order.numbers.owners i q (pool_was i q at); kept = order.numbers.kept };
    ports = each_is (IsOfPort t) (IsOfPort u) of_port order.ports;
    alone = each_is (IsAlone t) (IsAlone u) (λ h used alone loan. ap (λ (s : SlotState). s.holders) (sym (slot_stays h used)) ∙ alone loan) order.alone;
    own = order.own;
    taken = λ w l k at.
        order.taken w l k at
        ∙ total_each (one_from t.pools w l.pool k) (one_from pools w l.pool k) t.handles
        (each_handle_from Used (λ h. one_from t.pools w l.pool k h ≡ one_from pools w l.pool k h)
        (λ h used. ap (λ x. if is_received h.kind && (same_way x w && is_at l.pool k h) then 1 else 0) (way_stays h used)) t.handles (each_used t order));
    received = each_is (IsFromLane t) (IsFromLane u) (λ h used from received. subst (λ w. IsOfPoolOrGone u w h.pool) (way_stays h used) (from received)) order.received;
  }

pub pools_may_go : PoolsMayGo
pools_may_go t place order free = in_order t place order free
