-- What is so of handles stays as ports keep their frame and pools all but holders.
use Rattle.std.specs.Prelude.{◌≡◌, ◌⊎◌, ℕ, ◌+◌, ◌<◌, Bool, true, false, if◌then◌else◌, List, [], ◌∷◌, ◌++◌, Option, Some, None, is_some, refl}
use Rattle.std.specs.Option.{option_map}
use Rattle.std.proofs.Common.{sym, ap, ap₂, subst, ◌∙◌, arith, inl, inr}
use Rattle.std.proofs.lemmas.Option.{none-some}
use Rattle.iox_model.specs.declared.kind.Kind.TheVariants.{ActiveRequest}
use Rattle.iox_model.specs.declared.way.Way.{Way}
use Rattle.iox_model.specs.Handles.{same_kind}
use Rattle.iox_model.specs.Maps.{AreDistinct, has_number}
use Rattle.iox_model.specs.Messages.{request_way, response_way}
use Rattle.iox_laws.proofs.WeaveLedger.Lists.{IsAmong, among-append, among-number, distinct-no_repeats, no_repeats-distinct, no_repeats-last, number-among}
use Rattle.iox_lanes.specs.Lanes.{LaneState}
use Rattle.iox_tables.specs.HubStates.Tables.{HandleState, HubTables, PoolState, PortState, labels_of, owner_of, port_in, senders_of, slot_at}
use Rattle.iox_tables.specs.HubStates.Ways.{lane_on}
use Rattle.iox_tables.specs.HubStates.Ends.{OfEachHandle}
use Rattle.iox_tables.specs.HubStates.Steps.{is_there, places_on}
use Rattle.iox_tables.specs.HubBooks.Counts.{how_often, is_at, lane_count}
use Rattle.iox_tables.specs.HubBooks.Handles.{IsFromLane, IsOfPoolOrGone, IsOfPort, way_in}
use Rattle.iox_tables.specs.HubBooks.Hubs.{AreInOrder, HaveNumbers, numbers_in}
use Rattle.iox_tables.specs.HubBooks.Keeps.{bare_pools}
use Rattle.iox_tables.proofs.HubBooks.Frames.{AreAlike, bare_lane, bare_lane_on, bare_port, first_map, lane_before, port_before}
use Rattle.iox_tables.proofs.HubBooks.Held.{IsCountedIn}
use Rattle.iox_tables.proofs.HubBooks.Structures.{low_kept, pool_before, same_lane, same_owner}
use Rattle.iox_tables.proofs.HubBooks.Used.{at_itself, lane_below, own_count_is, passes_once}

pub each_both : (P Q : HandleState → Type 0) (hs : List HandleState) → OfEachHandle P hs → OfEachHandle Q hs → OfEachHandle (λ h. P h × Q h) hs
each_both P Q [] a b = tt
each_both P Q (h ∷ hs) a b = ((a.0, b.0), each_both P Q hs a.1 b.1)

pub each_last : (P : HandleState → Type 0) (hs : List HandleState) (h : HandleState) → OfEachHandle P hs → P h → OfEachHandle P (hs ++ h ∷ [])
each_last P [] h a b = (b, tt)
each_last P (k ∷ ks) h a b = (a.0, each_last P ks h a.1 b)

-- a lane that has the slot of a loan's pool does not have the loan's message
pub off_lanes : (t : HubTables) → AreInOrder t → (h : HandleState) → IsCountedIn t.handles h → (slot_at t.pools h.pool h.slot).holders ≡ 1
    → (w : Way) (l : LaneState) → lane_on t.ports w ≡ Some l → l.pool ≡ h.pool → how_often h.slot (places_on l) ≡ 0
off_lanes t order h counts alone w l there e =
    let all = order.counted h.pool h.slot in
    let below = counts (λ k. if is_at h.pool h.slot k then 1 else 0) in
    let some = passes_once (is_at h.pool h.slot) h (at_itself h) in
    let lane = lane_below (lane_count h.pool h.slot) t.ports w l there in
    let own = own_count_is h.slot l h.pool e in omega (arith, alone, all, below, some, lane, own)

pub none_after : (old new : List PortState) → AreAlike old new → (w : Way) → lane_on old w ≡ None → lane_on new w ≡ None
none_after old new alike w none = empty (lane_on new w) (sym (bare_lane_on new w) ∙ ap (λ ps. lane_on ps w) alike ∙ bare_lane_on old w ∙ ap (option_map bare_lane) none)
  where
    empty : (o : Option LaneState) → option_map bare_lane o ≡ None → o ≡ None
    empty (Some l) e = absurd (none-some (bare_lane l) (sym e))
    empty None e = refl

pub same_there : (old new : List PortState) → AreAlike old new → (n : ℕ) → is_there new n ≡ is_there old n
same_there old new alike n =
    sym (some_same (port_in new n)) ∙ sym (ap is_some (first_map (λ (p : PortState). p.number) (λ (p : PortState). p.number) bare_port (λ p. refl) new n))
    ∙ ap (λ ps. is_some (port_in ps n)) alike
    ∙ ap is_some (first_map (λ (p : PortState). p.number) (λ (p : PortState). p.number) bare_port (λ p. refl) old n) ∙ some_same (port_in old n)
  where
    some_same : (o : Option PortState) → is_some (option_map bare_port o) ≡ is_some o
    some_same (Some p) = refl
    some_same None = refl

module _ (t u : HubTables) (order : AreInOrder t) (alike : AreAlike t.ports u.ports) (same : bare_pools t.pools ≡ bare_pools u.pools) where
  pub way_stays : (h : HandleState) → way_in t.pools h ≡ way_in u.pools h
  way_stays h = step (same_kind h.kind ActiveRequest)
    where
      step : (b : Bool)
          → (if b then request_way h.client h.port else response_way h.port (labels_of t.pools h.pool h.slot).lane (owner_of t.pools h.pool))
          ≡ (if b then request_way h.client h.port else response_way h.port (labels_of u.pools h.pool h.slot).lane (owner_of u.pools h.pool))
      step true = refl
      step false = ap₂ (λ lane owner. response_way h.port lane owner) (same_lane t.pools u.pools same h.pool h.slot) (same_owner t.pools u.pools same h.pool)

  pub of_port_stays : (h : HandleState) → IsOfPort t h → IsOfPort u h
  of_port_stays h is =
      let p = port_before u.ports t.ports (sym alike) h.port is.port is.there in
      record {
        port = p.0;
        there = p.1;
        on_node = is.on_node ∙ sym (ap (λ (x : PortState). x.node) p.2);
        role = ap (λ (x : PortState). x.role) p.2 ∙ is.role;
        either = is.either;
        of_pool = λ own. is.of_pool own ∙ sym (ap (λ (x : PortState). x.pool) p.2);
        lane = λ own client.
            subst (λ k. k < p.0.size) (same_lane t.pools u.pools same h.pool h.slot)
            (subst (λ k. (slot_at t.pools h.pool h.slot).lane < k) (sym (ap (λ (x : PortState). x.size) p.2)) (is.lane own (sym (ap (λ (x : PortState). x.role) p.2) ∙ client)));
        client = λ e. is.client e ∙ same_owner t.pools u.pools same h.pool;
      }

  pub from_lane_stays : (h : HandleState) → IsFromLane t h → IsFromLane u h
  from_lane_stays h is received = subst (λ w. IsOfPoolOrGone u w h.pool) (way_stays h) (step (is received))
    where
      step : IsOfPoolOrGone t (way_in t.pools h) h.pool → IsOfPoolOrGone u (way_in t.pools h) h.pool
      step (inl a) =
          let l = lane_before u.ports t.ports (sym alike) (way_in t.pools h) a.0 a.1 in
          inl (l.0, l.1, ap (λ (x : LaneState). x.pool) l.2 ∙ a.2)
      step (inr a) = inr (none_after t.ports u.ports alike (way_in t.pools h) a.0, same_there t.ports u.ports alike (way_in t.pools h).sender ∙ a.1)

  -- ---- numbers

  low_ports : (next : ℕ) → ((k : ℕ) → k < t.next_number → k < next) → (n : ℕ) (p : PortState) → port_in u.ports n ≡ Some p → (k : ℕ)
      → has_number k (senders_of p.expired.pipes) ≡ true → k < next
  low_ports next more n p at k has = more k (low_kept t.ports u.ports alike t.next_number order.numbers.kept n p at k has)

  pub numbers_stay : numbers_in u ≡ numbers_in t → u.next_number ≡ t.next_number → HaveNumbers u
  numbers_stay e next = record {
    apart = subst AreDistinct (sym e) order.numbers.apart;
    below = λ n has. subst (λ k. n < k) (sym next) (order.numbers.below n (subst (λ ns. has_number n ns ≡ true) e has));
    owners = λ place q at.
        let p = pool_before t.pools u.pools same place q at in
        subst (λ k. q.port < k) (sym next) (subst (λ k. k < t.next_number) (ap (λ (x : PoolState). x.port) p.2) (order.numbers.owners place p.0 p.1));
    kept = low_ports u.next_number (λ k low. subst (λ j. k < j) (sym next) low);
  }

  pub one_number_more : numbers_in u ≡ numbers_in t ++ t.next_number ∷ [] → u.next_number ≡ t.next_number + 1 → HaveNumbers u
  one_number_more e next = record {
    apart =
        subst AreDistinct (sym e)
        (no_repeats-distinct (numbers_in t ++ t.next_number ∷ [])
        (no_repeats-last t.next_number (numbers_in t) (distinct-no_repeats (numbers_in t) order.numbers.apart) fresh));
    below = λ n has. below n (among-append n (numbers_in t) (t.next_number ∷ []) (number-among n (numbers_in t ++ t.next_number ∷ []) (subst (λ ns. has_number n ns ≡ true) e has)));
    owners = λ place q at.
        let p = pool_before t.pools u.pools same place q at in
        more q.port (subst (λ k. k < t.next_number) (ap (λ (x : PoolState). x.port) p.2) (order.numbers.owners place p.0 p.1));
    kept = low_ports u.next_number more;
  }
    where
      fresh : IsAmong t.next_number (numbers_in t) → ⊥
      fresh among = let low = order.numbers.below t.next_number (among-number t.next_number (numbers_in t) among) in omega (arith, low)

      more : (n : ℕ) → n < t.next_number → n < u.next_number
      more n low = omega (arith, low, next)

      below : (n : ℕ) → IsAmong n (numbers_in t) ⊎ IsAmong n (t.next_number ∷ []) → n < u.next_number
      below n (inl among) = more n (order.numbers.below n (among-number n (numbers_in t) among))
      below n (inr (inl is)) = omega (arith, is, next)
      below n (inr (inr never)) = absurd never
