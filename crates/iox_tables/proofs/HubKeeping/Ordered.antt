-- What is so of ports and handles where the tables of a hub are in order.
use Rattle.std.specs.Prelude.{◌≡◌, ℕ, ◌+◌, ◌<◌, ◌≤◌, Bool, true, false, if◌then◌else◌, ◌==◌, List, [], ◌∷◌, ◌++◌, length, map, Option, Some, None, is_some, slice_get, refl}
use Rattle.std.specs.List.{sum_by}
use Rattle.std.specs.Option.{option_map_or}
use Rattle.std.proofs.Common.{sym, ap, ap₂, subst, ◌∙◌, true≢false, arith, eqb-true}
use Rattle.std.proofs.lemmas.List.Sums.{sum_by-cons}
use Rattle.std.proofs.lemmas.Option.{none-some}
use Rattle.iox_model.specs.declared.kind.Kind.TheVariants.{ActiveRequest}
use Rattle.iox_model.specs.declared.way.Way.{Way}
use Rattle.iox_model.specs.Handles.{same_kind}
use Rattle.iox_model.specs.Maps.{AreDistinct, has_number}
use Rattle.iox_model.specs.Messages.{request_way, response_way}
use Rattle.iox_laws.proofs.WeaveLedger.Lists.{NoRepeats, among-front, among-number, distinct-no_repeats, no_repeats-distinct, number-among}
use Rattle.iox_lanes.specs.Lanes.{LaneState}
use Rattle.iox_tables.specs.HubStates.Tables.{HandleState, HubTables, PoolState, PortState, SlotState, labels_of, no_slot, numbers_of, owner_of, pool_at, port_in, senders_of, slot_at}
use Rattle.iox_tables.specs.HubStates.Ways.{lane_on}
use Rattle.iox_tables.specs.HubStates.States.{expired_in}
use Rattle.iox_tables.specs.HubStates.Ends.{OfEachHandle}
use Rattle.iox_tables.specs.HubStates.Steps.{is_there, places_on}
use Rattle.iox_tables.proofs.HubStates.Fixing.{first_key}
use Rattle.iox_tables.specs.HubBooks.Counts.{OfAll, in_pipe, in_port, is_at, on_lanes, total}
use Rattle.iox_tables.specs.HubBooks.Handles.{IsOfPort, is_from, way_in}
use Rattle.iox_tables.specs.HubBooks.Hubs.{AreInOrder, IsUsed}
use Rattle.iox_tables.specs.HubStates.Wirings.{IsHandle}
use Rattle.iox_tables.proofs.HubBooks.Held.{IsCountedIn, each_counts, each_handle_from}
use Rattle.iox_tables.proofs.HubBooks.Used.{at_itself, handle_is, passes_once, used_on_lane}
use Rattle.iox_tables.specs.HubMaking.Disconnections.{IsAtHome, MayGo}
use Rattle.iox_tables.specs.HubMaking.FreePools.{NobodyHas}
use Rattle.iox_tables.specs.HubMaking.LaneSums.{sum_in_pipe, sum_in_port, sum_on_lanes}
use Rattle.iox_tables.specs.HubMaking.Wires.{AreConnected}
use Rattle.iox_tables.proofs.HubMaking.Firsts.{has_first}
use Rattle.iox_tables.proofs.HubMaking.Removing.{distinct_behind, senders_append}
use Rattle.iox_laws.proofs.WeaveLaws.MapLemmas.{eqb-refl}
use Rattle.iox_tables.specs.HubKeeping.Connected.{ConnectedMayGo, IsFreePlace, KeepsNone, NothingIsKept, OrderIsReadyForPorts, PlacesBecomeFree}
use Rattle.iox_tables.specs.HubMaking.Expirings.{KeepsExpired}
use Rattle.iox_tables.specs.HubMaking.NewPorts.{room_for_gone}
use Rattle.iox_model.specs.declared.kind.Role.{Role}
use Rattle.iox_model.specs.declared.kind.Role.TheVariants.{Client, Server}
use Rattle.iox_lanes.specs.Pipes.{PipeState}

-- ---- lists

front_apart : (xs ys : List ℕ) → NoRepeats (xs ++ ys) → NoRepeats xs
front_apart [] ys d = tt
front_apart (x ∷ xs) ys d = (λ p. d.0 (among-front x xs ys p), front_apart xs ys d.1)

pub total_sum : {A : Type 0} (f g : A → ℕ) → ((x : A) → f x ≡ g x) → (xs : List A) → total f xs ≡ sum_by g xs
total_sum f g same [] = refl
total_sum f g same (x ∷ xs) = ap₂ (λ (a b : ℕ). a + b) (same x) (total_sum f g same xs) ∙ sym (sum_by-cons g x xs)

-- the two words for a sum over all lanes are one
pub lanes_sum : (f : LaneState → ℕ) (ports : List PortState) → on_lanes f ports ≡ sum_on_lanes f ports
lanes_sum f ports =
    total_sum (in_port f) (sum_in_port f) (λ p. total_sum (in_pipe f) (sum_in_pipe f) (λ q. total_sum f f (λ l. refl) q.lanes) _) ports

pub total_each : (f g : HandleState → ℕ) (hs : List HandleState) → OfEachHandle (λ h. f h ≡ g h) hs → total f hs ≡ total g hs
total_each f g [] a = refl
total_each f g (h ∷ hs) a = ap₂ (λ (a b : ℕ). a + b) a.0 (total_each f g hs a.1)

pub total_none : (f : HandleState → ℕ) (hs : List HandleState) → OfEachHandle (λ h. f h ≡ 0) hs → total f hs ≡ 0
total_none f [] a = refl
total_none f (h ∷ hs) a = let one = a.0 in let rest = total_none f hs a.1 in omega (arith, one, rest)

-- ---- the way of a message

-- one for a handle whose message came so
abbrev pub one_from : List (Option PoolState) → Way → ℕ → ℕ → HandleState → ℕ
one_from pools w pool k h = if is_from pools w pool k h then 1 else 0

pub way_receiver : (pools : List (Option PoolState)) (h : HandleState) → (way_in pools h).receiver ≡ h.port
way_receiver pools h = step (same_kind h.kind ActiveRequest)
  where
    step : (b : Bool)
        → (if b then request_way h.client h.port else response_way h.port (labels_of pools h.pool h.slot).lane (owner_of pools h.pool)).receiver ≡ h.port
    step true = refl
    step false = refl

-- pools that agree on the message agree on its way
pub way_same : (old new : List (Option PoolState)) (h : HandleState) → (slot_at old h.pool h.slot).lane ≡ (slot_at new h.pool h.slot).lane → owner_of old h.pool ≡ owner_of new h.pool
    → way_in old h ≡ way_in new h
way_same old new h lane owner = step (same_kind h.kind ActiveRequest)
  where
    step : (b : Bool)
        → (if b then request_way h.client h.port else response_way h.port (labels_of old h.pool h.slot).lane (owner_of old h.pool))
        ≡ (if b then request_way h.client h.port else response_way h.port (labels_of new h.pool h.slot).lane (owner_of new h.pool))
    step true = refl
    step false = ap₂ (λ l o. response_way h.port l o) lane owner

pub way_sender : (t : HubTables) (h : HandleState) → IsOfPort t h → (way_in t.pools h).sender ≡ owner_of t.pools h.pool
way_sender t h is = step (same_kind h.kind ActiveRequest) refl
  where
    step : (b : Bool) → same_kind h.kind ActiveRequest ≡ b
        → (if b then request_way h.client h.port else response_way h.port (labels_of t.pools h.pool h.slot).lane (owner_of t.pools h.pool)).sender ≡ owner_of t.pools h.pool
    step true e = is.client e
    step false e = refl

module _ (t : HubTables) (order : AreInOrder t) where
  -- ---- numbers

  pub names_apart : AreDistinct (numbers_of t.ports)
  names_apart =
      no_repeats-distinct (numbers_of t.ports) (front_apart (numbers_of t.ports) (map (λ h. h.number) t.handles) (distinct-no_repeats _ order.numbers.apart))

  -- a number that was not used is no port's
  pub not_there : is_there t.ports t.next_number ≡ false
  not_there = step (is_there t.ports t.next_number) refl
    where
      low : has_number t.next_number (numbers_of t.ports) ≡ true → t.next_number < t.next_number
      low e =
          order.numbers.below t.next_number
          (among-number t.next_number _ (among-front t.next_number (numbers_of t.ports) (map (λ h. h.number) t.handles) (number-among t.next_number (numbers_of t.ports) e)))

      step : (b : Bool) → is_there t.ports t.next_number ≡ b → b ≡ false
      step false e = refl
      step true e = let never = low (has_first (λ (p : PortState). p.number) t.ports t.next_number ∙ e) in absurd (omega (arith, never))

  -- ---- messages that somebody has

  pub each_used : OfEachHandle (λ h. IsUsed t h.pool h.slot) t.handles
  each_used = each_handle_from (IsCountedIn t.handles) (λ h. IsUsed t h.pool h.slot) (λ h counts. used h counts) t.handles (each_counts t.handles)
    where
      used : (h : HandleState) → IsCountedIn t.handles h → IsUsed t h.pool h.slot
      used h counts =
          let all = order.counted h.pool h.slot in
          let below = counts (λ k. if is_at h.pool h.slot k then 1 else 0) in
          let some = passes_once (is_at h.pool h.slot) h (at_itself h) in omega (arith, all, below, some)

  -- a pool of which somebody has a message is there
  pub owner_low : (place k : ℕ) → IsUsed t place k → owner_of t.pools place < t.next_number
  owner_low place k used = step (pool_at t.pools place) refl
    where
      none : pool_at t.pools place ≡ None → (slot_at t.pools place k).holders ≡ 0
      none e = ap (λ o. (option_map_or (λ (s : SlotState). s) (slice_get (option_map_or (λ (p : PoolState). p.slots) o []) k) no_slot).holders) e

      step : (o : Option PoolState) → pool_at t.pools place ≡ o → option_map_or (λ (p : PoolState). p.port) o 0 < t.next_number
      step (Some q) is = order.numbers.owners place q is
      step None is = let zero = none is in absurd (omega (arith, used, zero))

  -- ---- free places

  module _ (place : ℕ) where
    pub empty_free : pool_at t.pools place ≡ None → IsFreePlace t place
    empty_free none = record {
      ports = λ n p at. step n p at (p.pool == place) refl;
      slots = λ k. ap (λ o. (option_map_or (λ (s : SlotState). s) (slice_get (option_map_or (λ (p : PoolState). p.slots) o []) k) no_slot).holders) none;
    }
      where
        step : (n : ℕ) (p : PortState) → port_in t.ports n ≡ Some p → (b : Bool) → (p.pool == place) ≡ b → b ≡ false
        step n p at false e = refl
        step n p at true e =
            let has = order.pools.each n p at in
            absurd (none-some has.pool (sym none ∙ ap (pool_at t.pools) (sym (eqb-true p.pool place e)) ∙ has.there))

    pub left_free : (q : PoolState) → pool_at t.pools place ≡ Some q → is_there t.ports q.port ≡ false → ((k : ℕ) → (slot_at t.pools place k).holders ≡ 0) → IsFreePlace t place
    left_free q there gone none = record { ports = λ n p at. step n p at (p.pool == place) refl; slots = none }
      where
        step : (n : ℕ) (p : PortState) → port_in t.ports n ≡ Some p → (b : Bool) → (p.pool == place) ≡ b → b ≡ false
        step n p at false e = refl
        step n p at true e =
            let has = order.pools.each n p at in
            let same : q.port ≡ has.pool.port = ap (λ (o : Option PoolState). option_map_or (λ x. x.port) o 0) (sym there ∙ ap (pool_at t.pools) (sym (eqb-true p.pool place e)) ∙ has.there) in
            let number : q.port ≡ n = same ∙ has.port ∙ first_key (λ (x : PortState). x.number) t.ports n p at in
            absurd (true≢false (sym (ap (λ (o : Option PortState). is_some o) at) ∙ ap (is_there t.ports) (sym number) ∙ gone))

    pub used_else : IsFreePlace t place → (q k : ℕ) → IsUsed t q k → (q == place) ≡ false
    used_else free q k used = step (q == place) refl
      where
        step : (b : Bool) → (q == place) ≡ b → b ≡ false
        step false e = refl
        step true e =
            let zero = free.slots k in
            let one : IsUsed t place k = subst (λ i. IsUsed t i k) (eqb-true q place e) used in absurd (omega (arith, zero, one))

    pub nobody_has : IsFreePlace t place → NobodyHas t place
    nobody_has free = record {
      lanes = λ w l k at is. lane w l k at is (has_number k (places_on l)) refl;
      handles = each_handle_from (λ h. IsUsed t h.pool h.slot) (λ h. (h.pool == place) ≡ false) (λ h used. used_else free h.pool h.slot used) t.handles each_used;
    }
      where
        lane : (w : Way) (l : LaneState) (k : ℕ) → lane_on t.ports w ≡ Some l → l.pool ≡ place → (b : Bool) → has_number k (places_on l) ≡ b → b ≡ false
        lane w l k at is false e = refl
        lane w l k at is true e =
            let zero = free.slots k in
            let one : IsUsed t place k = subst (λ i. IsUsed t i k) is (used_on_lane t order w l k at e) in absurd (omega (arith, zero, one))

  -- ---- ports

  pub are_connected : AreConnected t
  are_connected = record { apart = names_apart; wired = order.wired.each; kept = order.wired.kept; limits = order.wired.limits }

  pub may_go : (n : ℕ) → is_there t.ports n ≡ true → MayGo t n
  may_go n there = record { there = there; apart = names_apart; wired = order.wired.each; kept = order.wired.kept; widths = order.widths }

  -- nothing is kept of a port of the next number
  pub unkept : (n : ℕ) → has_number t.next_number (expired_in t.ports n) ≡ false
  unkept n = step (port_in t.ports n) refl
    where
      either : (b : Bool) (p : PortState) → port_in t.ports n ≡ Some p → has_number t.next_number (senders_of p.expired.pipes) ≡ b → b ≡ false
      either false p at e = refl
      either true p at e = let low = order.numbers.kept n p at t.next_number e in absurd (omega (arith, low))

      step : (o : Option PortState) → port_in t.ports n ≡ o → has_number t.next_number (option_map_or (λ (p : PortState). senders_of p.expired.pipes) o []) ≡ false
      step (Some p) at = either (has_number t.next_number (senders_of p.expired.pipes)) p at refl
      step None at = refl

  -- what is so of each port that is found is so of all
  pub all_found : (P : PortState → Type 0) → ((k : ℕ) (p : PortState) → port_in t.ports k ≡ Some p → P p) → OfAll P t.ports
  all_found P each = all P t.ports names_apart each
    where
      all : (P : PortState → Type 0) (ports : List PortState) → AreDistinct (numbers_of ports) → ((k : ℕ) (p : PortState) → port_in ports k ≡ Some p → P p) → OfAll P ports
      all P [] apart each = tt
      all P (p ∷ ps) apart each =
          (each p.number p (ap (λ (b : Bool). if b then Some p else port_in ps p.number) (eqb-refl p.number)), all P ps apart.1 behind)
        where
          behind : (k : ℕ) (q : PortState) → port_in ps k ≡ Some q → P q
          behind k q is = each k q (other (p.number == k) refl)
            where
              other : (b : Bool) → (p.number == k) ≡ b → (if b then Some p else port_in ps k) ≡ Some q
              other false e = is
              other true e =
                  absurd (true≢false
                  (sym (has_first (λ (z : PortState). z.number) ps k ∙ ap (λ (o : Option PortState). is_some o) is)
                  ∙ ap (λ j. has_number j (numbers_of ps)) (sym (eqb-true p.number k e)) ∙ apart.0))

  -- no two pipes to a port come from one
  pub senders_apart : OfAll (λ p. AreDistinct (senders_of p.incoming.pipes)) t.ports
  senders_apart =
      all_found (λ p. AreDistinct (senders_of p.incoming.pipes))
      (λ k p at. distinct_behind (senders_of p.expired.pipes) (senders_of p.incoming.pipes)
      (subst AreDistinct (senders_append p.expired.pipes p.incoming.pipes) (order.wired.each k p at).apart))

  pub at_home : OfEachHandle (IsAtHome t) t.handles
  at_home = each_handle_from (IsOfPort t) (IsAtHome t) (λ h is. is.on_node ∙ sym (ap (λ o. option_map_or (λ (p : PortState). p.node) o 0) is.there)) t.handles order.ports

pub order_is_ready_for_ports : OrderIsReadyForPorts
order_is_ready_for_ports t order = record {
  connected = are_connected t order;
  takes = record { fresh = not_there t order; apart = names_apart t order; wired = order.wired.each; unkept = unkept t order };
  home = at_home t order;
}

pub connected_may_go : ConnectedMayGo
connected_may_go t n order there = may_go t order n there

-- the port of a handle may go
pub handle_may_go : (t : HubTables) → AreInOrder t → (node n : ℕ) (h : HandleState) → IsHandle t node n h → MayGo t h.port
handle_may_go t order node n h named =
    may_go t order h.port (ap (λ (o : Option PortState). is_some o) (handle_is (IsOfPort t) t.handles node n h order.ports named.there).there)

pub nothing_is_kept : NothingIsKept
nothing_is_kept t n p order none at = no_pipes (p.expired.pipes) (fewest (length p.expired.pipes) p.expired.most its.few (its.room ∙ no_room p.role))
  where
    its : KeepsExpired t p
    its = order.wired.kept n p at

    no_room : (role : Role) → room_for_gone t.settings role ≡ 0
    no_room Client = none.clients
    no_room Server = step t.settings.fire_and_forget
      where
        step : (b : Bool) → (if b then t.settings.server_expired else 0) ≡ 0
        step true = none.servers
        step false = refl

    fewest : (a b : ℕ) → a ≤ b → b ≡ 0 → a ≡ 0
    fewest a b low e = omega (arith, low, e)

    no_pipes : (ps : List PipeState) → length ps ≡ 0 → ps ≡ []
    no_pipes [] e = refl
    no_pipes (q ∷ qs) e = absurd (omega (arith, e))

pub places_become_free : PlacesBecomeFree
places_become_free t place order = record { empty = empty_free t order place; left = left_free t order place; nobody = nobody_has t order place }
