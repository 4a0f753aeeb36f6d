-- A loan that is made keeps the tables of a hub in order.
use Rattle.std.specs.Prelude.{◌||◌, ◌≡◌, ◌⊎◌, ℕ, ◌+◌, ◌<◌, ◌≤◌, Bool, true, false, ◌&&◌, if◌then◌else◌, List, [], ◌∷◌, ◌++◌, map, Some, refl}
use Rattle.std.proofs.Common.{sym, append_assoc, ap, ap₂, subst, ◌∙◌, arith, inl, inr, true≢false}
use Rattle.iox_model.specs.declared.kind.Kind.TheVariants.{ActiveRequest}
use Rattle.iox_model.specs.declared.kind.Role.{Role}
use Rattle.iox_model.specs.declared.kind.Role.TheVariants.{Client, Server}
use Rattle.iox_model.specs.declared.way.Way.{Way}
use Rattle.iox_model.specs.Handles.{is_own, is_received, same_kind}
use Rattle.iox_model.specs.Loans.{kind_of_loan}
use Rattle.iox_model.specs.Maps.{AreDistinct, has_number, same_way}
use Rattle.iox_laws.proofs.WeaveLaws.MapLemmas.{eqb-refl}
use Rattle.iox_laws.proofs.WeaveLedger.Lists.{IsAmong, among-append, among-number, distinct-no_repeats, no_repeats-distinct, no_repeats-last, number-among}
use Rattle.iox_lanes.specs.Lanes.{LaneState}
use Rattle.iox_tables.specs.HubStates.Tables.{HandleState, HubTables, PoolState, PortState, SlotState, numbers_of, pool_at, port_in, senders_of, slot_at}
use Rattle.iox_tables.specs.HubStates.Ways.{OnWays, lane_on}
use Rattle.iox_tables.specs.HubStates.Ends.{OfEachHandle}
use Rattle.iox_tables.proofs.HubStates.Keys.{flip}
use Rattle.iox_tables.specs.HubBooks.Counts.{handle_uses, how_many, is_at, lane_count, lane_uses, total}
use Rattle.iox_tables.specs.HubBooks.Handles.{IsAlone, IsFromLane, IsOfPoolOrGone, IsOfPort, OwnAreApart, TakenHaveHandles, is_from, is_own_at, role_for, way_in}
use Rattle.iox_tables.specs.HubBooks.Hubs.{AreInOrder, HasEachPlaceOnce, HasPool, HaveNumbers, HavePools, HaveSerials, HoldersAreCounted, IsUsed, PlacesAreOfSenders, ResponsesAreOnTheirLanes, numbers_in}
use Rattle.iox_tables.proofs.HubBooks.Frames.{map_append}
use Rattle.iox_tables.proofs.HubBooks.Going.{each_both, each_last}
use Rattle.iox_tables.proofs.HubBooks.Held.{IsCountedIn, each_counts, each_handle_from, used_by_counted}
use Rattle.iox_tables.proofs.HubBooks.Totals.{total-last}
use Rattle.iox_tables.proofs.HubBooks.Used.{used_on_lane}
use Rattle.iox_tables.specs.HubLoans.Lenders.{Lender}
use Rattle.iox_tables.specs.HubLoans.Loans.{loaned_handle, loaned_slot, with_loaned}
use Rattle.iox_tables.specs.HubLoans.Slots.{is_place}
use Rattle.iox_tables.proofs.HubLoans.Dry.{or_left}
use Rattle.iox_tables.proofs.HubLoans.Placed.{slot_is, slot_stays}
use Rattle.iox_tables.specs.HubLending.Keeping.{HasMessage, HaveMessages}
use Rattle.iox_tables.specs.HubLending.Lending.{LoansKeepOrder, MayLend}
use Rattle.iox_tables.proofs.HubLending.Kept.{same_port}
use Rattle.iox_tables.proofs.HubLending.NewSlot.{owner_same, pool_after, pool_before, used_stays, way_same, which}
use Rattle.iox_tables.proofs.HubLending.OneMore.{all_same, counts_same, is_now, lanes_same, lends_now, numbers_same, one_loan, role_same, senders_stay, there_same, was, widths_stay, wired_stay}
use Rattle.iox_tables.proofs.HubLending.Owning.{same_some, slot_there}

-- ---- kinds of loans

kind_role : (r : Role) (uninit : Bool) → r ≡ role_for (kind_of_loan r uninit)
kind_role Client true = refl
kind_role Client false = refl
kind_role Server true = refl
kind_role Server false = refl

kind_own : (r : Role) (uninit : Bool) → is_own (kind_of_loan r uninit) ≡ true
kind_own Client true = refl
kind_own Client false = refl
kind_own Server true = refl
kind_own Server false = refl

not_received : (r : Role) (uninit : Bool) → is_received (kind_of_loan r uninit) ≡ false
not_received Client true = refl
not_received Client false = refl
not_received Server true = refl
not_received Server false = refl

not_active : (r : Role) (uninit : Bool) → same_kind (kind_of_loan r uninit) ActiveRequest ≡ false
not_active Client true = refl
not_active Client false = refl
not_active Server true = refl
not_active Server false = refl

-- ---- lists

pub total_members : (f g : HandleState → ℕ) (hs : List HandleState) → OfEachHandle (λ h. f h ≡ g h) hs → total f hs ≡ total g hs
total_members f g [] same = refl
total_members f g (h ∷ hs) same = ap₂ (λ (a b : ℕ). a + b) same.0 (total_members f g hs same.1)

total_less : (f g : HandleState → ℕ) → ((h : HandleState) → f h ≤ g h) → (hs : List HandleState) → total f hs ≤ total g hs
total_less f g less [] = omega arith
total_less f g less (h ∷ hs) = let one = less h in let more = total_less f g less hs in omega (arith, one, more)

both_less : (a b : Bool) → (if a && b then 1 else 0) ≤ (if b then 1 else 0)
both_less true true = omega arith
both_less true false = omega arith
both_less false true = omega arith
both_less false false = omega arith

no_second : (a b : Bool) → b ≡ false → (a && b) ≡ false
no_second true b e = e
no_second false b e = refl

at_most_one : (b : Bool) → (if b then 1 else 0) ≤ 1
at_most_one true = omega arith
at_most_one false = omega arith

abbrev one_if : Bool → ℕ
one_if b = if b then 1 else 0

plus_none : (m c : ℕ) → c ≡ 0 → m + c ≡ m
plus_none m c e = omega (arith, e)

module _ (t : HubTables) (y : Lender) (uninit : Bool) (k slot : ℕ) (order : AreInOrder t) (may : MayLend t y slot) where
  abbrev p : PortState
  p = y.port

  abbrev n : ℕ
  n = p.number

  abbrev u : HubTables
  u = with_loaned t y uninit k slot

  abbrev h : HandleState
  h = loaned_handle t y uninit slot

  abbrev s : SlotState
  s = loaned_slot y k

  here : slot_at u.pools p.pool slot ≡ s
  here = slot_is t.pools p.pool slot s (slot_there t order n p may.there slot may.within)

  elsewhere : (i j : ℕ) → is_place p.pool slot i j ≡ false → slot_at u.pools i j ≡ slot_at t.pools i j
  elsewhere i j e = slot_stays t.pools p.pool slot s i j e

  stays : (i j : ℕ) → IsUsed t i j → slot_at u.pools i j ≡ slot_at t.pools i j
  stays i j used = used_stays t p.pool slot s may.free i j used

  at_place : (i j : ℕ) → is_at i j h ≡ is_place p.pool slot i j
  at_place i j = ap₂ (λ a b. a && b) (flip p.pool i) (flip slot j)

  is_the_place : (i j : ℕ) → i ≡ p.pool → j ≡ slot → is_place p.pool slot i j ≡ true
  is_the_place i j e f = ap₂ (λ a b. is_place p.pool slot a b) e f ∙ ap₂ (λ a b. a && b) (eqb-refl p.pool) (eqb-refl slot)

  was_free : (i j : ℕ) → i ≡ p.pool → j ≡ slot → (slot_at t.pools i j).holders ≡ 0
  was_free i j e f = ap₂ (λ a b. (slot_at t.pools a b).holders) e f ∙ may.free

  lane_was : (w : Way) → lane_on u.ports w ≡ lane_on t.ports w
  lane_was w = ap (λ (on : OnWays LaneState). on w) (lanes_same t.ports n)

  -- ---- slots

  abbrev Place : ℕ → ℕ → Type 0
  Place i j = ((i ≡ p.pool) × (j ≡ slot)) ⊎ (is_place p.pool slot i j ≡ false)

  counted : HoldersAreCounted u
  counted i j = step (which t p.pool slot s may.free i j)
    where
      step : Place i j → (slot_at u.pools i j).holders ≡ handle_uses u.handles i j + lane_uses u.ports i j
      step (inl e) =
          let holders : (slot_at u.pools i j).holders ≡ 1 = ap₂ (λ a b. (slot_at u.pools a b).holders) e.0 e.1 ∙ ap (λ (z : SlotState). z.holders) here in
          let none = was_free i j e.0 e.1 in
          let old = order.counted i j in
          let lanes = counts_same t.ports n (lane_count i j) in
          let handles = total-last (λ g. if is_at i j g then 1 else 0) t.handles h in
          let one : one_if (is_at i j h) ≡ 1 = ap one_if (at_place i j ∙ is_the_place i j e.0 e.1) in
          omega (arith, holders, none, old, lanes, handles, one)
      step (inr e) =
          let holders : (slot_at u.pools i j).holders ≡ (slot_at t.pools i j).holders = ap (λ (z : SlotState). z.holders) (elsewhere i j e) in
          let old = order.counted i j in
          let lanes = counts_same t.ports n (lane_count i j) in
          let handles = total-last (λ g. if is_at i j g then 1 else 0) t.handles h in
          let none : one_if (is_at i j h) ≡ 0 = ap one_if (at_place i j ∙ e) in
          omega (arith, holders, old, lanes, handles, none)

  -- a slot with a holder is the new one, or had one
  abbrev HadOne : ℕ → ℕ → Type 0
  HadOne i j = ((i ≡ p.pool) × (j ≡ slot)) ⊎ (IsUsed t i j × (slot_at u.pools i j ≡ slot_at t.pools i j))

  had_one : (i j : ℕ) → IsUsed u i j → HadOne i j
  had_one i j used = step (which t p.pool slot s may.free i j)
    where
      step : Place i j → HadOne i j
      step (inl e) = inl e
      step (inr e) = inr (subst (λ (z : SlotState). 1 ≤ z.holders) (elsewhere i j e) used, elsewhere i j e)

  serial_here : (i j : ℕ) → i ≡ p.pool → j ≡ slot → (slot_at u.pools i j).serial ≡ p.loans
  serial_here i j e f = ap₂ (λ a b. (slot_at u.pools a b).serial) e f ∙ ap (λ (z : SlotState). z.serial) here

  -- no other message of the port has that serial
  new_serial : (i j : ℕ) → i ≡ p.pool → IsUsed t i j → slot_at u.pools i j ≡ slot_at t.pools i j → (slot_at u.pools i j).serial ≡ p.loans → ⊥
  new_serial i j e used same is =
      let low : (slot_at t.pools i j).serial < p.loans
      = subst (λ c. (slot_at t.pools c j).serial < p.loans) (sym e) (order.serials.below n j p may.there (subst (λ c. IsUsed t c j) e used)) in
      let serial : (slot_at t.pools i j).serial ≡ p.loans = ap (λ (z : SlotState). z.serial) (sym same) ∙ is in
      omega (arith, low, serial)

  serials : HaveSerials u
  serials = record { apart = λ i a b ua ub e. apart i a b e (had_one i a ua) (had_one i b ub); below = λ m j q at used. below m j q at (had_one q.pool j used) }
    where
      apart : (i a b : ℕ) → (slot_at u.pools i a).serial ≡ (slot_at u.pools i b).serial → HadOne i a → HadOne i b → a ≡ b
      apart i a b e (inl x) (inl z) = x.1 ∙ sym z.1
      apart i a b e (inl x) (inr z) = absurd (new_serial i b x.0 z.0 z.1 (sym e ∙ serial_here i a x.0 x.1))
      apart i a b e (inr x) (inl z) = absurd (new_serial i a z.0 x.0 x.1 (e ∙ serial_here i b z.0 z.1))
      apart i a b e (inr x) (inr z) =
          order.serials.apart i a b x.0 z.0 (ap (λ (c : SlotState). c.serial) (sym x.1) ∙ e ∙ ap (λ (c : SlotState). c.serial) z.1)

      up : (a b c d : ℕ) → a ≡ b → b < c → c ≤ d → a < d
      up a b c d e lt le = omega (arith, e, lt, le)

      next : (a b c : ℕ) → a ≡ b → c ≡ b + 1 → a < c
      next a b c e f = omega (arith, e, f)

      below : (m j : ℕ) (q : PortState) → port_in u.ports m ≡ Some q → HadOne q.pool j → (slot_at u.pools q.pool j).serial < q.loans
      below m j q at (inl x) =
          let before = was t.ports n m q at in
          let number : m ≡ n = same_port t order m n before.port p before.there may.there (ap (λ (z : PortState). z.pool) before.same ∙ x.0) in
          let is : q ≡ one_loan p = same_some q (one_loan p) (sym at ∙ ap (port_in u.ports) number ∙ lends_now t.ports n p may.there) in
          next _ _ _ (serial_here q.pool j x.0 x.1) (ap (λ (z : PortState). z.loans) is)
      below m j q at (inr x) =
          let before = was t.ports n m q at in
          let pool : before.port.pool ≡ q.pool = ap (λ (z : PortState). z.pool) before.same in
          up _ _ _ _ (ap (λ (z : SlotState). z.serial) x.1)
          (subst (λ c. (slot_at t.pools c j).serial < before.port.loans) pool (order.serials.below m j before.port before.there (subst (λ c. IsUsed t c j) (sym pool) x.0)))
          before.loans

  -- ---- pools and lanes

  pools : HavePools u
  pools = record { each = each; apart = apart }
    where
      each : (m : ℕ) (q : PortState) → port_in u.ports m ≡ Some q → HasPool u q
      each m q at =
          let before = was t.ports n m q at in
          let old = order.pools.each m before.port before.there in
          let new = pool_after t p.pool slot s may.free before.port.pool old.pool old.there in record {
            pool = new.0;
            there = ap (λ (x : PortState). pool_at u.pools x.pool) (sym before.same) ∙ new.1;
            port = new.2.port ∙ old.port ∙ ap (λ (x : PortState). x.number) before.same;
            node_id = new.2.node_id ∙ old.node_id ∙ ap (λ (x : PortState). x.node_id) before.same;
            port_id = new.2.port_id ∙ old.port_id ∙ ap (λ (x : PortState). x.id) before.same;
            size = new.2.slots ∙ old.size ∙ ap (λ (x : PortState). x.size) before.same;
          }

      apart : (i j : ℕ) (a b : PoolState) → pool_at u.pools i ≡ Some a → pool_at u.pools j ≡ Some b → a.port ≡ b.port → i ≡ j
      apart i j a b c d e =
          let f = pool_before t p.pool slot s may.free i a c in
          let g = pool_before t p.pool slot s may.free j b d in order.pools.apart i j f.0 g.0 f.1 g.1 (f.2 ∙ e ∙ sym g.2)

  labels : ResponsesAreOnTheirLanes u
  labels w l j at client has =
      let before : lane_on t.ports w ≡ Some l = sym (lane_was w) ∙ at in
      ap (λ (z : SlotState). z.lane) (stays l.pool j (used_on_lane t order w l j before has))
      ∙ order.labels w l j before (sym (role_same t.ports n w.receiver) ∙ client) has

  owners : PlacesAreOfSenders u
  owners w l j at has = owner_same t p.pool slot s may.free l.pool ∙ order.owners w l j (sym (lane_was w) ∙ at) has

  -- ---- numbers

  numbers_are : numbers_in u ≡ numbers_in t ++ t.next_number ∷ []
  numbers_are =
      ap₂ (λ (xs ys : List ℕ). xs ++ ys) (numbers_same t.ports n) (map_append (λ (g : HandleState). g.number) t.handles (h ∷ []))
      ∙ sym (append_assoc (numbers_of t.ports) (map (λ g. g.number) t.handles) (t.next_number ∷ []))

  numbers : HaveNumbers u
  numbers = record {
    apart =
        subst AreDistinct (sym numbers_are)
        (no_repeats-distinct (numbers_in t ++ t.next_number ∷ [])
        (no_repeats-last t.next_number (numbers_in t) (distinct-no_repeats (numbers_in t) order.numbers.apart) fresh));
    below = λ m has. below m (among-append m (numbers_in t) (t.next_number ∷ []) (number-among m (numbers_in t ++ t.next_number ∷ []) (subst (λ ns. has_number m ns ≡ true) numbers_are has)));
    owners = λ place q at.
        let a = pool_before t p.pool slot s may.free place q at in more q.port (subst (λ i. i < t.next_number) a.2 (order.numbers.owners place a.0 a.1));
    kept = λ m q at j has.
        let before = was t.ports n m q at in
        more j (order.numbers.kept m before.port before.there j (ap (λ (x : PortState). has_number j (senders_of x.expired.pipes)) before.same ∙ has));
  }
    where
      fresh : IsAmong t.next_number (numbers_in t) → ⊥
      fresh among = let low = order.numbers.below t.next_number (among-number t.next_number (numbers_in t) among) in omega (arith, low)

      more : (m : ℕ) → m < t.next_number → m < t.next_number + 1
      more m low = omega (arith, low)

      below : (m : ℕ) → IsAmong m (numbers_in t) ⊎ IsAmong m (t.next_number ∷ []) → m < t.next_number + 1
      below m (inl among) = more m (order.numbers.below m (among-number m (numbers_in t) among))
      below m (inr (inl is)) = omega (arith, is)
      below m (inr (inr never)) = absurd never

  -- ---- handles

  used_by : (g : HandleState) → IsCountedIn t.handles g → IsUsed t g.pool g.slot
  used_by g counts = used_by_counted t order g counts

  -- what is so of each handle before and of the new one
  each : (P Q : HandleState → Type 0) → ((g : HandleState) → IsUsed t g.pool g.slot → P g → Q g) → OfEachHandle P t.handles → Q h → OfEachHandle Q u.handles
  each P Q from a b =
      each_last Q t.handles h
      (each_handle_from (λ g. IsCountedIn t.handles g × P g) Q (λ g both. from g (used_by g both.0) both.1) t.handles (each_both (IsCountedIn t.handles) P t.handles (each_counts t.handles) a))
      b

  of_port : (g : HandleState) → IsUsed t g.pool g.slot → IsOfPort t g → IsOfPort u g
  of_port g used of =
      let q = is_now t.ports n g.port of.port of.there in record {
        port = q.0;
        there = q.1;
        on_node = of.on_node ∙ sym (ap (λ (x : PortState). x.node) q.2);
        role = ap (λ (x : PortState). x.role) q.2 ∙ of.role;
        either = of.either;
        of_pool = λ own. of.of_pool own ∙ sym (ap (λ (x : PortState). x.pool) q.2);
        lane = λ own client.
            subst (λ i. i < q.0.size) (ap (λ (z : SlotState). z.lane) (sym (stays g.pool g.slot used)))
            (subst (λ i. (slot_at t.pools g.pool g.slot).lane < i) (sym (ap (λ (x : PortState). x.size) q.2)) (of.lane own (sym (ap (λ (x : PortState). x.role) q.2) ∙ client)));
        client = λ e. of.client e ∙ sym (owner_same t p.pool slot s may.free g.pool);
      }

  new_of_port : IsOfPort u h
  new_of_port = record {
    port = one_loan p;
    there = lends_now t.ports n p may.there;
    on_node = refl;
    role = kind_role p.role uninit;
    either = ap (λ (b : Bool). b || is_received h.kind) (kind_own p.role uninit);
    of_pool = λ own. refl;
    lane = λ own client. subst (λ i. i < p.size) (ap (λ (z : SlotState). z.lane) (sym here)) (may.lane client);
    client = λ e. absurd (true≢false (sym e ∙ not_active p.role uninit));
  }

  own : OwnAreApart u
  own i j = step (which t p.pool slot s may.free i j)
    where
      all : how_many (is_own_at i j) u.handles ≡ how_many (is_own_at i j) t.handles + (if is_own_at i j h then 1 else 0)
      all = total-last (λ g. if is_own_at i j g then 1 else 0) t.handles h

      step : Place i j → how_many (is_own_at i j) u.handles ≤ 1
      step (inl e) =
          let none = was_free i j e.0 e.1 in
          let uses = order.counted i j in
          let less = total_less (λ g. if is_own_at i j g then 1 else 0) (λ g. if is_at i j g then 1 else 0) (λ g. both_less (is_own g.kind) (is_at i j g)) t.handles in
          let one = at_most_one (is_own_at i j h) in omega (arith, all, none, uses, less, one)
      step (inr e) =
          let old = order.own i j in
          let none : one_if (is_own_at i j h) ≡ 0 = ap one_if (no_second (is_own h.kind) (is_at i j h) (at_place i j ∙ e)) in
          omega (arith, all, old, none)

  taken : TakenHaveHandles u
  taken w l j at =
      order.taken w l j (sym (lane_was w) ∙ at)
      ∙ total_members (λ g. if is_from t.pools w l.pool j g then 1 else 0) (λ g. if is_from u.pools w l.pool j g then 1 else 0) t.handles
      (each_handle_from (IsCountedIn t.handles) (λ g. (if is_from t.pools w l.pool j g then 1 else 0) ≡ (if is_from u.pools w l.pool j g then 1 else 0))
      (λ g counts. ap (λ x. if is_received g.kind && (same_way x w && is_at l.pool j g) then 1 else 0) (way_same t p.pool slot s may.free g (used_by g counts))) t.handles (each_counts t.handles))
      ∙ sym (total-last (λ g. if is_from u.pools w l.pool j g then 1 else 0) t.handles h
      ∙ plus_none (total (λ g. if is_from u.pools w l.pool j g then 1 else 0) t.handles) (if is_from u.pools w l.pool j h then 1 else 0)
      (ap (λ b. if b && (same_way (way_in u.pools h) w && is_at l.pool j h) then 1 else 0) (not_received p.role uninit)))

  from_lane : (g : HandleState) → IsUsed t g.pool g.slot → IsFromLane t g → IsFromLane u g
  from_lane g used is received = subst (λ w. IsOfPoolOrGone u w g.pool) (way_same t p.pool slot s may.free g used) (step (is received))
    where
      step : IsOfPoolOrGone t (way_in t.pools g) g.pool → IsOfPoolOrGone u (way_in t.pools g) g.pool
      step (inl a) = inl (a.0, lane_was (way_in t.pools g) ∙ a.1, a.2)
      step (inr a) = inr (lane_was (way_in t.pools g) ∙ a.0, there_same t.ports n (way_in t.pools g).sender ∙ a.1)

  pub lent_in_order : AreInOrder u
  lent_in_order = record {
    counted = counted;
    serials = serials;
    pools = pools;
    once = all_same t.ports n HasEachPlaceOnce order.once;
    lanes = senders_stay t u order n refl refl;
    labels = labels;
    owners = owners;
    widths = widths_stay t u order n refl refl;
    wired = wired_stay t u order n refl refl;
    numbers = numbers;
    ports = each (IsOfPort t) (IsOfPort u) of_port order.ports new_of_port;
    alone =
        each (IsAlone t) (IsAlone u) (λ g used alone loan. ap (λ (z : SlotState). z.holders) (stays g.pool g.slot used) ∙ alone loan) order.alone
        (λ loan. ap (λ (z : SlotState). z.holders) here);
    own = own;
    taken = taken;
    received = each (IsFromLane t) (IsFromLane u) from_lane order.received (λ received. absurd (true≢false (sym received ∙ not_received p.role uninit)));
  }

  pub lent_messages : HaveMessages t → HaveMessages u
  lent_messages messages = each_last HasMessage t.handles h messages (or_left (is_own h.kind) (is_received h.kind) (kind_own p.role uninit))

pub loans_keep_order : LoansKeepOrder
loans_keep_order t y uninit k slot order messages may = (lent_in_order t y uninit k slot order may, lent_messages t y uninit k slot order may messages)
