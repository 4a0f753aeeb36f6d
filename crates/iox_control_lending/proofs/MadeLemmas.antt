-- A loan that is made: all that is so of a hub stays so.
use Rattle.std.specs.Prelude.{◌≡◌, ℕ, ◌+◌, ◌-◌, ◌<◌, ◌≤◌, ◌^◌, ◌&&◌, ◌||◌, ◌==◌, nat_lt, Bool, true, false, if◌then◌else◌, List, [], ◌∷◌, ◌++◌, length, Some, refl}
use Rattle.std.specs.Option.{option_map_or}
use Rattle.std.proofs.Common.{sym, ap, ap₂, subst, ◌∙◌, arith, true≢false, eqb-true, eq-eqb}
use Rattle.std.proofs.lemmas.Option.{none-some, same_Some}
use Rattle.iox_lanes.specs.Lanes.{LaneState}
use Rattle.iox_lanes.specs.Pipes.{PipeState}
use Rattle.iox_model.specs.declared.kind.Role.{Role}
use Rattle.iox_model.specs.declared.kind.Role.TheVariants.{Client, Server}
use Rattle.iox_model.specs.Handles.{is_own}
use Rattle.iox_model.specs.Loans.{kind_of_loan}
use Rattle.iox_model.specs.Maps.{AreDistinct, has_number}
use Rattle.iox_tables.specs.HubStates.Tables.{HandleState, HubTables, PortState, numbers_of, pipes_of, port_in, slots_of}
use Rattle.iox_tables.specs.HubStates.Ways.{with_port}
use Rattle.iox_tables.specs.HubStates.Ends.{OfEachHandle}
use Rattle.iox_tables.proofs.HubStates.Keys.{flip}
use Rattle.iox_tables.specs.HubBooks.Counts.{OfAll, in_port, on_lanes, total}
use Rattle.iox_tables.specs.HubBooks.Handles.{IsOfPort}
use Rattle.iox_tables.specs.HubBooks.Hubs.{AreInOrder, HasPool}
use Rattle.iox_tables.specs.HubBooks.Rooms.{CanCountHolders, HasRoomForAll, own_count, spare}
use Rattle.iox_tables.proofs.HubBooks.Eachs.{all_first, all_from}
use Rattle.iox_tables.proofs.HubBooks.Totals.{total-last, total_first}
use Rattle.iox_tables.specs.HubLoans.Lenders.{Lender}
use Rattle.iox_tables.specs.HubLoans.Loans.{loaned_handle, with_loaned}
use Rattle.iox_tables.specs.HubLending.Choosing.{IsFreeSlot}
use Rattle.iox_tables.specs.HubLending.Keeping.{HasMessage, HaveMessages}
use Rattle.iox_tables.specs.HubLending.Lending.{MayLend}
use Rattle.iox_tables.proofs.HubLending.Lent.{loans_keep_order}
use Rattle.iox_slots.specs.Pools.{has_slot}
use Rattle.iox_control.specs.Controls.{AreCounted, ControlState, IsControl}
use Rattle.iox_control.proofs.RoomLemmas.{loan_seats, room_as}
use Rattle.iox_control_lending.specs.declared.asked.Asked.{Asked}
use Rattle.iox_control_lending.specs.declared.asked.Loaned.{Loaned}
use Rattle.iox_control_lending.specs.Lends.{LoanIsMade, on_lane}
use Rattle.iox_control_lending.proofs.LaneLemmas.{lane_within}
use Rattle.iox_control_lending.proofs.Owns.{own_are_fewer}

-- ---- sums over ports

-- the numbers of a list of ports are its own
distinct_front : (ns ms : List ℕ) → AreDistinct (ns ++ ms) → AreDistinct ns
distinct_front [] ms d = tt
distinct_front (n ∷ ns) ms d = (front ns d.0, distinct_front ns ms d.1)
  where
    either : (a b : Bool) → (a || b) ≡ false → (a ≡ false) × (b ≡ false)
    either false b e = (refl, e)
    either true b e = absurd (true≢false e)

    front : (ks : List ℕ) → has_number n (ks ++ ms) ≡ false → has_number n ks ≡ false
    front [] e = refl
    front (k ∷ ks) e =
        let parts = either (k == n) (has_number n (ks ++ ms)) e in
        ap (λ (b : Bool). b || has_number n ks) parts.0 ∙ front ks parts.1

others_same : (f g : PortState → ℕ) (n : ℕ) → ((q : PortState) → (q.number == n) ≡ false → f q ≡ g q) → (ports : List PortState)
    → has_number n (numbers_of ports) ≡ false → total f ports ≡ total g ports
others_same f g n same [] none = refl
others_same f g n same (q ∷ qs) none =
    let parts = either (q.number == n) (has_number n (numbers_of qs)) none in
    ap₂ (λ (a b : ℕ). a + b) (same q parts.0) (others_same f g n same qs parts.1)
  where
    either : (a b : Bool) → (a || b) ≡ false → (a ≡ false) × (b ≡ false)
    either false b e = (refl, e)
    either true b e = absurd (true≢false e)

-- a sum that is one less at the port of that number, and the same at all others
one_less_at : (f g : PortState → ℕ) (n : ℕ) (p : PortState) → ((q : PortState) → (q.number == n) ≡ false → f q ≡ g q) → f p + 1 ≡ g p
    → (ports : List PortState) → AreDistinct (numbers_of ports) → port_in ports n ≡ Some p → total f ports + 1 ≡ total g ports
one_less_at f g n p same less [] apart at = absurd (none-some p at)
one_less_at f g n p same less (q ∷ qs) apart at = step (q.number == n) refl at (one_less_at f g n p same less qs apart.1)
  where
    step : (b : Bool) → (q.number == n) ≡ b → (if b then Some q else port_in qs n) ≡ Some p
        → (port_in qs n ≡ Some p → total f qs + 1 ≡ total g qs) → f q + total f qs + 1 ≡ g q + total g qs
    step true is at rest =
        let here : q ≡ p = same_Some q p at in
        let less_here : f q + 1 ≡ g q = subst (λ r. f r + 1 ≡ g r) (sym here) less in
        let others : total f qs ≡ total g qs = others_same f g n same qs (subst (λ m. has_number m (numbers_of qs) ≡ false) (eqb-true q.number n is) apart.0) in
        omega (arith, less_here, others)
    step false is at rest =
        let more = rest at in
        let one : f q ≡ g q = same q is in
        omega (arith, more, one)

-- one port's part is no more than the sum
part_of : (f : PortState → ℕ) (ports : List PortState) (n : ℕ) (p : PortState) → port_in ports n ≡ Some p → f p ≤ total f ports
part_of f [] n p at = absurd (none-some p at)
part_of f (q ∷ qs) n p at = step (q.number == n) at (part_of f qs n p)
  where
    step : (b : Bool) → (if b then Some q else port_in qs n) ≡ Some p → (port_in qs n ≡ Some p → f p ≤ total f qs) → f p ≤ f q + total f qs
    step true at rest = let same : f q ≡ f p = ap f (same_Some q p at) in omega (arith, same)
    step false at rest = let more = rest at in omega (arith, more)

-- what is so of each, and of one port as it is now
all_now : (P Q : PortState → Type 0) (g : PortState → PortState) → ((p : PortState) → P p → Q p) → ((p : PortState) → P p → Q (g p))
    → (ports : List PortState) (n : ℕ) → OfAll P ports → OfAll Q (with_port g ports n)
all_now P Q g keeps turns [] n all = tt
all_now P Q g keeps turns (q ∷ qs) n all = step (q.number == n) (all_now P Q g keeps turns qs n all.1)
  where
    step : (b : Bool) → OfAll Q (with_port g qs n) → OfAll Q (if b then g q ∷ qs else q ∷ with_port g qs n)
    step true rest = (turns q all.0, all_from P Q keeps qs all.1)
    step false rest = (keeps q all.0, rest)

-- ---- handles

loan_is_own : (role : Role) (uninit : Bool) → is_own (kind_of_loan role uninit) ≡ true
loan_is_own Client true = refl
loan_is_own Client false = refl
loan_is_own Server true = refl
loan_is_own Server false = refl

one_longer : {A : Type 0} (xs : List A) (x : A) → length (xs ++ x ∷ []) ≡ length xs + 1
one_longer [] x = refl
one_longer (y ∷ ys) x = let more = one_longer ys x in omega (arith, more)

messages_of : (t : HubTables) (hs : List HandleState) → OfEachHandle (IsOfPort t) hs → OfEachHandle HasMessage hs
messages_of t [] each = tt
messages_of t (h ∷ hs) each = (each.0.either, messages_of t hs each.1)

-- each handle has a message
pub have_messages : (t : HubTables) → AreInOrder t → HaveMessages t
have_messages t order = messages_of t t.handles order.ports

-- a port's pool has as many slots as its size
pub slots_are : (t : HubTables) (n : ℕ) (p : PortState) → AreInOrder t → port_in t.ports n ≡ Some p → length (slots_of t.pools p.pool) ≡ p.size
slots_are t n p order there =
    let pool : HasPool t p = order.pools.each n p there in
    ap (λ o. length (option_map_or (λ q. q.slots) o [])) pool.there ∙ pool.size

-- a slot that is there is below the size of its port
pub slot_within : (t : HubTables) (n k : ℕ) (p : PortState) → AreInOrder t → port_in t.ports n ≡ Some p → has_slot t.pools p.pool k ≡ true → k < p.size
slot_within t n k p order there has =
    let many = slots_are t n p order there in
    let low : k < length (slots_of t.pools p.pool) = below k (length (slots_of t.pools p.pool)) has in
    omega (arith, many, low)
  where
    below : (a b : ℕ) → nat_lt a b ≡ true → a < b
    below a b e = grind (arith, e)

-- ---- a loan in a free slot

module _ (c : ControlState) (order : IsControl c) (p : PortState) (n slot : ℕ) (is : IsFreeSlot c.tables n p c.tables.pools slot) where
  -- the tables of the hub
  abbrev t : HubTables
  t = c.tables

  -- how many of its own the port may still have, with these handles
  abbrev left_to : List HandleState → PortState → ℕ
  left_to hs q = q.size - own_count hs q

  pub some_room : 0 < c.room
  some_room =
      let fewer = own_are_fewer t n slot p order.order is in
      let part = part_of (left_to t.handles) t.ports n p is.there in
      let room : HasRoomForAll c.room t = order.room in
      omega (arith, fewer, part, room)

  pub loans_below : option_map_or (λ q. q.loans) (port_in t.ports n) 0 < 2 ^ 64 - 1
  loans_below =
      let loans : p.loans ≤ t.calls = all_first (λ q. q.loans ≤ t.calls) (λ q. q.number) t.ports n p order.counted.loans is.there in
      let calls = order.counted.calls in
      let it : option_map_or (λ (q : PortState). q.loans) (port_in t.ports n) 0 ≡ p.loans = ap (λ o. option_map_or (λ (q : PortState). q.loans) o 0) is.there in
      omega (arith, loans, calls, it)

  pub number_below : t.next_number + 1 < 2 ^ 64
  number_below =
      let calls = order.counted.calls in
      let made = order.counted.ports in
      let numbers = order.counted.numbers in
      omega (arith, calls, made, numbers)

  pub calls_below : t.calls + 1 < 2 ^ 64
  calls_below = let calls = order.counted.calls in omega (arith, calls)

module _ (c : ControlState) (order : IsControl c) (y : Lender) (a : Asked) (l : Loaned) (new : ControlState)
    (there : port_in c.tables.ports y.port.number ≡ Some y.port) (few : c.tables.calls < 2 ^ 56) (made : LoanIsMade c y a l new) where
  -- the tables before the loan
  abbrev was : HubTables
  was = c.tables

  -- the number of the lender's port
  abbrev n : ℕ
  n = y.port.number

  -- the handle of the loan
  abbrev h : HandleState
  h = loaned_handle was (on_lane y made.lane) a.uninit l.slot

  -- the tables with the loan
  abbrev now : HubTables
  now = with_loaned was (on_lane y made.lane) a.uninit a.elements l.slot

  -- a port, once one loan more is counted
  abbrev lent : PortState → PortState
  lent p = record p { loans = p.loans + 1 }

  free : IsFreeSlot was n y.port was.pools l.slot
  free = record { there = there; within = made.within; free = made.free }

  may_lend : MayLend was (on_lane y made.lane) l.slot
  may_lend = record { there = there; within = made.within; free = made.free; lane = λ role. lane_within was y made.lane made.chosen role }

  -- ---- room

  own_now : (q : PortState) → own_count now.handles q ≡ own_count was.handles q + (if is_own h.kind && (n == q.number) then 1 else 0)
  own_now q = total-last (λ (k : HandleState). if is_own k.kind && (k.port == q.number) then 1 else 0) was.handles h

  same_else : (q : PortState) → (q.number == n) ≡ false → q.size - own_count now.handles q ≡ q.size - own_count was.handles q
  same_else q not_it = ap (λ (m : ℕ). q.size - m) (own_now q ∙ none (is_own h.kind) (n == q.number) (flip n q.number ∙ not_it) (own_count was.handles q))
    where
      none : (a b : Bool) → b ≡ false → (m : ℕ) → m + (if a && b then 1 else 0) ≡ m
      none true true e m = absurd (true≢false e)
      none true false e m = omega arith
      none false b e m = omega arith

  less_here : (y.port.size - own_count now.handles y.port) + 1 ≡ y.port.size - own_count was.handles y.port
  less_here =
      let more : own_count now.handles y.port ≡ own_count was.handles y.port + 1 =
      own_now y.port ∙ one (is_own h.kind) (n == y.port.number) (loan_is_own y.port.role a.uninit) (eq-eqb n n refl) (own_count was.handles y.port) in
      let fewer = own_are_fewer was n l.slot y.port order.order free in
      omega (arith, more, fewer)
    where
      one : (a b : Bool) → a ≡ true → b ≡ true → (m : ℕ) → m + (if a && b then 1 else 0) ≡ m + 1
      one true true e f m = refl
      one true false e f m = absurd (true≢false (sym f))
      one false b e f m = absurd (true≢false (sym e))

  apart : AreDistinct (numbers_of was.ports)
  apart = distinct_front (numbers_of was.ports) _ order.order.numbers.apart

  own_left : total (λ (q : PortState). q.size - own_count now.handles q) was.ports + 1 ≡ total (λ (q : PortState). q.size - own_count was.handles q) was.ports
  own_left = one_less_at (λ q. q.size - own_count now.handles q) (λ q. q.size - own_count was.handles q) n y.port same_else less_here was.ports apart there

  -- a sum that loans do not change
  stays : (f : PortState → ℕ) → f (lent y.port) ≡ f y.port → total f now.ports ≡ total f was.ports
  stays f same = let all = total_first (λ (q : PortState). q.number) lent f was.ports n y.port there in omega (arith, same, all)

  room : HasRoomForAll (c.room - 1) now
  room =
      let lanes : on_lanes spare now.ports ≡ on_lanes spare was.ports = stays (in_port spare) refl in
      let own : total (λ (q : PortState). q.size - own_count now.handles q) now.ports ≡ total (λ (q : PortState). q.size - own_count now.handles q) was.ports
      = stays (λ q. q.size - own_count now.handles q) refl in
      let less = own_left in
      let all : HasRoomForAll c.room was = order.room in
      omega (arith, lanes, own, less, all)

  holders : CanCountHolders (c.room - 1) now
  holders =
      let lanes : on_lanes (λ l. 1) now.ports ≡ on_lanes (λ l. 1) was.ports = stays (in_port (λ l. 1)) refl in
      let longer : length now.handles ≡ length was.handles + 1 = one_longer was.handles h in
      let some = some_room c order y.port n l.slot free in
      let all : CanCountHolders c.room was = order.holders in
      omega (arith, lanes, longer, some, all)

  -- ---- counts

  counted : AreCounted now
  counted = record {
    calls = omega (arith, few);
    ports = order.counted.ports;
    numbers = let numbers = order.counted.numbers in omega (arith, numbers);
    loans = all_now (λ p. p.loans ≤ was.calls) (λ p. p.loans ≤ was.calls + 1) lent (λ p e. omega (arith, e)) (λ p e. omega (arith, e)) was.ports n order.counted.loans;
    deliveries =
        all_now (λ p. OfAll (λ q. OfAll (λ l. l.deliveries ≤ was.calls) q.lanes) (pipes_of p))
        (λ p. OfAll (λ q. OfAll (λ l. l.deliveries ≤ was.calls + 1) q.lanes) (pipes_of p)) lent more more was.ports n order.counted.deliveries;
  }
    where
      in_pipe : (q : PipeState) → OfAll (λ (l : LaneState). l.deliveries ≤ was.calls) q.lanes → OfAll (λ (l : LaneState). l.deliveries ≤ was.calls + 1) q.lanes
      in_pipe q all = all_from (λ (l : LaneState). l.deliveries ≤ was.calls) (λ (l : LaneState). l.deliveries ≤ was.calls + 1) (λ l e. omega (arith, e)) q.lanes all

      more : (p : PortState) → OfAll (λ (q : PipeState). OfAll (λ (l : LaneState). l.deliveries ≤ was.calls) q.lanes) (pipes_of p)
          → OfAll (λ (q : PipeState). OfAll (λ (l : LaneState). l.deliveries ≤ was.calls + 1) q.lanes) (pipes_of p)
      more p all =
          all_from (λ (q : PipeState). OfAll (λ (l : LaneState). l.deliveries ≤ was.calls) q.lanes)
          (λ (q : PipeState). OfAll (λ (l : LaneState). l.deliveries ≤ was.calls + 1) q.lanes) in_pipe (pipes_of p) all

  pub made_keeps : IsControl new
  made_keeps = subst IsControl (sym made.left) (record {
    buffers = order.buffers;
    order = (loans_keep_order was (on_lane y made.lane) a.uninit a.elements l.slot order.order (have_messages was order.order) may_lend).0;
    ports = room_as was now refl (loan_seats was.ports n 1) order.ports;
    counted = counted;
    room = room;
    holders = holders;
  })
