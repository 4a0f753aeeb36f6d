-- What a receive asks of the tables of a hub, and leaves of the room there.
use Rattle.std.specs.Prelude.{◌≡◌, ℕ, ◌+◌, ◌-◌, ◌^◌, ◌≤◌, ◌<◌, Bool, true, false, ◌&&◌, if◌then◌else◌, ◌==◌, List, [], ◌∷◌, ◌++◌, length, Option, Some, None, refl}
use Rattle.std.proofs.Common.{sym, ap, ap₂, subst, ◌∙◌, arith}
use Rattle.iox_lanes.specs.declared.incoming.Visits.TheVariants.{Got}
use Rattle.iox_lanes.specs.declared.wanted.Wanted.{Wanted}
use Rattle.iox_lanes.specs.Lanes.{LaneState, is_at_limit}
use Rattle.iox_lanes.specs.Searches.{first_wanted, searched, visited, with_found}
use Rattle.iox_model.specs.declared.kind.Role.{Role}
use Rattle.iox_model.specs.declared.kind.Role.TheVariants.{Client, Server}
use Rattle.iox_model.specs.Handles.{is_own}
use Rattle.iox_hub_ports.specs.HubStates.Tables.{HandleState, HubTables, PortState, labels_of, slot_at}
use Rattle.iox_hub_ports.specs.HubStates.Ways.{with_port}
use Rattle.iox_hub_ports.specs.HubStates.Receives.{got_handle, visited_port, visits_at}
use Rattle.iox_hub_ports.specs.HubBooks.Counts.{OfAll, OfAllLanes, how_many, on_lanes, total}
use Rattle.iox_hub_ports.specs.HubBooks.Hubs.{AreInOrder}
use Rattle.iox_hub_ports.specs.HubBooks.Rooms.{CanCountHolders, HasRoomForAll, own_count, spare}
use Rattle.iox_hub_ports.proofs.HubBooks.Bounds.{all_lanes_from, holders_can_be_counted}
use Rattle.iox_hub_ports.proofs.HubBooks.Eachs.{all_from, all_with_first}
use Rattle.iox_hub_ports.proofs.HubBooks.LaneLists.{visits_keep, visits_same}
use Rattle.iox_hub_ports.proofs.HubBooks.Totals.{total-last, total_same}
use Rattle.iox_control.specs.Controls.{AreCounted}
use Rattle.iox_control.proofs.VisitCounts.{got_one, visited_had, visited_spare}

-- ---- where a message was got

module _ (t : HubTables) (n lane : ℕ) (wanted : Wanted) where
  -- one may still come
  pub room_for_one : (room sender pool k : ℕ) → HasRoomForAll room t → visits_at t n lane wanted ≡ Got sender pool k → 0 < room
  room_for_one room sender pool k all got =
      let spares : on_lanes spare (with_port (visited_port wanted (labels_of t.pools) lane) t.ports n) + got_one (visits_at t n lane wanted) ≡ on_lanes spare t.ports
      = visited_spare wanted (labels_of t.pools) lane t.ports n in
      let one : got_one (visits_at t n lane wanted) ≡ 1 = ap got_one got in
      omega (arith, spares, one, all)

  -- somebody has it
  pub has_holders : (sender pool k : ℕ) → AreInOrder t → visits_at t n lane wanted ≡ Got sender pool k → 0 < (slot_at t.pools pool k).holders
  has_holders sender pool k order got =
      let had = visited_had wanted (labels_of t.pools) lane t.ports n sender pool k got in
      let counted = order.counted pool k in
      omega (arith, had, counted)

  -- one more holder can be counted
  pub can_hold : (room sender pool k : ℕ) → AreInOrder t → HasRoomForAll room t → CanCountHolders room t → visits_at t n lane wanted ≡ Got sender pool k
      → (slot_at t.pools pool k).holders < 2 ^ 64 - 1
  can_hold room sender pool k order all count got =
      let one = room_for_one room sender pool k all got in
      let below = holders_can_be_counted t room pool k order count in
      omega (arith, one, below)

-- ---- what room is left

plus_none : (n : ℕ) (m : ℕ) → m ≡ 0 → n + m ≡ n
plus_none n m e = omega (arith, e)

-- one more at the end
pub one_longer : {A : Type 0} (xs : List A) (x : A) → length (xs ++ x ∷ []) ≡ length xs + 1
one_longer [] x = refl
one_longer (y ∷ ys) x = let more = one_longer ys x in omega (arith, more)

visited_deliveries : (test : ℕ → Bool) (l : LaneState) → (visited test l).deliveries ≡ l.deliveries
visited_deliveries test l = step (is_at_limit l) (first_wanted test l.waiting)
  where
    step : (b : Bool) (o : Option ℕ) → (if b then l else with_found o (searched test l)).deliveries ≡ l.deliveries
    step true o = refl
    step false (Some k) = refl
    step false None = refl

port_total : (f : PortState → ℕ) (g : PortState → PortState) → ((p : PortState) → f (g p) ≡ f p) → (ports : List PortState) (n : ℕ)
    → total f (with_port g ports n) ≡ total f ports
port_total f g same [] n = refl
port_total f g same (p ∷ ps) n = step (p.number == n) (port_total f g same ps n)
  where
    step : (b : Bool) → total f (with_port g ps n) ≡ total f ps → total f (if b then g p ∷ ps else p ∷ with_port g ps n) ≡ f p + total f ps
    step true rest = ap (λ m. m + total f ps) (same p)
    step false rest = ap (λ m. f p + m) rest

pub not_own : (t : HubTables) (node : ℕ) (role : Role) (port pool k : ℕ) → is_own (got_handle t node role port pool k).kind ≡ false
not_own t node Client port pool k = refl
not_own t node Server port pool k = refl

abbrev as_one : Bool → ℕ
as_one b = if b then 1 else 0

own_same : (hs : List HandleState) (h : HandleState) (p : PortState) → is_own h.kind ≡ false → own_count (hs ++ h ∷ []) p ≡ own_count hs p
own_same hs h p e =
    total-last (λ x. as_one (is_own x.kind && (x.port == p.number))) hs h
    ∙ plus_none (own_count hs p) (as_one (is_own h.kind && (h.port == p.number))) (ap (λ (b : Bool). as_one (b && (h.port == p.number))) e)

-- each port may have as many handles of its own as before
own_left : (hs : List HandleState) (h : HandleState) (g : PortState → PortState) (ports : List PortState) (n : ℕ) → is_own h.kind ≡ false
    → ((p : PortState) → (g p).size ≡ p.size) → ((p : PortState) → (g p).number ≡ p.number)
    → total (λ p. p.size - own_count (hs ++ h ∷ []) p) (with_port g ports n) ≡ total (λ p. p.size - own_count hs p) ports
own_left hs h g ports n e size number =
    total_same (λ p. p.size - own_count (hs ++ h ∷ []) p) (λ p. p.size - own_count hs p) (λ p. ap (λ m. p.size - m) (own_same hs h p e)) (with_port g ports n)
    ∙ port_total (λ p. p.size - own_count hs p) g
    (λ p. ap₂ (λ (s m : ℕ). s - how_many (λ x. is_own x.kind && (x.port == m)) hs) (size p) (number p)) ports n

own_stay : (hs : List HandleState) (g : PortState → PortState) (ports : List PortState) (n : ℕ)
    → ((p : PortState) → (g p).size ≡ p.size) → ((p : PortState) → (g p).number ≡ p.number)
    → total (λ p. p.size - own_count hs p) (with_port g ports n) ≡ total (λ p. p.size - own_count hs p) ports
own_stay hs g ports n size number =
    port_total (λ p. p.size - own_count hs p) g
    (λ p. ap₂ (λ (s m : ℕ). s - how_many (λ x. is_own x.kind && (x.port == m)) hs) (size p) (number p)) ports n

module _ (t : HubTables) (n lane : ℕ) (wanted : Wanted) where
  abbrev pub visits_it : PortState → PortState
  visits_it = visited_port wanted (labels_of t.pools) lane

  spares : on_lanes spare (with_port visits_it t.ports n) + got_one (visits_at t n lane wanted) ≡ on_lanes spare t.ports
  spares = visited_spare wanted (labels_of t.pools) lane t.ports n

  -- what was got takes one of the handles for which there was room
  pub room_after_got : (u : HubTables) (room : ℕ) (h : HandleState) (sender pool k : ℕ) → HasRoomForAll room t → visits_at t n lane wanted ≡ Got sender pool k
      → is_own h.kind ≡ false → u.ports ≡ with_port visits_it t.ports n → u.handles ≡ t.handles ++ h ∷ [] → HasRoomForAll (room - 1) u
  room_after_got u room h sender pool k all got own ports handles =
      let one : got_one (visits_at t n lane wanted) ≡ 1 = ap got_one got in
      let lanes : on_lanes spare u.ports ≡ on_lanes spare (with_port visits_it t.ports n) = ap (on_lanes spare) ports in
      let more : total (λ p. p.size - own_count u.handles p) u.ports ≡ total (λ p. p.size - own_count t.handles p) t.ports
      = ap₂ (λ hs ps. total (λ p. p.size - own_count hs p) ps) handles ports
      ∙ own_left t.handles h visits_it t.ports n own (λ p. refl) (λ p. refl) in
      let s = spares in
      omega (arith, one, lanes, more, s, all)

  -- where nothing was got there is as much room
  pub room_after_none : (u : HubTables) (room : ℕ) → HasRoomForAll room t → got_one (visits_at t n lane wanted) ≡ 0
      → u.ports ≡ with_port visits_it t.ports n → u.handles ≡ t.handles → HasRoomForAll room u
  room_after_none u room all none ports handles =
      let lanes : on_lanes spare u.ports ≡ on_lanes spare (with_port visits_it t.ports n) = ap (on_lanes spare) ports in
      let more : total (λ p. p.size - own_count u.handles p) u.ports ≡ total (λ p. p.size - own_count t.handles p) t.ports
      = ap₂ (λ hs ps. total (λ p. p.size - own_count hs p) ps) handles ports
      ∙ own_stay t.handles visits_it t.ports n (λ p. refl) (λ p. refl) in
      let s = spares in
      omega (arith, none, lanes, more, s, all)

  lanes_stay : on_lanes (λ l. 1) (with_port visits_it t.ports n) ≡ on_lanes (λ l. 1) t.ports
  lanes_stay = visits_same wanted (labels_of t.pools) lane (λ l. 1) (λ test l. refl) t.ports n

  -- holders can be counted as before
  pub holders_after_got : (u : HubTables) (room : ℕ) (h : HandleState) → 0 < room → CanCountHolders room t
      → u.ports ≡ with_port visits_it t.ports n → u.handles ≡ t.handles ++ h ∷ [] → CanCountHolders (room - 1) u
  holders_after_got u room h some count ports handles =
      let lanes : on_lanes (λ l. 1) u.ports ≡ on_lanes (λ l. 1) t.ports = ap (on_lanes (λ l. 1)) ports ∙ lanes_stay in
      let many : length u.handles ≡ length t.handles + 1 = ap (λ hs. length hs) handles ∙ one_longer t.handles h in
      omega (arith, lanes, many, some, count)

  pub holders_after_none : (u : HubTables) (room : ℕ) → CanCountHolders room t
      → u.ports ≡ with_port visits_it t.ports n → u.handles ≡ t.handles → CanCountHolders room u
  holders_after_none u room count ports handles =
      let lanes : on_lanes (λ l. 1) u.ports ≡ on_lanes (λ l. 1) t.ports = ap (on_lanes (λ l. 1)) ports ∙ lanes_stay in
      let many : length u.handles ≡ length t.handles = ap (λ hs. length hs) handles in
      omega (arith, lanes, many, count)

  -- ---- counts

  -- deliveries and loans are as before
  pub counts_after : (u : HubTables) → AreCounted t → u.ports ≡ with_port visits_it t.ports n → u.calls ≡ t.calls + 1 → t.calls < 2 ^ 56
      → u.next_number ≤ t.next_number + 1 → u.ports_made ≡ t.ports_made → AreCounted u
  counts_after u c ports calls few next made = record {
    calls = omega (arith, calls, few);
    ports = subst (λ m. m ≤ 2 ^ 32) (sym made) c.ports;
    numbers = let old = c.numbers in omega (arith, calls, next, made, old);
    loans = subst (OfAll (λ p. p.loans ≤ u.calls)) (sym ports) (loans_stay t.ports (below_all (λ p. p.loans) t.calls u.calls (omega (arith, calls)) t.ports c.loans));
    deliveries =
        subst (OfAllLanes (λ l. l.deliveries ≤ u.calls)) (sym ports)
        (visits_keep wanted (labels_of t.pools) lane (λ l. l.deliveries ≤ u.calls) (λ test l e. subst (λ m. m ≤ u.calls) (sym (visited_deliveries test l)) e) t.ports n
        (all_lanes_from (λ l. l.deliveries ≤ t.calls) (λ l. l.deliveries ≤ u.calls) (λ l e. omega (arith, calls, e)) t.ports c.deliveries));
  }
    where
      below_all : (f : PortState → ℕ) (a b : ℕ) → a ≤ b → (ps : List PortState) → OfAll (λ p. f p ≤ a) ps → OfAll (λ p. f p ≤ b) ps
      below_all f a b less ps all = all_from (λ p. f p ≤ a) (λ p. f p ≤ b) (λ p e. omega (arith, less, e)) ps all

      loans_stay : (ps : List PortState) → OfAll (λ p. p.loans ≤ u.calls) ps → OfAll (λ p. p.loans ≤ u.calls) (with_port visits_it ps n)
      loans_stay ps all = all_with_first (λ p. p.loans ≤ u.calls) (λ p. p.number) visits_it ps n (λ p e. e) all

  pub counts_stay : (u : HubTables) → AreCounted t → u.ports ≡ with_port visits_it t.ports n → u.calls ≡ t.calls
      → u.next_number ≡ t.next_number → u.ports_made ≡ t.ports_made → AreCounted u
  counts_stay u c ports calls next made = record {
    calls = subst (λ m. m ≤ 2 ^ 56 + 1) (sym calls) c.calls;
    ports = subst (λ m. m ≤ 2 ^ 32) (sym made) c.ports;
    numbers = let old = c.numbers in omega (arith, calls, next, made, old);
    loans =
        subst (λ m. OfAll (λ p. p.loans ≤ m) u.ports) (sym calls)
        (subst (OfAll (λ p. p.loans ≤ t.calls)) (sym ports) (all_with_first (λ p. p.loans ≤ t.calls) (λ p. p.number) visits_it t.ports n (λ p e. e) c.loans));
    deliveries =
        subst (λ m. OfAllLanes (λ l. l.deliveries ≤ m) u.ports) (sym calls)
        (subst (OfAllLanes (λ l. l.deliveries ≤ t.calls)) (sym ports)
        (visits_keep wanted (labels_of t.pools) lane (λ l. l.deliveries ≤ t.calls) (λ test l e. subst (λ m. m ≤ t.calls) (sym (visited_deliveries test l)) e) t.ports n
        c.deliveries));
  }
