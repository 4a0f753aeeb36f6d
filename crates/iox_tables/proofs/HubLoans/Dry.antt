-- As many serials are kept as slots of a pool.
use Rattle.std.specs.Prelude.{◌≡◌, ◌⊎◌, ℕ, zero, suc, ◌+◌, ◌<◌, ◌≤◌, Bool, true, false, ◌&&◌, ◌||◌, if◌then◌else◌, ◌==◌, nat_le, List, [], ◌∷◌, ◌++◌, length, map, filter, Option, Some, None, refl}
use Rattle.std.specs.List.{list_all, list_any, range_with_len}
use Rattle.std.specs.Option.{option_map_or}
use Rattle.std.proofs.Common.{sym, ap, ap₂, subst, ◌∙◌, true≢false, eqb-true, arith, inl, inr}
use Rattle.std.proofs.lemmas.List.{length-map}
use Rattle.iox_model.specs.declared.kind.Role.{Role}
use Rattle.iox_model.specs.declared.kind.Role.TheVariants.{Client, Server}
use Rattle.iox_model.specs.declared.way.Way.{Way}
use Rattle.iox_model.specs.Handles.{is_own}
use Rattle.iox_model.specs.Maps.{has_number}
use Rattle.iox_model.specs.Messages.{request_way, response_way}
use Rattle.iox_model.specs.Outstandings.{is_held, is_kept, is_outstanding, kept}
use Rattle.iox_model.specs.Peers.{is_connected_port, role_at, ways_from}
use Rattle.iox_model.specs.States as m
use Rattle.iox_laws.proofs.WeaveLaws.MapLemmas.{eqb-refl}
use Rattle.iox_laws.proofs.WeaveLedger.Lists.{IsAmong, NoRepeats, among-any, among-filter, among-map, among-number, any-among, filter-among, flat-among, map-among, no_repeats-filter, number-among}
use Rattle.iox_laws.proofs.WeaveLedger.Ranges.{no-longer, range-apart, range-has, up-to}
use Rattle.iox_lanes.specs.Lanes.{LaneState}
use Rattle.iox_tables.specs.HubStates.Tables.{HandleState, HubTables, PortState, port_in}
use Rattle.iox_tables.specs.HubStates.Ways.{lane_on}
use Rattle.iox_tables.specs.HubStates.Shown.{MessagesByPlace, is_among, is_out_in}
use Rattle.iox_tables.specs.HubStates.States.{Given, fixed_of, handle_of, message_of, state_shown}
use Rattle.iox_tables.specs.HubStates.Ends.{OfEachHandle}
use Rattle.iox_tables.specs.HubStates.Steps.{places_on}
use Rattle.iox_tables.proofs.HubStates.Fixing.{role_is}
use Rattle.iox_tables.proofs.HubStates.Lists.{any-append}
use Rattle.iox_tables.proofs.HubStates.Steps.{connected_is}
use Rattle.iox_tables.specs.HubLoans.Counts.{AreOnNodes}
use Rattle.iox_tables.specs.HubLoans.Lenders.{is_pool_dry, lender_of_request, ways_by, ways_to_client, with_got_back}
use Rattle.iox_tables.specs.HubLoans.Pools.{CarriesIts, HoldsItsOwn, KeepsItsOwn, is_slot_held, is_slot_kept, is_slot_out, serial_in}
use Rattle.iox_tables.specs.HubLoans.Slots.{is_place}
use Rattle.iox_tables.proofs.HubLoans.Counting.{any_map, handles_are}
use Rattle.iox_tables.proofs.HubLoans.Lent.{all_ways, fixed_back, is_there_back}

-- ---- tests

both : (a b : Bool) → a ≡ true → b ≡ true → (a && b) ≡ true
both true b ea eb = eb
both false b ea eb = absurd (true≢false (sym ea))

first_is : (a b : Bool) → (a && b) ≡ true → a ≡ true
first_is true b e = refl
first_is false b e = absurd (true≢false (sym e))

pub second_is : (a b : Bool) → (a && b) ≡ true → b ≡ true
second_is true b e = e
second_is false b e = absurd (true≢false (sym e))

pub either : (a b : Bool) → (a || b) ≡ true → (a ≡ true) ⊎ (b ≡ true)
either true b e = inl refl
either false b e = inr e

pub or_left : (a b : Bool) → a ≡ true → (a || b) ≡ true
or_left true b e = refl
or_left false b e = absurd (true≢false (sym e))

pub or_right : (a b : Bool) → b ≡ true → (a || b) ≡ true
or_right true b e = refl
or_right false b e = e

same_number : (a b : ℕ) → a ≡ b → (a == b) ≡ true
same_number a b e = ap (λ j. j == b) e ∙ eqb-refl b

-- what is so of each handle is so of one
pub of_each : (P : HandleState → Type 0) (h : HandleState) (hs : List HandleState) → OfEachHandle P hs → IsAmong h hs → P h
of_each P h [] all p = absurd p
of_each P h (g ∷ gs) all (inl e) = subst P (sym e) all.0
of_each P h (g ∷ gs) all (inr p) = of_each P h gs all.1 p

-- images differ where no two of the list have the same
no_repeats_map : {A B : Type 0} (f : A → B) (xs : List A) → ((a b : A) → IsAmong a xs → IsAmong b xs → f a ≡ f b → a ≡ b) → NoRepeats xs → NoRepeats (map f xs)
no_repeats_map f [] inj d = tt
no_repeats_map f (x ∷ xs) inj d = (apart, no_repeats_map f xs (λ a b p q. inj a b (inr p) (inr q)) d.1)
  where
    apart : IsAmong (f x) (map f xs) → ⊥
    apart p =
        let r : (a : _) × IsAmong a xs × (f x ≡ f a) = map-among f (f x) xs p in
        d.0 (subst (λ a. IsAmong a xs) (sym (inj x r.0 (inl refl) (inr r.1) r.2)) r.1)

-- all of a list pass exactly if as many pass as there are
fewer : {A : Type 0} (test : A → Bool) (xs : List A) → length (filter test xs) ≤ length xs
fewer test [] = omega arith
fewer test (x ∷ xs) = step (test x) (fewer test xs)
  where
    step : (b : Bool) → length (filter test xs) ≤ length xs → length (if b then x ∷ filter test xs else filter test xs) ≤ suc (length xs)
    step true e = omega (arith, e)
    step false e = omega (arith, e)

all_pass : {A : Type 0} (test : A → Bool) (xs : List A) → nat_le (length xs) (length (filter test xs)) ≡ list_all test xs
all_pass test [] = refl
all_pass test (x ∷ xs) = step (test x) (all_pass test xs)
  where
    down : (a b : ℕ) → nat_le (suc a) (suc b) ≡ nat_le a b
    down a b = grind (arith)

    above : (a b : ℕ) → b ≤ a → nat_le (suc a) b ≡ false
    above a b e = grind (arith, e)

    step : (b : Bool) → nat_le (length xs) (length (filter test xs)) ≡ list_all test xs
        → nat_le (suc (length xs)) (length (if b then x ∷ filter test xs else filter test xs)) ≡ (b && list_all test xs)
    step true e = down (length xs) (length (filter test xs)) ∙ e
    step false e = above (length xs) (length (filter test xs)) (fewer test xs)

range_length : (a n : ℕ) → length (range_with_len a n) ≡ n
range_length a zero = refl
range_length a (suc n) = ap (λ k. suc k) (range_length (a + 1) n)

range_below : (a n k : ℕ) → IsAmong k (range_with_len a n) → k < a + n
range_below a zero k p = absurd p
range_below a (suc n) k (inl e) = here k a n e
  where
    here : (k a n : ℕ) → k ≡ a → k < a + suc n
    here k a n e = omega (arith, e)
range_below a (suc n) k (inr p) = next k a n (range_below (a + 1) n k p)
  where
    next : (k a n : ℕ) → k < a + 1 + n → k < a + suc n
    next k a n e = omega (arith, e)

both_ways : (a b : ℕ) → a ≤ b → b ≤ a → a ≡ b
both_ways a b p q = omega (arith, p, q)

-- ---- ways

to_one : (t : HubTables) (n client : ℕ) (w : Way) → IsAmong w (ways_to_client t n client) → w.sender ≡ n
to_one t n client w p = let r = map-among (λ lane. response_way client lane n) w _ p in ap (λ (v : Way). v.sender) r.2

-- all these ways are from the port
pub sender_is : (t : HubTables) (role : Role) (n : ℕ) (w : Way) → IsAmong w (ways_by role t n) → w.sender ≡ n
sender_is t Client n w p = let r = map-among (request_way n) w _ p in ap (λ (v : Way). v.sender) r.2
sender_is t Server n w p = let r = flat-among (ways_to_client t n) w _ p in to_one t n r.0 w r.2

-- ---- what a port keeps

module _ (x : Given) (t : HubTables) (p : PortState) (there : port_in t.ports p.number ≡ Some p) (on : AreOnNodes t) (own : KeepsItsOwn (with_got_back t p) p) where
  abbrev n : ℕ
  n = p.number

  abbrev back : HubTables
  back = with_got_back t p

  abbrev s : m.State
  s = state_shown x back

  abbrev f : m.Fixed
  f = fixed_of x back

  abbrev message : MessagesByPlace
  message = message_of x t.pools

  abbrev ways : List Way
  ways = ways_by p.role back n

  -- a slot of the pool that the port keeps, of that serial
  abbrev Keeps : ℕ → Type 0
  Keeps k = (j : ℕ) × (j < p.size) × (is_slot_kept back p j ≡ true) × (k ≡ serial_in back p j)

  fixed_is : f ≡ fixed_of x t
  fixed_is = fixed_back x t (lender_of_request p 0) there

  role_there : role_at f n ≡ p.role
  role_there =
      ap (λ (f : m.Fixed). role_at f n) fixed_is ∙ role_is x t n ∙ ap (λ o. option_map_or (λ q. q.role) o Client) there

  ways_are : ways_from f n ≡ ways
  ways_are = all_ways x back p.role n role_there

  -- ---- handles

  abbrev has_serial : ℕ → HandleState → Bool
  has_serial k h = (h.port == n) && (is_own h.kind && ((message h.pool h.slot).serial == k))

  held_is : (k : ℕ) → is_held f n k ≡ list_any (has_serial k) t.handles
  held_is k =
      ap (λ (f : m.Fixed). is_held f n k) fixed_is
      ∙ ap (list_any (λ (h : m.Handle). is_own h.kind && (h.message.serial == k))) (handles_are x t on n)
      ∙ any_map (λ (h : m.Handle). is_own h.kind && (h.message.serial == k)) (handle_of x message) (λ h. h.port == n) t.handles

  held_keeps : (k : ℕ) → is_held f n k ≡ true → Keeps k
  held_keeps k e =
      let r = any-among (has_serial k) t.handles (sym (held_is k) ∙ e) in
      let h : HandleState = r.0 in
      let of_port : (h.port == n) ≡ true = first_is (h.port == n) _ r.2 in
      let rest = second_is (h.port == n) _ r.2 in
      let of_kind : is_own h.kind ≡ true = first_is (is_own h.kind) _ rest in
      let its : (h.pool ≡ p.pool) × (h.slot < p.size) = of_each (HoldsItsOwn p) h t.handles own.handles r.1 (eqb-true h.port n of_port) of_kind in (
        h.slot,
        its.1,
        or_left (is_slot_held back p h.slot) (is_slot_out back p h.slot)
            (among-any (λ g. (g.port == n) && (is_own g.kind && is_place p.pool h.slot g.pool g.slot)) h t.handles r.1
            (both (h.port == n) _ of_port (both (is_own h.kind) _ of_kind (both (h.pool == p.pool) (h.slot == h.slot) (same_number h.pool p.pool its.0) (eqb-refl h.slot))))),
        sym (eqb-true (message h.pool h.slot).serial k (second_is (is_own h.kind) _ rest)) ∙ ap (λ j. (message j h.slot).serial) its.0,
      )

  keeps_held : (j : ℕ) → is_slot_held back p j ≡ true → is_held f n (serial_in back p j) ≡ true
  keeps_held j e =
      let r = any-among (λ h. (h.port == n) && (is_own h.kind && is_place p.pool j h.pool h.slot)) t.handles e in
      let h : HandleState = r.0 in
      let rest = second_is (h.port == n) _ r.2 in
      let place = second_is (is_own h.kind) _ rest in
      held_is (serial_in back p j)
      ∙ among-any (has_serial (serial_in back p j)) h t.handles r.1
      (both (h.port == n) _ (first_is (h.port == n) _ r.2)
      (both (is_own h.kind) _ (first_is (is_own h.kind) _ rest)
      (same_number (message h.pool h.slot).serial (serial_in back p j)
      (ap₂ (λ a b. (message a b).serial) (eqb-true h.pool p.pool (first_is (h.pool == p.pool) _ place)) (eqb-true h.slot j (second_is (h.pool == p.pool) _ place))))))

  -- ---- lanes

  connected : (w : Way) → w.sender ≡ n → is_connected_port f w.sender ≡ true
  connected w is = ap (is_connected_port f) is ∙ connected_is x back.ports n ∙ is_there_back x t (lender_of_request p 0) there

  abbrev on_it : ℕ → LaneState → Bool
  on_it k l = list_any (λ j. (message l.pool j).serial == k) (places_on l)

  out_is : (l : LaneState) (k : ℕ) → is_out_in message l k ≡ on_it k l
  out_is l k =
      sym (any-append (λ j. (message l.pool j).serial == k) l.returned (l.waiting ++ l.taken)
      ∙ ap (λ b. is_among message l.pool l.returned k || b) (any-append (λ j. (message l.pool j).serial == k) l.waiting l.taken))

  delivered_is : (w : Way) (k : ℕ) → w.sender ≡ n → s.delivered w k ≡ option_map_or (on_it k) (lane_on back.ports w) false
  delivered_is w k is =
      ap (λ (b : Bool). (if b then option_map_or (is_out_in message) (lane_on back.ports w) (λ k. false) else (λ k. false)) k) (connected w is)
      ∙ step (lane_on back.ports w)
    where
      step : (o : Option LaneState) → option_map_or (is_out_in message) o (λ k. false) k ≡ option_map_or (on_it k) o false
      step (Some l) = out_is l k
      step None = refl

  out_keeps : (k : ℕ) → is_outstanding s n k ≡ true → Keeps k
  out_keeps k e =
      let r = any-among (λ w. s.delivered w k) ways (ap (list_any (λ w. s.delivered w k)) (sym ways_are) ∙ e) in
      let from = sender_is back p.role n r.0 r.1 in
      step r.0 r.1 from (lane_on back.ports r.0) refl (sym (delivered_is r.0 k from) ∙ r.2)
    where
      step : (w : Way) → IsAmong w ways → w.sender ≡ n → (o : Option LaneState) → lane_on back.ports w ≡ o → option_map_or (on_it k) o false ≡ true → Keeps k
      step w among from None is out = absurd (true≢false (sym out))
      step w among from (Some l) is out =
          let r = any-among (λ j. (message l.pool j).serial == k) (places_on l) out in
          let here : has_number r.0 (places_on l) ≡ true = among-number r.0 (places_on l) r.1 in
          let its : CarriesIts p l = own.lanes w l is from in (
            r.0,
            its.1 r.0 here,
            or_right (is_slot_held back p r.0) (is_slot_out back p r.0)
                (among-any (λ v. option_map_or (λ l. has_number r.0 (places_on l)) (lane_on back.ports v) false) w ways among
                (ap (λ o. option_map_or (λ (l : LaneState). has_number r.0 (places_on l)) o false) is ∙ here)),
            sym (eqb-true (message l.pool r.0).serial k r.2) ∙ ap (λ j. (message j r.0).serial) its.0,
          )

  keeps_out : (j : ℕ) → is_slot_out back p j ≡ true → is_outstanding s n (serial_in back p j) ≡ true
  keeps_out j e =
      let r = any-among (λ w. option_map_or (λ l. has_number j (places_on l)) (lane_on back.ports w) false) ways e in
      let from = sender_is back p.role n r.0 r.1 in
      ap (list_any (λ w. s.delivered w (serial_in back p j))) ways_are
      ∙ among-any (λ w. s.delivered w (serial_in back p j)) r.0 ways r.1
      (delivered_is r.0 (serial_in back p j) from ∙ step r.0 from (lane_on back.ports r.0) refl r.2)
    where
      step : (w : Way) → w.sender ≡ n → (o : Option LaneState) → lane_on back.ports w ≡ o → option_map_or (λ l. has_number j (places_on l)) o false ≡ true
          → option_map_or (on_it (serial_in back p j)) o false ≡ true
      step w from None is out = absurd (true≢false (sym out))
      step w from (Some l) is out =
          among-any (λ i. (message l.pool i).serial == serial_in back p j) j (places_on l) (number-among j (places_on l) out)
          (same_number (message l.pool j).serial (serial_in back p j) (ap (λ i. (message i j).serial) (own.lanes w l is from).0))

  -- ---- both

  is_kept_so : (k : ℕ) → is_kept s n [] k ≡ true → Keeps k
  is_kept_so k e = elim (either (is_held f n k) (is_outstanding s n k) e) as (λ u. Keeps k) [
    | inl q ↦ held_keeps k q
    | inr q ↦ out_keeps k q
  ]

  so_is_kept : (j : ℕ) → is_slot_kept back p j ≡ true → is_kept s n [] (serial_in back p j) ≡ true
  so_is_kept j e = elim (either (is_slot_held back p j) (is_slot_out back p j) e) as (λ u. is_kept s n [] (serial_in back p j) ≡ true) [
    | inl q ↦ or_left (is_held f n (serial_in back p j)) _ (keeps_held j q)
    | inr q ↦ or_right (is_held f n (serial_in back p j)) _ (keeps_out j q)
  ]

  abbrev slots : List ℕ
  slots = filter (is_slot_kept back p) (range_with_len 0 p.size)

  abbrev serials : List ℕ
  serials = map (serial_in back p) slots

  loans_are : f.loans n ≡ p.loans
  loans_are =
      ap (λ (f : m.Fixed). f.loans n) fixed_is ∙ ap (λ o. option_map_or (λ (q : PortState). q.loans) o 0) there

  up_to : (k : ℕ) → k < p.loans → k ≤ f.loans n
  up_to k e = subst (λ (j : ℕ). k ≤ j) (sym loans_are) (less k p.loans e)
    where
      less : (a b : ℕ) → a < b → a ≤ b
      less a b e = omega (arith, e)

  zero_up : (j m : ℕ) → j < m → j < 0 + m
  zero_up j m e = omega (arith, e)

  none_below : (j : ℕ) → 0 ≤ j
  none_below j = omega arith

  there_so : (k : ℕ) → IsAmong k (kept s n []) → IsAmong k serials
  there_so k a =
      let keeps : Keeps k = is_kept_so k (filter-among (is_kept s n []) k (range_with_len 0 (f.loans n + 1)) a).1 in
      subst (λ i. IsAmong i serials) (sym keeps.3)
      (among-map (serial_in back p) keeps.0 slots
      (among-filter (is_slot_kept back p) keeps.0 (range_with_len 0 p.size) (range-has 0 p.size keeps.0 (none_below keeps.0) (zero_up keeps.0 p.size keeps.1)) keeps.2))

  so_there : (k : ℕ) → IsAmong k serials → IsAmong k (kept s n [])
  so_there k a =
      let r = map-among (serial_in back p) k slots a in
      let kept_slot : is_slot_kept back p r.0 ≡ true = (filter-among (is_slot_kept back p) r.0 (range_with_len 0 p.size) r.1).1 in
      subst (λ i. IsAmong i (kept s n [])) (sym r.2)
      (among-filter (is_kept s n []) (serial_in back p r.0) (range_with_len 0 (f.loans n + 1))
      (up-to (f.loans n) (serial_in back p r.0) (up_to (serial_in back p r.0) (own.below r.0 kept_slot))) (so_is_kept r.0 kept_slot))

  no_repeats : NoRepeats serials
  no_repeats =
      no_repeats_map (serial_in back p) slots
      (λ a b at bt e. own.apart a b (filter-among (is_slot_kept back p) a (range_with_len 0 p.size) at).1 (filter-among (is_slot_kept back p) b (range_with_len 0 p.size) bt).1 e)
      (no_repeats-filter (is_slot_kept back p) (range_with_len 0 p.size) (range-apart 0 p.size))

  as_many : length (kept s n []) ≡ length slots
  as_many =
      both_ways (length (kept s n [])) (length serials)
      (no-longer (kept s n []) serials (no_repeats-filter (is_kept s n []) (range_with_len 0 (f.loans n + 1)) (range-apart 0 (f.loans n + 1))) there_so)
      (no-longer serials (kept s n []) no_repeats so_there)
      ∙ length-map slots (serial_in back p)

  pub dry_is_kept : is_pool_dry x t p ≡ list_all (is_slot_kept back p) (range_with_len 0 p.size)
  dry_is_kept =
      ap (λ k. nat_le p.size k) as_many
      ∙ ap (λ k. nat_le k (length slots)) (sym (range_length 0 p.size))
      ∙ all_pass (is_slot_kept back p) (range_with_len 0 p.size)
