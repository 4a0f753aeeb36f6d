-- Together: what is kept, and the pool.
use Rattle.std.specs.Prelude.{map, filter, flat_map, is_some, not, ◌||◌, ◌++◌, ◌<◌, ◌≤◌, nat_lt}
use Rattle.std.specs.List.{list_any, list_all, range_with_len}
use Rattle.std.specs.Option.{option_map_or}
use Rattle.std.proofs.Common.{◌≡◌, ℕ, ◌+◌, Bool, true, false, if◌then◌else◌, ◌&&◌, ◌==◌, List, [], ◌∷◌, Some, None, refl, ap, sym, subst, ◌∙◌, arith, eqb-true, eq-eqb, true≢false, inl, inr}
use Rattle.iox_model.specs.Keeping.{under_way, kept_in}
use Rattle.iox_model.specs.Maps.{has_number, is_empty}
use Rattle.iox_model.specs.Outstandings.{is_held, is_outstanding, is_kept, kept, is_dry}
use Rattle.iox_model.specs.Peers.{node_of_port}
use Rattle.iox_model.specs.States.{State}
use Rattle.iox_model.specs.Weaves.{World}
use Rattle.iox_laws.proofs.WeaveLaws.WholeLemmas.{some-is, split}
use Rattle.iox_laws.proofs.WeaveLedger.Lists.{IsAmong, among-number, no_repeats-filter, no_repeats-distinct}
use Rattle.iox_laws.proofs.WeaveLedger.Ranges.{range-has, range-apart}
use Rattle.iox_laws.proofs.WeaveLedger.Truths.{none-some, both_true, or-left, or-right}
use Rattle.iox_wire_laws.specs.WireSlots.Slots.{SlotsFit}
use Rattle.iox_wire_moments.specs.MomentsOf.{Pools, serial_in}
use Rattle.iox_wire_locals.specs.declared.table.Recorded.{Recorded}
use Rattle.iox_wire_locals.specs.declared.seat.Seat.{Seat}
use Rattle.iox_wire_locals.specs.Tables.{Setting}
use Rattle.iox_wire_locals.specs.Known.{free_slots}
use Rattle.iox_wire_locals.specs.BeginLaws.{Counts}
use Rattle.iox_wire_laws.specs.WireKeeping.Readiness.{ShowsDoing}
use Rattle.iox_wire_laws.specs.WireKeeping.Records.{record_of, recorded_of}
use Rattle.iox_wire_laws.proofs.WireSlots.Counting.{dry_if_none_is_free}
use Rattle.iox_wire_laws.specs.WireKeeping.UsedSlots.{serials_in, slots_in_call, slots_held, slots_used, PortFits}
use Rattle.iox_wire_laws.specs.WireKeeping.PoolSlots.{used_serial, PoolFits, KeptAreUsed, SlotsAreFit, PoolsAreTold}
use Rattle.iox_wire_laws.proofs.WireKeeping.UsedSlots.{in_call, in_handles, on_ways, own_record, has_both}

-- ---- lists

-- a number in a list after a map is one of a number there
mapped : (f : ℕ → ℕ) (k : ℕ) (xs : List ℕ) → has_number k (map f xs) ≡ true → (i : ℕ) × (has_number i xs ≡ true) × (f i ≡ k)
mapped f k [] e = absurd (true≢false (sym e))
mapped f k (x ∷ xs) e = by_case (f x == k) refl e (mapped f k xs)
  where
    by_case : (b : Bool) → (f x == k) ≡ b → (b || has_number k (map f xs)) ≡ true
        → (has_number k (map f xs) ≡ true → (i : ℕ) × (has_number i xs ≡ true) × (f i ≡ k))
        → (i : ℕ) × (has_number i (x ∷ xs) ≡ true) × (f i ≡ k)
    by_case true is e later = (x, or-left (x == x) (has_number x xs) (eq-eqb x x refl), eqb-true (f x) k is)
    by_case false is e later = let r = later e in (r.0, or-right (x == r.0) (has_number r.0 xs) r.1, r.2)

mapped_in : (f : ℕ → ℕ) (i : ℕ) (xs : List ℕ) → has_number i xs ≡ true → has_number (f i) (map f xs) ≡ true
mapped_in f i [] e = absurd (true≢false (sym e))
mapped_in f i (x ∷ xs) e = by_case (x == i) refl e (mapped_in f i xs)
  where
    by_case : (b : Bool) → (x == i) ≡ b → (b || has_number i xs) ≡ true → (has_number i xs ≡ true → has_number (f i) (map f xs) ≡ true)
        → ((f x == f i) || has_number (f i) (map f xs)) ≡ true
    by_case true is e later = or-left (f x == f i) (has_number (f i) (map f xs)) (eq-eqb (f x) (f i) (ap f (eqb-true x i is)))
    by_case false is e later = or-right (f x == f i) (has_number (f i) (map f xs)) (later e)

-- a number of a list that passes a test
filtered : (test : ℕ → Bool) (k : ℕ) (xs : List ℕ) → has_number k (filter test xs) ≡ (test k && has_number k xs)
filtered test k [] = by_test (test k)
  where
    by_test : (b : Bool) → false ≡ (b && false)
    by_test true = refl
    by_test false = refl
filtered test k (x ∷ xs) = by_test (test x) refl (filtered test k xs)
  where
    with_first : (b : Bool) → (b ≡ true → x ≡ k) → test x ≡ true → has_number k (filter test xs) ≡ (test k && has_number k xs)
        → (b || has_number k (filter test xs)) ≡ (test k && (b || has_number k xs))
    with_first true same is rest = rw (ap test (sym (same refl)) ∙ is) refl
    with_first false same is rest = rest

    without_first : (b : Bool) → (b ≡ true → x ≡ k) → test x ≡ false → has_number k (filter test xs) ≡ (test k && has_number k xs)
        → has_number k (filter test xs) ≡ (test k && (b || has_number k xs))
    without_first true same is rest =
        let fails : test k ≡ false = ap test (sym (same refl)) ∙ is in
        rest ∙ ap (λ c. c && has_number k xs) fails ∙ sym (ap (λ c. c && true) fails)
    without_first false same is rest = rest

    by_test : (a : Bool) → test x ≡ a → has_number k (filter test xs) ≡ (test k && has_number k xs)
        → has_number k (if a then x ∷ filter test xs else filter test xs) ≡ (test k && ((x == k) || has_number k xs))
    by_test true is rest = with_first (x == k) (eqb-true x k) is rest
    by_test false is rest = without_first (x == k) (eqb-true x k) is rest

all_among : {A : Type 0} (test : A → Bool) (a : A) (xs : List A) → list_all test xs ≡ true → IsAmong a xs → test a ≡ true
all_among test a [] all among = absurd among
all_among test a (x ∷ xs) all (inl is) = ap test is ∙ (split _ _ all).0
all_among test a (x ∷ xs) all (inr later) = all_among test a xs (split _ _ all).1 later

module _ (p : Setting) (held : Pools) (w : World) (x : Seat) (port : ℕ) (has : Counts p x w.state held) (doing : ShowsDoing p held w x)
    (fits : PortFits held w.state x port) where
  abbrev s : State
  s = w.state

  abbrev calls : List ℕ
  calls = option_map_or (under_way port) (w.doing (node_of_port w.state.fixed port)) []

  call_is : calls ≡ serials_in held port (slots_in_call port x.local)
  call_is =
      ap (λ n. option_map_or (under_way port) (w.doing n) []) fits.mine ∙ ap (λ o. option_map_or (under_way port) o []) doing
      ∙ in_call p held s.fixed x.node port x.local fits.call

  held_is : (k : ℕ) → is_held s.fixed port k ≡ has_number k (serials_in held port (slots_held x port))
  held_is k = rw fits.mine (rw has.knows.handles (in_handles held x.node port k x.table fits.entries))

  -- the records, one by one
  recorded_is : (k : ℕ) (r : Recorded) → IsAmong r (recorded_of x port) → s.delivered r.way k ≡ has_number k (serials_in held port r.slots)
  recorded_is k r among =
      let sender : r.way.sender ≡ port = eqb-true r.way.sender port (all_among (λ (q : Recorded). q.way.sender == port) r (recorded_of x port) fits.from among) in
      let found : record_of r.way (recorded_of x r.way.sender) ≡ Some r
      = ap (λ q. record_of r.way (recorded_of x q)) sender ∙ own_record r (recorded_of x port) among fits.apart in
      fits.records.told r.way k (ap is_some found)
      ∙ ap (λ o. has_number k (map (serial_in held r.way) (option_map_or (λ (q : Recorded). q.slots) o []))) found
      ∙ ap (λ q. has_number k (serials_in held q r.slots)) sender

  out_is : (k : ℕ) → is_outstanding s port k ≡ has_number k (serials_in held port (flat_map (λ r. r.slots) (recorded_of x port)))
  out_is k = ap (list_any (λ v. s.delivered v k)) (sym fits.ways) ∙ on_ways held s port k (recorded_of x port) (recorded_is k)

  kept_is_used : (k : ℕ) → is_kept s port calls k ≡ has_number k (serials_in held port (slots_used x port))
  kept_is_used k =
      ap (λ b. b || (is_held s.fixed port k || is_outstanding s port k)) (ap (has_number k) call_is)
      ∙ ap (λ b. has_number k (serials_in held port (slots_in_call port x.local)) || (b || is_outstanding s port k)) (held_is k)
      ∙ ap (λ b. has_number k (serials_in held port (slots_in_call port x.local)) || (has_number k (serials_in held port (slots_held x port)) || b)) (out_is k)
      ∙ ap (λ b. has_number k (serials_in held port (slots_in_call port x.local)) || b)
      (sym (has_both k (λ slot. (held port slot).serial) (slots_held x port) (flat_map (λ r. r.slots) (recorded_of x port))))
      ∙ sym (has_both k (λ slot. (held port slot).serial) (slots_in_call port x.local) (slots_held x port ++ flat_map (λ r. r.slots) (recorded_of x port)))

  -- a serial in use is one of the port's loans
  abbrev numbers : List ℕ
  numbers = range_with_len 0 (w.state.fixed.loans port + 1)

  in_range : (k : ℕ) → has_number k (serials_in held port (slots_used x port)) ≡ true → has_number k numbers ≡ true
  in_range k e =
      let r = mapped (λ slot. (held port slot).serial) k (slots_used x port) e in
      let few : (held port r.0).serial ≤ s.fixed.loans port = fits.counted r.0 r.1 in
      among-number k numbers (range-has 0 (s.fixed.loans port + 1) k (omega arith) (below k (held port r.0).serial (s.fixed.loans port) r.2 few))
    where
      below : (k n loans : ℕ) → n ≡ k → n ≤ loans → k < 0 + (loans + 1)
      below k n loans is few = omega arith

  pub kept_used : (k : ℕ) → has_number k (kept_in w port) ≡ has_number k (serials_in held port (slots_used x port))
  kept_used k =
      filtered (is_kept s port calls) k numbers ∙ ap (λ b. b && has_number k numbers) (kept_is_used k)
      ∙ by_case (has_number k (serials_in held port (slots_used x port))) (in_range k)
    where
      by_case : (b : Bool) → (b ≡ true → has_number k numbers ≡ true) → (b && has_number k numbers) ≡ b
      by_case true there = there refl
      by_case false there = refl

  module _ (pool : ℕ) (fit : PoolFits held x port pool) where
    -- a slot with a serial is in use
    used : (slot k : ℕ) → used_serial held x port slot ≡ Some k → (has_number slot (slots_used x port) ≡ true) × ((held port slot).serial ≡ k)
    used slot k e = by_case (has_number slot (slots_used x port)) e
      where
        by_case : (b : Bool) → (if b then Some (held port slot).serial else None) ≡ Some k → (b ≡ true) × ((held port slot).serial ≡ k)
        by_case true e = (refl, some-is _ k e)
        by_case false e = none-some k e

    unused : (slot : ℕ) → used_serial held x port slot ≡ None → has_number slot (slots_used x port) ≡ false
    unused slot e = by_case (has_number slot (slots_used x port)) e
      where
        by_case : (b : Bool) → (if b then Some (held port slot).serial else None) ≡ None → b ≡ false
        by_case true e = none-some _ (sym e)
        by_case false e = refl

    not_used : (b : Bool) → not b ≡ true → b ≡ false
    not_used true e = absurd (true≢false (sym e))
    not_used false e = refl

    lt_is : (a b : ℕ) → nat_lt a b ≡ true → a < b
    lt_is a b e = grind (arith)

    is_lt : (a b : ℕ) → a < b → nat_lt a b ≡ true
    is_lt a b less = grind (arith)

    pub fitted : SlotsFit pool (used_serial held x port) (free_slots x port) (kept_in w port)
    fitted = record {
      apart = λ i j k e h.
          let a = used i k e in let b = used j k h in fit.apart i j a.0 b.0 (a.1 ∙ sym b.1);
      within = λ slot k e. fit.within slot (used slot k e).0;
      free_once = fit.free_once;
      free_is = λ slot e.
          let r : (nat_lt slot pool ≡ true) × (not (has_number slot (slots_used x port)) ≡ true) = split _ _ (sym (fit.free slot) ∙ e) in
          (lt_is slot pool r.0, rw (not_used (has_number slot (slots_used x port)) r.1) refl);
      is_free = λ slot below e. fit.free slot ∙ both_true _ _ (is_lt slot pool below) (ap not (unused slot e));
      kept_once = no_repeats-distinct _ (no_repeats-filter (is_kept s port calls) numbers (range-apart 0 (s.fixed.loans port + 1)));
      kept_is = λ k e.
          let r = mapped (λ slot. (held port slot).serial) k (slots_used x port) (sym (kept_used k) ∙ e) in
          (r.0, ap (λ b. if b then Some (held port r.0).serial else None) r.1 ∙ ap Some r.2);
      is_kept = λ slot k e.
          let r = used slot k e in
          kept_used k ∙ ap (λ n. has_number n (serials_in held port (slots_used x port))) (sym r.1)
          ∙ mapped_in (λ i. (held port i).serial) slot (slots_used x port) r.0;
    }

pub kept_are_used : KeptAreUsed
kept_are_used p held w x port k has doing fits = kept_used p held w x port has doing fits k

pub slots_are_fit : SlotsAreFit
slots_are_fit p held w x port pool has doing fits fit = fitted p held w x port has doing fits pool fit

pub pools_are_told : PoolsAreTold
pools_are_told p held w x port q has doing fits there fit none =
    subst (λ ks. is_dry w.state.fixed port (kept w.state port ks) ≡ is_empty (free_slots x port))
    (call_is p held w x port has doing fits ∙ ap (serials_in held port) none)
    (dry_if_none_is_free w.state.fixed port q (used_serial held x port) (free_slots x port) (kept_in w port) there
    (slots_are_fit p held w x port q.pool has doing fits fit))
