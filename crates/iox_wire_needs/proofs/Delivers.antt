-- What is delivered may be delivered: its slot has few uses, and is not recorded on the way.
use Rattle.iox_wire_keeps.proofs.OwnPorts.{both}
use Rattle.std.specs.Prelude.{find, flat_map, is_some, length, map, slice_index, ◌++◌, ◌^◌}
use Rattle.std.specs.List.{list_all, range_with_len}
use Rattle.std.specs.Option.{option_map_or}
use Rattle.std.proofs.Common.{Bool, List, Option, Some, [], ap, arith, eqb-true, false, if◌then◌else◌, inl, inr, refl, subst, suc, sym, true, true≢false, zero, ℕ, ◌++◌, ◌+◌, ◌<◌, ◌==◌, ◌∙◌, ◌∷◌, ◌≡◌, ◌≤◌}
use Rattle.iox_model.specs.Maps.{AreDistinct, has_number, same_way}
use Rattle.iox_model.specs.States.{State}
use Rattle.iox_model.specs.declared.way.Way.{Way}
use Rattle.iox_laws.proofs.WeaveLaws.WholeLemmas.{some-is}
use Rattle.iox_laws.proofs.WeaveLaws.MapLemmas.{same_way-true}
use Rattle.iox_laws.proofs.WeaveLedger.Lists.{IsAmong, NoRepeats, among-map, among-number, distinct-no_repeats, no_repeats-distinct}
use Rattle.iox_laws.proofs.WeaveLedger.Ranges.{no-longer, range-has}
use Rattle.iox_wire_keeps.specs.Seat.{Seat}
use Rattle.iox_wire_keeps.specs.Desk.{Desk}
use Rattle.iox_wire_keeps.specs.Recorded.{Recorded}
use Rattle.iox_wire_keeps.specs.Tables.{Setting}
use Rattle.iox_wire_keeps.specs.MomentsOf.{Pools, serial_in}
use Rattle.iox_wire_keeps.specs.SlotsKnown.{IsPortOfSeat}
use Rattle.iox_wire_keeps.specs.PoolSlots.{PoolFits}
use Rattle.iox_wire_keeps.specs.Records.{RecordsFit, record_of, recorded_of, serials_on, slots_on}
use Rattle.iox_wire_keeps.specs.UsedSlots.{PortFits, slots_held, slots_in_call, slots_used}
use Rattle.iox_wire_keeps.proofs.UsedSlots.{own_record}
use Rattle.iox_wire_keeps.proofs.Counting.{often_both}
use Rattle.iox_wire_keeps.proofs.FoundUses.{on_way}
use Rattle.iox_wire_keeps.specs.Uses.{UsesAreCounted, how_often, uses_of}
use Rattle.iox_wire_keeps.specs.Desks.{MayDeliverAt}
use Rattle.iox_wire_keeps.specs.SeatsRecords.{HasFewer}
use Rattle.iox_wire_keeps.specs.Nodes.{NodeStands}
use Rattle.iox_wire_keeps.proofs.NodesFollow.{records}
use Rattle.iox_wire_keeps.proofs.CallsAround.{distinct_often}

-- ---- lists

no_repeats_of : (f : ℕ → ℕ) (xs : List ℕ) → NoRepeats (map f xs) → NoRepeats xs
no_repeats_of f [] none = tt
no_repeats_of f (k ∷ ks) none = (λ among. none.0 (among-map f k ks among), no_repeats_of f ks none.1)

one_at_most : (b : Bool) → (if b then 1 else 0) ≤ 1
one_at_most true = omega arith
one_at_most false = omega arith

pub once : (k : ℕ) (xs : List ℕ) → AreDistinct xs → how_often k xs ≤ 1
once k xs apart = subst (λ i. i ≤ 1) (sym (distinct_often k xs apart)) (one_at_most (has_number k xs))

in_all : (slot : ℕ) (rs : List Recorded) → ((r : Recorded) → IsAmong r rs → how_often slot r.slots ≤ 1) → how_often slot (flat_map (λ (r : Recorded). r.slots) rs) ≤ length rs
in_all slot [] each = omega arith
in_all slot (r ∷ rs) each =
    more (how_often slot r.slots) (how_often slot (flat_map (λ (k : Recorded). k.slots) rs)) _ (length rs)
    (often_both slot r.slots (flat_map (λ (k : Recorded). k.slots) rs)) (each r (inl refl)) (in_all slot rs (λ k among. each k (inr among)))
  where
    more : (a b t n : ℕ) → t ≡ a + b → a ≤ 1 → b ≤ n → t ≤ suc n
    more a b t n is first rest = omega (arith, is, first, rest)

has_fewer : (k : ℕ) (w : Way) (rs : List Recorded) → ((r : Recorded) → IsAmong r rs → same_way r.way w ≡ true → length r.slots < k) → HasFewer k w rs
has_fewer k w [] each = tt
has_fewer k w (r ∷ rs) each = (each r (inl refl), has_fewer k w rs (λ i among. each i (inr among)))

pub range_length : (a n : ℕ) → length (range_with_len a n) ≡ n
range_length a zero = refl
range_length a (suc n) = more (length (range_with_len (a + 1) n)) n (range_length (a + 1) n)
  where
    more : (i n : ℕ) → i ≡ n → suc i ≡ suc n
    more i n is = ap suc is

all_among : {A : Type 0} (test : A → Bool) (a : A) (xs : List A) → list_all test xs ≡ true → IsAmong a xs → test a ≡ true
all_among test a [] all among = absurd among
all_among test a (x ∷ xs) all (inl is) = ap test is ∙ (both (test x) (list_all test xs) all).0
all_among test a (x ∷ xs) all (inr rest) = all_among test a xs (both (test x) (list_all test xs) all).1 rest

-- ---- a delivery

module _ (p : Setting) (held : Pools) (s : State) (x : Seat) (node : NodeStands p held s x) (port : ℕ) (home : IsPortOfSeat p x port)
    (held_once : AreDistinct (slots_held x port)) (slot : ℕ) (call_once : how_often slot (slots_in_call port x.local) ≤ 1) (w : Way) (from : w.sender ≡ port)
    (there : has_number slot (slots_used x port) ≡ true) (fresh : s.delivered w (serial_in held w slot) ≡ false)
    (known : is_some (record_of w (recorded_of x w.sender)) ≡ true) where
  counted : UsesAreCounted x port (p.port port).pool
  counted = node.uses port home

  fit : PortFits held s x port
  fit = node.slots.ports port home

  fits_pool : PoolFits held x port (p.port port).pool
  fits_pool = node.slots.pools port home

  recorded : RecordsFit held s x
  recorded = records p held s x node

  -- a record of the port's is that of its way
  sender_is : (r : Recorded) → IsAmong r (recorded_of x port) → r.way.sender ≡ port
  sender_is r among = eqb-true r.way.sender port (all_among (λ (k : Recorded). k.way.sender == port) r (recorded_of x port) fit.from among)

  record_is : (r : Recorded) → IsAmong r (recorded_of x port) → record_of r.way (recorded_of x r.way.sender) ≡ Some r
  record_is r among =
      ap (λ i. record_of r.way (recorded_of x i)) (sender_is r among) ∙ own_record r (recorded_of x port) among fit.apart

  slots_are : (r : Recorded) → IsAmong r (recorded_of x port) → slots_on x r.way ≡ r.slots
  slots_are r among = ap (λ (o : Option Recorded). option_map_or (λ (k : Recorded). k.slots) o []) (record_is r among)

  slots_once : (y : Way) → is_some (record_of y (recorded_of x y.sender)) ≡ true → NoRepeats (slots_on x y)
  slots_once y some = no_repeats_of (serial_in held y) (slots_on x y) (distinct-no_repeats (serials_on held x y) (recorded.once y some))

  each_once : (r : Recorded) → IsAmong r (recorded_of x port) → how_often slot r.slots ≤ 1
  each_once r among =
      once slot r.slots (subst AreDistinct (slots_are r among)
      (no_repeats-distinct (slots_on x r.way) (slots_once r.way (ap (λ (o : Option Recorded). is_some o) (record_is r among)))))

  few_uses : uses_of x port slot ≤ 2 + length (recorded_of x port)
  few_uses =
      sum (how_often slot (slots_in_call port x.local)) (how_often slot (slots_held x port)) (how_often slot (flat_map (λ (r : Recorded). r.slots) (recorded_of x port)))
      _ _ (length (recorded_of x port))
      (often_both slot (slots_in_call port x.local) (slots_held x port ++ flat_map (λ (r : Recorded). r.slots) (recorded_of x port)))
      (often_both slot (slots_held x port) (flat_map (λ (r : Recorded). r.slots) (recorded_of x port))) call_once (once slot (slots_held x port) held_once)
      (in_all slot (recorded_of x port) each_once)
    where
      sum : (a b c t u n : ℕ) → t ≡ a + u → u ≡ b + c → a ≤ 1 → b ≤ 1 → c ≤ n → t ≤ 2 + n
      sum a b c t u n one two first second rest = omega (arith, one, two, first, second, rest)

  -- fewer slots are recorded on the way than the pool has, since this one is not
  fewer_there : length (slots_on x w) < (p.port port).pool
  fewer_there =
      low (length (slots_on x w)) (length (range_with_len 0 (p.port port).pool)) (p.port port).pool (range_length 0 (p.port port).pool)
      (no-longer (slot ∷ slots_on x w) (range_with_len 0 (p.port port).pool) (not_there, slots_once w known) each)
    where
      low : (a b c : ℕ) → b ≡ c → suc a ≤ b → a < c
      low a b c is less = omega (arith, is, less)

      not_there : IsAmong slot (slots_on x w) → ⊥
      not_there among =
          true≢false (sym (among-number (serial_in held w slot) (serials_on held x w) (among-map (serial_in held w) slot (slots_on x w) among))
          ∙ sym (recorded.told w (serial_in held w slot) known) ∙ fresh)

      in_range : (k : ℕ) → has_number k (slots_used x port) ≡ true → IsAmong k (range_with_len 0 (p.port port).pool)
      in_range k is = range-has 0 (p.port port).pool k (omega arith) (below k (fits_pool.within k is))
        where
          below : (k : ℕ) → k < (p.port port).pool → k < 0 + (p.port port).pool
          below k less = omega (arith, less)

      each : (k : ℕ) → IsAmong k (slot ∷ slots_on x w) → IsAmong k (range_with_len 0 (p.port port).pool)
      each k (inl is) = in_range k (subst (λ i. has_number i (slots_used x port) ≡ true) (sym is) there)
      each k (inr among) = in_range k (subst (λ i. has_number k (slots_used x i) ≡ true) from (among-number k (slots_used x w.sender) (on_way x w k among)))

  -- so it is at the desk that is found
  pub may_deliver_at : (d : Desk) → find (λ d. d.port == port) x.desks ≡ Some d → 0 < slice_index d.uses slot → length d.recorded + 3 < 2 ^ 64 → MayDeliverAt w slot d
  may_deliver_at d found in_use few = record {
    used = in_use;
    fits = room (slice_index d.uses slot) (uses_of x port slot) (length d.recorded) uses_are (subst (λ k. uses_of x port slot ≤ 2 + length k) recorded_are few_uses) few;
    fewer = has_fewer (length d.uses) w d.recorded (λ r among same.
        subst (λ k. length r.slots < k) (sym (ap (λ (k : Desk). length k.uses) desk_is ∙ counted.counts.words))
        (subst (λ xs. length xs < (p.port port).pool)
        (ap (slots_on x) (sym (same_way-true r.way w same)) ∙ slots_are r (subst (IsAmong r) (sym recorded_are) among)) fewer_there));
  }
    where
      desk_is : d ≡ counted.desk
      desk_is = some-is d counted.desk (sym found ∙ counted.there)

      recorded_are : recorded_of x port ≡ d.recorded
      recorded_are = ap (λ (o : Option Desk). option_map_or (λ (k : Desk). k.recorded) o []) found

      uses_are : slice_index d.uses slot ≡ uses_of x port slot
      uses_are = ap (λ (k : Desk). slice_index k.uses slot) desk_is ∙ counted.counts.told slot (fits_pool.within slot there)

      room : (a b n : ℕ) → a ≡ b → b ≤ 2 + n → n + 3 < 2 ^ 64 → a + 1 < 2 ^ 64
      room a b n is few less = omega (arith, is, few, less)
