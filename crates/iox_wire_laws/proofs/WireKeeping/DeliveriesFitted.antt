-- A delivery uses a slot once more that was in use.
use Rattle.std.specs.Prelude.{map, find, flat_map, not, ◌⊎◌, ◌||◌, ◌++◌, nat_lt, option_map, slice_index}
use Rattle.std.specs.Option.{option_map_or}
use Rattle.std.proofs.Common.{◌≡◌, ℕ, ◌+◌, Bool, true, false, if◌then◌else◌, ◌&&◌, ◌==◌, List, [], ◌∷◌, Option, Some, None, refl, ap, sym, subst, ◌∙◌, arith, eqb-true, true≢false, inl, inr}
use Rattle.iox_model.specs.declared.way.Way.{Way}
use Rattle.iox_model.specs.Maps.{has_number, same_way, AreDistinct}
use Rattle.iox_laws.proofs.WeaveLaws.MapLemmas.{eqb-refl}
use Rattle.iox_laws.proofs.WeaveLedger.Truths.{one_of, or-left, or-right}
use Rattle.iox_wire_moments.specs.MomentsOf.{Pools}
use Rattle.iox_wire_locals.specs.declared.table.Desk.{Desk}
use Rattle.iox_wire_locals.specs.declared.table.Recorded.{Recorded}
use Rattle.iox_wire_locals.specs.declared.seat.Seat.{Seat}
use Rattle.iox_wire_locals.specs.Desks.{with_slots, delivers, on_desk, at_desk}
use Rattle.iox_wire_locals.specs.Known.{free_slots}
use Rattle.iox_wire_laws.specs.WireKeeping.Records.{recorded_of}
use Rattle.iox_wire_laws.specs.WireKeeping.UsedSlots.{slots_in_call, slots_held, slots_used}
use Rattle.iox_wire_laws.specs.WireKeeping.PoolSlots.{PoolFits, DeliveriesFit}
use Rattle.iox_wire_laws.proofs.WireKeeping.RecordsKept.{found, recorded_after, delivery}

both_ways : (a b : Bool) → (a ≡ true → b ≡ true) → (b ≡ true → a ≡ true) → a ≡ b
both_ways true b f g = sym (f refl)
both_ways false true f g = g refl
both_ways false false f g = refl

-- a number in two lists together
in_both : (i : ℕ) (xs ys : List ℕ) → has_number i (xs ++ ys) ≡ (has_number i xs || has_number i ys)
in_both i [] ys = refl
in_both i (x ∷ xs) ys = more (x == i) (has_number i xs) (has_number i ys) (in_both i xs ys)
  where
    more : (a b c : Bool) {d : Bool} → d ≡ (b || c) → (a || d) ≡ ((a || b) || c)
    more true b c e = refl
    more false b c e = e

module _ (w : Way) (slot : ℕ) where
  abbrev with_one : Recorded → Recorded
  with_one = with_slots w (λ slots. slots ++ slot ∷ [])

  abbrev all_slots : List Recorded → List ℕ
  all_slots rs = flat_map (λ r. r.slots) rs

  -- what is recorded stays recorded
  more : (i : ℕ) (rs : List Recorded) → has_number i (all_slots rs) ≡ true → has_number i (all_slots (map with_one rs)) ≡ true
  more i [] e = e
  more i (r ∷ rs) e = by_way (same_way r.way w) (one_of (has_number i r.slots) (has_number i (all_slots rs)) (sym (in_both i r.slots (all_slots rs)) ∙ e)) (more i rs)
    where
      by_way : (b : Bool) → (has_number i r.slots ≡ true) ⊎ (has_number i (all_slots rs) ≡ true)
          → (has_number i (all_slots rs) ≡ true → has_number i (all_slots (map with_one rs)) ≡ true)
          → has_number i ((if b then record r { slots = r.slots ++ slot ∷ [] } else r).slots ++ all_slots (map with_one rs)) ≡ true
      by_way true (inl here) later =
          in_both i (r.slots ++ slot ∷ []) _ ∙ or-left _ _ (in_both i r.slots (slot ∷ []) ∙ or-left _ _ here)
      by_way true (inr there) later = in_both i (r.slots ++ slot ∷ []) _ ∙ or-right _ _ (later there)
      by_way false (inl here) later = in_both i r.slots _ ∙ or-left _ _ here
      by_way false (inr there) later = in_both i r.slots _ ∙ or-right _ _ (later there)

  -- and what is recorded then is the slot, or was recorded
  less : (i : ℕ) (rs : List Recorded) → has_number i (all_slots (map with_one rs)) ≡ true → (has_number i (all_slots rs) ≡ true) ⊎ (slot ≡ i)
  less i [] e = inl e
  less i (r ∷ rs) e = by_way (same_way r.way w) e (less i rs)
    where
      old : has_number i r.slots ≡ true → (has_number i (r.slots ++ all_slots rs) ≡ true) ⊎ (slot ≡ i)
      old here = inl (in_both i r.slots (all_slots rs) ∙ or-left _ _ here)

      later_is : (has_number i (all_slots rs) ≡ true) ⊎ (slot ≡ i) → (has_number i (r.slots ++ all_slots rs) ≡ true) ⊎ (slot ≡ i)
      later_is (inl there) = inl (in_both i r.slots (all_slots rs) ∙ or-right _ _ there)
      later_is (inr same) = inr same

      only : has_number i (slot ∷ []) ≡ true → slot ≡ i
      only e = by_same (slot == i) (eqb-true slot i) e
        where
          by_same : (b : Bool) → (b ≡ true → slot ≡ i) → (b || false) ≡ true → slot ≡ i
          by_same true same e = same refl
          by_same false same e = absurd (true≢false (sym e))

      first : (has_number i r.slots ≡ true) ⊎ (has_number i (slot ∷ []) ≡ true) → (has_number i (r.slots ++ all_slots rs) ≡ true) ⊎ (slot ≡ i)
      first (inl here) = old here
      first (inr new) = inr (only new)

      grown : (has_number i (r.slots ++ slot ∷ []) ≡ true) ⊎ (has_number i (all_slots (map with_one rs)) ≡ true)
          → (has_number i (all_slots (map with_one rs)) ≡ true → (has_number i (all_slots rs) ≡ true) ⊎ (slot ≡ i))
          → (has_number i (r.slots ++ all_slots rs) ≡ true) ⊎ (slot ≡ i)
      grown (inl here) later = first (one_of (has_number i r.slots) (has_number i (slot ∷ [])) (sym (in_both i r.slots (slot ∷ [])) ∙ here))
      grown (inr there) later = later_is (later there)

      plain : (has_number i r.slots ≡ true) ⊎ (has_number i (all_slots (map with_one rs)) ≡ true)
          → (has_number i (all_slots (map with_one rs)) ≡ true → (has_number i (all_slots rs) ≡ true) ⊎ (slot ≡ i))
          → (has_number i (r.slots ++ all_slots rs) ≡ true) ⊎ (slot ≡ i)
      plain (inl here) later = old here
      plain (inr there) later = later_is (later there)

      by_way : (b : Bool) → has_number i ((if b then record r { slots = r.slots ++ slot ∷ [] } else r).slots ++ all_slots (map with_one rs)) ≡ true
          → (has_number i (all_slots (map with_one rs)) ≡ true → (has_number i (all_slots rs) ≡ true) ⊎ (slot ≡ i))
          → (has_number i (r.slots ++ all_slots rs) ≡ true) ⊎ (slot ≡ i)
      by_way true e later = grown (one_of _ _ (sym (in_both i (r.slots ++ slot ∷ []) (all_slots (map with_one rs))) ∙ e)) later
      by_way false e later = plain (one_of _ _ (sym (in_both i r.slots (all_slots (map with_one rs))) ∙ e)) later

module _ (held : Pools) (x : Seat) (w : Way) (slot pool : ℕ) (fit : PoolFits held x w.sender pool)
    (in_use : has_number slot (slots_used x w.sender) ≡ true) where
  abbrev rest : List Recorded → List ℕ
  rest rs = slots_in_call w.sender x.local ++ (slots_held x w.sender ++ flat_map (λ r. r.slots) rs)

  recorded_is : recorded_of (at_desk x w.sender (delivers w slot)) w.sender ≡ map (with_slots w (λ slots. slots ++ slot ∷ [])) (recorded_of x w.sender)
  recorded_is =
      recorded_after x (delivers w slot) w (λ slots. slots ++ slot ∷ []) (delivery w slot) w.sender w.sender
      ∙ ap (λ b. if b then map (with_slots w (λ slots. slots ++ slot ∷ [])) (recorded_of x w.sender) else recorded_of x w.sender) (eqb-refl w.sender)

  -- a number in the three parts
  in_parts : (i : ℕ) (rs : List Recorded) → has_number i (rest rs)
      ≡ (has_number i (slots_in_call w.sender x.local) || (has_number i (slots_held x w.sender) || has_number i (flat_map (λ r. r.slots) rs)))
  in_parts i rs =
      in_both i (slots_in_call w.sender x.local) (slots_held x w.sender ++ flat_map (λ r. r.slots) rs)
      ∙ ap (λ b. has_number i (slots_in_call w.sender x.local) || b) (in_both i (slots_held x w.sender) (flat_map (λ r. r.slots) rs))

  through : (a b c d : Bool) → (c ≡ true → d ≡ true) → (a || (b || c)) ≡ true → (a || (b || d)) ≡ true
  through true b c d f e = refl
  through false true c d f e = refl
  through false false c d f e = f e

  -- only the last part may have more
  parts : (a b c : Bool) {d : Bool} {P : Type 0} → (c ≡ true → (d ≡ true) ⊎ P) → (a || (b || c)) ≡ true → ((a || (b || d)) ≡ true) ⊎ P
  parts true b c f e = inl refl
  parts false true c f e = inl refl
  parts false false c f e = f e

  used_same : (i : ℕ) → has_number i (slots_used (at_desk x w.sender (delivers w slot)) w.sender) ≡ has_number i (slots_used x w.sender)
  used_same i = ap (λ rs. has_number i (rest rs)) recorded_is ∙ both_ways _ _ back on
    where
      old_or_new : ((has_number i (slots_in_call w.sender x.local) || (has_number i (slots_held x w.sender) || has_number i (flat_map (λ r. r.slots) (recorded_of x w.sender)))) ≡ true) ⊎ (slot ≡ i)
          → has_number i (rest (recorded_of x w.sender)) ≡ true
      old_or_new (inl old) = in_parts i (recorded_of x w.sender) ∙ old
      old_or_new (inr same) = subst (λ k. has_number k (slots_used x w.sender) ≡ true) same in_use

      back : has_number i (rest (map (with_slots w (λ slots. slots ++ slot ∷ [])) (recorded_of x w.sender))) ≡ true → has_number i (rest (recorded_of x w.sender)) ≡ true
      back e =
          old_or_new (parts (has_number i (slots_in_call w.sender x.local)) (has_number i (slots_held x w.sender)) _ (less w slot i (recorded_of x w.sender))
          (sym (in_parts i (map (with_slots w (λ slots. slots ++ slot ∷ [])) (recorded_of x w.sender))) ∙ e))

      on : has_number i (rest (recorded_of x w.sender)) ≡ true → has_number i (rest (map (with_slots w (λ slots. slots ++ slot ∷ [])) (recorded_of x w.sender))) ≡ true
      on e =
          in_parts i (map (with_slots w (λ slots. slots ++ slot ∷ [])) (recorded_of x w.sender))
          ∙ through (has_number i (slots_in_call w.sender x.local)) (has_number i (slots_held x w.sender)) _ _ (more w slot i (recorded_of x w.sender))
          (sym (in_parts i (recorded_of x w.sender)) ∙ e)

  -- one use more is a use
  free_same : free_slots (at_desk x w.sender (delivers w slot)) w.sender ≡ free_slots x w.sender
  free_same =
      ap (λ d. option_map_or (λ (e : Desk). e.free) d [])
      (found (on_desk w.sender (delivers w slot)) (λ d. d.port == w.sender) (λ d. ap (λ n. n == w.sender) (port_is d (d.port == w.sender))) x.desks)
      ∙ by_desk (find (λ d. d.port == w.sender) x.desks)
    where
      port_is : (d : Desk) (b : Bool) → (if b then delivers w slot d else d).port ≡ d.port
      port_is d true = refl
      port_is d false = refl

      some : (n : ℕ) → (n + 1 == 0) ≡ false
      some n = grind (arith)

      one : (d : Desk) (b : Bool) → (if b then delivers w slot d else d).free ≡ d.free
      one d true = ap (λ b. if b then d.free ++ slot ∷ [] else d.free) (some (slice_index d.uses slot))
      one d false = refl

      by_desk : (d : Option Desk) → option_map_or (λ (e : Desk). e.free) (option_map (on_desk w.sender (delivers w slot)) d) []
          ≡ option_map_or (λ (e : Desk). e.free) d []
      by_desk None = refl
      by_desk (Some d) = one d (d.port == w.sender)

  pub delivered : PoolFits held (at_desk x w.sender (delivers w slot)) w.sender pool
  delivered = record {
    within = λ i e. fit.within i (sym (used_same i) ∙ e);
    apart = λ i j e h. fit.apart i j (sym (used_same i) ∙ e) (sym (used_same j) ∙ h);
    free_once = subst AreDistinct (sym free_same) fit.free_once;
    free = λ i. ap (has_number i) free_same ∙ fit.free i ∙ ap (λ b. nat_lt i pool && not b) (sym (used_same i));
  }

pub deliveries_fit : DeliveriesFit
deliveries_fit held x w slot pool fit in_use = delivered held x w slot pool fit in_use
