-- A loan's pick of a slot.
use Rattle.std.specs.Prelude.{find, flat_map, not, ◌⊎◌, ◌||◌, ◌++◌, ◌<◌, nat_lt, option_map}
use Rattle.std.specs.Option.{option_map_or}
use Rattle.std.proofs.Common.{◌≡◌, ℕ, Bool, true, false, if◌then◌else◌, ◌&&◌, ◌==◌, List, [], ◌∷◌, Option, Some, None, refl, ap, sym, subst, ◌∙◌, arith, eqb-true, inl, inr}
use Rattle.iox_model.specs.Maps.{has_number, AreDistinct}
use Rattle.iox_laws.proofs.WeaveLaws.MapLemmas.{eqb-refl}
use Rattle.iox_laws.proofs.WeaveLaws.WholeLemmas.{split}
use Rattle.iox_laws.proofs.WeaveLedger.Lists.{find-among}
use Rattle.iox_laws.proofs.WeaveLedger.Truths.{one_of, or-left}
use Rattle.iox_wire_moments.specs.MomentsOf.{Pools}
use Rattle.iox_wire_locals.specs.declared.table.Desk.{Desk}
use Rattle.iox_wire_locals.specs.declared.table.NewLoan.{NewLoan}
use Rattle.iox_wire_locals.specs.declared.table.Recorded.{Recorded}
use Rattle.iox_wire_locals.specs.declared.seat.Seat.{Seat}
use Rattle.iox_wire_locals.specs.Desks.{picks, on_desk}
use Rattle.iox_wire_locals.specs.Known.{free_slots}
use Rattle.iox_wire_locals.specs.Courses.{takes_slot}
use Rattle.iox_wire_laws.specs.WireKeeping.Records.{recorded_of}
use Rattle.iox_wire_laws.specs.WireKeeping.UsedSlots.{slots_in_call, slots_held, slots_used}
use Rattle.iox_wire_laws.specs.WireKeeping.PoolSlots.{PoolFits, PicksFit}
use Rattle.iox_wire_laws.proofs.WireKeeping.RecordsKept.{found, picks_same}

module _ (held : Pools) (x : Seat) (o : NewLoan) (slot : ℕ) (free : List ℕ) (pool : ℕ) (fit : PoolFits held x o.port pool)
    (none : slots_in_call o.port x.local ≡ []) (first : free_slots x o.port ≡ slot ∷ free) where
  -- what is in use then
  used_after : (i : ℕ) → has_number i (slots_used (takes_slot x o (slot ∷ free)) o.port) ≡ ((slot == i) || has_number i (slots_used x o.port))
  used_after i =
      ap (λ b. has_number i ((if b then slot ∷ [] else []) ++ (slots_held x o.port ++ flat_map (λ r. r.slots) (recorded_of (takes_slot x o (slot ∷ free)) o.port))))
      (eqb-refl o.port)
      ∙ ap (λ (rs : List Recorded). (slot == i) || has_number i (slots_held x o.port ++ flat_map (λ r. r.slots) rs)) (picks_same x o.port o slot free o.port)
      ∙ ap (λ call. (slot == i) || has_number i (call ++ (slots_held x o.port ++ flat_map (λ r. r.slots) (recorded_of x o.port)))) (sym none)

  -- and what is free
  free_after : free_slots (takes_slot x o (slot ∷ free)) o.port ≡ free
  free_after =
      ap (λ d. option_map_or (λ (e : Desk). e.free) d [])
      (found (on_desk o.port (picks o slot free)) (λ d. d.port == o.port) (λ d. ap (λ n. n == o.port) (port_is d (d.port == o.port))) x.desks)
      ∙ by_desk (find (λ d. d.port == o.port) x.desks) refl
    where
      port_is : (d : Desk) (b : Bool) → (if b then picks o slot free d else d).port ≡ d.port
      port_is d true = refl
      port_is d false = refl

      empty : {A : Type 0} → [] ≡ slot ∷ free → A
      empty e = absurd (subst IsNone e tt)
        where
          IsNone : List ℕ → Type 0
          IsNone [] = Unit {0}
          IsNone (k ∷ ks) = ⊥

      by_desk : (d : Option Desk) → find (λ e. e.port == o.port) x.desks ≡ d
          → option_map_or (λ (e : Desk). e.free) (option_map (on_desk o.port (picks o slot free)) d) [] ≡ free
      by_desk None e = empty (sym (ap (λ d. option_map_or (λ (k : Desk). k.free) d []) e) ∙ first)
      by_desk (Some d) e =
          ap (λ b. (if b then picks o slot free d else d).free) (find-among (λ (k : Desk). k.port == o.port) d x.desks e).1

  -- the slot was free
  was_free : (nat_lt slot pool ≡ true) × (not (has_number slot (slots_used x o.port)) ≡ true)
  was_free =
      split _ _ (sym (fit.free slot) ∙ ap (has_number slot) first ∙ or-left (slot == slot) (has_number slot free) (eqb-refl slot))

  distinct : AreDistinct (slot ∷ free)
  distinct = subst AreDistinct first fit.free_once

  lt_is : (a b : ℕ) → nat_lt a b ≡ true → a < b
  lt_is a b e = grind (arith)

  free_is : (i : ℕ) → has_number i free ≡ (nat_lt i pool && not ((slot == i) || has_number i (slots_used x o.port)))
  free_is i = by_slot (slot == i) (eqb-true slot i) (sym (ap (has_number i) first) ∙ fit.free i)
    where
      nothing : (b : Bool) → false ≡ (b && false)
      nothing true = refl
      nothing false = refl

      by_slot : (b : Bool) → (b ≡ true → slot ≡ i) → (b || has_number i free) ≡ (nat_lt i pool && not (has_number i (slots_used x o.port)))
          → has_number i free ≡ (nat_lt i pool && not (b || has_number i (slots_used x o.port)))
      by_slot true same e = subst (λ k. has_number k free ≡ false) (same refl) distinct.0 ∙ nothing (nat_lt i pool)
      by_slot false same e = e

  module _ (own : (j : ℕ) → has_number j (slots_used x o.port) ≡ true → (held o.port j).serial ≡ (held o.port slot).serial → ⊥) where
    -- a slot in use is the new one, or was in use
    new_or_old : (i : ℕ) → has_number i (slots_used (takes_slot x o (slot ∷ free)) o.port) ≡ true
        → (slot ≡ i) ⊎ (has_number i (slots_used x o.port) ≡ true)
    new_or_old i e = elim (one_of (slot == i) (has_number i (slots_used x o.port)) (sym (used_after i) ∙ e)) as (λ u. (slot ≡ i) ⊎ (has_number i (slots_used x o.port) ≡ true)) [
      | inl same ↦ inl (eqb-true slot i same)
      | inr old ↦ inr old
    ]

    within : (i : ℕ) → (slot ≡ i) ⊎ (has_number i (slots_used x o.port) ≡ true) → i < pool
    within i (inl same) = subst (λ k. k < pool) same (lt_is slot pool was_free.0)
    within i (inr old) = fit.within i old

    apart : (i j : ℕ) → (slot ≡ i) ⊎ (has_number i (slots_used x o.port) ≡ true) → (slot ≡ j) ⊎ (has_number j (slots_used x o.port) ≡ true)
        → (held o.port i).serial ≡ (held o.port j).serial → i ≡ j
    apart i j (inl same) (inl also) e = sym same ∙ also
    apart i j (inl same) (inr old) e = absurd (own j old (sym e ∙ ap (λ k. (held o.port k).serial) (sym same)))
    apart i j (inr old) (inl same) e = absurd (own i old (e ∙ ap (λ k. (held o.port k).serial) (sym same)))
    apart i j (inr old) (inr also) e = fit.apart i j old also e

    pub picked : PoolFits held (takes_slot x o (slot ∷ free)) o.port pool
    picked = record {
      within = λ i e. within i (new_or_old i e);
      apart = λ i j e h. apart i j (new_or_old i e) (new_or_old j h);
      free_once = subst AreDistinct (sym free_after) distinct.1;
      free = λ i. ap (has_number i) free_after ∙ free_is i ∙ ap (λ b. nat_lt i pool && not b) (sym (used_after i));
    }

pub picks_fit : PicksFit
picks_fit held x o slot free pool fit none first own = picked held x o slot free pool fit none first own
