-- A slot has holders exactly if somebody has its message.
use Rattle.std.specs.Prelude.{◌≡◌, ◌⊎◌, ℕ, zero, suc, ◌+◌, ◌≤◌, Bool, true, false, ◌&&◌, if◌then◌else◌, ◌==◌, List, [], ◌∷◌, refl}
use Rattle.std.proofs.Common.{sym, ap, subst, ◌∙◌, arith, true≢false, inl, inr, eqb-true, eq-eqb}
use Rattle.iox_model.specs.Maps.{has_number}
use Rattle.iox_lanes.specs.Lanes.{LaneState}
use Rattle.iox_laws.specs.MessageLaws.Lists.{IsOneOf}
use Rattle.iox_laws.proofs.WeaveLedger.Lists.{IsAmong}
use Rattle.iox_tables.specs.HubStates.Tables.{HubTables, slot_at, is_free}
use Rattle.iox_tables.specs.HubStates.Steps.{places_on}
use Rattle.iox_tables.specs.HubBooks.Counts.{handle_uses, how_often, is_at, lane_count, lane_uses, total, uses}
use Rattle.iox_tables.specs.HubBooks.Hubs.{AreInOrder}
use Rattle.iox_tables.proofs.HubBooks.Places.{has_often}
use Rattle.iox_tables.proofs.HubBooks.Used.{used_on_lane}
use Rattle.iox_tables.proofs.HubBooks.Ways.{some_lane, some_total}
use Rattle.iox_hub_laws.specs.Slots.{AHandleHas, AWayHas, IsFreeIfNobodyHas, SlotsAreOfHolders, SomebodyHas}

-- ---- lists

pub among_one : {A : Type 0} (a : A) (xs : List A) → IsAmong a xs → IsOneOf a xs
among_one a [] p = p
among_one a (x ∷ xs) (inl e) = inl e
among_one a (x ∷ xs) (inr p) = inr (among_one a xs p)

one_below : {A : Type 0} (f : A → ℕ) (a : A) (xs : List A) → IsOneOf a xs → f a ≤ total f xs
one_below f a [] p = absurd p
one_below f a (x ∷ xs) (inl e) = subst (λ b. f b ≤ f x + total f xs) (sym e) (omega arith)
one_below f a (x ∷ xs) (inr p) = let below = one_below f a xs p in omega (arith, below)

passing : (b : Bool) → 1 ≤ (if b then 1 else 0) → b ≡ true
passing true some = refl
passing false some = absurd (omega (arith, some))

both : (a b : Bool) → (a && b) ≡ true → (a ≡ true) × (b ≡ true)
both true b e = (refl, e)
both false b e = absurd (true≢false (sym e))

either : (a b : ℕ) → 1 ≤ a + b → (1 ≤ a) ⊎ (1 ≤ b)
either zero b some = inr (omega (arith, some))
either (suc a) b some = inl (omega arith)

-- ---- holders

module _ (t : HubTables) (order : AreInOrder t) (pool k : ℕ) where
  handle_has : AHandleHas t pool k → 1 ≤ uses t pool k
  handle_has p =
      let below = one_below (λ h. if is_at pool k h then 1 else 0) p.0 t.handles p.1 in
      let there : is_at pool k p.0 ≡ true = ap (λ (b : Bool). b && (p.0.slot == k)) (eq-eqb p.0.pool pool p.2) ∙ eq-eqb p.0.slot k p.3 in
      let one : 1 ≤ (if is_at pool k p.0 then 1 else 0) = subst (λ (b : Bool). 1 ≤ (if b then 1 else 0)) (sym there) (omega arith) in
      omega (arith, below, one)

  way_has : AWayHas t pool k → 1 ≤ uses t pool k
  way_has p =
      let used = subst (λ q. 1 ≤ (slot_at t.pools q k).holders) p.3 (used_on_lane t order p.0 p.1 k p.2 p.4) in
      let counted = order.counted pool k in omega (arith, used, counted)

  somebody_is_counted : SomebodyHas t pool k → 1 ≤ uses t pool k
  somebody_is_counted (inl p) = handle_has p
  somebody_is_counted (inr p) = way_has p

  some_handle : 1 ≤ handle_uses t.handles pool k → AHandleHas t pool k
  some_handle some =
      let p = some_total (λ h. if is_at pool k h then 1 else 0) t.handles some in
      let e : (p.0.pool == pool) ≡ true × (p.0.slot == k) ≡ true = both (p.0.pool == pool) (p.0.slot == k) (passing (is_at pool k p.0) p.2) in
      (p.0, among_one p.0 t.handles p.1, eqb-true p.0.pool pool e.0, eqb-true p.0.slot k e.1)

  some_way : 1 ≤ lane_uses t.ports pool k → AWayHas t pool k
  some_way some =
      let p = some_lane t order (lane_count pool k) some in
      let q = counts p.1 (p.1.pool == pool) refl p.3 in
      (p.0, p.1, p.2, q.0, q.1)
    where
      counts : (l : LaneState) (b : Bool) → (l.pool == pool) ≡ b → 1 ≤ (if b then how_often k (places_on l) else 0)
          → (l.pool ≡ pool) × (has_number k (places_on l) ≡ true)
      counts l true is some = (eqb-true l.pool pool is, has_often k (places_on l) some)
      counts l false is some = absurd (omega (arith, some))

  counted_has_somebody : 1 ≤ uses t pool k → SomebodyHas t pool k
  counted_has_somebody some =
      elim (either (handle_uses t.handles pool k) (lane_uses t.ports pool k) some) as (λ u. SomebodyHas t pool k) [
        | inl h ↦ inl (some_handle h)
        | inr l ↦ inr (some_way l)
      ]

  free_or_counted : (n : ℕ) → n ≡ uses t pool k → (b : Bool) → (n == 0) ≡ b
      → ((b ≡ true) × (uses t pool k ≡ 0)) ⊎ ((b ≡ false) × (1 ≤ uses t pool k))
  free_or_counted n is true e = let z = eqb-true n 0 e in inl (refl, sym is ∙ z)
  free_or_counted zero is false e = absurd (true≢false e)
  free_or_counted (suc n) is false e = inr (refl, omega (arith, is))

  pub free_if_nobody_has : IsFreeIfNobodyHas t pool k
  free_if_nobody_has =
      elim (free_or_counted (slot_at t.pools pool k).holders (order.counted pool k) (is_free (slot_at t.pools pool k)) refl)
      as (λ u. IsFreeIfNobodyHas t pool k) [
        | inl p ↦ record {
          free = (λ e some. let z = somebody_is_counted some in let y = p.1 in omega (arith, z, y), λ none. p.0);
          taken = (λ e. absurd (true≢false (sym p.0 ∙ e)), λ some. let z = somebody_is_counted some in let y = p.1 in absurd (omega (arith, z, y)));
        }
        | inr p ↦ record {
          free = (λ e some. true≢false (sym e ∙ p.0), λ none. absurd (none (counted_has_somebody p.1)));
          taken = (λ e. counted_has_somebody p.1, λ some. p.0);
        }
      ]

pub slots_are_of_holders : (t : HubTables) → AreInOrder t → SlotsAreOfHolders t
slots_are_of_holders t order pool k = free_if_nobody_has t order pool k
