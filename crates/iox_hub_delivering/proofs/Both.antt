-- What is pushed out, how often a message is delivered, and that its handle may go first or last.
use Rattle.std.specs.Prelude.{◌≡◌, ℕ, suc, ◌+◌, ◌≤◌, Bool, true, false, ◌&&◌, if◌then◌else◌, ◌==◌, nat_le, List, [], ◌∷◌, ◌++◌, length, Option, None, slice_get, refl}
use Rattle.std.specs.Option.{option_map_or}
use Rattle.std.proofs.Common.{ap, ap₂, ◌∙◌, arith}
use Rattle.std.proofs.lemmas.Bool.Decides.{nat_tests}
use Rattle.iox_lanes.specs.Lanes.{LaneState}
use Rattle.iox_tables.specs.HubBooks.Counts.{is_at}
use Rattle.iox_hub_delivering.specs.Deliveries.{EachHandOverIsBoth, EachWayIsOneDelivery, OneLaneMayTakeOver, PushedOutIsTheOldest, in_count, out_count}

-- ---- what is pushed out

pub pushed_out_is_the_oldest : PushedOutIsTheOldest
pushed_out_is_the_oldest l k fits = step l.waiting (nat_le l.buffer (length l.waiting)) refl
  where
    none_full : (b : ℕ) → 1 ≤ b → nat_le b 0 ≡ true → ⊥
    none_full b some full = grind (arith, nat_tests)

    step : (ks : List ℕ) (f : Bool) → nat_le l.buffer (length ks) ≡ f → (if f then slice_get (ks ++ k ∷ []) 0 else None) ≡ (if f then slice_get ks 0 else None)
    step ks false e = refl
    step [] true e = absurd (none_full l.buffer fits e)
    step (i ∷ ks) true e = refl

-- ---- how often a message is delivered

pub each_way_is_one_delivery : EachWayIsOneDelivery
each_way_is_one_delivery k place lanes [] pool j each = none 0 refl ((place == pool) && (k == j))
  where
    none : (n : ℕ) → n ≡ 0 → (b : Bool) → n ≡ (if b then n else 0)
    none n e true = refl
    none n e false = e
each_way_is_one_delivery k place lanes (w ∷ ws) pool j each =
    ap₂ (λ (a b : ℕ). a + b) one (each_way_is_one_delivery k place lanes ws pool j each.1) ∙ all ((place == pool) && (k == j))
  where
    one : option_map_or (in_count k pool j) (lanes w) 0 ≡ (if (place == pool) && (k == j) then 1 else 0)
    one =
        ap (λ (o : Option LaneState). option_map_or (in_count k pool j) o 0) each.0.1
        ∙ ap (λ (p : ℕ). if (p == pool) && (k == j) then 1 else 0) each.0.2

    up : (n : ℕ) → 1 + n ≡ suc n
    up n = omega arith

    all : (b : Bool) → (if b then 1 else 0) + (if b then length ws else 0) ≡ (if b then suc (length ws) else 0)
    all true = up (length ws)
    all false = refl

-- ---- handles that go

pub each_hand_over_is_both : EachHandOverIsBoth
each_hand_over_is_both overflow lanes ws h old between new = record {
  delivered_first = λ given fewer. record {
    same = given.same ∙ fewer.same;
    holders = λ pool j. first _ _ _ _ _ _ (given.holders pool j) (fewer.holders pool j);
  };
  gone_first = λ fewer given. record {
    same = fewer.same ∙ given.same;
    holders = λ pool j. last _ _ _ _ _ _ (fewer.holders pool j) (given.holders pool j);
  };
}
  where
    first : (o b n p d i : ℕ) → b + p ≡ o + d → n + i ≡ b → n + (p + i) ≡ o + d
    first o b n p d i e f = omega (arith, e, f)

    last : (o b n p d i : ℕ) → b + i ≡ o → n + p ≡ b + d → n + (p + i) ≡ o + d
    last o b n p d i e f = omega (arith, e, f)

pub one_lane_may_take_over : OneLaneMayTakeOver
one_lane_may_take_over overflow lanes w l h old new there of_pool same fewer = record {
  same = same;
  holders = λ pool j. all _ _ _ _ _ _ (out pool j) (into pool j) (fewer pool j);
}
  where
    out : (pool j : ℕ) → option_map_or (out_count overflow h.slot pool j) (lanes w) 0 ≡ out_count overflow h.slot pool j l
    out pool j = ap (λ (o : Option LaneState). option_map_or (out_count overflow h.slot pool j) o 0) there

    into : (pool j : ℕ) → option_map_or (in_count h.slot pool j) (lanes w) 0 ≡ (if is_at pool j h then 1 else 0)
    into pool j =
        ap (λ (o : Option LaneState). option_map_or (in_count h.slot pool j) o 0) there
        ∙ ap (λ (p : ℕ). if (p == pool) && (h.slot == j) then 1 else 0) of_pool

    all : (o n p q d i : ℕ) → p ≡ q → d ≡ i → n + q ≡ o → n + ((p + 0) + i) ≡ o + (d + 0)
    all o n p q d i e f g = omega (arith, e, f, g)
