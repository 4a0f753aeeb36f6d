-- How often lanes have each message before and after one more is delivered.
use Rattle.std.specs.Prelude.{◌≡◌, ℕ, ◌+◌, Bool, true, false, ◌&&◌, if◌then◌else◌, ◌==◌, nat_le, nat_lt, List, [], ◌∷◌, length, Option, Some, None, refl}
use Rattle.std.specs.Option.{option_map_or}
use Rattle.std.proofs.Common.{sym, ap, ◌∙◌, arith, length-append, true≢false}
use Rattle.std.proofs.lemmas.Bool.Decides.{nat_tests}
use Rattle.iox_model.specs.declared.way.Way.{Way}
use Rattle.iox_lanes.specs.Lanes.{LaneState, delivered, is_full, oldest, without_oldest}
use Rattle.iox_tables.specs.HubStates.Ways.{OnWays}
use Rattle.iox_tables.specs.HubStates.Shown.{by_lane}
use Rattle.iox_tables.specs.HubStates.Steps.{places_on}
use Rattle.iox_tables.specs.HubBooks.Counts.{how_often, lane_count, total}
use Rattle.iox_tables.specs.HubBooks.Keeps.{delivers}
use Rattle.iox_tables.proofs.HubBooks.LaneCounts.{delivered_places, evicted_places}
use Rattle.iox_hub_delivering.specs.Deliveries.{delivered_on, in_count, out_count, pushed_on}

-- one more is too many exactly where the lane is full
pub one_too_many : (l : LaneState) (k : ℕ) → nat_lt l.buffer (length (delivered l k).waiting) ≡ is_full l
one_too_many l k = ap (λ n. nat_lt l.buffer n) (length-append l.waiting (k ∷ [])) ∙ one l.buffer (length l.waiting)
  where
    one : (a b : ℕ) → nat_lt a (b + 1) ≡ nat_le a b
    one a b = grind (arith, nat_tests)

module _ (overflow : Bool) (k pool j : ℕ) where
  abbrev one : ℕ → ℕ
  one i = if i == j then 1 else 0

  -- one lane: what is pushed out and what it has then is what it had, and the one that is delivered
  pub lane_gives : (l : LaneState) → lane_count pool j (delivers overflow k l) + out_count overflow k pool j l ≡ lane_count pool j l + in_count k pool j l
  lane_gives l = step overflow (is_full l) (nat_lt l.buffer (length (delivered l k).waiting)) (one_too_many l k)
    where
      here : (m : LaneState) (out : Option ℕ) → how_often j (places_on m) + option_map_or one out 0 ≡ how_often j (places_on l) + one k → (p : Bool)
          → (if p then how_often j (places_on m) else 0) + (if p then option_map_or one out 0 else 0) ≡ (if p then how_often j (places_on l) else 0) + (if p && (k == j) then 1 else 0)
      here m out e true = e
      here m out e false = refl

      none : how_often j (places_on (delivered l k)) + 0 ≡ how_often j (places_on l) + one k
      none = let more = delivered_places one l k in omega (arith, more)

      some : how_often j (places_on (without_oldest (delivered l k))) + option_map_or one (oldest (delivered l k)) 0 ≡ how_often j (places_on l) + one k
      some = let more = delivered_places one l k in let out = evicted_places one (delivered l k) in omega (arith, more, out)

      step : (o f c : Bool) → c ≡ f
          → lane_count pool j (if o then (if c then without_oldest (delivered l k) else delivered l k) else delivered l k)
          + (if l.pool == pool then option_map_or one (if o && f then oldest (delivered l k) else None) 0 else 0)
          ≡ lane_count pool j l + in_count k pool j l
      step false f c e = here (delivered l k) None none (l.pool == pool)
      step true true true e = here (without_oldest (delivered l k)) (oldest (delivered l k)) some (l.pool == pool)
      step true false false e = here (delivered l k) None none (l.pool == pool)
      step true true false e = absurd (true≢false (sym e))
      step true false true e = absurd (true≢false e)

  -- all lanes of these ways
  pub lanes_give : (lanes : OnWays LaneState) (ws : List Way)
      → total (by_lane (λ l. lane_count pool j (delivers overflow k l)) 0 lanes) ws + pushed_on overflow k lanes ws pool j
      ≡ total (by_lane (lane_count pool j) 0 lanes) ws + delivered_on k lanes ws pool j
  lanes_give lanes [] = refl
  lanes_give lanes (w ∷ ws) = both _ _ _ _ _ _ _ _ (at (lanes w)) (lanes_give lanes ws)
    where
      both : (a b c d x y z u : ℕ) → a + b ≡ c + d → x + y ≡ z + u → (a + x) + (b + y) ≡ (c + z) + (d + u)
      both a b c d x y z u e f = omega (arith, e, f)

      at : (o : Option LaneState)
          → option_map_or (λ l. lane_count pool j (delivers overflow k l)) o 0 + option_map_or (out_count overflow k pool j) o 0
          ≡ option_map_or (lane_count pool j) o 0 + option_map_or (in_count k pool j) o 0
      at (Some l) = lane_gives l
      at None = refl
