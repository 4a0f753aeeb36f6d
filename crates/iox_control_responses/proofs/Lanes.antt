-- A message that is put last in line on one lane: what the lane has then.
use Rattle.std.specs.Prelude.{◌≡◌, ◌⊎◌, ℕ, ◌+◌, ◌-◌, ◌^◌, ◌≤◌, ◌<◌, Bool, true, false, ◌&&◌, if◌then◌else◌, ◌==◌, [], length, drop, Option, Some, None, refl}
use Rattle.std.specs.Option.{option_map_or}
use Rattle.std.proofs.Common.{inl, inr, sym, ap, ap₂, ◌∙◌, arith, true≢false}
use Rattle.std.proofs.lemmas.Bool.{lt-ltb}
use Rattle.std.proofs.lemmas.List.{length-drop}
use Rattle.iox_lanes.specs.Lanes.{LaneState, delivered, has_room, is_full, oldest, outstanding, without_oldest}
use Rattle.iox_tables.specs.HubStates.Steps.{places_on}
use Rattle.iox_tables.specs.HubBooks.Counts.{how_often, lane_count}
use Rattle.iox_tables.specs.HubBooks.Keeps.{delivers}
use Rattle.iox_tables.proofs.HubBooks.LaneCounts.{delivered_places, evicted_places, of_found}
use Rattle.iox_hub_phases.proofs.Agreeing.{pushes_are_the_machines}
use Rattle.iox_hub_ports.specs.Ports.{pushed, pushed_out, with_one_out}

-- Nothing is left to get back on the lane, it has no more than it may, and its deliveries can be
-- counted.
pub record IsReady (l : LaneState) : Type 0 where
  pub empty : l.returned ≡ []
  pub waits : length l.waiting ≤ l.buffer
  pub has : length l.taken ≤ l.limit
  pub some : 1 ≤ l.buffer
  pub counts : l.deliveries ≤ 2 ^ 56 + 1

three : (a b c : Bool) → a ≡ true → b ≡ true → c ≡ true → (a && b && c) ≡ true
three a b c e f g = rw (e, f, g) refl

-- there is room once the oldest is out of a full lane
pub room_once_out : (l : LaneState) → IsReady l → has_room (with_one_out l) ≡ true
room_once_out l ready = step (is_full l) refl
  where
    none : length l.returned ≡ 0
    none = ap (λ ks. length ks) ready.empty

    step : (b : Bool) → is_full l ≡ b → has_room (if b then without_oldest l else l) ≡ true
    step true e =
        let less = length-drop 1 l.waiting in
        let a = ready.waits in
        let b = ready.has in
        let c = ready.some in
        let d = ready.counts in
        let n = none in
        three _ _ _ (lt-ltb (length (drop 1 l.waiting)) l.buffer (omega (arith, less, a, c)))
        (lt-ltb (outstanding (without_oldest l)) (l.buffer + l.limit) (omega (arith, less, a, b, c, n))) (lt-ltb l.deliveries (2 ^ 64 - 1) (omega (arith, d)))
    step false e =
        let low : length l.waiting < l.buffer = grind (arith, e) in
        let b = ready.has in
        let d = ready.counts in
        let n = none in
        three _ _ _ (lt-ltb (length l.waiting) l.buffer low) (lt-ltb (outstanding l) (l.buffer + l.limit) (omega (arith, low, b, n))) (lt-ltb l.deliveries (2 ^ 64 - 1) (omega (arith, d)))

pub pushed_is : (l : LaneState) (k : ℕ) → IsReady l → pushed l k ≡ delivered (with_one_out l) k
pushed_is l k ready = ap (λ (b : Bool). if b then delivered (with_one_out l) k else with_one_out l) (room_once_out l ready)

-- with overflow, or where the lane is not full, this is what the machine does
pub delivers_is : (overflow : Bool) (l : LaneState) (k : ℕ) → IsReady l → (overflow ≡ true) ⊎ (is_full l ≡ false) → pushed l k ≡ delivers overflow k l
delivers_is true l k ready may = pushes_are_the_machines l k ready.some (room_once_out l ready)
delivers_is false l k ready (inl e) = absurd (true≢false (sym e))
delivers_is false l k ready (inr not_full) = pushed_is l k ready ∙ ap (λ (b : Bool). delivered (if b then without_oldest l else l) k) not_full

-- one more place stands on the lane, and what is pushed out does no more
pub places_pushed : (j k : ℕ) (l : LaneState)
    → how_often j (places_on (delivered (with_one_out l) k)) + of_found (λ n. if n == j then 1 else 0) (pushed_out l) ≡ how_often j (places_on l) + (if k == j then 1 else 0)
places_pushed j k l = step (is_full l)
  where
    step : (b : Bool)
        → how_often j (places_on (delivered (if b then without_oldest l else l) k)) + of_found (λ n. if n == j then 1 else 0) (if b then oldest l else None)
        ≡ how_often j (places_on l) + (if k == j then 1 else 0)
    step true =
        let more = delivered_places (λ n. if n == j then 1 else 0) (without_oldest l) k in
        let out = evicted_places (λ n. if n == j then 1 else 0) l in omega (arith, more, out)
    step false = let more = delivered_places (λ n. if n == j then 1 else 0) l k in omega (arith, more)

-- 1 if that slot of that pool is pushed out, else 0
abbrev pub out_at : ℕ → Option ℕ → ℕ → ℕ → ℕ
out_at pool o Q j = option_map_or (λ i. if (pool == Q) && (i == j) then 1 else 0) o 0

pub count_pushed : (pool Q j k : ℕ) (l : LaneState) → l.pool ≡ pool
    → lane_count Q j (delivered (with_one_out l) k) + out_at pool (pushed_out l) Q j ≡ lane_count Q j l + (if (pool == Q) && (k == j) then 1 else 0)
count_pushed pool Q j k l e =
    ap₂
    (λ (p q : ℕ). (if p == Q then how_often j (places_on (delivered (with_one_out l) k)) else 0) + out_at pool (pushed_out l) Q j)
    (same_pool (is_full l) ∙ e) (same_pool (is_full l) ∙ e)
    ∙ step (pool == Q) (pushed_out l) (places_pushed j k l)
    ∙ sym (ap (λ p. (if p == Q then how_often j (places_on l) else 0) + (if (pool == Q) && (k == j) then 1 else 0)) e)
  where
    same_pool : (b : Bool) → (delivered (if b then without_oldest l else l) k).pool ≡ l.pool
    same_pool true = refl
    same_pool false = refl

    none : (o : Option ℕ) → 0 + option_map_or (λ (i : ℕ). 0) o 0 ≡ 0 + 0
    none (Some i) = refl
    none None = refl

    step : (b : Bool) (o : Option ℕ) → how_often j (places_on (delivered (with_one_out l) k)) + of_found (λ n. if n == j then 1 else 0) o ≡ how_often j (places_on l) + (if k == j then 1 else 0)
        → (if b then how_often j (places_on (delivered (with_one_out l) k)) else 0) + option_map_or (λ i. if b && (i == j) then 1 else 0) o 0
        ≡ (if b then how_often j (places_on l) else 0) + (if b && (k == j) then 1 else 0)
    step true o all = all
    step false o all = none o
