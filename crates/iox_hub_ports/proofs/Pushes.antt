-- A push: where a lane is full, its oldest message is pushed out first.
use Rattle.std.specs.Prelude.{◌≡◌, ℕ, zero, suc, ◌≤◌, Bool, true, false, if◌then◌else◌, List, [], ◌∷◌, Option, Some, None, slice_get, slice_set, refl}
use Rattle.std.specs.Option.{option_map_or}
use Rattle.std.proofs.Common.{sym, ap, ◌∙◌}
use Rattle.iox_tables.specs.Lanes.{LaneState, delivered, has_room, is_full, offered, without_oldest}
use Rattle.iox_tables.specs.Pipes.{PipeState, on_lane, with_lane}
use Rattle.iox_tables.specs.HubStates.Changes.{pushed_lane}
use Rattle.iox_tables.proofs.HubStates.Pushing.{oldest_goes_first}
use Rattle.iox_hub_ports.specs.Ports.{pushed, with_one_out}
use Rattle.iox_tables.proofs.HubStates.Keys.{set_there}

-- what is set twice in one place is set once
pub set_set : {A : Type 0} (xs : List A) (i : ℕ) (x y : A) → slice_set (slice_set xs i x) i y ≡ slice_set xs i y
set_set [] i x y = refl
set_set (z ∷ zs) zero x y = refl
set_set (z ∷ zs) (suc i) x y = ap (λ ws. z ∷ ws) (set_set zs i x y)

-- ---- two changes of one lane are one

pub lane_twice : (f g : LaneState → LaneState) (p : PipeState) (lane : ℕ) → with_lane g (with_lane f p lane) lane ≡ with_lane (λ l. g (f l)) p lane
lane_twice f g p lane = step (slice_get p.lanes lane) refl
  where
    step : (o : Option LaneState) → slice_get p.lanes lane ≡ o
        → with_lane g (option_map_or (λ l. record p { lanes = slice_set p.lanes lane (f l) }) o p) lane
        ≡ option_map_or (λ l. record p { lanes = slice_set p.lanes lane (g (f l)) }) o p
    step (Some l) e =
        ap (λ (o : Option LaneState). option_map_or (λ m. record p { lanes = slice_set (slice_set p.lanes lane (f l)) lane (g m) }) o (record p { lanes = slice_set p.lanes lane (f l) }))
        (set_there p.lanes lane l (f l) e)
        ∙ ap (λ (ls : List LaneState). record p { lanes = ls }) (set_set p.lanes lane (f l) (g (f l)))
    step None e = ap (λ (o : Option LaneState). option_map_or (λ l. record p { lanes = slice_set p.lanes lane (g l) }) o p) e

-- ---- where it is known whether the lane is full

-- a change of a lane is another where it does the same to the lane that is there
same_lane : (f g : LaneState → LaneState) (b : Bool) → ((l : LaneState) → is_full l ≡ b → f l ≡ g l) → (p : PipeState) (lane : ℕ)
    → on_lane is_full true p lane ≡ b → with_lane f p lane ≡ with_lane g p lane
same_lane f g b same p lane full = there (slice_get p.lanes lane) full
  where
    there : (o : Option LaneState) → option_map_or is_full o true ≡ b
        → option_map_or (λ l. record p { lanes = slice_set p.lanes lane (f l) }) o p ≡ option_map_or (λ l. record p { lanes = slice_set p.lanes lane (g l) }) o p
    there (Some l) e = ap (λ (m : LaneState). record p { lanes = slice_set p.lanes lane m }) (same l e)
    there None e = refl

pub pushes_full : (p : PipeState) (lane k : ℕ) → on_lane is_full true p lane ≡ true
    → with_lane (λ l. offered l k) (with_lane without_oldest p lane) lane ≡ with_lane (λ l. pushed l k) p lane
pushes_full p lane k full =
    lane_twice without_oldest (λ l. offered l k) p lane
    ∙ same_lane (λ l. offered (without_oldest l) k) (λ l. pushed l k) true
    (λ l e. ap (λ (b : Bool). offered (if b then without_oldest l else l) k) (sym e)) p lane full

-- ---- a push is the machine's

-- Where there is room once the oldest is out, the lane is as the machine's push leaves it.
pub pushed_where_room : (l : LaneState) (k : ℕ) → 1 ≤ l.buffer → has_room (with_one_out l) ≡ true → pushed l k ≡ pushed_lane k l
pushed_where_room l k some room =
    ap (λ (b : Bool). if b then delivered (with_one_out l) k else with_one_out l) room
    ∙ step (is_full l)
    ∙ sym (oldest_goes_first l k some)
  where
    step : (b : Bool) → delivered (if b then without_oldest l else l) k ≡ (if b then delivered (without_oldest l) k else delivered l k)
    step true = refl
    step false = refl
