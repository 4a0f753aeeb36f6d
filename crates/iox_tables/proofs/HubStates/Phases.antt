-- Steps over several ways: emptying, deliveries with overflow and without, opens, closes and hints.
use Rattle.std.specs.Prelude.{◌≡◌, ℕ, suc, Bool, true, false, ◌||◌, if◌then◌else◌, nat_lt, nat_le, List, [], ◌∷◌, ◌++◌, length, map, Option, Some, None, refl}
use Rattle.std.specs.Option.{option_map, option_map_or}
use Rattle.std.proofs.Common.{sym, ap, ap₂, subst, ◌∙◌, true≢false}
use Rattle.std.proofs.lemmas.Option.{none-some}
use Rattle.iox_model.specs.declared.way.Way.{Way}
use Rattle.iox_model.specs.declared.way.RequestState.{RequestState}
use Rattle.iox_model.specs.declared.way.RequestState.TheVariants.{Named}
use Rattle.iox_model.specs.Maps.{has_way, same_way, put, AreDistinctWays, AreDistinct}
use Rattle.iox_model.specs.Messages.{Message, closed_for, hinted_for}
use Rattle.iox_model.specs.Moments.{moved, is_overfull, Deliver, Open}
use Rattle.iox_model.specs.Peers.{buffer_on, is_connected_port}
use Rattle.iox_model.specs.States.{Members, Fixed, State}
use Rattle.iox_laws.proofs.WeaveLaws.MapLemmas.{same_way-flip, put_there, put_twice}
use Rattle.iox_laws.specs.CallFunctions.Sends.{delivered_to, emptied, emptied_at, full_of, opened_at}
use Rattle.iox_laws.specs.CallFunctions.Sends as sends
use Rattle.iox_laws.specs.CallFunctions.Overflows.{evicted_from, pushed, pushed_to}
use Rattle.iox_laws.specs.CallFunctions.Releases.{closed_at}
use Rattle.iox_laws.specs.CallFunctions.Looks.{hinted_at}
use Rattle.iox_lanes.specs.Lanes.{LaneState, delivered, is_full, without_oldest}
use Rattle.iox_tables.specs.HubStates.Ways.{OnWays, at, at_each}
use Rattle.iox_tables.specs.HubStates.Shown.{MessagesByPlace, shown}
use Rattle.iox_tables.specs.HubStates.Changes.{emptied_lane, pushed_lane, HasEachOnce, OfEachLane, OnEach}
use Rattle.iox_tables.proofs.HubStates.Keys.{at_is}
use Rattle.iox_tables.proofs.HubStates.Moments.{delivered_is, emptied_is, evicted_is}
use Rattle.iox_tables.proofs.HubStates.Opens.{closed_is, hinted_is, opened_is}
use Rattle.std.proofs.lemmas.Bool.{or_parts}

-- ---- what is so of the ways that are left

pub at_value : {A : Type 0} (g : A → A) (on : OnWays A) (w : Way) (x : A) → on w ≡ Some x → at g on w ≡ put on w (Some (g x))
at_value g on w x there = ap (λ o. put on w (option_map g o)) there

-- what the others have stays
on_others : {A : Type 0} (P : Way → A → Type 0) (g : A → A) (on : OnWays A) (w : Way) (ws : List Way) → has_way w ws ≡ false
    → OnEach P on ws → OnEach P (at g on w) ws
on_others P g on w [] off has = tt
on_others P g on w (v ∷ vs) off has =
    let parts : (same_way w v ≡ false) × (has_way w vs ≡ false) = or_parts (same_way w v) (has_way w vs) off in
    let same : at g on w v ≡ on v
    = at_is g on w v ∙ ap (λ (b : Bool). if b then option_map g (on v) else on v) (same_way-flip v w (same_way v w) parts.0 refl) in
    ((has.0.0, same ∙ has.0.1, has.0.2), on_others P g on w vs parts.1 has.1)

-- what is done on each way, one after another
abbrev pub steps : (State → Way → State) → State → List Way → State
steps step s [] = s
steps step s (w ∷ ws) = steps step (step s w) ws

-- If a change on one way is a step, then changes on all ways are the steps.
pub each_way : {A : Type 0} (S : OnWays A → State) (step : State → Way → State) (P : Way → A → Type 0) (g : A → A)
    → ((on : OnWays A) (w : Way) (x : A) → on w ≡ Some x → P w x → S (at g on w) ≡ step (S on) w)
    → (on : OnWays A) (ws : List Way) → AreDistinctWays ws → OnEach P on ws → S (at_each g on ws) ≡ steps step (S on) ws
each_way S step P g one on [] apart has = refl
each_way S step P g one on (w ∷ ws) apart has =
    each_way S step P g one (at g on w) ws apart.1 (on_others P g on w ws apart.0 has.1)
    ∙ ap (λ s. steps step s ws) (one on w has.0.0 has.0.1 has.0.2)

module _ (members : Members) (f : Fixed) (message : MessagesByPlace) where
  abbrev S : OnWays LaneState → OnWays RequestState → State
  S lanes states = shown members f message lanes states

  -- ---- all is got back

  -- those on a lane that were not given back stay apart
  behind : (xs ys : List ℕ) → AreDistinct (xs ++ ys) → AreDistinct ys
  behind [] ys apart = apart
  behind (x ∷ xs) ys apart = behind xs ys apart.1

  pub still_once : (l : LaneState) → HasEachOnce message l → HasEachOnce message (emptied_lane l)
  still_once l once = behind _ _ once

  still : (P : LaneState → Type 0) (g : LaneState → LaneState) (lanes : OnWays LaneState) (w : Way)
      → ((l : LaneState) → P l → P (g l)) → OfEachLane P lanes → OfEachLane P (at g lanes w)
  still P g lanes w keeps all v l is = step (same_way v w) (lanes v) refl (sym (at_is g lanes w v) ∙ is)
    where
      step : (b : Bool) (o : Option LaneState) → lanes v ≡ o → (if b then option_map g o else o) ≡ Some l → P l
      step true (Some m) there e = subst P (ap (λ (o : Option LaneState). option_map_or (λ z. z) o l) e) (keeps m (all v m there))
      step false (Some m) there e = subst P (ap (λ (o : Option LaneState). option_map_or (λ z. z) o l) e) (all v m there)
      step true None there e = absurd (none-some l e)
      step false None there e = absurd (none-some l e)

  pub empties_all : (states : OnWays RequestState) (lanes : OnWays LaneState) (ws : List Way) → OfEachLane (HasEachOnce message) lanes
      → S (at_each emptied_lane lanes ws) states ≡ emptied (S lanes states) ws
  empties_all states lanes [] once = refl
  empties_all states lanes (w ∷ ws) once =
      empties_all states (at emptied_lane lanes w) ws (still (HasEachOnce message) emptied_lane lanes w still_once once)
      ∙ ap (λ s. emptied s ws) (emptied_is members f message states lanes w (λ l there. once w l there))

  -- ---- deliveries

  -- the message goes from its sender's pool, and the sender is connected
  abbrev pub MayDeliver : ℕ → ℕ → Way → LaneState → Type 0
  MayDeliver pool k w l = (l.pool ≡ pool) × (is_connected_port f w.sender ≡ true)

  as_deliveries : (s : State) (m : Message) (ws : List Way) → steps (λ t w. moved t (Deliver w m)) s ws ≡ delivered_to s m ws
  as_deliveries s m [] = refl
  as_deliveries s m (w ∷ ws) = as_deliveries (moved s (Deliver w m)) m ws

  pub delivers_all : (states : OnWays RequestState) (lanes : OnWays LaneState) (pool k : ℕ) (ws : List Way) → AreDistinctWays ws
      → OnEach (MayDeliver pool k) lanes ws
      → S (at_each (λ l. delivered l k) lanes ws) states ≡ delivered_to (S lanes states) (message pool k) ws
  delivers_all states lanes pool k ws apart has =
      each_way (λ on. S on states) (λ t w. moved t (Deliver w (message pool k))) (MayDeliver pool k) (λ l. delivered l k)
      (λ on w l there may. delivered_is members f message states on w l k there may.1
      ∙ ap (λ p. moved (S on states) (Deliver w (message p k))) may.0) lanes ws apart has
      ∙ as_deliveries (S lanes states) (message pool k) ws

  -- ---- deliveries with overflow

  -- moreover its buffer is the way's, and no message is there twice, the new one too
  pub record MayPush (pool k : ℕ) (w : Way) (l : LaneState) : Type 0 where
    pub of_pool : l.pool ≡ pool
    pub counts : is_connected_port f w.sender ≡ true
    pub buffer : l.buffer ≡ buffer_on f w
    pub once : HasEachOnce message (delivered l k)

  length-map : {A B : Type 0} (g : A → B) (xs : List A) → length (map g xs) ≡ length xs
  length-map g [] = refl
  length-map g (x ∷ xs) = ap (λ n. suc n) (length-map g xs)

  abbrev more_at : OnWays LaneState → ℕ → Way → OnWays LaneState
  more_at lanes k w = at (λ l. delivered l k) lanes w

  pub push_is : (states : OnWays RequestState) (lanes : OnWays LaneState) (pool k : ℕ) (w : Way) (l : LaneState) → lanes w ≡ Some l → MayPush pool k w l
      → S (at (pushed_lane k) lanes w) states ≡ pushed (S lanes states) (message pool k) w
  push_is states lanes pool k w l there may =
      let more : LaneState = delivered l k in
      let first : S (more_at lanes k w) states ≡ moved (S lanes states) (Deliver w (message pool k))
      = delivered_is members f message states lanes w l k there may.counts ∙ ap (λ p. moved (S lanes states) (Deliver w (message p k))) may.of_pool in
      let there' : more_at lanes k w w ≡ Some more = ap (λ on. on w) (at_value (λ l. delivered l k) lanes w l there) ∙ put_there lanes w (Some more) in
      let over : nat_lt l.buffer (length more.waiting) ≡ is_overfull (S (more_at lanes k w) states) w
      = ap₂ nat_lt may.buffer (sym (ap (λ o. length (option_map_or (λ m. map (message m.pool) m.waiting) o [])) there' ∙ length-map (message l.pool) more.waiting)) in
      ap (λ on. S on states) (at_value (pushed_lane k) lanes w l there)
      ∙ by_over (nat_lt l.buffer (length more.waiting)) there'
      ∙ ap (λ c. if c then evicted_from (S (more_at lanes k w) states) w else S (more_at lanes k w) states) over
      ∙ ap (λ t. if is_overfull t w then evicted_from t w else t) first
    where
      by_over : (b : Bool) → more_at lanes k w w ≡ Some (delivered l k)
          → S (put lanes w (Some (if b then without_oldest (delivered l k) else delivered l k))) states
          ≡ (if b then evicted_from (S (more_at lanes k w) states) w else S (more_at lanes k w) states)
      by_over false there' = ap (λ on. S on states) (sym (at_value (λ l. delivered l k) lanes w l there))
      by_over true there' =
          ap (λ on. S on states)
          (sym (put_twice lanes w (Some (delivered l k)) (Some (without_oldest (delivered l k))))
          ∙ ap (λ on. put on w (Some (without_oldest (delivered l k)))) (sym (at_value (λ l. delivered l k) lanes w l there))
          ∙ sym (at_value without_oldest (more_at lanes k w) w (delivered l k) there'))
          ∙ evicted_is members f message states (more_at lanes k w) w (delivered l k) there' may.counts may.once

  as_pushes : (s : State) (m : Message) (ws : List Way) → steps (λ t w. pushed t m w) s ws ≡ pushed_to s m ws
  as_pushes s m [] = refl
  as_pushes s m (w ∷ ws) = as_pushes (pushed s m w) m ws

  pub pushes_all : (states : OnWays RequestState) (lanes : OnWays LaneState) (pool k : ℕ) (ws : List Way) → AreDistinctWays ws
      → OnEach (MayPush pool k) lanes ws
      → S (at_each (pushed_lane k) lanes ws) states ≡ pushed_to (S lanes states) (message pool k) ws
  pushes_all states lanes pool k ws apart has =
      each_way (λ on. S on states) (λ t w. pushed t (message pool k) w) (MayPush pool k) (pushed_lane k)
      (λ on w l there may. push_is states on pool k w l there may) lanes ws apart has
      ∙ as_pushes (S lanes states) (message pool k) ws

  -- ---- who is full

  -- each of these ways has a lane, and its buffer is the way's
  abbrev pub HasBuffer : Way → LaneState → Type 0
  HasBuffer w l = l.buffer ≡ buffer_on f w

  pub full_is : (states : OnWays RequestState) (lanes : OnWays LaneState) (w : Way) (l : LaneState) → lanes w ≡ Some l → HasBuffer w l
      → sends.is_full (S lanes states) w ≡ is_full l
  full_is states lanes w l there buffer =
      ap₂ nat_le (sym buffer) (ap (λ o. length (option_map_or (λ m. map (message m.pool) m.waiting) o [])) there ∙ length-map (message l.pool) l.waiting)

  -- ---- request states

  as_opens : (s : State) (id : ℕ) (ws : List Way) → steps (λ t w. moved t (Open w id)) s ws ≡ opened_at s id ws
  as_opens s id [] = refl
  as_opens s id (w ∷ ws) = as_opens (moved s (Open w id)) id ws

  abbrev pub MayOpen : Way → RequestState → Type 0
  MayOpen w r = is_connected_port f w.receiver ≡ true

  pub opens_all : (lanes : OnWays LaneState) (states : OnWays RequestState) (id : ℕ) (ws : List Way) → AreDistinctWays ws → OnEach MayOpen states ws
      → S lanes (at_each (λ r. Named id false) states ws) ≡ opened_at (S lanes states) id ws
  opens_all lanes states id ws apart has =
      each_way (S lanes) (λ t w. moved t (Open w id)) MayOpen (λ r. Named id false)
      (λ on w r there may. opened_is members f message lanes on w r id there may) states ws apart has
      ∙ as_opens (S lanes states) id ws

  pub closes_all : (lanes : OnWays LaneState) (states : OnWays RequestState) (id : ℕ) (ws : List Way)
      → S lanes (at_each (λ r. closed_for r id) states ws) ≡ closed_at (S lanes states) id ws
  closes_all lanes states id [] = refl
  closes_all lanes states id (w ∷ ws) =
      closes_all lanes (at (λ r. closed_for r id) states w) id ws
      ∙ ap (λ s. closed_at s id ws) (closed_is members f message lanes states w id)

  pub hints_all : (lanes : OnWays LaneState) (states : OnWays RequestState) (id : ℕ) (ws : List Way)
      → S lanes (at_each (λ r. hinted_for r id) states ws) ≡ hinted_at (S lanes states) id ws
  hints_all lanes states id [] = refl
  hints_all lanes states id (w ∷ ws) =
      hints_all lanes (at (λ r. hinted_for r id) states w) id ws
      ∙ ap (λ s. hinted_at s id ws) (hinted_is members f message lanes states w id)
