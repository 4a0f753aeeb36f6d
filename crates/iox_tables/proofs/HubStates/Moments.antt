-- What is done to one lane is what the machine does on its way.
use Rattle.std.specs.Prelude.{◌≡◌, ℕ, Bool, true, false, ◌||◌, if◌then◌else◌, ◌==◌, List, [], ◌∷◌, ◌++◌, map, take, drop, Option, Some, None, refl}
use Rattle.std.specs.List.{list_any}
use Rattle.std.specs.Option.{option_map, option_map_or}
use Rattle.std.proofs.Common.{sym, ap, ap₂, subst, ◌∙◌, true≢false, eqb-true}
use Rattle.std.proofs.lemmas.List.{map-append}
use Rattle.iox_model.specs.declared.way.Way.{Way}
use Rattle.iox_model.specs.declared.way.RequestState.{RequestState}
use Rattle.iox_model.specs.declared.way.RequestState.TheVariants.{Closed}
use Rattle.iox_model.specs.Maps.{same_way, put, put_at, rest_of, has_number, AreDistinct}
use Rattle.iox_model.specs.Messages.{Message, serials_of}
use Rattle.iox_model.specs.Moments.{moved, Deliver}
use Rattle.iox_model.specs.Peers.{is_connected_port}
use Rattle.iox_model.specs.States.{Members, Fixed, State}
use Rattle.iox_laws.proofs.WeaveLaws.MapLemmas.{put_same, same_way-true}
use Rattle.iox_laws.specs.CallFunctions.Sends.{without_all, emptied_at}
use Rattle.iox_laws.specs.CallFunctions.Overflows.{evicted_from}
use Rattle.iox_lanes.specs.Lanes.{LaneState, delivered, without_oldest}
use Rattle.iox_tables.specs.HubStates.Ways.{OnWays, at}
use Rattle.iox_tables.specs.HubStates.Shown.{MessagesByPlace, waiting_in, serials_in, returned_in, is_among, is_out_in, by_lane, by_counted, state_in, shown}
use Rattle.iox_tables.specs.HubStates.Changes.{emptied_lane, HasEachOnce}
use Rattle.iox_tables.proofs.HubStates.Emptied.{emptied_out, without_is, among_is, has-append}
use Rattle.iox_tables.proofs.HubStates.Keys.{flip}
use Rattle.iox_tables.proofs.HubStates.Lists.{any-append}

-- ---- one field

-- where one lane changes, just what its way gives does
pub by_lane_at : {A : Type 0} (f : LaneState → A) (none : A) (g : LaneState → LaneState) (lanes : OnWays LaneState) (w : Way) (l : LaneState)
    → lanes w ≡ Some l → by_lane f none (at g lanes w) ≡ put (by_lane f none lanes) w (f (g l))
by_lane_at f none g lanes w l there = λ i v. step v (same_way v w) i
  where
    step : (v : Way) (b : Bool) → option_map_or f (if b then option_map g (lanes w) else lanes v) none ≡ (if b then f (g l) else option_map_or f (lanes v) none)
    step v true = ap (λ o. option_map_or f (option_map g o) none) there
    step v false = refl

pub by_counted_at : {A : Type 0} (fixed : Fixed) (f : LaneState → A) (none : A) (g : LaneState → LaneState) (lanes : OnWays LaneState) (w : Way) (l : LaneState)
    → lanes w ≡ Some l
    → by_counted fixed f none (at g lanes w) ≡ put (by_counted fixed f none lanes) w (if is_connected_port fixed w.sender then f (g l) else none)
by_counted_at fixed f none g lanes w l there = λ i v. step v (same_way v w) refl i
  where
    step : (v : Way) (b : Bool) → same_way v w ≡ b
        → (if is_connected_port fixed v.sender then option_map_or f (if b then option_map g (lanes w) else lanes v) none else none)
        ≡ (if b then (if is_connected_port fixed w.sender then f (g l) else none) else (if is_connected_port fixed v.sender then option_map_or f (lanes v) none else none))
    step v true e =
        ap₂ (λ (u : Way) (o : Option LaneState). if is_connected_port fixed u.sender then option_map_or f (option_map g o) none else none) (same_way-true v w e) there
    step v false e = refl

pub state_in_at : (fixed : Fixed) (g : RequestState → RequestState) (states : OnWays RequestState) (w : Way) (r : RequestState)
    → states w ≡ Some r
    → state_in fixed (at g states w) ≡ put (state_in fixed states) w (if is_connected_port fixed w.receiver then g r else Closed)
state_in_at fixed g states w r there = λ i v. step v (same_way v w) refl i
  where
    step : (v : Way) (b : Bool) → same_way v w ≡ b
        → (if is_connected_port fixed v.receiver then option_map_or (λ s. s) (if b then option_map g (states w) else states v) Closed else Closed)
        ≡ (if b then (if is_connected_port fixed w.receiver then g r else Closed) else (if is_connected_port fixed v.receiver then option_map_or (λ s. s) (states v) Closed else Closed))
    step v true e =
        ap₂ (λ (u : Way) (o : Option RequestState). if is_connected_port fixed u.receiver then option_map_or (λ s. s) (option_map g o) Closed else Closed) (same_way-true v w e) there
    step v false e = refl

-- where a way has nothing, nothing changes
pub at_none : {A : Type 0} (g : A → A) (on : OnWays A) (w : Way) → on w ≡ None → at g on w ≡ on
at_none g on w none = λ i v. step v (same_way v w) refl i
  where
    step : (v : Way) (b : Bool) → same_way v w ≡ b → (if b then option_map g (on w) else on v) ≡ on v
    step v true e = ap (option_map g) none ∙ sym none ∙ ap on (sym (same_way-true v w e))
    step v false e = refl

-- ---- all fields

-- what a way shows is given anew
abbrev pub with_way : State → Way → List Message → List ℕ → (ℕ → Bool) → State
with_way s w waits back out = record s {
  waiting = put s.waiting w waits;
  returned = put s.returned w back;
  delivered = put s.delivered w out;
}

abbrev pub if_counted : {A : Type 0} → Fixed → Way → A → A → A
if_counted fixed w x none = if is_connected_port fixed w.sender then x else none

module _ (members : Members) (f : Fixed) (message : MessagesByPlace) where
  -- where one lane changes, just its way shows something else
  pub shown_at : (states : OnWays RequestState) (g : LaneState → LaneState) (lanes : OnWays LaneState) (w : Way) (l : LaneState) → lanes w ≡ Some l
      → shown members f message (at g lanes w) states
      ≡ with_way (shown members f message lanes states) w (waiting_in message (g l))
      (if_counted f w (returned_in message (g l)) []) (if_counted f w (is_out_in message (g l)) (λ k. false))
  shown_at states g lanes w l there =
      let s : State = shown members f message lanes states in
      λ i. record s {
        waiting = by_lane_at (waiting_in message) [] g lanes w l there i;
        returned = by_counted_at f (returned_in message) [] g lanes w l there i;
        delivered = by_counted_at f (is_out_in message) (λ k. false) g lanes w l there i;
      }

  -- and so it was
  pub shows : (states : OnWays RequestState) (lanes : OnWays LaneState) (w : Way) (l : LaneState) → lanes w ≡ Some l
      → ((shown members f message lanes states).waiting w ≡ waiting_in message l)
      × (((shown members f message lanes states).returned w ≡ if_counted f w (returned_in message l) [])
      × ((shown members f message lanes states).delivered w ≡ if_counted f w (is_out_in message l) (λ k. false)))
  shows states lanes w l there = (
    ap (λ o. option_map_or (waiting_in message) o []) there,
    (
      ap (λ o. if is_connected_port f w.sender then option_map_or (returned_in message) o [] else []) there,
      ap (λ o. if is_connected_port f w.sender then option_map_or (is_out_in message) o (λ k. false) else (λ k. false)) there,
    ),
  )

  -- a change of a lane is the change of the state that gives its way these
  pub turns : (states : OnWays RequestState) (g : LaneState → LaneState) (lanes : OnWays LaneState) (w : Way) (l : LaneState) → lanes w ≡ Some l
      → (waits : List Message) (back : List ℕ) (out : ℕ → Bool)
      → waiting_in message (g l) ≡ waits → if_counted f w (returned_in message (g l)) [] ≡ back → if_counted f w (is_out_in message (g l)) (λ k. false) ≡ out
      → shown members f message (at g lanes w) states ≡ with_way (shown members f message lanes states) w waits back out
  turns states g lanes w l there waits back out ew eb eo =
      shown_at states g lanes w l there
      ∙ (λ i. with_way (shown members f message lanes states) w (ew i) (eb i) (eo i))

  -- ---- the sender gets all back

  empties : (c : Bool) (l : LaneState) → HasEachOnce message l
      → (if c then is_out_in message (emptied_lane l) else (λ k. false))
      ≡ without_all (if c then is_out_in message l else (λ k. false)) (if c then returned_in message l else [])
  empties true l once = λ i j. sym (emptied_out message l j once) i
  empties false l once = refl

  abbrev no_numbers : List ℕ
  no_numbers = []

  no_back : (c : Bool) → (if c then no_numbers else no_numbers) ≡ no_numbers
  no_back true = refl
  no_back false = refl

  pub emptied_is : (states : OnWays RequestState) (lanes : OnWays LaneState) (w : Way) → ((l : LaneState) → lanes w ≡ Some l → HasEachOnce message l)
      → shown members f message (at emptied_lane lanes w) states ≡ emptied_at (shown members f message lanes states) w
  emptied_is states lanes w once = step (lanes w) refl
    where
      step : (o : Option LaneState) → lanes w ≡ o
          → shown members f message (at emptied_lane lanes w) states ≡ emptied_at (shown members f message lanes states) w
      step (Some l) there =
          let s : State = shown members f message lanes states in
          let is = shows states lanes w l there in
          let c : Bool = is_connected_port f w.sender in
          turns states emptied_lane lanes w l there (waiting_in message l) [] (without_all (s.delivered w) (s.returned w)) refl (no_back c)
          (empties c l (once l there) ∙ ap₂ without_all (sym is.1.1) (sym is.1.0))
          ∙ (λ i. record (emptied_at s w) { waiting = put_same s.waiting w (waiting_in message l) is.0 i })
      step None none =
          let s : State = shown members f message lanes states in
          let c : Bool = is_connected_port f w.sender in
          let back : s.returned w ≡ [] = ap (λ o. if c then option_map_or (returned_in message) o [] else []) none ∙ no_back c in
          ap (λ on. shown members f message on states) (at_none emptied_lane lanes w none)
          ∙ (λ i. record s {
            returned = sym (put_same s.returned w [] back) i;
            delivered = sym (put_same s.delivered w (without_all (s.delivered w) (s.returned w)) (sym (ap (without_all (s.delivered w)) back))) i;
          })

  -- ---- a delivery

  more_out : (l : LaneState) (k j : ℕ) → is_out_in message (delivered l k) j ≡ put_at (is_out_in message l) (message l.pool k).serial true j
  more_out l k j =
      let p : ℕ → Bool = λ i. (message l.pool i).serial == j in
      ap (λ b. list_any p l.returned || (b || list_any p l.taken)) (any-append p l.waiting (k ∷ []))
      ∙ by_case (list_any p l.returned) (list_any p l.waiting) (list_any p l.taken) ((message l.pool k).serial == j) (j == (message l.pool k).serial) (flip (message l.pool k).serial j)
    where
      by_case : (a b c d e : Bool) → d ≡ e → (a || ((b || (d || false)) || c)) ≡ (if e then true else (a || (b || c)))
      by_case true b c true true h = refl
      by_case true b c false false h = refl
      by_case false true c true true h = refl
      by_case false true c false false h = refl
      by_case false false c true true h = refl
      by_case false false c false false h = refl
      by_case a b c true false h = absurd (true≢false h)
      by_case a b c false true h = absurd (true≢false (sym h))

  pub delivered_is : (states : OnWays RequestState) (lanes : OnWays LaneState) (w : Way) (l : LaneState) (k : ℕ) → lanes w ≡ Some l
      → is_connected_port f w.sender ≡ true
      → shown members f message (at (λ l. delivered l k) lanes w) states ≡ moved (shown members f message lanes states) (Deliver w (message l.pool k))
  delivered_is states lanes w l k there counts =
      let s : State = shown members f message lanes states in
      let m : Message = message l.pool k in
      let is = shows states lanes w l there in
      let back : s.returned w ≡ returned_in message l = is.1.0 ∙ ap (λ c. if c then returned_in message l else []) counts in
      let out : s.delivered w ≡ is_out_in message l = is.1.1 ∙ ap (λ (c : Bool). if c then is_out_in message l else (λ k. false)) counts in
      turns states (λ l. delivered l k) lanes w l there (s.waiting w ++ m ∷ []) (returned_in message l) (put_at (s.delivered w) m.serial true)
      (map-append (message l.pool) l.waiting (k ∷ []) ∙ ap (λ ms. ms ++ m ∷ []) (sym is.0))
      (ap (λ c. if c then returned_in message l else []) counts)
      (ap (λ (c : Bool). if c then is_out_in message (delivered l k) else (λ k. false)) counts
      ∙ (λ i j. more_out l k j i) ∙ ap (λ g. put_at g m.serial true) (sym out))
      ∙ (λ i. record (moved s (Deliver w m)) { returned = put_same s.returned w (returned_in message l) back i })

  -- ---- the oldest is pushed out

  fewer : (ks : List ℕ) (pool : ℕ) → map (message pool) (drop 1 ks) ≡ rest_of (map (message pool) ks)
  fewer [] pool = refl
  fewer (k ∷ ks) pool = refl

  -- of numbers that differ, one is taken out of the middle
  pub distinct_middle : (xs ys : List ℕ) (n : ℕ) → AreDistinct (xs ++ n ∷ ys) → (has_number n xs ≡ false) × (has_number n ys ≡ false)
  distinct_middle [] ys n apart = (refl, apart.0)
  distinct_middle (x ∷ xs) ys n apart =
      let more = distinct_middle xs ys n apart.1 in
      let off : (has_number x (xs ++ n ∷ ys)) ≡ false = apart.0 in
      (step (x == n) (flip x n) (has-append x xs (n ∷ ys)) off more.0, more.1)
    where
      step : (b : Bool) → b ≡ (n == x) → has_number x (xs ++ n ∷ ys) ≡ (has_number x xs || ((n == x) || has_number x ys)) → has_number x (xs ++ n ∷ ys) ≡ false
          → has_number n xs ≡ false → (b || has_number n xs) ≡ false
      step false e h off rest = rest
      step true e h off rest = absurd (true≢false (sym (h ∙ ap (λ c. has_number x xs || (c || has_number x ys)) (sym e) ∙ or_true (has_number x xs)) ∙ off))
        where
          or_true : (c : Bool) → (c || (true || has_number x ys)) ≡ true
          or_true true = refl
          or_true false = refl

  evicts : (l : LaneState) (ks : List ℕ) (j : ℕ) → l.waiting ≡ ks → HasEachOnce message l
      → without_all (is_out_in message l) (serials_of (take 1 (map (message l.pool) ks))) j ≡ is_out_in message (without_oldest l) j
  evicts l [] j e once =
      ap (λ ks. is_among message l.pool l.returned j || (is_among message l.pool ks j || is_among message l.pool l.taken j)) e
      ∙ sym (ap (λ ks. is_among message l.pool l.returned j || (is_among message l.pool (drop 1 ks) j || is_among message l.pool l.taken j)) e)
  evicts l (k ∷ ks) j e once =
      let n : ℕ = (message l.pool k).serial in
      let rs : List ℕ = serials_in message l.pool l.returned in
      let ws : List ℕ = serials_in message l.pool ks in
      let ts : List ℕ = serials_in message l.pool l.taken in
      let apart : AreDistinct (rs ++ n ∷ (ws ++ ts)) = subst (λ zs. AreDistinct (rs ++ (serials_in message l.pool zs ++ ts))) e once in
      let off = distinct_middle rs (ws ++ ts) n apart in
      let gone : j ≡ n → (is_among message l.pool l.returned j || (is_among message l.pool ks j || is_among message l.pool l.taken j)) ≡ false
      = λ at. ap (λ i. is_among message l.pool l.returned i || (is_among message l.pool ks i || is_among message l.pool l.taken i)) at
      ∙ ap₂ (λ a b. a || b) (among_is message l.pool l.returned n ∙ off.0)
      (ap₂ (λ a b. a || b) (among_is message l.pool ks n) (among_is message l.pool l.taken n) ∙ sym (has-append n ws ts) ∙ off.1) in
      without_is (n ∷ []) (is_out_in message l) j
      ∙ ap (λ zs. if (n == j) || false then false else (is_among message l.pool l.returned j || (is_among message l.pool zs j || is_among message l.pool l.taken j))) e
      ∙ by_case (n == j) (is_among message l.pool l.returned j) (is_among message l.pool ks j) (is_among message l.pool l.taken j) (λ is. gone (sym (eqb_true n j is)))
      ∙ sym (ap (λ zs. is_among message l.pool l.returned j || (is_among message l.pool (drop 1 zs) j || is_among message l.pool l.taken j)) e)
    where
      eqb_true : (a b : ℕ) → (a == b) ≡ true → a ≡ b
      eqb_true a b h = eqb-true a b h

      by_case : (b r w t : Bool) → (b ≡ true → (r || (w || t)) ≡ false) → (if b || false then false else (r || ((b || w) || t))) ≡ (r || (w || t))
      by_case true r w t h = sym (h refl)
      by_case false r w t h = refl

  pub evicted_is : (states : OnWays RequestState) (lanes : OnWays LaneState) (w : Way) (l : LaneState) → lanes w ≡ Some l
      → is_connected_port f w.sender ≡ true → HasEachOnce message l
      → shown members f message (at without_oldest lanes w) states ≡ evicted_from (shown members f message lanes states) w
  evicted_is states lanes w l there counts once =
      let s : State = shown members f message lanes states in
      let is = shows states lanes w l there in
      let back : s.returned w ≡ returned_in message l = is.1.0 ∙ ap (λ c. if c then returned_in message l else []) counts in
      let out : s.delivered w ≡ is_out_in message l = is.1.1 ∙ ap (λ (c : Bool). if c then is_out_in message l else (λ k. false)) counts in
      turns states without_oldest lanes w l there (rest_of (s.waiting w)) (returned_in message l) (without_all (s.delivered w) (serials_of (take 1 (s.waiting w))))
      (fewer l.waiting l.pool ∙ ap rest_of (sym is.0))
      (ap (λ c. if c then returned_in message l else []) counts)
      (ap (λ (c : Bool). if c then is_out_in message (without_oldest l) else (λ k. false)) counts
      ∙ (λ i j. sym (evicts l l.waiting j refl once) i)
      ∙ ap₂ (λ g ms. without_all g (serials_of (take 1 ms))) (sym out) (sym is.0))
      ∙ (λ i. record (evicted_from s w) { returned = put_same s.returned w (returned_in message l) back i })
