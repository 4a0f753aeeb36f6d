-- On which lanes something is left to get back.
use Rattle.std.proofs.Common.{◌≡◌, ◌≢◌, ◌<◌, ◌≤◌, ◌+◌, ◌-◌, ℕ, zero, suc, true, false, cond, List, [], ◌∷◌, ◌++◌, drop, length, get_or, replicate, slice_get, slice_set, take, Some, None, Option, refl, sym, ap, subst, ◌∙◌, inl, inr, arith, length-take-le, true≢false}
use Rattle.std.proofs.lemmas.Bool.{cases_eq, cases_lt, false≢true}
use Rattle.std.specs.Option.{option_map_or}
use Rattle.std.proofs.lemmas.List.{length-replicate, length-set}
use Rattle.std.proofs.lemmas.Option.{none-some, same_Some, slice_get_within}
use Rattle.std.specs.Prelude.{Bool, if◌then◌else◌, IfSome, is_some, not}
use Rattle.std.specs.List.{position_from}
use Rattle.iox_model.specs.Maps.{is_empty}
use Rattle.iox_lanes.specs.Lanes.{LaneState, delivered, empty_lane, has_returned, has_room, is_at_limit, is_full, is_taken, offered, released, with_returned, without_oldest, without_returned, without_taken}
use Rattle.iox_lanes.specs.Marks.{AreMarked, HasNone, MarksState, has_mark, has_returned_at, room_of}
use Rattle.iox_lanes.specs.Pipes.{PipeState, lane_to_get, with_lane}
use Rattle.iox_lanes.specs.PipeSteps.{pushed}
use Rattle.iox_lanes.specs.Searches.{LabelsByPlace, before_wanted, first_wanted, searched, visited, visited_on, wanted_on, with_found}
use Rattle.iox_lanes.specs.declared.wanted.Wanted.{Wanted}
use Rattle.iox_model.specs.declared.way.RequestState.{RequestState}

-- ---- what is left on each lane after a change of one

same_at : (lanes : List LaneState) (i k : ℕ) (l l' : LaneState) → l ≡ get_or lanes i l → has_returned l' ≡ has_returned l
    → has_returned_at (slice_set lanes i l') k ≡ has_returned_at lanes k
same_at [] i k l l' e f = refl
same_at (x ∷ xs) zero zero l l' e f = f ∙ ap has_returned e
same_at (x ∷ xs) zero (suc k) l l' e f = refl
same_at (x ∷ xs) (suc i) zero l l' e f = refl
same_at (x ∷ xs) (suc i) (suc k) l l' e f = same_at xs i k l l' e f

other_at : (lanes : List LaneState) (i k : ℕ) (l' : LaneState) → k ≢ i → has_returned_at (slice_set lanes i l') k ≡ has_returned_at lanes k
other_at [] i k l' ne = refl
other_at (x ∷ xs) zero zero l' ne = absurd (ne refl)
other_at (x ∷ xs) zero (suc k) l' ne = refl
other_at (x ∷ xs) (suc i) zero l' ne = refl
other_at (x ∷ xs) (suc i) (suc k) l' ne = other_at xs i k l' (λ e. ne (ap suc e))

here_at : (lanes : List LaneState) (i : ℕ) (l' : LaneState) → i < length lanes → has_returned_at (slice_set lanes i l') i ≡ has_returned l'
here_at [] i l' h = absurd (omega (arith, h))
here_at (x ∷ xs) zero l' h = refl
here_at (x ∷ xs) (suc i) l' h = here_at xs i l' (omega (arith, h))

-- past the last lane is none
none_past : (lanes : List LaneState) (k : ℕ) → length lanes ≤ k → has_returned_at lanes k ≡ false
none_past [] k h = refl
none_past (x ∷ xs) zero h = absurd (omega (arith, h))
none_past (x ∷ xs) (suc k) h = none_past xs k (omega (arith, h))

-- a lane on which something is left is there
pub lane_there : (lanes : List LaneState) (k : ℕ) → has_returned_at lanes k ≡ true → k < length lanes
lane_there lanes k has = over (slice_get lanes k) refl has
  where
    over : (o : Option LaneState) → slice_get lanes k ≡ o → option_map_or has_returned o false ≡ true → k < length lanes
    over None at e = absurd (true≢false (sym e))
    over (Some l) at e = slice_get_within lanes k l at

before_at : (n : ℕ) (lanes : List LaneState) (k : ℕ) → k < n → has_returned_at (take n lanes) k ≡ has_returned_at lanes k
before_at zero lanes k h = absurd (omega (arith, h))
before_at (suc n) [] k h = refl
before_at (suc n) (x ∷ xs) zero h = refl
before_at (suc n) (x ∷ xs) (suc k) h = before_at n xs k (omega (arith, h))

behind_at : (n : ℕ) (lanes : List LaneState) (k : ℕ) → n ≤ k → has_returned_at (take n lanes) k ≡ false
behind_at zero lanes k h = refl
behind_at (suc n) [] k h = refl
behind_at (suc n) (x ∷ xs) zero h = absurd (omega (arith, h))
behind_at (suc n) (x ∷ xs) (suc k) h = behind_at n xs k (omega (arith, h))

-- ---- the marks

-- where the change of a lane leaves something to get back, or leaves nothing, as before, all marks stay
pub still_marked : (marks : MarksState) (lanes : List LaneState) (i : ℕ) (l l' : LaneState) → AreMarked marks lanes → l ≡ get_or lanes i l
    → has_returned l' ≡ has_returned l → AreMarked marks (slice_set lanes i l')
still_marked marks lanes i l l' m e f = record {
  one = λ k. m.one k ∙ sym (same_at lanes i k l l' e f);
  room = let size = length-set lanes i l' in let room = m.room in omega (arith, size, room);
}

-- else the mark of that lane alone changes, and says what is left there
pub marked_at : (marks marks' : MarksState) (lanes : List LaneState) (i : ℕ) (l' : LaneState) (b : Bool) → AreMarked marks lanes
    → i < length lanes → has_returned l' ≡ b → has_mark marks' i ≡ b → ((k : ℕ) → k ≢ i → has_mark marks' k ≡ has_mark marks k)
    → room_of marks' ≡ room_of marks → AreMarked marks' (slice_set lanes i l')
marked_at marks marks' lanes i l' b m h is here others same = record {
  one = λ k. elim (cases_eq k i) [
    | inl at ↦
        ap (λ (j : ℕ). has_mark marks' j) at ∙ here ∙ sym is ∙ sym (here_at lanes i l' h)
        ∙ ap (λ (j : ℕ). has_returned_at (slice_set lanes i l') j) (sym at)
    | inr differs ↦ others k differs ∙ m.one k ∙ sym (other_at lanes i k l' differs)
  ];
  room = let size = length-set lanes i l' in let room = m.room in omega (arith, size, room, same);
}

-- marks that are set where they were stay right
pub same_marked : (marks marks' : MarksState) (lanes : List LaneState) → AreMarked marks lanes
    → ((k : ℕ) → has_mark marks' k ≡ has_mark marks k) → room_of marks' ≡ room_of marks → AreMarked marks' lanes
same_marked marks marks' lanes m all same = record {
  one = λ k. all k ∙ m.one k;
  room = let room = m.room in omega (arith, room, same);
}

but_last : (marks marks' : MarksState) (lanes : List LaneState) (n : ℕ) → AreMarked marks lanes → n ≡ length lanes - 1
    → has_mark marks' n ≡ false → ((k : ℕ) → k ≢ n → has_mark marks' k ≡ has_mark marks k)
    → room_of marks' ≡ room_of marks → AreMarked marks' (take n lanes)
but_last marks marks' lanes n m at here others same = record {
  one = λ k. elim (cases_lt k n) [
    | inl below ↦ others k (λ e. omega (arith, e, below)) ∙ m.one k ∙ sym (before_at n lanes k below)
    | inr past ↦ elim (cases_eq k n) [
      | inl is ↦ ap (λ (j : ℕ). has_mark marks' j) is ∙ here ∙ sym (behind_at n lanes k past)
      | inr differs ↦
          others k differs ∙ m.one k ∙ none_past lanes k (omega (arith, at, past, differs)) ∙ sym (behind_at n lanes k past)
    ]
  ];
  room = let room = m.room in let size = length-take-le n lanes (omega (arith, at)) in omega (arith, room, same, size, at);
}

-- where the last lane goes, its mark does
pub marked_but_last : (marks marks' : MarksState) (lanes left : List LaneState) (n : ℕ) → AreMarked marks lanes
    → left ≡ take (length lanes - 1) lanes → n ≡ length left → has_mark marks' n ≡ false
    → ((k : ℕ) → k ≢ n → has_mark marks' k ≡ has_mark marks k) → room_of marks' ≡ room_of marks → AreMarked marks' left
marked_but_last marks marks' lanes left n m is many here others last =
    let size : length left ≡ length lanes - 1 =
    ap (λ (ls : List LaneState). length ls) is ∙ length-take-le (length lanes - 1) lanes (omega arith) in
    let at : n ≡ length lanes - 1 = many ∙ size in
    let same : take n lanes ≡ left = ap (λ (k : ℕ). take k lanes) at ∙ sym is in
    subst (λ (ls : List LaneState). AreMarked marks' ls) same (but_last marks marks' lanes n m at here others last)

-- on new lanes nothing is left
pub new_marked : (marks : MarksState) (lanes : List LaneState) (n pool buffer limit : ℕ)
    → lanes ≡ replicate n (empty_lane pool buffer limit) → HasNone marks → n ≤ room_of marks → AreMarked marks lanes
new_marked marks lanes n pool buffer limit is unset room = record {
  one = λ k. unset k ∙ sym (ap (λ (ls : List LaneState). has_returned_at ls k) is ∙ none n k);
  room = let size : length lanes ≡ n = ap (λ (ls : List LaneState). length ls) is ∙ length-replicate n (empty_lane pool buffer limit) in
      omega (arith, size, room);
}
  where
    none : (n k : ℕ) → has_returned_at (replicate n (empty_lane pool buffer limit)) k ≡ false
    none zero k = refl
    none (suc n) zero = refl
    none (suc n) (suc k) = none n k

-- ---- the lowest of them

none_from : (lanes : List LaneState) (n : ℕ) → ((k : ℕ) → has_returned_at lanes k ≡ false) → position_from has_returned n lanes ≡ None
none_from [] n none = refl
none_from (x ∷ xs) n none =
    ap (λ b. cond b (Some n) (position_from has_returned (n + 1) xs)) (none 0)
    ∙ none_from xs (n + 1) (λ k. none (suc k))

first_from : (lanes : List LaneState) (n i : ℕ) → ((k : ℕ) → k < i → has_returned_at lanes k ≡ false) → has_returned_at lanes i ≡ true
    → position_from has_returned n lanes ≡ Some (i + n)
first_from [] n i none h = absurd (false≢true h)
first_from (x ∷ xs) n zero none h = ap (λ b. cond b (Some n) (position_from has_returned (n + 1) xs)) h ∙ ap (λ (k : ℕ). Some k) (omega arith)
first_from (x ∷ xs) n (suc i) none h =
    ap (λ b. cond b (Some n) (position_from has_returned (n + 1) xs)) (none 0 (omega arith))
    ∙ first_from xs (n + 1) i (λ k b. none (suc k) (omega (arith, b))) h
    ∙ ap (λ (k : ℕ). Some k) (omega arith)

pub first_to_get : (lanes : List LaneState) (i : ℕ) → ((k : ℕ) → k < i → has_returned_at lanes k ≡ false) → has_returned_at lanes i ≡ true
    → position_from has_returned 0 lanes ≡ Some i
first_to_get lanes i none h = first_from lanes 0 i none h ∙ ap (λ (k : ℕ). Some k) (omega arith)

-- where no mark is set, nothing is left
pub none_marked : (marks : MarksState) (lanes : List LaneState) → AreMarked marks lanes → HasNone marks → position_from has_returned 0 lanes ≡ None
none_marked marks lanes m none = none_from lanes 0 (λ k. sym (m.one k) ∙ none k)

-- else the lowest mark is that of the lowest lane
pub lowest_marked : (marks : MarksState) (lanes : List LaneState) (o : Option ℕ) → AreMarked marks lanes
    → IfSome o (λ lane. has_mark marks lane ≡ true) → IfSome o (λ lane. (k : ℕ) → k < lane → has_mark marks k ≡ false)
    → (o ≡ None → HasNone marks) → o ≡ position_from has_returned 0 lanes
lowest_marked marks lanes None m here below none = sym (none_marked marks lanes m (none refl))
lowest_marked marks lanes (Some lane) m here below none =
    sym (first_to_get lanes lane (λ k b. sym (m.one k) ∙ below k b) (sym (m.one lane) ∙ here))

-- ---- what is left on a lane after a delivery

pub offered_same : (l : LaneState) (k : ℕ) → has_returned (offered l k) ≡ has_returned l
offered_same l k = over (has_room l)
  where
    over : (b : Bool) → has_returned (if b then delivered l k else l) ≡ has_returned l
    over true = refl
    over false = refl

-- ---- and after its sender got one back

-- what is left after was there before
pub without_some : (l l' : LaneState) → l' ≡ without_returned l → has_returned l' ≡ true → has_returned l' ≡ has_returned l
without_some l l' is some = some ∙ sym (before l.returned (sym (ap has_returned is) ∙ some))
  where
    before : (ks : List ℕ) → not (is_empty (drop 1 ks)) ≡ true → not (is_empty ks) ≡ true
    before [] h = h
    before (k ∷ ks) h = refl

-- ---- and after a release

some_behind : (ks : List ℕ) (k : ℕ) → not (is_empty (ks ++ k ∷ [])) ≡ true
some_behind [] k = refl
some_behind (x ∷ xs) k = refl

pub released_some : (l : LaneState) (k : ℕ) → is_taken l k ≡ true → has_returned (released l k) ≡ true
released_some l k t =
    ap (λ (b : Bool). has_returned (if b then with_returned (without_taken l k) k else l)) t
    ∙ some_behind (without_taken l k).returned k

-- ---- and after a visit

none_before : (ks ms : List ℕ) → not (is_empty (ks ++ ms)) ≡ false → not (is_empty ks) ≡ false
none_before [] ms h = refl
none_before (k ∷ ks) ms h = h

visited_none : (test : ℕ → Bool) (l : LaneState) → has_returned (visited test l) ≡ false → has_returned l ≡ false
visited_none test l = over (is_at_limit l)
  where
    got : (o : Option ℕ) → has_returned (with_found o (searched test l)) ≡ false → has_returned l ≡ false
    got None h = none_before l.returned (before_wanted test l.waiting) h
    got (Some k) h = none_before l.returned (before_wanted test l.waiting) h

    over : (b : Bool) → has_returned (if b then l else with_found (first_wanted test l.waiting) (searched test l)) ≡ false → has_returned l ≡ false
    over true h = h
    over false h = got (first_wanted test l.waiting) h

pub visited_same : (wanted : Wanted) (states : List RequestState) (labels : LabelsByPlace) (l l' : LaneState)
    → l' ≡ visited_on wanted states labels l → has_returned l' ≡ false → has_returned l' ≡ has_returned l
visited_same wanted states labels l l' is none =
    none ∙ sym (visited_none (wanted_on wanted states labels l) l (sym (ap has_returned is) ∙ none))

-- ---- and after a push

pub pushed_same : (l : LaneState) (k : ℕ) → has_returned (pushed l k) ≡ has_returned l
unfolding pushed
pushed_same l k = offered_same (if is_full l then without_oldest l else l) k ∙ over (is_full l)
  where
    over : (b : Bool) → has_returned (if b then without_oldest l else l) ≡ has_returned l
    over true = refl
    over false = refl

-- ---- on it something is left

returned_at : (lanes : List LaneState) (n i : ℕ) → position_from has_returned n lanes ≡ Some i
    → (k : ℕ) × (i ≡ k + n) × (has_returned_at lanes k ≡ true)
returned_at [] n i e = absurd (none-some i e)
returned_at (x ∷ xs) n i e = step (has_returned x) refl e (returned_at xs (n + 1) i)
  where
    step : (b : Bool) → has_returned x ≡ b → cond b (Some n) (position_from has_returned (n + 1) xs) ≡ Some i
        → (position_from has_returned (n + 1) xs ≡ Some i → (k : ℕ) × (i ≡ k + (n + 1)) × (has_returned_at xs k ≡ true))
        → (k : ℕ) × (i ≡ k + n) × (has_returned_at (x ∷ xs) k ≡ true)
    step true t h rest = let same = same_Some n i h in (0, omega (arith, same), t)
    step false t h rest = let r = rest h in (suc r.0, let at = r.1 in omega (arith, at), r.2)

-- ---- on the first lane alone

-- the first mark is set: the first lane is the lowest
pub first_marked : (marks : MarksState) (lanes : List LaneState) → AreMarked marks lanes → has_mark marks 0 ≡ true
    → position_from has_returned 0 lanes ≡ Some 0
first_marked marks lanes m first = first_to_get lanes 0 (λ k b. absurd (omega (arith, b))) (sym (m.one 0) ∙ first)

-- where no other is, only that lane tells, after a change of it, whether something is left
pub first_alone : (sender : ℕ) (lanes : List LaneState) (states : List RequestState) (f : LaneState → LaneState) (marks : MarksState)
    → AreMarked marks lanes → ((k : ℕ) → 0 < k → has_mark marks k ≡ false)
    → is_some (lane_to_get (with_lane f (record { sender = sender; lanes = lanes; states = states }) 0))
    ≡ has_returned_at (with_lane f (record { sender = sender; lanes = lanes; states = states }) 0).lanes 0
first_alone sender [] states f marks m alone = refl
first_alone sender (x ∷ xs) states f marks m alone = over (has_returned (f x)) refl
  where
    none : has_returned (f x) ≡ false → (k : ℕ) → has_returned_at (f x ∷ xs) k ≡ false
    none e zero = e
    none e (suc k) = sym (m.one (suc k)) ∙ alone (suc k) (omega arith)

    over : (b : Bool) → has_returned (f x) ≡ b → is_some (position_from has_returned 0 (f x ∷ xs)) ≡ has_returned (f x)
    over true e = ap (λ (b : Bool). is_some (cond b (Some 0) (position_from has_returned 1 xs))) e ∙ sym e
    over false e = ap is_some (none_from (f x ∷ xs) 0 (none e)) ∙ sym e

-- on the lowest lane on which something is left it is
pub lowest_has : (p : PipeState) (lane : ℕ) → lane_to_get p ≡ Some lane → has_returned_at p.lanes lane ≡ true
lowest_has p lane e =
    let r = returned_at p.lanes 0 lane e in
    let is : r.0 ≡ lane = let at = r.1 in omega (arith, at) in
    subst (λ (k : ℕ). has_returned_at p.lanes k ≡ true) is r.2

-- where something is left, there is a lane
pub within_lanes : (lanes : List LaneState) (k : ℕ) → has_returned_at lanes k ≡ true → k < length lanes
within_lanes [] k h = absurd (false≢true h)
within_lanes (x ∷ xs) zero h = omega arith
within_lanes (x ∷ xs) (suc k) h = let below = within_lanes xs k h in omega (arith, below)

-- and a message on it
pub some_there : (ks : List ℕ) → not (is_empty ks) ≡ true → 0 < length ks
some_there [] h = absurd (false≢true h)
some_there (k ∷ ks) h = omega arith
