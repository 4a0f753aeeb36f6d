-- Visits on their usual way: what is not waited on stays, and the oldest that waits is taken.
use Rattle.std.proofs.Common.{◌≡◌, ◌+◌, ◌<◌, ℕ, zero, suc, Bool, true, false, cond, if◌then◌else◌, List, [], ◌∷◌, ◌++◌, Option, Some, None, drop, length, get_or, slice_set, refl, sym, ap, subst, ◌∙◌, arith, append-nil}
use Rattle.std.proofs.lemmas.Bool.{false≢true}
use Rattle.std.proofs.lemmas.Option.{none-some, same_Some, slice_get_within}
use Rattle.std.specs.List.{position_from}
use Rattle.std.specs.Option.{option_map_or}
use Rattle.std.specs.Prelude.{not, slice_get}
use Rattle.iox_model.specs.Maps.{is_empty}
use Rattle.iox_model.specs.declared.way.RequestState.{RequestState}
use Rattle.iox_lanes.specs.declared.wanted.Wanted.{Wanted}
use Rattle.iox_lanes.specs.declared.search.LaneVisit as one
use Rattle.iox_lanes.specs.declared.incoming.Visits.TheVariants.{Got, Nothing}
use Rattle.iox_lanes.specs.Lanes.{LaneState, has_returned, has_waiting, is_at_limit, oldest, oldest_taken, with_taken, without_oldest}
use Rattle.iox_lanes.specs.Pipes.{PipeState, on_lane}
use Rattle.iox_lanes.specs.Searches.{LabelsByPlace, after_wanted, before_wanted, first_wanted, found, searched, seen, visit_on, visited_on, wanted_on, with_found}
use Rattle.iox_lanes.specs.Visited.{after_visit, all_visited, is_got, pipe_visit, pipe_visited, pool_on, visits_from}

-- ---- a line of which the oldest is wanted

module _ (test : ℕ → Bool) where
  first_is : (ks : List ℕ) (k : ℕ) → Some k ≡ slice_get ks 0 → test k ≡ true → first_wanted test ks ≡ Some k
  first_is [] k e t = absurd (none-some k (sym e))
  first_is (m ∷ ks) k e t =
      let same : k ≡ m = same_Some k m e in
      ap (λ b. if b then Some m else first_wanted test ks) (ap test (sym same) ∙ t) ∙ ap (λ (n : ℕ). Some n) (sym same)

  none_before : (ks : List ℕ) (k : ℕ) → Some k ≡ slice_get ks 0 → test k ≡ true → before_wanted test ks ≡ []
  none_before [] k e t = refl
  none_before (m ∷ ks) k e t =
      ap (λ b. if b then [] else m ∷ before_wanted test ks) (ap test (sym (same_Some k m e)) ∙ t)

  rest_behind : (ks : List ℕ) (k : ℕ) → Some k ≡ slice_get ks 0 → test k ≡ true → after_wanted test ks ≡ drop 1 ks
  rest_behind [] k e t = refl
  rest_behind (m ∷ ks) k e t =
      ap (λ b. if b then ks else after_wanted test ks) (ap test (sym (same_Some k m e)) ∙ t)

-- ---- a lane

no_place : (ks : List ℕ) → not (is_empty ks) ≡ false → ks ≡ []
no_place [] h = refl
no_place (k ∷ ks) h = absurd (false≢true (sym h))

module _ (wanted : Wanted) (states : List RequestState) (labels : LabelsByPlace) (l : LaneState) where
  abbrev test : ℕ → Bool
  test = wanted_on wanted states labels l

  module _ (k : ℕ) (below : is_at_limit l ≡ false) (at : Some k ≡ oldest l) (wants : test k ≡ true) where
    -- a visit gets the oldest that waits
    pub oldest_got : one.TheVariants.Got k ≡ visit_on wanted states labels l
    oldest_got =
        sym (ap (λ b. if b then seen l.waiting else found (first_wanted test l.waiting)) below
        ∙ ap found (first_is test l.waiting k at wants))

    -- nothing is given back unread
    searched_first : searched test l ≡ without_oldest l
    searched_first =
        let a = rest_behind test l.waiting k at wants in
        let b : l.returned ++ before_wanted test l.waiting ≡ l.returned = ap (λ ks. l.returned ++ ks) (none_before test l.waiting k at wants) ∙ append-nil l.returned in
        let n : length (before_wanted test l.waiting) ≡ 0 = ap (λ (ks : List ℕ). length ks) (none_before test l.waiting k at wants) in
        let c : l.returns + length (before_wanted test l.waiting) ≡ l.returns = omega (arith, n) in
        λ i. record l { waiting = a i; returned = b i; returns = c i }

    -- and the receiver has it
    pub oldest_visited : (l' : LaneState) → l' ≡ oldest_taken l → l' ≡ visited_on wanted states labels l
    oldest_visited l' is =
        is
        ∙ ap (λ (o : Option ℕ). option_map_or (λ j. with_taken (without_oldest l) j) o l) (sym at)
        ∙ ap (λ (m : LaneState). with_taken m k) (sym searched_first)
        ∙ sym (ap (λ b. if b then l else with_found (first_wanted test l.waiting) (searched test l)) below
        ∙ ap (λ (o : Option ℕ). with_found o (searched test l)) (first_is test l.waiting k at wants))

  -- where nothing waits, a visit changes nothing
  unsearched : l.waiting ≡ [] → searched test l ≡ l
  unsearched none =
      let a : after_wanted test l.waiting ≡ l.waiting = ap (after_wanted test) none ∙ sym none in
      let b : l.returned ++ before_wanted test l.waiting ≡ l.returned = ap (λ ks. l.returned ++ before_wanted test ks) none ∙ append-nil l.returned in
      let n : length (before_wanted test l.waiting) ≡ 0 = ap (λ ks. length (before_wanted test ks)) none in
      let c : l.returns + length (before_wanted test l.waiting) ≡ l.returns = omega (arith, n) in
      λ i. record l { waiting = a i; returned = b i; returns = c i }

  none_said : (b : Bool) → l.waiting ≡ [] → (if b then seen l.waiting else found (first_wanted test l.waiting)) ≡ one.TheVariants.Nothing
  none_said true none = ap seen none
  none_said false none = ap (λ ks. found (first_wanted test ks)) none

  none_left : (b : Bool) → l.waiting ≡ [] → (if b then l else with_found (first_wanted test l.waiting) (searched test l)) ≡ l
  none_left true none = refl
  none_left false none = ap (λ ks. with_found (first_wanted test ks) (searched test l)) none ∙ unsearched none

  pub none_waits : has_waiting l ≡ false
      → (visit_on wanted states labels l ≡ one.TheVariants.Nothing) × (visited_on wanted states labels l ≡ l)
  none_waits h =
      let none : l.waiting ≡ [] = no_place l.waiting h in
      (none_said (is_at_limit l) none, none_left (is_at_limit l) none)

-- what is left to get back stays
pub taken_same : (l l' : LaneState) → l' ≡ oldest_taken l → has_returned l' ≡ has_returned l
taken_same l l' is = ap has_returned is ∙ over (oldest l)
  where
    over : (o : Option ℕ) → has_returned (option_map_or (λ k. with_taken (without_oldest l) k) o l) ≡ has_returned l
    over (Some k) = refl
    over None = refl

-- ---- a pipe on which nothing waits

module _ (wanted : Wanted) (labels : LabelsByPlace) (lane : ℕ) where
  abbrev waits_on : PipeState → Bool
  waits_on p = on_lane has_waiting false p lane

  set_same : {A : Type 0} (xs : List A) (i : ℕ) (x : A) → slice_get xs i ≡ Some x → slice_set xs i x ≡ xs
  set_same [] i x e = refl
  set_same (y ∷ ys) zero x e = ap (λ z. z ∷ ys) (sym (same_Some y x e))
  set_same (y ∷ ys) (suc i) x e = ap (λ zs. y ∷ zs) (set_same ys i x e)

  -- a visit of it changes nothing
  quiet : (p : PipeState) → waits_on p ≡ false
      → (pipe_visit wanted labels lane p ≡ one.TheVariants.Nothing) × (pipe_visited wanted labels lane p ≡ p)
  quiet p h = over (slice_get p.lanes lane) refl h
    where
      over : (o : Option LaneState) → slice_get p.lanes lane ≡ o → option_map_or has_waiting o false ≡ false
          → (option_map_or (λ l. visit_on wanted p.states labels l) o one.TheVariants.Nothing ≡ one.TheVariants.Nothing)
          × (option_map_or (λ l. record p { lanes = slice_set p.lanes lane (visited_on wanted p.states labels l) }) o p ≡ p)
      over None is none = (refl, refl)
      over (Some l) is none = (
        (none_waits wanted p.states labels l none).0,
        ap (λ (m : LaneState). record p { lanes = slice_set p.lanes lane m }) (none_waits wanted p.states labels l none).1
            ∙ ap (λ ls. record p { lanes = ls }) (set_same p.lanes lane l is),
      )

  -- ---- pipes

  -- so do visits of pipes on which nothing waits
  pub all_quiet : (ps : List PipeState) (k : ℕ) → position_from waits_on k ps ≡ None
      → (Nothing ≡ visits_from wanted labels lane ps false) × (ps ≡ all_visited wanted labels lane ps)
  all_quiet [] k e = (refl, refl)
  all_quiet (p ∷ ps) k e = over (waits_on p) refl (all_quiet ps (k + 1)) e
    where
      over : (b : Bool) → waits_on p ≡ b
          → (position_from waits_on (k + 1) ps ≡ None → (Nothing ≡ visits_from wanted labels lane ps false) × (ps ≡ all_visited wanted labels lane ps))
          → cond b (Some k) (position_from waits_on (k + 1) ps) ≡ None
          → (Nothing ≡ visits_from wanted labels lane (p ∷ ps) false) × (p ∷ ps ≡ all_visited wanted labels lane (p ∷ ps))
      over true is behind h = absurd (none-some k (sym h))
      over false is behind h =
          let (says, same) = quiet p is in
          let rest = behind h in (
            rest.0 ∙ sym (ap (λ v. after_visit v p lane (visits_from wanted labels lane ps true) (visits_from wanted labels lane ps false)) says),
            ap (λ qs. p ∷ qs) rest.1
                ∙ sym (ap (λ v. pipe_visited wanted labels lane p ∷ (if is_got v then ps else all_visited wanted labels lane ps)) says
                ∙ ap (λ q. q ∷ all_visited wanted labels lane ps) same),
          )

  -- where something waits on the pipe of that rank, and on none before it, its visit decides
  pub first_gets : (ps : List PipeState) (k r : ℕ) (p : PipeState) (place : ℕ) → position_from waits_on k ps ≡ Some (r + k) → p ≡ get_or ps r p
      → pipe_visit wanted labels lane p ≡ one.TheVariants.Got place
      → (Got p.sender (pool_on p lane) place ≡ visits_from wanted labels lane ps false)
      × (slice_set ps r (pipe_visited wanted labels lane p) ≡ all_visited wanted labels lane ps)
  first_gets [] k r p place e at got = absurd (none-some (r + k) e)
  first_gets (q ∷ qs) k zero p place e at got = (
    sym (ap (λ (x : PipeState). after_visit (pipe_visit wanted labels lane x) x lane (visits_from wanted labels lane qs true) (visits_from wanted labels lane qs false)) (sym at)
        ∙ ap (λ v. after_visit v p lane (visits_from wanted labels lane qs true) (visits_from wanted labels lane qs false)) got),
    sym (ap (λ (x : PipeState). pipe_visited wanted labels lane x ∷ (if is_got (pipe_visit wanted labels lane x) then qs else all_visited wanted labels lane qs)) (sym at)
        ∙ ap (λ v. pipe_visited wanted labels lane p ∷ (if is_got v then qs else all_visited wanted labels lane qs)) got),
  )
  first_gets (q ∷ qs) k (suc r) p place e at got = over (waits_on q) refl (λ h. first_gets qs (k + 1) r p place h at got) e
    where
      over : (b : Bool) → waits_on q ≡ b
          → (position_from waits_on (k + 1) qs ≡ Some (r + (k + 1)) → (Got p.sender (pool_on p lane) place ≡ visits_from wanted labels lane qs false)
          × (slice_set qs r (pipe_visited wanted labels lane p) ≡ all_visited wanted labels lane qs))
          → cond b (Some k) (position_from waits_on (k + 1) qs) ≡ Some (suc r + k)
          → (Got p.sender (pool_on p lane) place ≡ visits_from wanted labels lane (q ∷ qs) false)
          × (slice_set (q ∷ qs) (suc r) (pipe_visited wanted labels lane p) ≡ all_visited wanted labels lane (q ∷ qs))
      over true is behind h = let same = same_Some k (suc r + k) h in absurd (omega (arith, same))
      over false is behind h =
          let (says, same) = quiet q is in
          let rest = behind (h ∙ ap (λ (n : ℕ). Some n) (omega arith)) in (
            rest.0 ∙ sym (ap (λ v. after_visit v q lane (visits_from wanted labels lane qs true) (visits_from wanted labels lane qs false)) says),
            ap (λ xs. q ∷ xs) rest.1
                ∙ sym (ap (λ v. pipe_visited wanted labels lane q ∷ (if is_got v then qs else all_visited wanted labels lane qs)) says
                ∙ ap (λ x. x ∷ all_visited wanted labels lane qs) same),
          )

-- where something waits there is a lane
pub waits_within : (p : PipeState) (lane : ℕ) → on_lane has_waiting false p lane ≡ true → lane < length p.lanes
waits_within p lane h = over (slice_get p.lanes lane) refl h
  where
    over : (o : Option LaneState) → slice_get p.lanes lane ≡ o → option_map_or has_waiting o false ≡ true → lane < length p.lanes
    over (Some l) is e = slice_get_within p.lanes lane l is
    over None is e = absurd (false≢true e)

-- ---- where the first stands of which something holds

held_at : {A : Type 0} (f : A → Bool) (xs : List A) (n i : ℕ) → position_from f n xs ≡ Some i
    → (r : ℕ) × (i ≡ r + n) × ((x : A) → x ≡ get_or xs r x → f x ≡ true)
held_at f [] n i e = absurd (none-some i e)
held_at {A} f (y ∷ ys) n i e = over (f y) refl (held_at f ys (n + 1) i) e
  where
    over : (b : Bool) → f y ≡ b
        → (position_from f (n + 1) ys ≡ Some i → (r : ℕ) × (i ≡ r + (n + 1)) × ((x : A) → x ≡ get_or ys r x → f x ≡ true))
        → cond b (Some n) (position_from f (n + 1) ys) ≡ Some i
        → (r : ℕ) × (i ≡ r + n) × ((x : A) → x ≡ get_or (y ∷ ys) r x → f x ≡ true)
    over true t behind h = let same = same_Some n i h in (0, omega (arith, same), λ x at. ap f at ∙ t)
    over false t behind h = let rest = behind h in (suc rest.0, let at = rest.1 in omega (arith, at), rest.2)

-- it holds of what is looked at there
pub holds_first : {A : Type 0} (f : A → Bool) (xs : List A) (i : ℕ) (x : A) → position_from f 0 xs ≡ Some i → x ≡ get_or xs i x → f x ≡ true
holds_first f xs i x e at =
    let found = held_at f xs 0 i e in
    let is : found.0 ≡ i = let n = found.1 in omega (arith, n) in
    subst (λ (r : ℕ). x ≡ get_or xs r x → f x ≡ true) is (found.2 x) at
