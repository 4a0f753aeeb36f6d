-- Places as sums of products.
use Rattle.std.specs.Prelude.{zero, suc}
use Rattle.std.proofs.Common.{◌≡◌, ℕ, ◌+◌, ◌*◌, ◌<◌, true, false, if◌then◌else◌, ◌==◌, List, [], ◌∷◌, length, refl, ap, subst, ◌∙◌, inl, inr, eq-eqb, arith}
use Rattle.std.proofs.lemmas.Bool.{cases_Bool}
use Rattle.std.proofs.Math.Nat.{add-mul}
use Rattle.std.specs.List.{range_with_len}
use Rattle.iox_model.specs.declared.way.Way.{Way}
use Rattle.iox_word_map.specs.Stretches.{sum_of, sum_before, stretch_size, place_at}
use Rattle.iox_word_map.specs.WordMaps.{Sizes, IsRequestWay, IsResponseWay, way_path, lane_stretch, pair_stretch, wire_stretch, index_of, lane_words, pair_words, pair_place, lane_place}
use Rattle.iox_word_map.specs.Laws.{RegionsAreComputed, RequestQueuesAreComputed, LanesAreComputed, TotalIsComputed, AllOnesTake165}

-- ---- sums of equal parts

same_sum : (f g : ℕ → ℕ) (names : List ℕ) → ((k : ℕ) → f k ≡ g k) → sum_of f names ≡ sum_of g names
same_sum f g [] same = refl
same_sum f g (k ∷ ks) same = (let a : f k ≡ g k = same k in let b : sum_of f ks ≡ sum_of g ks = same_sum f g ks same in omega arith)

same_before : (f g : ℕ → ℕ) (k : ℕ) (names : List ℕ) → ((k : ℕ) → f k ≡ g k) → sum_before f k names ≡ sum_before g k names
same_before f g k [] same = refl
same_before f g k (j ∷ js) same = elim (cases_Bool (j == k)) [
  | inl here ↦ rw here refl
  | inr other ↦ (
      let a : f j ≡ g j = same j in
      let b : sum_before f k js ≡ sum_before g k js = same_before f g k js same in
      rw other (omega arith)
      )
]

suc_times : (m n : ℕ) → suc m * n ≡ n + m * n
suc_times m n =
    let e : suc m ≡ m + 1 = omega arith in
    let d : (m + 1) * n ≡ m * n + 1 * n = add-mul m 1 n in
    ap (λ t. t * n) e ∙ d ∙ omega arith

plus_times : (m n : ℕ) → (m + 1) * n ≡ n + m * n
plus_times m n = (let e : m + 1 ≡ suc m = omega arith in ap (λ t. t * n) e ∙ suc_times m n)

sum_equal : (n : ℕ) (names : List ℕ) → sum_of (λ k. n) names ≡ length names * n
sum_equal n [] = omega arith
sum_equal n (k ∷ ks) =
    let b : sum_of (λ k. n) ks ≡ length ks * n = sum_equal n ks in
    let d : suc (length ks) * n ≡ n + length ks * n = suc_times (length ks) n in
    omega arith

pub before_equal : (n k : ℕ) (names : List ℕ) → sum_before (λ j. n) k names ≡ index_of k names * n
before_equal n k [] = omega arith
before_equal n k (j ∷ js) = elim (cases_Bool (j == k)) [
  | inl here ↦ rw here (omega arith)
  | inr other ↦ (
      let b : sum_before (λ j. n) k js ≡ index_of k js * n = before_equal n k js in
      let d : (index_of k js + 1) * n ≡ n + index_of k js * n = plus_times (index_of k js) n in
      rw other (omega arith)
      )
]

-- ---- lanes

module _ (z : Sizes) where
  abbrev size : ℕ → ℕ
  size l = stretch_size (lane_stretch z l)

  lane_size : (l : ℕ) → stretch_size (lane_stretch z (l + 1)) ≡ lane_words z
  lane_size l = (let none : (l + 1 == 0) ≡ false = grind (arith) in rw none (omega arith))

  lanes_sum : (a m : ℕ) → sum_of (λ l. stretch_size (lane_stretch z l)) (range_with_len (a + 1) m) ≡ m * lane_words z
  lanes_sum a zero = omega arith
  lanes_sum a (suc m) =
      let one : stretch_size (lane_stretch z (a + 1)) ≡ lane_words z = lane_size a in
      let more : sum_of (λ l. stretch_size (lane_stretch z l)) (range_with_len (a + 1 + 1) m) ≡ m * lane_words z = lanes_sum (a + 1) m in
      let d : suc m * lane_words z ≡ lane_words z + m * lane_words z = suc_times m (lane_words z) in
      omega arith

  lanes_before : (d a m : ℕ) → d < m → sum_before (λ l. stretch_size (lane_stretch z l)) (a + d + 1) (range_with_len (a + 1) m) ≡ d * lane_words z
  lanes_before d a zero below = absurd (omega arith)
  lanes_before zero a (suc m) below = (let here : (a + 1 == a + 0 + 1) ≡ true = eq-eqb (a + 1) (a + 0 + 1) (omega arith) in rw here (omega arith))
  lanes_before (suc d) a (suc m) below =
      let other : (a + 1 == a + suc d + 1) ≡ false = grind (arith) in
      let one : stretch_size (lane_stretch z (a + 1)) ≡ lane_words z = lane_size a in
      let same : a + 1 + d + 1 ≡ a + suc d + 1 = omega arith in
      let more : sum_before (λ l. stretch_size (lane_stretch z l)) (a + 1 + d + 1) (range_with_len (a + 1 + 1) m) ≡ d * lane_words z = lanes_before d (a + 1) m (omega arith) in
      let more' : sum_before (λ l. stretch_size (lane_stretch z l)) (a + suc d + 1) (range_with_len (a + 1 + 1) m) ≡ d * lane_words z
      = subst (λ k. sum_before (λ l. stretch_size (lane_stretch z l)) k (range_with_len (a + 1 + 1) m) ≡ d * lane_words z) same more in
      let t : suc d * lane_words z ≡ lane_words z + d * lane_words z = suc_times d (lane_words z) in
      rw other (omega arith)

  as_suc : (n : ℕ) → range_with_len 0 (n + 1) ≡ 0 ∷ range_with_len (0 + 1) n
  as_suc n = (let e : n + 1 ≡ suc n = omega arith in ap (range_with_len 0) e)

  pair_size : (c : ℕ) → stretch_size (pair_stretch z c) ≡ pair_words z c
  pair_size c =
      let more : sum_of (λ l. stretch_size (lane_stretch z l)) (range_with_len (0 + 1) (z.lanes c)) ≡ z.lanes c * lane_words z = lanes_sum 0 (z.lanes c) in
      ap (sum_of (λ l. stretch_size (lane_stretch z l))) (as_suc (z.lanes c)) ∙ omega arith

  first_lane : (n : ℕ) → sum_before (λ l. stretch_size (lane_stretch z l)) 0 (range_with_len 0 (n + 1)) ≡ 0
  first_lane n = ap (sum_before (λ l. stretch_size (lane_stretch z l)) 0) (as_suc n)

  later_lane : (n l : ℕ) → l < n → sum_before (λ l. stretch_size (lane_stretch z l)) (l + 1) (range_with_len 0 (n + 1)) ≡ z.requests + z.requests_returning + l * lane_words z
  later_lane n l below =
      let other : (0 == l + 1) ≡ false = grind (arith) in
      let same : 0 + l + 1 ≡ l + 1 = omega arith in
      let more : sum_before (λ l. stretch_size (lane_stretch z l)) (l + 1) (range_with_len (0 + 1) n) ≡ l * lane_words z
      = subst (λ k. sum_before (λ l. stretch_size (lane_stretch z l)) k (range_with_len (0 + 1) n) ≡ l * lane_words z) same (lanes_before l 0 n below) in
      ap (sum_before (λ l. stretch_size (lane_stretch z l)) (l + 1)) (as_suc n) ∙ rw other (omega arith)

  -- ---- a pair

  pair_at : (c s l : ℕ) (path : List ℕ) → place_at (wire_stretch z) (1 ∷ c ∷ s ∷ l ∷ path)
      ≡ pair_place z c s + (sum_before (λ j. stretch_size (lane_stretch z j)) l (range_with_len 0 (z.lanes c + 1)) + place_at (lane_stretch z l) path)
  pair_at c s l path =
      let of_clients : sum_before (λ k. sum_of (λ t. stretch_size (pair_stretch z k)) z.servers) c z.clients ≡ sum_before (λ k. length z.servers * pair_words z k) c z.clients
      = same_before (λ k. sum_of (λ t. stretch_size (pair_stretch z k)) z.servers) (λ k. length z.servers * pair_words z k) c z.clients
      (λ k. sum_equal (stretch_size (pair_stretch z k)) z.servers ∙ ap (λ n. length z.servers * n) (pair_size k)) in
      let of_servers : sum_before (λ t. stretch_size (pair_stretch z c)) s z.servers ≡ index_of s z.servers * pair_words z c
      = before_equal (stretch_size (pair_stretch z c)) s z.servers ∙ ap (λ n. index_of s z.servers * n) (pair_size c) in
      omega arith

  in_requests : (k : ℕ) → place_at (lane_stretch z 0) (k ∷ []) ≡ (if 0 == k then 0 else z.requests + (if 1 == k then 0 else z.requests_returning + 0)) + 0
  in_requests k = refl

  in_lane : (l k : ℕ) → place_at (lane_stretch z (l + 1)) (k ∷ [])
      ≡ (if 0 == k then 0 else z.responses + (if 1 == k then 0 else z.responses_returning + (if 2 == k then 0 else 1 + 0))) + 0
  in_lane l k = (let none : (l + 1 == 0) ≡ false = grind (arith) in rw none refl)

  request_place : (w : Way) (k : ℕ) → IsRequestWay z w → place_at (wire_stretch z) (way_path z w k)
      ≡ pair_place z w.sender w.receiver + ((if 0 == k then 0 else z.requests + (if 1 == k then 0 else z.requests_returning + 0)) + 0)
  request_place w k way =
      let first : sum_before (λ j. stretch_size (lane_stretch z j)) 0 (range_with_len 0 (z.lanes w.sender + 1)) ≡ 0 = first_lane (z.lanes w.sender) in
      rw way.0 (pair_at w.sender w.receiver 0 (k ∷ []) ∙ omega arith)

  response_place : (w : Way) (k : ℕ) → IsResponseWay z w → place_at (wire_stretch z) (way_path z w k)
      ≡ lane_place z w.receiver w.sender w.lane + ((if 0 == k then 0 else z.responses + (if 1 == k then 0 else z.responses_returning + (if 2 == k then 0 else 1 + 0))) + 0)
  response_place w k way =
      let before : sum_before (λ j. stretch_size (lane_stretch z j)) (w.lane + 1) (range_with_len 0 (z.lanes w.receiver + 1)) ≡ z.requests + z.requests_returning + w.lane * lane_words z
      = later_lane (z.lanes w.receiver) w.lane way.3 in
      let inside : place_at (lane_stretch z (w.lane + 1)) (k ∷ [])
      ≡ (if 0 == k then 0 else z.responses + (if 1 == k then 0 else z.responses_returning + (if 2 == k then 0 else 1 + 0))) + 0 = in_lane w.lane k in
      rw way.0 (pair_at w.receiver w.sender (w.lane + 1) (k ∷ []) ∙ omega arith)

pub regions_are_computed : RegionsAreComputed
regions_are_computed z port = omega arith

pub request_queues_are_computed : RequestQueuesAreComputed
request_queues_are_computed z w way = (request_place z w 0 way ∙ omega arith, request_place z w 1 way ∙ omega arith)

pub lanes_are_computed : LanesAreComputed
lanes_are_computed z w way =
    (response_place z w 0 way ∙ omega arith, response_place z w 1 way ∙ omega arith, response_place z w 2 way ∙ omega arith)

pub total_is_computed : TotalIsComputed
total_is_computed z =
    let of_clients : sum_of (λ k. sum_of (λ t. stretch_size (pair_stretch z k)) z.servers) z.clients ≡ sum_of (λ k. length z.servers * pair_words z k) z.clients
    = same_sum (λ k. sum_of (λ t. stretch_size (pair_stretch z k)) z.servers) (λ k. length z.servers * pair_words z k) z.clients
    (λ k. sum_equal (stretch_size (pair_stretch z k)) z.servers ∙ ap (λ n. length z.servers * n) (pair_size z k)) in
    omega arith

pub all_ones_take_165 : AllOnesTake165
all_ones_take_165 = refl
