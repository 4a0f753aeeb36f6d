-- Each piece of the map has a path of its own.
use Rattle.std.specs.Prelude.{zero, suc}
use Rattle.std.proofs.Common.{◌≡◌, ℕ, ◌+◌, ◌<◌, ◌≤◌, ◌⊎◌, true, false, ◌==◌, eq-eqb, List, [], ◌∷◌, length, refl, ap, sym, ◌∙◌, inl, inr, true≢false, arith}
use Rattle.std.proofs.lemmas.Bool.{cases_Bool}
use Rattle.std.specs.List.{range_with_len}
use Rattle.iox_model.specs.declared.way.Way.{Way}
use Rattle.iox_model.specs.Maps.{has_number}
use Rattle.iox_word_map.specs.Stretches.{HasPath, stretch_size, part_at, PathsPart}
use Rattle.iox_word_map.specs.WordMaps.{Sizes, part_of_lane, part_of_requests, lane_stretch, wire_stretch, Piece, Region, QueueWords, StateWord, MessageQueue, ReturningQueue, IsRequestWay, IsResponseWay, IsWay, IsPiece, way_path, path_of, piece_size}
use Rattle.iox_word_map.specs.Laws.{PiecesAreApart, PiecesAreWithin, PiecesAreSized}
use Rattle.iox_word_map.proofs.StretchLemmas.{part_within, parts_apart, same_or_parted}

-- ---- each piece is there

range_has : (a n k : ℕ) → a ≤ k → k < a + n → has_number k (range_with_len a n) ≡ true
range_has a zero k low high = absurd (omega arith)
range_has a (suc n) k low high = elim (cases_Bool (a == k)) [
  | inl same ↦ rw same refl
  | inr other ↦ (
      let apart : a ≡ k → ⊥ = λ e. true≢false (sym (eq-eqb a k e) ∙ other) in
      let there : has_number k (range_with_len (a + 1) n) ≡ true = range_has (a + 1) n k (grind (arith, apart, low)) (omega arith) in
      rw other there
      )
]

no_lane : (l : ℕ) → (l + 1 == 0) ≡ false
no_lane l = grind (arith)

-- a queue's number among those of its lane
abbrev pub IsQueueNumber : ℕ → Type 0
IsQueueNumber k = (k ≡ 0) ⊎ (k ≡ 1)

request_part : (z : Sizes) (k : ℕ) → IsQueueNumber k → HasPath (lane_stretch z 0) (k ∷ [])
request_part z k (inl e) = rw e (refl, tt)
request_part z k (inr e) = rw e (refl, tt)

response_part : (z : Sizes) (l k : ℕ) → IsQueueNumber k ⊎ (k ≡ 2) → HasPath (lane_stretch z (l + 1)) (k ∷ [])
response_part z l k (inl (inl e)) = rw (e, no_lane l) (refl, tt)
response_part z l k (inl (inr e)) = rw (e, no_lane l) (refl, tt)
response_part z l k (inr e) = rw (e, no_lane l) (refl, tt)

request_there : (z : Sizes) (w : Way) (k : ℕ) → IsRequestWay z w → IsQueueNumber k → HasPath (wire_stretch z) (way_path z w k)
request_there z w k way queue =
    rw way.0 (refl, (way.0, (way.1, (range_has 0 (z.lanes w.sender + 1) 0 (omega arith) (omega arith), request_part z k queue))))

response_there : (z : Sizes) (w : Way) (k : ℕ) → IsResponseWay z w → IsQueueNumber k ⊎ (k ≡ 2) → HasPath (wire_stretch z) (way_path z w k)
response_there z w k way queue =
    rw way.0 (refl, (way.2, (way.1, (range_has 0 (z.lanes w.receiver + 1) (w.lane + 1) (omega arith) (omega (arith, way.3)), response_part z w.lane k queue))))

way_there : (z : Sizes) (w : Way) (k : ℕ) → IsWay z w → IsQueueNumber k → HasPath (wire_stretch z) (way_path z w k)
way_there z w k (inl way) queue = request_there z w k way queue
way_there z w k (inr way) queue = response_there z w k way (inl queue)

pub piece_there : (z : Sizes) (x : Piece) → IsPiece z x → HasPath (wire_stretch z) (path_of z x)
piece_there z (Region port) is = (refl, (is, tt))
piece_there z (QueueWords (MessageQueue way)) is = way_there z way 0 is (inl refl)
piece_there z (QueueWords (ReturningQueue way)) is = way_there z way 1 is (inr refl)
piece_there z (StateWord way) is = response_there z way 2 is (inr refl)

-- ---- and has a path of its own

abbrev head : List ℕ → ℕ
head [] = 0
head (k ∷ ks) = k

abbrev tail : List ℕ → List ℕ
tail [] = []
tail (k ∷ ks) = ks

abbrev at : ℕ → List ℕ → ℕ
at zero ks = head ks
at (suc n) ks = at n (tail ks)

way_is : (v w : Way) → v.sender ≡ w.sender → v.receiver ≡ w.receiver → v.lane ≡ w.lane → v ≡ w
way_is v w sender receiver lane = λ i. record { sender = sender i; receiver = receiver i; lane = lane i }

-- the path names the way, and the number behind it
way_told : (z : Sizes) (v w : Way) (j k : ℕ) → IsWay z v → IsWay z w → way_path z v j ≡ way_path z w k → (v ≡ w) × (j ≡ k)
way_told z v w j k (inl here) (inl there) same =
    let e : v.sender ∷ v.receiver ∷ 0 ∷ j ∷ [] ≡ w.sender ∷ w.receiver ∷ 0 ∷ k ∷ [] = ap tail (rw (here.0, there.0) at same) in
    (way_is v w (ap head e) (ap (λ ks. head (tail ks)) e) (here.2 ∙ sym there.2), ap (λ ks. head (tail (tail (tail ks)))) e)
way_told z v w j k (inl here) (inr there) same =
    let e : 1 ∷ v.sender ∷ v.receiver ∷ 0 ∷ j ∷ [] ≡ 1 ∷ w.receiver ∷ w.sender ∷ (w.lane + 1) ∷ k ∷ [] = rw (here.0, there.0) at same in
    let none : 0 ≡ w.lane + 1 = ap (λ ks. head (tail (tail (tail ks)))) e in
    absurd (omega arith)
way_told z v w j k (inr here) (inl there) same =
    let e : 1 ∷ v.receiver ∷ v.sender ∷ (v.lane + 1) ∷ j ∷ [] ≡ 1 ∷ w.sender ∷ w.receiver ∷ 0 ∷ k ∷ [] = rw (here.0, there.0) at same in
    let none : v.lane + 1 ≡ 0 = ap (λ ks. head (tail (tail (tail ks)))) e in
    absurd (omega arith)
way_told z v w j k (inr here) (inr there) same =
    let e : 1 ∷ v.receiver ∷ v.sender ∷ (v.lane + 1) ∷ j ∷ [] ≡ 1 ∷ w.receiver ∷ w.sender ∷ (w.lane + 1) ∷ k ∷ [] = rw (here.0, there.0) at same in
    let lanes : v.lane + 1 ≡ w.lane + 1 = ap (λ ks. head (tail (tail (tail ks)))) e in
    (way_is v w (ap (λ ks. head (tail (tail ks))) e) (ap (λ ks. head (tail ks)) e) (omega arith), ap (λ ks. head (tail (tail (tail (tail ks))))) e)

length-way_path : (z : Sizes) (w : Way) (k : ℕ) → length (way_path z w k) ≡ 5
length-way_path z w k = elim (cases_Bool (has_number w.sender z.clients)) [
  | inl client ↦ rw client refl
  | inr server ↦ rw server refl
]

ways_parted : (z : Sizes) (v w : Way) (j k : ℕ) → IsWay z v → IsWay z w → (v ≡ w → j ≡ k → ⊥) → PathsPart (way_path z v j) (way_path z w k)
ways_parted z v w j k here there apart =
    elim (same_or_parted (way_path z v j) (way_path z w k) (length-way_path z v j ∙ sym (length-way_path z w k))) [
      | inl same ↦ (let told : (v ≡ w) × (j ≡ k) = way_told z v w j k here there same in absurd (apart told.0 told.1))
      | inr parted ↦ parted
    ]

region_parted : (z : Sizes) (p : ℕ) (w : Way) (k : ℕ) → PathsPart (0 ∷ p ∷ []) (way_path z w k)
region_parted z p w k = elim (cases_Bool (has_number w.sender z.clients)) [
  | inl client ↦ rw client (inl (λ e. absurd (omega arith)))
  | inr server ↦ rw server (inl (λ e. absurd (omega arith)))
]

way_parted : (z : Sizes) (p : ℕ) (w : Way) (k : ℕ) → PathsPart (way_path z w k) (0 ∷ p ∷ [])
way_parted z p w k = elim (cases_Bool (has_number w.sender z.clients)) [
  | inl client ↦ rw client (inl (λ e. absurd (omega arith)))
  | inr server ↦ rw server (inl (λ e. absurd (omega arith)))
]

pub pieces_parted : (z : Sizes) (x y : Piece) → IsPiece z x → IsPiece z y → (x ≡ y → ⊥) → PathsPart (path_of z x) (path_of z y)
pieces_parted z (Region p) (Region q) here there apart = inr (refl, inl (λ e. apart (ap (λ k. Region k) e)))
pieces_parted z (Region p) (QueueWords (MessageQueue w)) here there apart = region_parted z p w 0
pieces_parted z (Region p) (QueueWords (ReturningQueue w)) here there apart = region_parted z p w 1
pieces_parted z (Region p) (StateWord w) here there apart = region_parted z p w 2
pieces_parted z (QueueWords (MessageQueue v)) (Region q) here there apart = way_parted z q v 0
pieces_parted z (QueueWords (MessageQueue v)) (QueueWords (MessageQueue w)) here there apart = ways_parted z v w 0 0 here there (λ e k. apart (ap (λ u. QueueWords (MessageQueue u)) e))
pieces_parted z (QueueWords (MessageQueue v)) (QueueWords (ReturningQueue w)) here there apart = ways_parted z v w 0 1 here there (λ e k. absurd (omega arith))
pieces_parted z (QueueWords (MessageQueue v)) (StateWord w) here there apart = ways_parted z v w 0 2 here (inr there) (λ e k. absurd (omega arith))
pieces_parted z (QueueWords (ReturningQueue v)) (Region q) here there apart = way_parted z q v 1
pieces_parted z (QueueWords (ReturningQueue v)) (QueueWords (MessageQueue w)) here there apart = ways_parted z v w 1 0 here there (λ e k. absurd (omega arith))
pieces_parted z (QueueWords (ReturningQueue v)) (QueueWords (ReturningQueue w)) here there apart = ways_parted z v w 1 1 here there (λ e k. apart (ap (λ u. QueueWords (ReturningQueue u)) e))
pieces_parted z (QueueWords (ReturningQueue v)) (StateWord w) here there apart = ways_parted z v w 1 2 here (inr there) (λ e k. absurd (omega arith))
pieces_parted z (StateWord v) (Region q) here there apart = way_parted z q v 2
pieces_parted z (StateWord v) (QueueWords (MessageQueue w)) here there apart = ways_parted z v w 2 0 (inr here) there (λ e k. absurd (omega arith))
pieces_parted z (StateWord v) (QueueWords (ReturningQueue w)) here there apart = ways_parted z v w 2 1 (inr here) there (λ e k. absurd (omega arith))
pieces_parted z (StateWord v) (StateWord w) here there apart = ways_parted z v w 2 2 (inr here) (inr there) (λ e k. apart (ap (λ u. StateWord u) e))

pub pieces_are_apart : PiecesAreApart
pieces_are_apart z x y here there apart =
    parts_apart (wire_stretch z) (path_of z x) (path_of z y) (piece_there z x here) (piece_there z y there) (pieces_parted z x y here there apart)

pub pieces_are_within : PiecesAreWithin
pieces_are_within z x here = part_within (wire_stretch z) (path_of z x) (piece_there z x here)

-- ---- how many words each has

part_of_lane_is : (z : Sizes) (l k : ℕ) → stretch_size (part_at (lane_stretch z (l + 1)) (k ∷ [])) ≡ stretch_size (part_of_lane z k)
part_of_lane_is z l k = rw (no_lane l) refl

request_size : (z : Sizes) (w : Way) (k : ℕ) → IsRequestWay z w → stretch_size (part_at (wire_stretch z) (way_path z w k)) ≡ stretch_size (part_of_requests z k)
request_size z w k way = rw way.0 refl

response_size : (z : Sizes) (w : Way) (k : ℕ) → IsResponseWay z w → stretch_size (part_at (wire_stretch z) (way_path z w k)) ≡ stretch_size (part_of_lane z k)
response_size z w k way = rw way.0 (part_of_lane_is z w.lane k)

pub pieces_are_sized : PiecesAreSized
pieces_are_sized z = (
  λ port. refl,
  λ w way. (request_size z w 0 way, request_size z w 1 way),
  λ w way. (response_size z w 0 way, response_size z w 1 way, response_size z w 2 way),
)

pub piece_size-state : (z : Sizes) (w : Way) → IsResponseWay z w → piece_size z (StateWord w) ≡ 1
piece_size-state z w way = response_size z w 2 way
