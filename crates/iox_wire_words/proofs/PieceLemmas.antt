-- Pieces and queues are the same, or others.
use Rattle.std.proofs.Common.{◌≡◌, ◌⊎◌, Bool, true, false, ◌==◌, refl, ap, sym, subst, ◌∙◌, inl, inr, true≢false, eqb-true, eq-eqb}
use Rattle.std.proofs.lemmas.Bool.{cases_Bool}
use Rattle.iox_word_map.specs.Maps.{same_way}
use Rattle.iox_laws.proofs.WeaveLaws.MapLemmas.{same_way-refl, same_way-true}
use Rattle.iox_word_map.specs.WordMaps.{WireQueue, MessageQueue, ReturningQueue, Piece, Region, QueueWords, StateWord}
use Rattle.iox_wire_words.specs.Programs.{same_queue}

false-never : {A : Type 0} → false ≡ true → A
false-never e = absurd (true≢false (sym e))

pub same_queue-refl : (q : WireQueue) → same_queue q q ≡ true
same_queue-refl (MessageQueue v) = same_way-refl v
same_queue-refl (ReturningQueue v) = same_way-refl v

pub same_queue-true : (q r : WireQueue) → same_queue q r ≡ true → q ≡ r
same_queue-true (MessageQueue v) (MessageQueue w) e = ap (λ u. MessageQueue u) (same_way-true v w e)
same_queue-true (MessageQueue v) (ReturningQueue w) e = false-never e
same_queue-true (ReturningQueue v) (MessageQueue w) e = false-never e
same_queue-true (ReturningQueue v) (ReturningQueue w) e = ap (λ u. ReturningQueue u) (same_way-true v w e)

abbrev pub same_piece : Piece → Piece → Bool
same_piece (Region p) (Region q) = p == q
same_piece (QueueWords q) (QueueWords r) = same_queue q r
same_piece (StateWord v) (StateWord w) = same_way v w
same_piece x y = false

pub same_piece-true : (x y : Piece) → same_piece x y ≡ true → x ≡ y
same_piece-true (Region p) (Region q) e = ap (λ k. Region k) (eqb-true p q e)
same_piece-true (QueueWords q) (QueueWords r) e = ap (λ u. QueueWords u) (same_queue-true q r e)
same_piece-true (StateWord v) (StateWord w) e = ap (λ u. StateWord u) (same_way-true v w e)
same_piece-true x y e = false-never e

same_piece-refl : (x : Piece) → same_piece x x ≡ true
same_piece-refl (Region p) = eq-eqb p p refl
same_piece-refl (QueueWords q) = same_queue-refl q
same_piece-refl (StateWord v) = same_way-refl v

pub same_or_other : (x y : Piece) → (x ≡ y) ⊎ (x ≡ y → ⊥)
same_or_other x y = elim (cases_Bool (same_piece x y)) [
  | inl same ↦ inl (same_piece-true x y same)
  | inr other ↦ inr (λ e. true≢false (sym (subst (λ z. same_piece x z ≡ true) e (same_piece-refl x)) ∙ other))
]

-- pieces of another kind are others
pub never_same : {A : Type 0} (x y : Piece) → same_piece x y ≡ false → x ≡ y → A
never_same x y other e = absurd (true≢false (sym (subst (λ z. same_piece x z ≡ true) e (same_piece-refl x)) ∙ other))

abbrev queue_in : WireQueue → Piece → WireQueue
queue_in q (QueueWords r) = r
queue_in q x = q

pub queue_is : (q r : WireQueue) → QueueWords q ≡ QueueWords r → q ≡ r
queue_is q r e = ap (queue_in q) e

pub other_queue : (q r : WireQueue) → (QueueWords q ≡ QueueWords r → ⊥) → same_queue r q ≡ false
other_queue q r other = elim (cases_Bool (same_queue r q)) [
  | inl same ↦ absurd (other (ap (λ u. QueueWords u) (sym (same_queue-true r q same))))
  | inr apart ↦ apart
]
