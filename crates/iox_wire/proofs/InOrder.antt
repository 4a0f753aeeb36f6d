-- Nodes that stand at the places of their numbers.
use Rattle.std.specs.Prelude.{position}
use Rattle.std.specs.List.{position_or_len}
use Rattle.std.specs.Option.{option_map_or}
use Rattle.std.proofs.Common.{◌≡◌, ℕ, ◌<◌, ◌≤◌, ◌+◌, ◌==◌, Bool, true, false, cond, List, length, get_or, Some, None, ap, ap₂, arith, nat_lt, refl, slice_set, subst, sym, inl, inr, ◌∙◌}
use Rattle.std.proofs.lemmas.Bool.{cases_Bool, ltb-false, ltb-true}
use Rattle.std.proofs.lemmas.List.{length-set}
use Rattle.std.proofs.lemmas.List.Folds.{position_or_len-set}
use Rattle.iox_laws.proofs.WeaveLedger.Truths.{none-some}
use Rattle.iox_wire_weaves.specs.Wires.{WireNode}
use Rattle.iox_wire.specs.Kept.{StandInOrder}

-- one more does, if it is first at the place of its number
pub one_more_in_order : (k : ℕ) (nodes : List WireNode) → StandInOrder k nodes → position (λ x. x.number == k) nodes ≡ Some k → StandInOrder (k + 1) nodes
one_more_in_order k nodes so_far last n low = elim (cases_Bool (nat_lt n k)) [
  | inl before ↦ so_far n (ltb-true n k before)
  | inr after ↦ (
      let e : n ≡ k = same n k low (ltb-false n k after) in
      subst (λ m. position (λ (x : WireNode). x.number == m) nodes ≡ Some m) (sym e) last
      )
]
  where
    same : (a b : ℕ) → a < b + 1 → b ≤ a → a ≡ b
    same a b low high = omega (arith, low, high)

-- they still do as one of the same number takes a node's place
pub in_order_still : (k : ℕ) (nodes : List WireNode) (i : ℕ) (d y : WireNode) → d ≡ get_or nodes i d → y.number ≡ d.number → StandInOrder k nodes
    → StandInOrder k (slice_set nodes i y)
in_order_still k nodes i d y read number so n low =
    ap₂ (λ at len. cond (nat_lt at len) (Some at) None)
    (position_or_len-set (λ (x : WireNode). x.number == n) nodes i y d (ap (λ m. m == n) number ∙ ap (λ (x : WireNode). x.number == n) read))
    (length-set nodes i y)
    ∙ so n low

-- a node that stands in order is there
pub within_if_in_order : (k : ℕ) (nodes : List WireNode) (n : ℕ) → StandInOrder k nodes → n < k → n < length nodes
within_if_in_order k nodes n so low = by_length (nat_lt (position_or_len (λ (x : WireNode). x.number == n) nodes) (length nodes)) refl (so n low)
  where
    by_length : (t : Bool) → nat_lt (position_or_len (λ (x : WireNode). x.number == n) nodes) (length nodes) ≡ t
        → cond t (Some (position_or_len (λ (x : WireNode). x.number == n) nodes)) None ≡ Some n → n < length nodes
    by_length true is at =
        subst (λ i. i < length nodes) (ap (λ o. option_map_or (λ i. i) o 0) at)
        (ltb-true (position_or_len (λ (x : WireNode). x.number == n) nodes) (length nodes) is)
    by_length false is at = none-some n at
