-- The nodes of a wire that opens, and that a node counts its accesses.
use Rattle.std.specs.Prelude.{is_some}
use Rattle.std.specs.Option.{option_map_or}
use Rattle.std.proofs.Common.{◌≡◌, ℕ, ◌==◌, List, [], ◌∷◌, ◌++◌, Some, refl, ap, sym, subst, ◌∙◌, eqb-true, inl, inr}
use Rattle.std.proofs.lemmas.Bool.{cases_Bool}
use Rattle.iox_model.specs.Maps.{has_number}
use Rattle.iox_laws.proofs.WeaveLedger.Truths.{none-some}
use Rattle.iox_wire_weaves.specs.WirePlan.{WirePlan}
use Rattle.iox_wire_weaves.specs.CallAt.{CallAt}
use Rattle.iox_wire_weaves.specs.CallAt.TheVariants as at
use Rattle.iox_wire_weaves.specs.Nodes.{NodeView, seat_at}
use Rattle.iox_wire_weaves.specs.Wires.{WireNode, node_at}
use Rattle.iox_wire.specs.Kept.{AreOpened, IsOpenedNode}

-- a node counts its accesses whatever its call is
pub counted_at : (x : NodeView) (c : CallAt) → (seat_at c x).accesses ≡ x.seat.seat.accesses
counted_at x at.Seats = refl
counted_at x at.Receives = refl
counted_at x at.Lends = refl
counted_at x at.SendsRequest = refl
counted_at x at.SendsResponse = refl
counted_at x at.CopiesRequest = refl
counted_at x at.CopiesResponse = refl

pub opened_more : (plan : WirePlan) (ns : List ℕ) (xs : List WireNode) (n : ℕ) (x : WireNode) → AreOpened plan ns xs → IsOpenedNode plan n x
    → AreOpened plan (ns ++ n ∷ []) (xs ++ x ∷ [])
opened_more plan [] [] n x opened one = (one, tt)
opened_more plan [] (y ∷ xs) n x opened one = absurd opened
opened_more plan (m ∷ ns) [] n x opened one = absurd opened
opened_more plan (m ∷ ns) (y ∷ xs) n x opened one = (opened.0, opened_more plan ns xs n x opened.1 one)

-- one is there for each of the numbers
pub opened_has : (plan : WirePlan) (ns : List ℕ) (xs : List WireNode) (n : ℕ) → AreOpened plan ns xs → is_some (node_at n xs) ≡ has_number n ns
opened_has plan [] [] n opened = refl
opened_has plan [] (y ∷ xs) n opened = absurd opened
opened_has plan (m ∷ ns) [] n opened = absurd opened
opened_has plan (m ∷ ns) (y ∷ xs) n opened =
    let same : (y.number == n) ≡ (m == n) = ap (λ k. k == n) opened.0.number_is in
    elim (cases_Bool (m == n)) [
      | inl here ↦ rw (same ∙ here, here) refl
      | inr apart ↦ rw (same ∙ apart, apart) (opened_has plan ns xs n opened.1)
    ]

pub opened_node : (plan : WirePlan) (ns : List ℕ) (xs : List WireNode) (n : ℕ) (x : WireNode) → AreOpened plan ns xs → node_at n xs ≡ Some x
    → IsOpenedNode plan n x
opened_node plan [] [] n x opened there = absurd (none-some x there)
opened_node plan [] (y ∷ xs) n x opened there = absurd opened
opened_node plan (m ∷ ns) [] n x opened there = absurd opened
opened_node plan (m ∷ ns) (y ∷ xs) n x opened there = elim (cases_Bool (y.number == n)) [
  | inl here ↦ (
      let e : Some y ≡ Some x = sym (rw here refl) ∙ there in
      let k : m ≡ n = sym opened.0.number_is ∙ eqb-true y.number n here in
      subst (λ (z : WireNode). IsOpenedNode plan n z) (some_same y x e) (subst (λ i. IsOpenedNode plan i y) k opened.0)
      )
  | inr apart ↦ opened_node plan ns xs n x opened.1 (rw apart at there)
]
  where
    some_same : (a b : WireNode) → Some a ≡ Some b → a ≡ b
    some_same a b same = ap (λ o. option_map_or (λ v. v) o a) same
