-- A plan of ones whose nodes and ports are not named well.
use Rattle.std.specs.Prelude.{IsSomeAnd, slice_get}
use Rattle.std.specs.List.{All}
use Rattle.std.proofs.Common.{◌≡◌, ℕ, ◌<◌, Bool, true, List, [], ◌∷◌, Option, Some, None, sym, arith, true≢false}
use Rattle.std.proofs.lemmas.List.Elements.{All-head, All-same, All-tail}
use Rattle.iox_model.specs.Maps.{has_number}
use Rattle.iox_word_places.specs.declared.plan.PlanPort.{PlanPort}
use Rattle.iox_word_places.specs.declared.plan.WirePlan.{WirePlan}
use Rattle.iox_wire_lenders.specs.Terms.{IsWholePort}
use Rattle.iox_wire_lenders.specs.declared.terms.WireTerms.{WireTerms}
use Rattle.iox_wire.specs.NewRefusals.{AreNamed}
use Rattle.iox_wire.specs.Wires.{AreWhole}
use Rattle.iox_rows_whole_wire.specs.Ones.{IsPlanOfOnes, client, server}

-- what holds of each port holds of the server
of_the_server : (a b : Bool) (plan : WirePlan) (P : PlanPort → Type 0) → IsPlanOfOnes a b plan → All P plan.ports.items → P server
of_the_server a b plan P is each =
    All-head P server [] (All-tail P client (server ∷ []) (All-same P (client ∷ server ∷ []) plan.ports.items (sym is.ports) each))

-- a node is listed twice
pub twice : (plan : WirePlan) (terms : WireTerms) → AreNamed plan terms (0 ∷ 1 ∷ 0 ∷ []) → ⊥
twice plan terms named = true≢false named.once.0

-- the server's node is not listed
pub unlisted : (a b : Bool) (plan : WirePlan) (terms : WireTerms) → IsPlanOfOnes a b plan → AreNamed plan terms (0 ∷ []) → ⊥
unlisted a b plan terms is named =
    true≢false (sym (of_the_server a b plan (λ (q : PlanPort). has_number q.node (0 ∷ []) ≡ true) is named.owners))

-- the server has the number of the first handle
pub taken : (a b : Bool) (plan : WirePlan) (terms : WireTerms) (ns : List ℕ) → IsPlanOfOnes a b plan → terms.first_number ≡ 1 → AreNamed plan terms ns → ⊥
taken a b plan terms ns is first named =
    let low : 1 < terms.first_number = of_the_server a b plan (λ (q : PlanPort). q.number < terms.first_number) is named.numbers in omega (arith, low, first)

some_still : {A : Type 0} (P Q : A → Type 0) (o : Option A) → ((x : A) → P x → Q x) → IsSomeAnd o P → IsSomeAnd o Q
some_still P Q None leads has = has
some_still P Q (Some x) leads has = leads x has

-- terms are whole whatever the number of the first handle is
pub whole_still : (plan : WirePlan) (terms : WireTerms) (first : ℕ) → AreWhole plan terms → AreWhole plan (record terms { first_number = first })
whole_still plan terms first whole = record {
  fit = record {
    ports = λ i low.
        some_still (IsWholePort plan terms) (IsWholePort plan (record terms { first_number = first })) (slice_get terms.ports.items i)
        (λ r is. record { ids = is.ids; each = is.each; all = is.all }) (whole.fit.ports i low);
    user = whole.fit.user;
  };
  slots = whole.slots;
  room = whole.room;
}
