-- The nodes of a wire by their numbers, and what calls answered.
use Rattle.std.specs.Prelude.{not, nat_le}
use Rattle.std.specs.Option.{option_map_or}
use Rattle.std.proofs.Common.{◌≡◌, ℕ, ◌<◌, Bool, true, false, ◌==◌, List, ◌++◌, Option, Some, None, refl, ap, sym, subst, ◌∙◌, eqb-true, inl, inr}
use Rattle.std.proofs.lemmas.Grind.{flat_map-append}
use Rattle.std.proofs.lemmas.Bool.{cases_Bool, leb-false}
use Rattle.iox_model.specs.Maps.{or_else, refused_if}
use Rattle.iox_model.specs.Weaves.{Beat}
use Rattle.iox_laws.proofs.WeaveLedger.Truths.{none-some}
use Rattle.iox_wire_nodes.specs.LocalsBegins.{is_busy}
use Rattle.iox_wire_nodes.specs.Tables.{Setting}
use Rattle.iox_wire_nodes.specs.Terms.{IsSettingWith}
use Rattle.iox_wire_nodes.specs.Nodes.{seat_in}
use Rattle.iox_wire_needs.specs.Openings.{opened_seat}
use Rattle.iox_wire_weaves.specs.declared.refusal.WireRefusal.TheVariants.{NodeIsDead, UnknownNode, AtRest, AccessesSpent}
use Rattle.iox_wire_weaves.specs.Laws.{Replaces}
use Rattle.iox_wire_weaves.specs.Steps.{most_accesses, rest_refusal, step_refusal}
use Rattle.iox_wire_weaves.specs.Wires.{WireData, WireNode, answer_in, answers_in, living_refusal, node_at, seat_of}

-- functions that agree everywhere are the same
pub fun_ext : {A B : Type 0} {f g : A → B} → ((x : A) → f x ≡ g x) → f ≡ g
fun_ext h = λ i x. h x i

-- ---- refusals

pub first_none : {A : Type 0} (a b : Option A) → or_else a b ≡ None → a ≡ None
first_none None b none = refl
first_none (Some r) b none = absurd (none-some r (sym none))

pub second_none : {A : Type 0} (a b : Option A) → or_else a b ≡ None → b ≡ None
second_none None b none = none
second_none (Some r) b none = absurd (none-some r (sym none))

pub not_refused : {A : Type 0} (b : Bool) (r : A) → refused_if b r ≡ None → b ≡ false
not_refused true r none = absurd (none-some r (sym none))
not_refused false r none = refl

pub is_not : (b : Bool) → not b ≡ false → b ≡ true
is_not true e = refl
is_not false e = sym e

-- a living node that makes a step is busy, and has accesses left
pub steps_on : (wire : WireData) (n : ℕ) (x : WireNode) → node_at n wire.nodes ≡ Some x → step_refusal wire n ≡ None
    → (living_refusal wire.nodes n ≡ None) × (is_busy (seat_in x.node).local ≡ true) × ((seat_in x.node).accesses < most_accesses)
steps_on wire n x at none =
    let alive : living_refusal wire.nodes n ≡ None = first_none (living_refusal wire.nodes n) (option_map_or rest_refusal (node_at n wire.nodes) None) none in
    let rest : rest_refusal x ≡ None
    = sym (ap (λ o. option_map_or rest_refusal o None) at) ∙ second_none (living_refusal wire.nodes n) (option_map_or rest_refusal (node_at n wire.nodes) None) none in
    let busy : is_busy (seat_in x.node).local ≡ true
    = is_not (is_busy (seat_in x.node).local) (not_refused (not (is_busy (seat_in x.node).local)) AtRest (first_none (refused_if (not (is_busy (seat_in x.node).local)) AtRest) (refused_if (nat_le most_accesses (seat_in x.node).accesses) AccessesSpent) rest)) in
    let few : nat_le most_accesses (seat_in x.node).accesses ≡ false
    = not_refused (nat_le most_accesses (seat_in x.node).accesses) AccessesSpent (second_none (refused_if (not (is_busy (seat_in x.node).local)) AtRest) (refused_if (nat_le most_accesses (seat_in x.node).accesses) AccessesSpent) rest) in
    (alive, busy, leb-false most_accesses (seat_in x.node).accesses few)

-- ---- one node in place of another

pub seat_there : (p : Setting) (nodes : List WireNode) (n : ℕ) (x : WireNode) → node_at n nodes ≡ Some x → seat_of p nodes n ≡ seat_in x.node
seat_there p nodes n x at = ap (λ o. option_map_or (λ (z : WireNode). seat_in z.node) o (opened_seat p n)) at

pub living_by : (nodes : List WireNode) (n : ℕ) (o : Option WireNode) → node_at n nodes ≡ o
    → living_refusal nodes n ≡ option_map_or (λ x. refused_if (not x.alive) NodeIsDead) o (Some UnknownNode)
living_by nodes n o at = ap (λ u. option_map_or (λ x. refused_if (not x.alive) NodeIsDead) u (Some UnknownNode)) at

-- those who live are the same, where the node lives as before
pub same_living : (old : List WireNode) (n : ℕ) (x y : WireNode) (new : List WireNode) → Replaces old n x y new → y.alive ≡ x.alive
    → (m : ℕ) → living_refusal new m ≡ living_refusal old m
same_living old n x y new puts alive m = elim (cases_Bool (m == n)) [
  | inl same ↦ (
      let e : m ≡ n = eqb-true m n same in
      living_by new m (Some y) (ap (λ k. node_at k new) e ∙ puts.here)
      ∙ ap (λ b. refused_if (not b) NodeIsDead) alive
      ∙ sym (living_by old m (Some x) (ap (λ k. node_at k old) e ∙ puts.before))
      )
  | inr other ↦ living_by new m (node_at m old) (puts.others m other)
]

-- the setting stays that of the plan and the terms
pub same_setting : (p : Setting) (old new : WireData) → new.plan ≡ old.plan → new.terms ≡ old.terms → IsSettingWith old.plan old.terms p
    → IsSettingWith new.plan new.terms p
same_setting p old new plan terms setting =
    subst (λ q. IsSettingWith q new.terms p) (sym plan) (subst (λ t. IsSettingWith old.plan t p) (sym terms) setting)

-- ---- answers

pub answers_on : (bs cs : List Beat) → answers_in (bs ++ cs) ≡ answers_in bs ++ answers_in cs
answers_on bs cs = flat_map-append answer_in bs cs
