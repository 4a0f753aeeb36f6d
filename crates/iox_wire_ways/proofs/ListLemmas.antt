-- What is listed of the ports of a plan, one after another.
use Rattle.std.proofs.Common.{◌≡◌, ℕ, zero, suc, ◌+◌, ◌<◌, ◌≤◌, Bool, true, false, not, ◌&&◌, if◌then◌else◌, List, [], ◌∷◌, ◌++◌, length, map, take, get_or, Some, None, refl, ap, ap₂, sym, ◌∙◌, arith, true≢false}
use Rattle.std.specs.Prelude.{Option, filter, slice_get}
use Rattle.std.specs.Option.{option_map_or}
use Rattle.std.proofs.Math.Seq.{take-suc}
use Rattle.std.proofs.lemmas.List.{map-append}
use Rattle.std.proofs.lemmas.List.Elements.{filter-append}
use Rattle.std.proofs.lemmas.Option.{slice_get-get_or}
use Rattle.iox_model.specs.declared.kind.Role.{Role}
use Rattle.iox_model.specs.Maps.{has_number}
use Rattle.iox_model.specs.Peers.{others}
use Rattle.iox_model.specs.Settings.{same_role}
use Rattle.iox_model.specs.States.{Port}
use Rattle.iox_wire_messages.specs.PlanPort.{PlanPort}
use Rattle.iox_wire_messages.specs.WirePlan.{WirePlan}
use Rattle.iox_wire_messages.specs.Plans.{IsPlan, number_at}
use Rattle.iox_wire_messages.proofs.PlanLemmas.{number_is}
use Rattle.iox_wire_messages.proofs.PairLemmas.{one_of}
use Rattle.iox_wire_messages.specs.Programs.{WireLayout}
use Rattle.iox_wire_messages.specs.Seat.{Seat}
use Rattle.iox_wire_messages.specs.Known.{known}
use Rattle.iox_wire_messages.specs.Tables.{Setting}
use Rattle.iox_wire_messages.specs.PlansOf.{AreAsPlanned, IsSettingOf}
use Rattle.iox_wire_ways.specs.Visits.{is_other, made_at}

-- ---- those of the ports so far

abbrev pub with_one : (A : Type 0) → List A → Option A → List A
with_one A xs None = xs
with_one A xs (Some x) = xs ++ x ∷ []

abbrev pub made_before : (A : Type 0) → WirePlan → (PlanPort → Bool) → (ℕ → A) → ℕ → List A
made_before A plan visits make zero = []
made_before A plan visits make (suc k) = with_one A (made_before A plan visits make k) (made_at A plan visits make k)

pub one_more : (A : Type 0) (plan : WirePlan) (visits : PlanPort → Bool) (make : ℕ → A) (k : ℕ)
    → made_before A plan visits make (k + 1) ≡ with_one A (made_before A plan visits make k) (made_at A plan visits make k)
one_more A plan visits make k = let e : k + 1 ≡ suc k = omega arith in ap (made_before A plan visits make) e

-- what is so of a list, and stays so with each that is made, is so of all
pub all_made : (A : Type 0) (plan : WirePlan) (visits : PlanPort → Bool) (make : ℕ → A) (Q : List A → Type 0) → Q []
    → ((xs : List A) (i : ℕ) → option_map_or visits (slice_get plan.ports.items i) false ≡ true → Q xs → Q (xs ++ make i ∷ []))
    → (k : ℕ) → Q (made_before A plan visits make k)
all_made A plan visits make Q none more zero = none
all_made A plan visits make Q none more (suc k) =
    by_case (option_map_or visits (slice_get plan.ports.items k) false) refl (all_made A plan visits make Q none more k)
  where
    by_case : (b : Bool) → option_map_or visits (slice_get plan.ports.items k) false ≡ b → Q (made_before A plan visits make k)
        → Q (with_one A (made_before A plan visits make k) (if b then Some (make k) else None))
    by_case true is so = more (made_before A plan visits make k) k is so
    by_case false is so = so

-- ---- their ways

abbrev pub visited : (PlanPort → Bool) → List PlanPort → List ℕ
visited visits qs = map (λ q. q.number) (filter visits qs)

visited_append : (visits : PlanPort → Bool) (xs ys : List PlanPort) → visited visits (xs ++ ys) ≡ visited visits xs ++ visited visits ys
visited_append visits xs ys =
    ap (map (λ (q : PlanPort). q.number)) (filter-append visits xs ys)
    ∙ map-append (λ (q : PlanPort). q.number) (filter visits xs) (filter visits ys)

module _ (A W : Type 0) (plan : WirePlan) (is : IsPlan plan) (visits : PlanPort → Bool) (make : ℕ → A) (way : A → W) (to : ℕ → W)
    (ways_are : (i : ℕ) → way (make i) ≡ to (number_at plan i)) where
  one_way : (k : ℕ) (d : PlanPort) → k < length plan.ports.items → (b : Bool) → visits (get_or plan.ports.items k d) ≡ b
      → map way (with_one A (made_before A plan visits make k) (if b then Some (make k) else None))
      ≡ map way (made_before A plan visits make k) ++ map to (visited visits (get_or plan.ports.items k d ∷ []))
  one_way k d low true e =
      map-append way (made_before A plan visits make k) (make k ∷ [])
      ∙ ap (λ (w : W). map way (made_before A plan visits make k) ++ w ∷ []) (ways_are k ∙ ap to (number_is plan is.numbers k d low))
      ∙ sym (ap (λ (b : Bool). map way (made_before A plan visits make k)
      ++ map to (map (λ (q : PlanPort). q.number) (if b then get_or plan.ports.items k d ∷ [] else []))) e)
  one_way k d low false e =
      sym (nothing (map way (made_before A plan visits make k)))
      ∙ sym (ap (λ (b : Bool). map way (made_before A plan visits make k)
      ++ map to (map (λ (q : PlanPort). q.number) (if b then get_or plan.ports.items k d ∷ [] else []))) e)
    where
      nothing : (ws : List W) → ws ++ [] ≡ ws
      nothing [] = refl
      nothing (w ∷ ws) = ap (λ vs. w ∷ vs) (nothing ws)

  ways_before : (k : ℕ) → k ≤ length plan.ports.items
      → map way (made_before A plan visits make k) ≡ map to (visited visits (take k plan.ports.items))
  ways_before zero low = refl
  ways_before (suc k) low =
      let under : k < length plan.ports.items = omega (arith, low) in
      let d : PlanPort = one_of plan.ports.items k under in
      ap (λ (o : Option PlanPort). map way (with_one A (made_before A plan visits make k)
      (if option_map_or visits o false then Some (make k) else None))) (slice_get-get_or plan.ports.items k d under)
      ∙ one_way k d under (visits (get_or plan.ports.items k d)) refl
      ∙ ap (λ ws. ws ++ map to (visited visits (get_or plan.ports.items k d ∷ []))) (ways_before k (omega (arith, low)))
      ∙ sym (
      ap (λ qs. map to (visited visits qs)) (take-suc plan.ports.items k d under)
      ∙ ap (map to) (visited_append visits (take k plan.ports.items) (get_or plan.ports.items k d ∷ []))
      ∙ map-append to (visited visits (take k plan.ports.items)) (visited visits (get_or plan.ports.items k d ∷ []))
      )

  pub all_ways : (k : ℕ) → k ≡ length plan.ports.items
      → map way (made_before A plan visits make k) ≡ map to (visited visits plan.ports.items)
  all_ways k all =
      ways_before k (omega (arith, all))
      ∙ ap (λ n. map to (visited visits (take n plan.ports.items))) all
      ∙ ap (λ qs. map to (visited visits qs)) (whole plan.ports.items)
    where
      whole : (qs : List PlanPort) → take (length qs) qs ≡ qs
      whole [] = refl
      whole (q ∷ qs) = ap (λ rest. q ∷ rest) (whole qs)

-- their numbers
pub all_numbers : (A : Type 0) (plan : WirePlan) → IsPlan plan → (visits : PlanPort → Bool) (make : ℕ → A) (number : A → ℕ)
    → ((i : ℕ) → number (make i) ≡ number_at plan i) → (k : ℕ) → k ≡ length plan.ports.items
    → map number (made_before A plan visits make k) ≡ visited visits plan.ports.items
all_numbers A plan is visits make number numbers_are k all =
    all_ways A ℕ plan is visits make number (λ n. n) numbers_are k all ∙ same (visited visits plan.ports.items)
  where
    same : (ns : List ℕ) → map (λ n. n) ns ≡ ns
    same [] = refl
    same (n ∷ ns) = ap (λ ks. n ∷ ks) (same ns)

-- ---- the ports that a node did not forget

pub left_are : (role : Role) (forgot : List ℕ) (qs : List PlanPort) (rs : List Port) → AreAsPlanned qs rs
    → visited (is_other role forgot) qs ≡ map (λ r. r.number) (filter (λ r. same_role r.role role && not (has_number r.node forgot)) rs)
left_are role forgot [] [] like = refl
left_are role forgot [] (r ∷ rs) like = absurd like
left_are role forgot (q ∷ qs) [] like = absurd like
left_are role forgot (q ∷ qs) (r ∷ rs) like =
    step (is_other role forgot q) (same_role r.role role && not (has_number r.node forgot))
    (ap₂ (λ kind node. same_role kind role && not (has_number node forgot)) like.0.role like.0.node) (left_are role forgot qs rs like.1)
  where
    step : (a b : Bool) → b ≡ a
        → visited (is_other role forgot) qs ≡ map (λ r. r.number) (filter (λ r. same_role r.role role && not (has_number r.node forgot)) rs)
        → map (λ q. q.number) (if a then q ∷ filter (is_other role forgot) qs else filter (is_other role forgot) qs)
        ≡ map (λ r. r.number) (if b then r ∷ filter (λ r. same_role r.role role && not (has_number r.node forgot)) rs
        else filter (λ r. same_role r.role role && not (has_number r.node forgot)) rs)
    step true true e rest = ap₂ (λ k ks. k ∷ ks) (sym like.0.number) rest
    step false false e rest = rest
    step true false e rest = absurd (true≢false (sym e))
    step false true e rest = absurd (true≢false e)

pub others_are : (plan : WirePlan) (p : Setting) (x : Seat) (role : Role) (node : ℕ) → IsSettingOf plan p
    → visited (is_other role x.forgot) plan.ports.items ≡ others (known p x) node role
others_are plan p x role node setting =
    left_are role x.forgot plan.ports.items (map p.port (map (λ q. q.number) plan.ports.items)) setting.is_for.ports
    ∙ ap (λ (l : WireLayout). map (λ r. r.number) (filter (λ r. same_role r.role role && not (has_number r.node x.forgot)) (map p.port l.sizes.ports)))
    (sym setting.layout)
