-- Ports as planned: what is found by a number in both lists agrees.
use Rattle.std.specs.Prelude.{filter, if◌then◌else◌}
use Rattle.std.specs.List.{find, All}
use Rattle.std.specs.Option.{option_map_or}
use Rattle.std.proofs.Common.{◌≡◌, ℕ, Bool, true, false, ◌==◌, eqb-true, List, [], ◌∷◌, map, refl, ap, ap₂, sym, inl, inr, true≢false, Some}
use Rattle.std.proofs.lemmas.Bool.{cases_Bool}
use Rattle.std.proofs.lemmas.List.Elements.{All-cons, All-head, All-nil, All-tail}
use Rattle.iox_model.specs.declared.kind.Role.{Role}
use Rattle.iox_model.specs.Maps.{has_number}
use Rattle.iox_model.specs.Settings.{same_role}
use Rattle.iox_model.specs.States.{Port}
use Rattle.iox_word_places.specs.declared.plan.PlanPort.{PlanPort}
use Rattle.iox_wire_layouts.specs.PlansOf.{AreAsPlanned, IsAsPlanned}

abbrev numbers : List PlanPort → List ℕ
numbers qs = map (λ q. q.number) qs

pub same_numbers : (qs : List PlanPort) (rs : List Port) → AreAsPlanned qs rs → map (λ r. r.number) rs ≡ numbers qs
same_numbers [] [] like = refl
same_numbers [] (r ∷ rs) like = absurd like
same_numbers (q ∷ qs) [] like = absurd like
same_numbers (q ∷ qs) (r ∷ rs) like = ap₂ (λ k ks. k ∷ ks) like.0.number (same_numbers qs rs like.1)

-- the numbers of those of a role
pub same_names : (role : Role) (qs : List PlanPort) (rs : List Port) → AreAsPlanned qs rs
    → map (λ q. q.number) (filter (λ q. same_role q.role role) qs) ≡ map (λ r. r.number) (filter (λ r. same_role r.role role) rs)
same_names role [] [] like = refl
same_names role [] (r ∷ rs) like = absurd like
same_names role (q ∷ qs) [] like = absurd like
same_names role (q ∷ qs) (r ∷ rs) like =
    let rest = same_names role qs rs like.1 in
    step (same_role q.role role) (same_role r.role role) (ap (λ k. same_role k role) like.0.role) rest
  where
    step : (a b : Bool) → b ≡ a
        → map (λ q. q.number) (filter (λ q. same_role q.role role) qs) ≡ map (λ r. r.number) (filter (λ r. same_role r.role role) rs)
        → map (λ q. q.number) (if a then q ∷ filter (λ q. same_role q.role role) qs else filter (λ q. same_role q.role role) qs)
        ≡ map (λ r. r.number) (if b then r ∷ filter (λ r. same_role r.role role) rs else filter (λ r. same_role r.role role) rs)
    step true true e rest = ap₂ (λ k ks. k ∷ ks) (sym like.0.number) rest
    step false false e rest = rest
    step true false e rest = absurd (true≢false (sym e))
    step false true e rest = absurd (true≢false e)

-- what the port of a number has
pub same_found : {X : Type 0} (g : PlanPort → X) (h : Port → X) (d : X) (n : ℕ) → ((q : PlanPort) (r : Port) → IsAsPlanned q r → h r ≡ g q)
    → (qs : List PlanPort) (rs : List Port) → AreAsPlanned qs rs
    → option_map_or h (find (λ r. r.number == n) rs) d ≡ option_map_or g (find (λ q. q.number == n) qs) d
same_found g h d n same [] [] like = refl
same_found g h d n same [] (r ∷ rs) like = absurd like
same_found g h d n same (q ∷ qs) [] like = absurd like
same_found g h d n same (q ∷ qs) (r ∷ rs) like =
    step (q.number == n) (r.number == n) (ap (λ k. k == n) like.0.number) (same_found g h d n same qs rs like.1)
  where
    step : (a b : Bool) → b ≡ a
        → option_map_or h (find (λ r. r.number == n) rs) d ≡ option_map_or g (find (λ q. q.number == n) qs) d
        → option_map_or h (if b then Some r else find (λ r. r.number == n) rs) d ≡ option_map_or g (if a then Some q else find (λ q. q.number == n) qs) d
    step true true e rest = same q r like.0
    step false false e rest = rest
    step true false e rest = absurd (true≢false (sym e))
    step false true e rest = absurd (true≢false e)

-- ---- who has a number

-- a port of the list with that number, of which this is so
pub record Found (P : PlanPort → Type 0) (qs : List PlanPort) (n : ℕ) : Type 0 where
  pub port : PlanPort
  pub found : find (λ q. q.number == n) qs ≡ Some port
  pub number : port.number ≡ n
  pub so : P port

pub find_planned : (P : PlanPort → Type 0) (qs : List PlanPort) (n : ℕ) → All P qs → has_number n (numbers qs) ≡ true → Found P qs n
find_planned P [] n all has = absurd (true≢false (sym has))
find_planned P (q ∷ qs) n all has = elim (cases_Bool (q.number == n)) [
  | inl same ↦ record {
    port = q;
    found = rw same refl;
    number = eqb-true q.number n same;
    so = All-head P q qs all;
  }
  | inr other ↦ (
      let rest : Found P qs n = find_planned P qs n (All-tail P q qs all) (rw other at has) in
      record {
        port = rest.port;
        found = rw other rest.found;
        number = rest.number;
        so = rest.so;
      }
      )
]

-- a port of a setting, by its number, is as planned
pub each_planned : (ports : ℕ → Port) (qs : List PlanPort) → AreAsPlanned qs (map ports (numbers qs)) → All (λ q. IsAsPlanned q (ports q.number)) qs
each_planned ports [] like = All-nil (λ q. IsAsPlanned q (ports q.number))
each_planned ports (q ∷ qs) like =
    All-cons (λ q. IsAsPlanned q (ports q.number)) q qs like.0 (each_planned ports qs like.1)

pub all_and : {X : Type 0} (P Q : X → Type 0) (xs : List X) → All P xs → All Q xs → All (λ x. P x × Q x) xs
all_and P Q [] a b = All-nil (λ x. P x × Q x)
all_and P Q (x ∷ xs) a b =
    All-cons (λ x. P x × Q x) x xs (All-head P x xs a, All-head Q x xs b) (all_and P Q xs (All-tail P x xs a) (All-tail Q x xs b))
