-- Sums over the ports of a plan: each is a client or a server, and those of a node are counted apart.
use Rattle.std.specs.Prelude.{filter}
use Rattle.std.specs.List.{sum_by}
use Rattle.std.proofs.Common.{◌≡◌, ℕ, suc, ◌+◌, Bool, true, false, if◌then◌else◌, List, [], ◌∷◌, length, map, refl, ap, sym, ◌∙◌, arith}
use Rattle.std.proofs.lemmas.List.Sums.{sum_by-cons}
use Rattle.iox_model.specs.declared.kind.Role.{Role}
use Rattle.iox_model.specs.declared.kind.Role.TheVariants.{Client, Server}
use Rattle.iox_model.specs.Settings.{same_role}
use Rattle.iox_wire_weaves.specs.PlanPort.{PlanPort}

abbrev names : Role → List PlanPort → List ℕ
names role qs = map (λ (q : PlanPort). q.number) (filter (λ (q : PlanPort). same_role q.role role) qs)

pub both_roles : (qs : List PlanPort) → length (map (λ (q : PlanPort). q.number) (filter (λ (q : PlanPort). same_role q.role Client) qs))
    + length (map (λ (q : PlanPort). q.number) (filter (λ (q : PlanPort). same_role q.role Server) qs)) ≡ length qs
both_roles [] = refl
both_roles (q ∷ qs) = by_role q.role (both_roles qs)
  where
    first : (a b c : ℕ) → a + b ≡ c → suc a + b ≡ suc c
    first a b c is = omega (arith, is)

    second : (a b c : ℕ) → a + b ≡ c → a + suc b ≡ suc c
    second a b c is = omega (arith, is)

    by_role : (role : Role) → length (names Client qs) + length (names Server qs) ≡ length qs
        → length (map (λ (k : PlanPort). k.number) (if same_role role Client then q ∷ filter (λ (k : PlanPort). same_role k.role Client) qs else filter (λ (k : PlanPort). same_role k.role Client) qs))
        + length (map (λ (k : PlanPort). k.number) (if same_role role Server then q ∷ filter (λ (k : PlanPort). same_role k.role Server) qs else filter (λ (k : PlanPort). same_role k.role Server) qs)) ≡ suc (length qs)
    by_role Client rest = first (length (names Client qs)) (length (names Server qs)) (length qs) rest
    by_role Server rest = second (length (names Client qs)) (length (names Server qs)) (length qs) rest

-- the sum of those that pass a test
pub sum_of_some : (f : PlanPort → ℕ) (test : PlanPort → Bool) (qs : List PlanPort) → sum_by (λ q. if test q then f q else 0) qs ≡ sum_by f (filter test qs)
sum_of_some f test [] = refl
sum_of_some f test (q ∷ qs) = sum_by-cons (λ k. if test k then f k else 0) q qs ∙ by_case (test q) (sum_of_some f test qs)
  where
    nothing : (k : ℕ) → 0 + k ≡ k
    nothing k = omega arith

    by_case : (b : Bool) → sum_by (λ k. if test k then f k else 0) qs ≡ sum_by f (filter test qs)
        → (if b then f q else 0) + sum_by (λ k. if test k then f k else 0) qs ≡ sum_by f (if b then q ∷ filter test qs else filter test qs)
    by_case true rest = ap (λ k. f q + k) rest ∙ sym (sum_by-cons f q (filter test qs))
    by_case false rest = nothing (sum_by (λ k. if test k then f k else 0) qs) ∙ rest
