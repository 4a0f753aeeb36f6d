-- Where a port stands that has a number, and what it is.
use Rattle.std.proofs.Common.{◌≡◌, ℕ, ◌<◌, ◌==◌, Bool, true, false, List, length, get_or, Some, None, refl, ap, sym, subst, ◌∙◌, eqb-true, true≢false}
use Rattle.std.specs.Prelude.{Option, IsSomeAnd, find, position, nat_lt, cond}
use Rattle.std.specs.List.{position_or_len}
use Rattle.std.specs.Option.{option_map_or}
use Rattle.std.proofs.lemmas.Bool.{ltb-false}
use Rattle.std.proofs.lemmas.List.Folds.{find_at}
use Rattle.std.proofs.lemmas.List.Quantifiers.{position-Some}
use Rattle.std.proofs.lemmas.Option.{none-some, slice_get-get_or, slice_get_past}
use Rattle.iox_model.specs.declared.kind.Role.{Role}
use Rattle.iox_model.specs.declared.kind.Role.TheVariants.{Client, Server}
use Rattle.iox_model.specs.Maps.{has_number}
use Rattle.iox_model.specs.Settings.{same_role}
use Rattle.iox_word_places.specs.declared.plan.PlanPort.{PlanPort}
use Rattle.iox_word_places.specs.declared.plan.WirePlan.{WirePlan}
use Rattle.iox_word_places.specs.Plans.{IsPlan, IsPortAt, IsLaneAt, number_at, numbers_of, port_of, sizes_of}
use Rattle.iox_word_places.proofs.PortLemmas.{port_named}
use Rattle.iox_word_places.proofs.PlanLemmas.{number_is, port_is}
use Rattle.iox_word_places.proofs.PairLemmas.{one_of}

-- ---- found or not

pub none_found : {X : Type 0} (t : X → Bool) (xs : List X) → position t xs ≡ None → find t xs ≡ None
none_found t xs none = by_case (nat_lt (position_or_len t xs) (length xs)) refl none
  where
    by_case : (b : Bool) → nat_lt (position_or_len t xs) (length xs) ≡ b
        → cond b (Some (position_or_len t xs)) None ≡ None → find t xs ≡ None
    by_case true is e = absurd (none-some (position_or_len t xs) (sym e))
    by_case false is e = find_at t xs ∙ slice_get_past xs (position_or_len t xs) (ltb-false _ _ is)

role_is : (a b : Role) → same_role a b ≡ true → a ≡ b
role_is Client Client e = refl
role_is Client Server e = absurd (true≢false (sym e))
role_is Server Client e = absurd (true≢false (sym e))
role_is Server Server e = refl

-- ---- a port of the plan with a number

module _ (plan : WirePlan) (is : IsPlan plan) (n : ℕ) where
  -- one that is of a role is found
  pub is_found : (role : Role) → has_number n (numbers_of plan role) ≡ true
      → position (λ (q : PlanPort). q.number == n) plan.ports.items ≡ None → ⊥
  is_found role has none =
      let named = port_named (λ q. same_role q.role role) n plan.ports.items is.numbers has in
      none-some named.0 (sym (none_found (λ (q : PlanPort). q.number == n) plan.ports.items none) ∙ named.1)

  module _ (i : ℕ) (low : i < length plan.ports.items) (at : Some i ≡ position (λ (q : PlanPort). q.number == n) plan.ports.items) where
    d : PlanPort
    d = one_of plan.ports.items i low

    pub number_there : number_at plan i ≡ n
    number_there =
        number_is plan is.numbers i d low
        ∙ eqb-true _ n (position-Some (λ (q : PlanPort). q.number == n) plan.ports.items i d (sym at)).1

    found : port_of plan n ≡ Some (get_or plan.ports.items i d)
    found = ap (port_of plan) (sym number_there) ∙ port_is plan is.numbers i d low

    role_there : (role : Role) → has_number n (numbers_of plan role) ≡ true → (get_or plan.ports.items i d).role ≡ role
    role_there role has =
        let named = port_named (λ q. same_role q.role role) n plan.ports.items is.numbers has in
        role_is _ role
        (subst (λ (o : Option PlanPort). IsSomeAnd o (λ q. same_role q.role role ≡ true)) (sym named.1 ∙ found) named.2)

    pub port_there : (role : Role) → has_number n (numbers_of plan role) ≡ true → IsPortAt plan role i
    port_there role has =
        subst (λ (o : Option PlanPort). IsSomeAnd o (λ q. q.role ≡ role)) (sym (slice_get-get_or plan.ports.items i d low))
        (role_there role has)

    pub lane_there : (lane : ℕ) → has_number n (numbers_of plan Client) ≡ true → lane < (sizes_of plan).lanes n → IsLaneAt plan i lane
    lane_there lane has below =
        subst (λ (o : Option PlanPort). IsSomeAnd o (λ q. (q.role ≡ Client) × (lane < q.pool))) (sym (slice_get-get_or plan.ports.items i d low))
        (role_there Client has, subst (λ (o : Option PlanPort). lane < option_map_or (λ q. q.pool) o 0) found below)
