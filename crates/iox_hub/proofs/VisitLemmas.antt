-- What a loop over the ports finds next.
use Rattle.std.specs.Prelude.{◌≡◌, ℕ, zero, suc, ◌<◌, ◌≤◌, ◌+◌, Bool, true, false, if◌then◌else◌, List, [], ◌∷◌, length, drop, map, filter, Option, Some, None, refl}
use Rattle.std.proofs.Common.{ap, ◌∙◌, arith}
use Rattle.iox_types.specs.declared.identifiers.system_id.UniqueSystemId.{UniqueSystemId}
use Rattle.iox_model.specs.declared.kind.Role.{Role}
use Rattle.iox_model.specs.Settings.{same_role}
use Rattle.iox_hub_ports.specs.Ports.{info_at}
use Rattle.iox_tables.specs.HubStates.Tables.{PortState}
use Rattle.iox_hub.specs.Listings.{role_id, role_ids}

-- the ids from the next place on, where one is told there
abbrev with_id : Option UniqueSystemId → List UniqueSystemId → List UniqueSystemId
with_id None ids = ids
with_id (Some id) ids = id ∷ ids

first_id : (role : Role) (p : PortState) (ps : List PortState) → role_ids role (p ∷ ps) ≡ with_id (if same_role p.role role then Some p.id else None) (role_ids role ps)
first_id role p ps = by_case (same_role p.role role)
  where
    by_case : (b : Bool) → map (λ (q : PortState). q.id) (if b then p ∷ filter (λ q. same_role q.role role) ps else filter (λ q. same_role q.role role) ps)
        ≡ with_id (if b then Some p.id else None) (role_ids role ps)
    by_case true = refl
    by_case false = refl

next_id : (role : Role) (ports : List PortState) (at : ℕ) → at < length ports
    → role_ids role (drop at ports) ≡ with_id (role_id role (info_at ports at)) (role_ids role (drop (suc at) ports))
next_id role [] at low = absurd (omega (arith, low))
next_id role (p ∷ ps) zero low = first_id role p ps
next_id role (p ∷ ps) (suc at) low = next_id role ps at (omega (arith, low))

pub one_visited : (role : Role) (ports : List PortState) (at : ℕ) (id : UniqueSystemId) → at < length ports → role_id role (info_at ports at) ≡ Some id
    → role_ids role (drop at ports) ≡ id ∷ role_ids role (drop (at + 1) ports)
one_visited role ports at id low is =
    next_id role ports at low ∙ ap (λ o. with_id o (role_ids role (drop (suc at) ports))) is ∙ ap (λ n. id ∷ role_ids role (drop n ports)) next
  where
    next : suc at ≡ at + 1
    next = omega arith

pub none_visited : (role : Role) (ports : List PortState) (at : ℕ) → at < length ports → role_id role (info_at ports at) ≡ None
    → role_ids role (drop at ports) ≡ role_ids role (drop (at + 1) ports)
none_visited role ports at low is =
    next_id role ports at low ∙ ap (λ o. with_id o (role_ids role (drop (suc at) ports))) is ∙ ap (λ n. role_ids role (drop n ports)) next
  where
    next : suc at ≡ at + 1
    next = omega arith

pub all_visited : (role : Role) (ports : List PortState) (at : ℕ) → length ports ≤ at → role_ids role (drop at ports) ≡ []
all_visited role [] zero low = refl
all_visited role [] (suc at) low = refl
all_visited role (p ∷ ps) zero low = absurd (omega (arith, low))
all_visited role (p ∷ ps) (suc at) low = all_visited role ps at (omega (arith, low))
