-- The lists of the places of ports: how one is filled, and that each place is of a port.
use Rattle.std.specs.Prelude.{◌≡◌, ℕ, zero, suc, ◌+◌, ◌<◌, ◌≤◌, Bool, true, false, if◌then◌else◌, List, [], ◌∷◌, ◌++◌, map, filter, length, drop, Some, slice_get, refl}
use Rattle.std.proofs.Common.{sym, ap, subst, ◌∙◌, add-one, arith, append_assoc, append-nil, get_or}
use Rattle.std.proofs.Math.ListN.{drop_of_length-le}
use Rattle.std.proofs.lemmas.Option.{none-some, same_Some}
use Rattle.iox_model.specs.declared.kind.Role.{Role}
use Rattle.iox_model.specs.Settings.{same_role}
use Rattle.iox_tables.specs.HubStates.Tables.{PortState}
use Rattle.iox_tables.specs.HubStates.Wirings.{numbers_of_role}
use Rattle.iox_tables.proofs.Visiting.{drop_at}
use Rattle.iox_hub_ports.specs.InPlace.{places_from, places_of, roles_of}

-- ---- a list is filled

-- the places so far are listed, and the others are left to list
pub record Lists (role : Role) (ports : List PortState) (list : List ℕ) (i : ℕ) : Type 0 where
  pub comes : places_of role ports ≡ list ++ places_from role i (roles_of (drop i ports))
  pub size : length list ≤ i

pub begins : (role : Role) (ports : List PortState) (list : List ℕ) → list ≡ [] → Lists role ports list 0
begins role ports list e = subst (λ (ks : List ℕ). Lists role ports ks 0) (sym e) (record { comes = refl; size = omega arith })

one_more : (ks : List ℕ) (k : ℕ) → length (ks ++ k ∷ []) ≡ suc (length ks)
one_more [] k = refl
one_more (x ∷ xs) k = ap suc (one_more xs k)

pub lists_on : (role : Role) (ports : List PortState) (list now : List ℕ) (i : ℕ) (p : PortState) → Lists role ports list i → i < length ports → p ≡ get_or ports i p
    → now ≡ (if same_role p.role role then list ++ i ∷ [] else list) → Lists role ports now (i + 1)
lists_on role ports list now i p l h e put =
    subst (λ (ks : List ℕ). Lists role ports ks (i + 1)) (sym put) (step (same_role p.role role) refl)
  where
    rest : List ℕ
    rest = places_from role (i + 1) (roles_of (drop (suc i) ports))

    next : places_from role (i + 1) (roles_of (drop (suc i) ports)) ≡ places_from role (i + 1) (roles_of (drop (i + 1) ports))
    next = ap (λ (n : ℕ). places_from role (i + 1) (roles_of (drop n ports))) (sym (add-one i))

    here : places_of role ports ≡ list ++ (if same_role p.role role then i ∷ rest else rest)
    here = l.comes ∙ ap (λ (ps : List PortState). list ++ places_from role i (roles_of ps)) (drop_at ports i p h e)

    step : (b : Bool) → b ≡ same_role p.role role → Lists role ports (if b then list ++ i ∷ [] else list) (i + 1)
    step true f = record {
      comes = here ∙ ap (λ (b : Bool). list ++ (if b then i ∷ rest else rest)) (sym f)
          ∙ sym (append_assoc list (i ∷ []) rest) ∙ ap (λ ks. (list ++ i ∷ []) ++ ks) next;
      size = omega (arith, l.size, one_more list i);
    }
    step false f = record {
      comes = here ∙ ap (λ (b : Bool). list ++ (if b then i ∷ rest else rest)) (sym f) ∙ ap (λ ks. list ++ ks) next;
      size = omega (arith, l.size);
    }

pub lists_all : (role : Role) (ports : List PortState) (list : List ℕ) (i : ℕ) → Lists role ports list i → length ports ≤ i → list ≡ places_of role ports
lists_all role ports list i l h =
    sym (l.comes ∙ ap (λ (ps : List PortState). list ++ places_from role i (roles_of ps)) (drop_of_length-le ports h) ∙ append-nil list)

-- ---- each place is of a port

within_from : (role : Role) (ports : List PortState) (k i n : ℕ) → slice_get (places_from role k (roles_of ports)) i ≡ Some n → n < k + length ports
within_from role [] k i n e = absurd (none-some n e)
within_from role (p ∷ ps) k i n e = step (same_role p.role role) i (λ j f. within_from role ps (k + 1) j n f) e
  where
    later : n < (k + 1) + length ps → n < k + suc (length ps)
    later below = omega (arith, below)

    step : (b : Bool) (j : ℕ) → ((m : ℕ) → slice_get (places_from role (k + 1) (roles_of ps)) m ≡ Some n → n < (k + 1) + length ps)
        → slice_get (if b then k ∷ places_from role (k + 1) (roles_of ps) else places_from role (k + 1) (roles_of ps)) j ≡ Some n
        → n < k + suc (length ps)
    step true zero rest f = omega (arith, same_Some k n f)
    step true (suc j) rest f = later (rest j f)
    step false j rest f = later (rest j f)

pub is_of_port : (role : Role) (ports : List PortState) (i n : ℕ) → slice_get (places_of role ports) i ≡ Some n → n < length ports
is_of_port role ports i n e = let below : n < 0 + length ports = within_from role ports 0 i n e in omega (arith, below)

-- ---- the place of a rank is that of the number of that rank

record AtRank (role : Role) (ps : List PortState) (k r i : ℕ) : Type 0 where
  at : ℕ
  is : i ≡ k + at
  port : PortState
  there : slice_get ps at ≡ Some port
  number : slice_get (numbers_of_role role ps) r ≡ Some port.number
  of_role : same_role port.role role ≡ true

rank_from_place : (role : Role) (ps : List PortState) (k r i : ℕ) → slice_get (places_from role k (roles_of ps)) r ≡ Some i → AtRank role ps k r i
rank_from_place role [] k r i e = absurd (none-some i e)
rank_from_place role (p ∷ ps) k r i e = step (same_role p.role role) refl r (λ n h. rank_from_place role ps (k + 1) n i h) e
  where
    numbers : Bool → List ℕ
    numbers b =
        map (λ (q : PortState). q.number)
        (if b then p ∷ filter (λ (q : PortState). same_role q.role role) ps else filter (λ (q : PortState). same_role q.role role) ps)

    places : Bool → List ℕ
    places b = if b then k ∷ places_from role (k + 1) (roles_of ps) else places_from role (k + 1) (roles_of ps)

    later : (b : Bool) (n m : ℕ) → same_role p.role role ≡ b → slice_get (numbers b) m ≡ slice_get (numbers_of_role role ps) n
        → AtRank role ps (k + 1) n i → AtRank role (p ∷ ps) k m i
    later b n m f same a = record {
      at = suc a.at;
      is = omega (arith, a.is);
      port = a.port;
      there = a.there;
      number = ap (λ (c : Bool). slice_get (numbers c) m) f ∙ same ∙ a.number;
      of_role = a.of_role;
    }

    step : (b : Bool) → same_role p.role role ≡ b → (n : ℕ)
        → ((m : ℕ) → slice_get (places_from role (k + 1) (roles_of ps)) m ≡ Some i → AtRank role ps (k + 1) m i)
        → slice_get (places b) n ≡ Some i → AtRank role (p ∷ ps) k n i
    step true f zero rest h = record {
      at = 0;
      is = omega (arith, same_Some k i h);
      port = p;
      there = refl;
      number = ap (λ (c : Bool). slice_get (numbers c) 0) f;
      of_role = f;
    }
    step true f (suc n) rest h = later true n (suc n) f refl (rest n h)
    step false f n rest h = later false n n f refl (rest n h)

pub port_of_rank : (role : Role) (ports : List PortState) (r i : ℕ) → slice_get (places_of role ports) r ≡ Some i
    → (p : PortState) × (slice_get ports i ≡ Some p) × (slice_get (numbers_of_role role ports) r ≡ Some p.number) × (same_role p.role role ≡ true)
port_of_rank role ports r i e =
    let a : AtRank role ports 0 r i = rank_from_place role ports 0 r i e in
    let same : i ≡ a.at = omega (arith, a.is) in
    (a.port, ap (λ (n : ℕ). slice_get ports n) same ∙ a.there, a.number, a.of_role)
