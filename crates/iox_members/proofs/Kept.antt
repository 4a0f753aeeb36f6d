-- The list that is kept shows the machine's: what is found in it, and what changes of it show.
use Rattle.std.specs.Prelude.{◌≡◌, cond, ⊤, MatchOption, ℕ, zero, suc, ◌+◌, ◌<◌, ◌≤◌, Bool, true, false, not, ◌||◌, ◌==◌, List, [], ◌∷◌, length, map, filter, find, Option, Some, slice_index_or, slice_set, refl}
use Rattle.std.specs.List.{list_any}
use Rattle.std.specs.Option.{option_map, option_map_or}
use Rattle.std.proofs.Common.{ap, ap₂, sym, subst, ◌∙◌, arith, eqb-true}
use Rattle.iox_types.specs.declared.identifiers.system_id.UniqueSystemId.{UniqueSystemId}
use Rattle.iox_model.specs.Joins.{new_node, same_id}
use Rattle.iox_model.specs.Maps.{is_empty}
use Rattle.iox_model.specs.Services.{dies}
use Rattle.iox_model.specs.States.{Members, Node}
use Rattle.iox_members.specs.declared.member.Member.{Member}
use Rattle.iox_members.specs.Nodes.{killed, node_in, node_of}

-- ---- a list that is changed from its front on

-- the first i of these changed by f
abbrev pub mapped_to : {X : Type 0} → (X → X) → ℕ → List X → List X
mapped_to f zero xs = xs
mapped_to f (suc i) [] = []
mapped_to f (suc i) (x ∷ xs) = f x ∷ mapped_to f i xs

next_one : {X : Type 0} (f : X → X) (i : ℕ) (xs : List X) (d : X) → i < length xs
    → slice_set (mapped_to f i xs) i (f (slice_index_or (mapped_to f i xs) i d)) ≡ mapped_to f (suc i) xs
next_one f i [] d within = absurd (omega (arith, within))
next_one f zero (x ∷ xs) d within = refl
next_one f (suc i) (x ∷ xs) d within = ap (λ ys. f x ∷ ys) (next_one f i xs d (omega (arith, within)))

pub one_more : {X : Type 0} (f : X → X) (i : ℕ) (xs : List X) (d : X) → i < length xs
    → slice_set (mapped_to f i xs) i (f (slice_index_or (mapped_to f i xs) i d)) ≡ mapped_to f (i + 1) xs
one_more f i xs d within = next_one f i xs d within ∙ ap (λ n. mapped_to f n xs) next
  where
    next : suc i ≡ i + 1
    next = omega arith

pub all_mapped : {X : Type 0} (f : X → X) (i : ℕ) (xs : List X) → length xs ≤ i → mapped_to f i xs ≡ map f xs
all_mapped f zero [] within = refl
all_mapped f zero (x ∷ xs) within = absurd (omega (arith, within))
all_mapped f (suc i) [] within = refl
all_mapped f (suc i) (x ∷ xs) within = ap (λ ys. f x ∷ ys) (all_mapped f i xs (omega (arith, within)))

-- ---- what is found

pub find_kept : (node : ℕ) (xs : List Member)
    → find (λ (m : Node). m.number == node) (map node_of xs) ≡ option_map node_of (find (λ (m : Member). m.number == node) xs)
find_kept node [] = refl
find_kept node (x ∷ xs) = step (x.number == node) refl (find_kept node xs)
  where
    step : (b : Bool) → (x.number == node) ≡ b
        → find (λ (m : Node). m.number == node) (map node_of xs) ≡ option_map node_of (find (λ (m : Member). m.number == node) xs)
        → find (λ (m : Node). m.number == node) (map node_of (x ∷ xs)) ≡ option_map node_of (find (λ (m : Member). m.number == node) (x ∷ xs))
    step true e rest = rw e refl
    step false e rest = rw e rest

-- what is found has that number
pub found_number : (node : ℕ) (xs : List Node) (x : Node) → find (λ m. m.number == node) xs ≡ Some x → x.number ≡ node
found_number node [] x is = absurd (subst (λ (o : Option Node). MatchOption o ⊤ (λ m. ⊥)) is tt)
found_number node (y ∷ ys) x is = step (y.number == node) refl is (found_number node ys x)
  where
    step : (b : Bool) → (y.number == node) ≡ b → find (λ m. m.number == node) (y ∷ ys) ≡ Some x
        → (find (λ m. m.number == node) ys ≡ Some x → x.number ≡ node) → x.number ≡ node
    step true e found rest =
        let same : Some y ≡ Some x = sym (ap (λ b. cond b (Some y) (find (λ m. m.number == node) ys)) e) ∙ found in
        sym (ap (λ o. option_map_or (λ (m : Node). m.number) o 0) same) ∙ eqb-true y.number node e
    step false e found rest = rest (sym (ap (λ b. cond b (Some y) (find (λ m. m.number == node) ys)) e) ∙ found)

pub living_so : (x : Members) (node : ℕ) (m : Member) → node_in x node ≡ Some (node_of m) → not m.alive ≡ false → node_in x node ≡ Some (new_node node m.id)
living_so x node m is alive =
    is
    ∙ ap₂ (λ (n : ℕ) (b : Bool). Some (record { number = n; id = m.id; alive = b })) (found_number node x.nodes (node_of m) is) (lives m.alive alive)
  where
    lives : (b : Bool) → not b ≡ false → b ≡ true
    lives true e = refl
    lives false e = sym e

pub any_kept : (id : UniqueSystemId) (xs : List Member)
    → list_any (λ (m : Node). same_id m.id id) (map node_of xs) ≡ list_any (λ (m : Member). same_id m.id id) xs
any_kept id [] = refl
any_kept id (x ∷ xs) = ap (λ b. same_id x.id id || b) (any_kept id xs)

pub ids_kept : (xs : List Member) → map (λ m. m.id) (map node_of xs) ≡ map (λ m. m.id) xs
ids_kept [] = refl
ids_kept (x ∷ xs) = ap (λ ids. x.id ∷ ids) (ids_kept xs)

pub numbers_kept : (xs : List Member) → map (λ (m : Node). m.number) (map node_of xs) ≡ map (λ (m : Member). m.number) xs
numbers_kept [] = refl
numbers_kept (x ∷ xs) = ap (λ ns. x.number ∷ ns) (numbers_kept xs)

pub count_kept : (xs : List Member) → length (map node_of xs) ≡ length xs
count_kept [] = refl
count_kept (x ∷ xs) = ap suc (count_kept xs)

pub empty_kept : (xs : List Member) → is_empty (map node_of xs) ≡ is_empty xs
empty_kept [] = refl
empty_kept (x ∷ xs) = refl

-- ---- changes

kills : (node : ℕ) (x : Member) → node_of (killed node x) ≡ dies node (node_of x)
kills node x = step (x.number == node) refl
  where
    step : (b : Bool) → (x.number == node) ≡ b → node_of (killed node x) ≡ dies node (node_of x)
    step true e = rw e refl
    step false e = rw e refl

pub killed_kept : (node : ℕ) (xs : List Member) → map node_of (map (killed node) xs) ≡ map (dies node) (map node_of xs)
killed_kept node [] = refl
killed_kept node (x ∷ xs) = ap₂ (λ (m : Node) (ms : List Node). m ∷ ms) (kills node x) (killed_kept node xs)

pub removed_kept : (node : ℕ) (xs : List Member)
    → map node_of (filter (λ (m : Member). not (m.number == node)) xs) ≡ filter (λ (m : Node). not (m.number == node)) (map node_of xs)
removed_kept node [] = refl
removed_kept node (x ∷ xs) = step (x.number == node) refl (removed_kept node xs)
  where
    step : (b : Bool) → (x.number == node) ≡ b
        → map node_of (filter (λ (m : Member). not (m.number == node)) xs) ≡ filter (λ (m : Node). not (m.number == node)) (map node_of xs)
        → map node_of (filter (λ (m : Member). not (m.number == node)) (x ∷ xs)) ≡ filter (λ (m : Node). not (m.number == node)) (map node_of (x ∷ xs))
    step true e rest = rw e rest
    step false e rest = rw e (ap (λ ms. node_of x ∷ ms) rest)
