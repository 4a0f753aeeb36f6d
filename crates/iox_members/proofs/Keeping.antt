-- What is so at all times of the nodes and their register, as nodes come and go.
use Rattle.std.proofs.Common.{◌≡◌, ◌==◌, ◌||◌, ◌+◌, ◌≤◌, ℕ, zero, suc, Bool, true, false, not, List, [], ◌∷◌, ◌++◌, Option, Some, None, Result, Ok, Err, IsOk, cond, is_some, filter, length, get_or, map, replicate, set, refl, ap, ap₂, sym, subst, ◌∙◌, arith}
use Rattle.std.specs.Prelude.{IfErr, IfOk, IsPermutation, OnOk, find, is_none}
use Rattle.std.specs.List.{list_any}
use Rattle.std.proofs.lemmas.Bool.{ne_eqb}
use Rattle.std.proofs.lemmas.List.{length-map, length-replicate, length-set, length_push, nil_from_length}
use Rattle.std.proofs.lemmas.List.Sorted.{IsPermutation-cons, IsPermutation-refl, IsPermutation-trans}
use Rattle.iox_types.specs.declared.identifiers.system_id.UniqueSystemId.{UniqueSystemId}
use Rattle.iox_model.specs.Joins.{same_id, with_members}
use Rattle.iox_model.specs.Maps.{AreDistinct, has_number, is_empty}
use Rattle.iox_model.specs.States as States
use Rattle.iox_registry.specs.declared.refusals.ReleaseError.TheVariants.{Foreign, Spent}
use Rattle.iox_registry.specs.declared.roles.Role.TheVariants.{Node}
use Rattle.iox_registry.specs.Registers as registers
use Rattle.iox_registry.specs.Registers.{Adds, HandleView, Registrations, Removes, details_in, details_of, is_own, left_with, listed, new_register, recovered, register_refusal, release_refusal, room_of, under_ticket}
use Rattle.iox_registry.proofs.NumberLemmas.{listed-added, listed-removed, locked-removed}
use Rattle.iox_registry.proofs.RegisterLemmas.{open_parts}
use Rattle.iox_members.specs.declared.member.Member.{Member}
use Rattle.iox_members.specs.Nodes.{killed, node_of}
use Rattle.iox_members.specs.Registering.{AreBelow, AreKept, AreOnce, AreRegistered, HaveRegistrations}
use Rattle.iox_members.specs.Steps.{IsAfterLeaving}
use Rattle.iox_members.proofs.Among.{Beside, TellsOn, differ-since, found-beside, not-empty, one-more, or_parts, others-below, others-distinct, others-once, others-registered, own-registration}
use Rattle.iox_members.proofs.Kept.{empty_kept, removed_kept}
use Rattle.iox_members.proofs.Registered.{listed-beside, stays-added, stays-removed, told}

-- ---- what is listed are the ids of the nodes

pub all-listed : (nodes : List Member) (registry : Registrations UniqueSystemId) → HaveRegistrations registry nodes → AreOnce (map (λ m. m.id) nodes)
    → length (listed registry) ≡ length nodes → IsPermutation (map (λ m. m.id) nodes) (listed registry)
all-listed [] registry own once count =
    subst (IsPermutation []) (sym (nil_from_length (listed registry) count)) (IsPermutation-refl [])
all-listed (m ∷ nodes) registry own once count =
    let has = told registry m.registration m.id own.0 in
    let left : Registrations UniqueSystemId = left_with registry (set registry.slots m.registration.slot None) in
    let fewer = listed-removed m.registration registry left (record { had = ap is_some own.0; left = refl }) in
    let more : IsPermutation (m.id ∷ listed left) (listed registry) =
    subst (λ id. IsPermutation (id ∷ listed left) (listed registry)) has.2 (listed-beside registry.slots m.registration.slot has.0 has.1) in
    IsPermutation-trans _ _ _
    (IsPermutation-cons m.id _ _ (all-listed nodes left (still left refl nodes own.1 once.0) once.1 (omega (arith, fewer, count)))) more
  where
    own_first : details_of registry m.registration ≡ Some m.id
    own_first = own.0

    still : (left : Registrations UniqueSystemId) → left ≡ left_with registry (set registry.slots m.registration.slot None) → (xs : List Member)
        → HaveRegistrations registry xs → list_any (same_id m.id) (map (λ x. x.id) xs) ≡ false → HaveRegistrations left xs
    still left is [] own other = tt
    still left is (x ∷ xs) own other =
        let parts = or_parts (same_id m.id x.id) _ other in (
          subst (λ r. details_of r x.registration ≡ Some x.id) (sym is)
              (stays-removed registry m.registration x.registration m.id x.id own_first own.0 (differ-since m.id x.id parts.0)),
          still left is xs own.1 parts.1,
        )

pub ids-kept : (nodes : List Member) → map (λ m. m.id) (map node_of nodes) ≡ map (λ m. m.id) nodes
ids-kept [] = refl
ids-kept (x ∷ nodes) = ap (λ ids. x.id ∷ ids) (ids-kept nodes)

pub are-registered : (nodes : List Member) (joins most : ℕ) (registry : Registrations UniqueSystemId) → AreKept nodes joins most registry
    → AreRegistered (record { nodes = map node_of nodes; joins = joins; closed = registry.locked }) registry
are-registered nodes joins most registry kept = record {
  ids = subst (λ ids. IsPermutation ids (listed registry)) (sym (ids-kept nodes)) (all-listed nodes registry kept.own kept.once kept.count);
  once = subst AreOnce (sym (ids-kept nodes)) kept.once;
  closed = refl;
}

-- ---- one comes

behind-below : (n : ℕ) (ns : List ℕ) → AreBelow n ns → AreBelow (n + 1) (ns ++ n ∷ [])
behind-below n [] is = (omega arith, tt)
behind-below n (k ∷ ns) is = let below = is.0 in (omega arith, behind-below n ns is.1)

behind-distinct : (n : ℕ) (ns : List ℕ) → AreBelow n ns → AreDistinct ns → AreDistinct (ns ++ n ∷ [])
behind-distinct n [] below is = (refl, tt)
behind-distinct n (k ∷ ns) below is = (none_behind ns is.0, behind-distinct n ns below.1 is.1)
  where
    other : (n == k) ≡ false
    other = let less = below.0 in ne_eqb n k (λ same. omega (arith, less, same))

    none_behind : (ns : List ℕ) → has_number k ns ≡ false → has_number k (ns ++ n ∷ []) ≡ false
    none_behind [] none = ap (λ b. b || false) other
    none_behind (j ∷ ns) none =
        let parts = or_parts (j == k) _ none in
        ap₂ (λ a b. a || b) parts.0 (none_behind ns parts.1)

behind-once : (id : UniqueSystemId) (ids : List UniqueSystemId) → list_any (λ x. same_id x id) ids ≡ false → AreOnce ids → AreOnce (ids ++ id ∷ [])
behind-once id [] none is = (refl, tt)
behind-once id (x ∷ ids) none is =
    let parts = or_parts (same_id x id) _ none in
    (none_behind parts.0 ids is.0, behind-once id ids parts.1 is.1)
  where
    none_behind : same_id x id ≡ false → (ids : List UniqueSystemId) → list_any (same_id x) ids ≡ false → list_any (same_id x) (ids ++ id ∷ []) ≡ false
    none_behind other [] none = ap (λ b. b || false) other
    none_behind other (y ∷ ids) none =
        let parts = or_parts (same_id x y) _ none in
        ap₂ (λ a b. a || b) parts.0 (none_behind other ids parts.1)

behind-registered : (old new : Registrations UniqueSystemId) (m : Member)
    → ((x : Member) → details_of old x.registration ≡ Some x.id → details_of new x.registration ≡ Some x.id)
    → details_of new m.registration ≡ Some m.id → (nodes : List Member) → HaveRegistrations old nodes → HaveRegistrations new (nodes ++ m ∷ [])
behind-registered old new m on has [] is = (has, tt)
behind-registered old new m on has (x ∷ nodes) is = (on x is.0, behind-registered old new m on has nodes is.1)

map-behind : {X : Type 0} (f : Member → X) (nodes : List Member) (m : Member) → map f (nodes ++ m ∷ []) ≡ map f nodes ++ f m ∷ []
map-behind f [] m = refl
map-behind f (x ∷ nodes) m = ap (λ ys. f x ∷ ys) (map-behind f nodes m)

some_node : (m : Member) (nodes : List Member) → is_empty (nodes ++ m ∷ []) ≡ false
some_node m [] = refl
some_node m (x ∷ nodes) = refl

-- no node that is kept has the id
pub fresh-since : (id : UniqueSystemId) (nodes : List Member) → list_any (λ (m : States.Node). same_id m.id id) (map node_of nodes) ≡ false
    → list_any (λ x. same_id x id) (map (λ m. m.id) nodes) ≡ false
fresh-since id [] none = refl
fresh-since id (x ∷ nodes) none =
    let parts = or_parts (same_id x.id id) _ none in
    ap₂ (λ a b. a || b) parts.0 (fresh-since id nodes parts.1)

-- a node that is registered beside the others
pub comes-kept : (nodes : List Member) (joins most : ℕ) (m : Member) (old new : Registrations UniqueSystemId)
    → AreBelow joins (map (λ x. x.number) nodes) → AreDistinct (map (λ x. x.number) nodes) → AreOnce (map (λ x. x.id) nodes)
    → HaveRegistrations old nodes → length (listed old) ≡ length nodes → old.role ≡ Node → length old.slots ≡ most → old.used_tickets ≤ joins
    → list_any (λ x. same_id x m.id) (map (λ x. x.id) nodes) ≡ false → m.number ≡ joins
    → Adds m.id old m.registration new → details_of new m.registration ≡ Some m.id
    → AreKept (nodes ++ m ∷ []) (joins + 1) most new
comes-kept nodes joins most m old new below numbers once own count role room tickets fresh is adds has = record {
  below = subst (AreBelow (joins + 1)) (sym numbered) (behind-below joins _ below);
  numbers = subst AreDistinct (sym numbered) (behind-distinct joins _ below numbers);
  once = subst AreOnce (sym (map-behind (λ x. x.id) nodes m)) (behind-once m.id _ fresh once);
  own = behind-registered old new m (λ x. stays-added m.id old m.registration new adds x.registration x.id) has nodes own;
  count = listed-added m.id old m.registration new adds ∙ ap (λ n. n + 1) count ∙ sym (length_push nodes m);
  role = ap (λ r. r.role) adds.left ∙ role;
  room = ap (λ r. length r.slots) adds.left ∙ length-set old.slots m.registration.slot _ ∙ room;
  locked = ap (λ r. r.locked) adds.left ∙ (open_parts old adds.allowed).0 ∙ sym (some_node m nodes);
  tickets = let used = ap (λ r. r.used_tickets) adds.left in omega (arith, used, tickets);
}
  where
    numbered : map (λ x. x.number) (nodes ++ m ∷ []) ≡ map (λ x. x.number) nodes ++ joins ∷ []
    numbered = map-behind (λ x. x.number) nodes m ∙ ap (λ n. map (λ x. x.number) nodes ++ n ∷ []) is

pub joins-kept : (nodes : List Member) (joins most : ℕ) (m : Member) (old new : Registrations UniqueSystemId) → AreKept nodes joins most old
    → list_any (λ x. same_id x m.id) (map (λ x. x.id) nodes) ≡ false → m.number ≡ joins
    → Adds m.id old m.registration new → details_of new m.registration ≡ Some m.id → AreKept (nodes ++ m ∷ []) (joins + 1) most new
joins-kept nodes joins most m old new kept fresh is adds has =
    comes-kept nodes joins most m old new kept.below kept.numbers kept.once kept.own kept.count kept.role kept.room kept.tickets fresh is adds has

nobody-listed : (n : ℕ) → length (details_in {D = UniqueSystemId} (replicate n None)) ≡ 0
nobody-listed zero = refl
nobody-listed (suc n) = nobody-listed n

pub first-kept : (service most : ℕ) (m : Member) (new : Registrations UniqueSystemId) → m.number ≡ 0
    → Adds m.id (new_register service Node most) m.registration new → details_of new m.registration ≡ Some m.id → AreKept (m ∷ []) 1 (room_of most) new
first-kept service most m new is adds has =
    comes-kept [] 0 (room_of most) m (new_register service Node most) new tt tt tt tt (nobody-listed (room_of most)) refl (length-replicate (room_of most) None)
    (omega arith) refl is adds has

-- ---- why a registration is not refused

pub at-ok : {A E : Type 0} (r : Result A E) (x : A) (P : A → Type 0) → r ≡ Ok x → IfOk r P → P x
at-ok r x P is holds = subst (λ q. IfOk q P) is holds

pub done-so : {A E : Type 0} (P : Type 0) (r : Result A E) (x : A) → r ≡ Ok x → OnOk r P → P
done-so P r x is holds = subst (λ q. OnOk q P) is holds

pub ok-since : {A E : Type 0} (r : Result A E) (q : Option E) → q ≡ None → IfErr r (λ e. q ≡ Some e) → IsOk r
ok-since (Ok x) q none is = refl
ok-since {E = E} (Err e) q none is = absurd (not_none (sym is ∙ none))
  where
    not_none : ◌≡◌ {A = Option E} (Some e) None → ⊥
    not_none same = cc

pub first-room : (service most : ℕ) → register_refusal {D = UniqueSystemId} (new_register service Node most) ≡ None
first-room service most = rw (not_full) refl
  where
    one_at_least : (n : ℕ) → 1 ≤ room_of n
    one_at_least n = omega arith

    nothing : Option (registers.Registration UniqueSystemId)
    nothing = None

    not_full : (length (details_in {D = UniqueSystemId} (replicate (room_of most) None)) == length (replicate {A = Option (registers.Registration UniqueSystemId)} (room_of most) None)) ≡ false
    not_full = ne_eqb _ _ (λ same.
        let none = nobody-listed (room_of most) in
        let size = length-replicate (room_of most) nothing in
        let some = one_at_least most in
        omega (arith, none, size, same, some))

-- ---- why a release is not refused

pub may-go : (registry : Registrations UniqueSystemId) (handle : HandleView) (id : UniqueSystemId) → details_of registry handle ≡ Some id
    → release_refusal registry handle ≡ None
may-go registry handle id is = of_own (is_own registry handle) (under_ticket handle.ticket (get_or registry.slots handle.slot None)) is
  where
    not_some : ◌≡◌ {A = Option UniqueSystemId} None (Some id) → ⊥
    not_some same = cc

    of_own : (own : Bool) (found : Option UniqueSystemId) → cond own found None ≡ Some id
        → cond own (cond (is_none (cond own found None)) (Some Spent) None) (Some Foreign) ≡ None
    of_own true found is = ap (λ o. cond (is_none o) (Some Spent) None) is
    of_own false found is = absurd (not_some is)

-- ---- one goes

empty-since : (nodes : List Member) → (length nodes == 0) ≡ is_empty nodes
empty-since [] = refl
empty-since (x ∷ nodes) = ne_eqb (length (x ∷ nodes)) 0 (λ same. omega (arith, same))

-- the node that was found, and those that are left
pub found-among : (node : ℕ) (m : Member) (nodes searched left : List Member) (found : Option Member) → searched ≡ nodes
    → found ≡ find (λ x. x.number == node) searched → found ≡ Some m → AreDistinct (map (λ x. x.number) nodes)
    → left ≡ filter (λ x. not (x.number == node)) nodes → Beside m nodes left
found-among node m nodes searched left found same is has apart rest =
    subst (Beside m nodes) (sym rest)
    (found-beside node m nodes (sym (is ∙ ap (find (λ x. x.number == node)) same) ∙ has) apart)

-- what is left is kept as it was to be
goes-kept : (nodes left : List Member) (m : Member) (joins most : ℕ) (old new : Registrations UniqueSystemId) → AreKept nodes joins most old
    → Beside m nodes left → TellsOn old new m.id → length (listed new) + 1 ≡ length (listed old) → new.locked ≡ (length (listed new) == 0)
    → new.role ≡ old.role → length new.slots ≡ length old.slots → new.used_tickets ≡ old.used_tickets → AreKept left joins most new
goes-kept nodes left m joins most old new kept (before, behind, are, others) on fewer locked role room used = subst (λ xs. AreKept xs joins most new) (sym others) (record {
  below = others-below m behind joins before (subst (λ xs. AreBelow joins (map (λ x. x.number) xs)) are kept.below);
  numbers = others-distinct m behind before (subst (λ xs. AreDistinct (map (λ x. x.number) xs)) are kept.numbers);
  once = others-once m behind before once;
  own = others-registered old new m behind before on once (subst (HaveRegistrations old) are kept.own);
  count = count;
  role = role ∙ kept.role;
  room = room ∙ kept.room;
  locked = locked ∙ ap (λ n. n == 0) count ∙ empty-since (before ++ behind);
  tickets = let was = kept.tickets in omega (arith, was, used);
})
  where
    once : AreOnce (map (λ x. x.id) (before ++ m ∷ behind))
    once = subst (λ xs. AreOnce (map (λ x. x.id) xs)) are kept.once

    count : length (listed new) ≡ length (before ++ behind)
    count = let was = kept.count in let size = ap length are in let more = one-more m behind before in omega (arith, was, size, more, fewer)

pub own-of : (nodes left : List Member) (m : Member) (joins most : ℕ) (old : Registrations UniqueSystemId) → AreKept nodes joins most old
    → Beside m nodes left → details_of old m.registration ≡ Some m.id
own-of nodes left m joins most old kept (before, behind, are, others) =
    own-registration m behind old before (subst (HaveRegistrations old) are kept.own)

pub deregistered-kept : (nodes left : List Member) (m : Member) (joins most : ℕ) (old new : Registrations UniqueSystemId) → AreKept nodes joins most old
    → Beside m nodes left → Removes m.registration old new → AreKept left joins most new
deregistered-kept nodes left m joins most old new kept among removes =
    goes-kept nodes left m joins most old new kept among
    (λ x is differ. ap (λ r. details_of r x.registration) removes.left
    ∙ stays-removed old m.registration x.registration m.id x.id (own-of nodes left m joins most old kept among) is differ)
    (listed-removed m.registration old new removes) (locked-removed m.registration old new removes kept.role)
    (ap (λ r. r.role) removes.left) (ap (λ r. length r.slots) removes.left ∙ length-set old.slots m.registration.slot None)
    (ap (λ r. r.used_tickets) removes.left)

-- ---- the service once one is gone

pub gone-so : (nodes left : List Member) (m : Member) (node joins most : ℕ) (old new : Registrations UniqueSystemId) → AreKept nodes joins most old
    → AreKept left joins most new → Beside m nodes left → left ≡ filter (λ x. not (x.number == node)) nodes
    → IsAfterLeaving (record { nodes = map node_of nodes; joins = joins; closed = old.locked }) node
    (record { nodes = map node_of left; joins = joins; closed = new.locked })
gone-so nodes left m node joins most old new kept kept' (before, behind, are, others) is s =
    let shown = ap (map node_of) is ∙ removed_kept node nodes in
    ap₂ (λ ns b. with_members s (record { nodes = ns; joins = joins; closed = b })) shown
    (kept'.locked ∙ sym (empty_kept left) ∙ ap is_empty shown ∙ sym (ap (λ b. b || is_empty (filter (λ (x : States.Node). not (x.number == node)) (map node_of nodes))) was_open))
  where
    was_open : old.locked ≡ false
    was_open = kept.locked ∙ ap is_empty are ∙ not-empty m behind before

pub nobody-gone : (nodes : List Member) (node joins most : ℕ) (registry : Registrations UniqueSystemId) → AreKept nodes joins most registry
    → filter (λ x. not (x.number == node)) nodes ≡ nodes
    → IsAfterLeaving (record { nodes = map node_of nodes; joins = joins; closed = registry.locked }) node
    (record { nodes = map node_of nodes; joins = joins; closed = registry.locked })
nobody-gone nodes node joins most registry kept is s =
    let shown = ap (map node_of) (sym is) ∙ removed_kept node nodes in
    ap₂ (λ ns b. with_members s (record { nodes = ns; joins = joins; closed = b })) shown
    (twice registry.locked ∙ ap (λ b. registry.locked || b) (kept.locked ∙ sym (empty_kept nodes) ∙ ap is_empty shown))
  where
    twice : (b : Bool) → b ≡ (b || b)
    twice true = refl
    twice false = refl

-- ---- a death

killed_is : (node : ℕ) (x : Member) → ((killed node x).number ≡ x.number) × ((killed node x).id ≡ x.id) × ((killed node x).registration ≡ x.registration)
killed_is node x = of_test (x.number == node)
  where
    of_test : (b : Bool) → ((cond b (record x { alive = false }) x).number ≡ x.number) × ((cond b (record x { alive = false }) x).id ≡ x.id)
        × ((cond b (record x { alive = false }) x).registration ≡ x.registration)
    of_test true = (refl, refl, refl)
    of_test false = (refl, refl, refl)

numbers-killed : (node : ℕ) (nodes : List Member) → map (λ x. x.number) (map (killed node) nodes) ≡ map (λ x. x.number) nodes
numbers-killed node [] = refl
numbers-killed node (x ∷ nodes) = ap₂ (λ n ns. n ∷ ns) (killed_is node x).0 (numbers-killed node nodes)

ids-killed : (node : ℕ) (nodes : List Member) → map (λ x. x.id) (map (killed node) nodes) ≡ map (λ x. x.id) nodes
ids-killed node [] = refl
ids-killed node (x ∷ nodes) = ap₂ (λ (i : UniqueSystemId) is. i ∷ is) (killed_is node x).1 (ids-killed node nodes)

registered-killed : (registry : Registrations UniqueSystemId) (node : ℕ) (nodes : List Member) → HaveRegistrations registry nodes
    → HaveRegistrations registry (map (killed node) nodes)
registered-killed registry node [] own = tt
registered-killed registry node (x ∷ nodes) own =
    (ap (details_of registry) (killed_is node x).2 ∙ own.0 ∙ ap Some (sym (killed_is node x).1), registered-killed registry node nodes own.1)

empty-killed : (node : ℕ) (nodes : List Member) → is_empty (map (killed node) nodes) ≡ is_empty nodes
empty-killed node [] = refl
empty-killed node (x ∷ nodes) = refl

pub killed-kept : (nodes : List Member) (node joins most : ℕ) (registry : Registrations UniqueSystemId) → AreKept nodes joins most registry
    → AreKept (map (killed node) nodes) joins most registry
killed-kept nodes node joins most registry kept = record {
  below = subst (AreBelow joins) (sym (numbers-killed node nodes)) kept.below;
  numbers = subst AreDistinct (sym (numbers-killed node nodes)) kept.numbers;
  once = subst AreOnce (sym (ids-killed node nodes)) kept.once;
  own = registered-killed registry node nodes kept.own;
  count = kept.count ∙ sym (length-map nodes (killed node));
  role = kept.role;
  room = kept.room;
  locked = kept.locked ∙ sym (empty-killed node nodes);
  tickets = kept.tickets;
}
