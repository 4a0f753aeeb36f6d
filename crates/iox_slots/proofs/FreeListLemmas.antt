-- How the list of free slots and the slots stay in step.
use Rattle.std.specs.Prelude.{◌≡◌, ◌≤◌, ◌<◌, ℕ, ◌+◌, ◌-◌, ◌*◌, zero, suc, Bool, true, false, not, if◌then◌else◌, ◌==◌, List, [], ◌∷◌, ◌++◌, length, Option, Some, None, slice_get, slice_set, count_by, refl}
use Rattle.std.specs.List.{list_all}
use Rattle.std.specs.Option.{option_map_or}
use Rattle.std.proofs.Common.{sym, ap, ◌∙◌, ◌&&◌, nat_eq, true≢false, arith, eqb-true, subst, nat_lt, replicate}
use Rattle.std.proofs.lemmas.Bool.{eq-eqb, eqb-false, ne_eqb, lt-ltb, ltb-false, ltb-true}
use Rattle.std.proofs.lemmas.Option.{slice_get_past, slice_get_within}
use Rattle.std.proofs.lemmas.List.{length-replicate, length-set, length_push}
use Rattle.std.proofs.lemmas.List.Folds.{sum_by-replicate}
use Rattle.std.proofs.lemmas.List.Sums.{count_by-le-length, sum_by-cons, sum_by-set}
use Rattle.iox_types.specs.declared.identifiers.system_id.UniqueSystemId.{UniqueSystemId}
use Rattle.iox_tables.specs.HubStates.Tables.{SlotState, PoolState, no_slot, slots_of, is_free}
use Rattle.iox_tables.proofs.HubStates.Pipes.{set_same}
use Rattle.iox_slots.specs.Slots.{held, is_taken, let_go, slot_in, with_slot_of}
use Rattle.iox_slots.specs.FreeLists.{AreNumbersBelow, IsFreeList, freedom, one_if_free}
use Rattle.iox_slots.proofs.ListLemmas.{get_set, item_is, often-append, one_if, one_if_same}
use Rattle.iox_tables.specs.HubBooks.Counts.{how_often}

-- a pool
abbrev pub pool_of : ℕ → UniqueSystemId → UniqueSystemId → List SlotState → PoolState
pool_of port node_id port_id slots = record { port = port; node_id = node_id; port_id = port_id; slots = slots }

-- the pool after the change of a slot that is there
pub changed_is : (f : SlotState → SlotState) (port : ℕ) (node_id port_id : UniqueSystemId) (ss : List SlotState) (k : ℕ) (s x : SlotState)
    → slice_get ss k ≡ Some s → x ≡ f s
    → pool_of port node_id port_id (slice_set ss k x) ≡ with_slot_of f (pool_of port node_id port_id ss) k
changed_is f port node_id port_id ss k s x at is =
    ap (λ y. pool_of port node_id port_id (slice_set ss k y)) is
    ∙ ap (λ (o : Option SlotState). option_map_or (λ y. pool_of port node_id port_id (slice_set ss k (f y))) o (pool_of port node_id port_id ss)) (sym at)

-- where a slot stays as it is, so does the pool
pub stays : (f : SlotState → SlotState) (port : ℕ) (node_id port_id : UniqueSystemId) (ss : List SlotState) (k : ℕ) (s : SlotState)
    → slice_get ss k ≡ Some s → s ≡ f s
    → pool_of port node_id port_id ss ≡ with_slot_of f (pool_of port node_id port_id ss) k
stays f port node_id port_id ss k s at is =
    ap (pool_of port node_id port_id) (sym (set_same ss k s at)) ∙ changed_is f port node_id port_id ss k s s at is

-- the same in other words
pub moved : (ss : List SlotState) (free now : List ℕ) (cap cap' : ℕ) → free ≡ now → cap ≡ cap' → IsFreeList ss free cap → IsFreeList ss now cap'
moved ss free now cap cap' same fits l = subst (IsFreeList ss now) fits (subst (λ (ks : List ℕ). IsFreeList ss ks cap) same l)

-- ---- one slot changes

freedom-set : (ss : List SlotState) (k j : ℕ) (s x : SlotState) → slice_get ss k ≡ Some s
    → freedom (slice_set ss k x) j ≡ (if k == j then one_if_free x else freedom ss j)
freedom-set ss k j s x at = ap (λ (o : Option SlotState). option_map_or one_if_free o 0) (get_set ss k j s x at) ∙ over (k == j)
  where
    over : (b : Bool) → option_map_or one_if_free (if b then Some x else slice_get ss j) 0 ≡ (if b then one_if_free x else freedom ss j)
    over true = refl
    over false = refl

-- what is counted at the slot that changes goes, and what it is now comes
freedom_moves : (ss : List SlotState) (k j : ℕ) (s x : SlotState) → slice_get ss k ≡ Some s
    → freedom (slice_set ss k x) j + (if k == j then one_if_free s else 0) ≡ freedom ss j + (if k == j then one_if_free x else 0)
freedom_moves ss k j s x at = over (k == j) refl (freedom-set ss k j s x at)
  where
    over : (b : Bool) → (k == j) ≡ b → freedom (slice_set ss k x) j ≡ (if b then one_if_free x else freedom ss j)
        → freedom (slice_set ss k x) j + (if b then one_if_free s else 0) ≡ freedom ss j + (if b then one_if_free x else 0)
    over true e is =
        let here : freedom ss j ≡ one_if_free s = ap (freedom ss) (sym (eqb-true k j e)) ∙ ap (λ (o : Option SlotState). option_map_or one_if_free o 0) at in
        omega (arith, here, is)
    over false e is = omega (arith, is)

pub count_moves : (ss : List SlotState) (k : ℕ) (s x : SlotState) → slice_get ss k ≡ Some s
    → count_by is_free (slice_set ss k x) + one_if_free s ≡ count_by is_free ss + one_if_free x
count_moves ss k s x at =
    ap (λ n. count_by is_free (slice_set ss k x) + n) (ap one_if_free (sym (item_is ss k s s at)))
    ∙ sum_by-set one_if_free ss k x s (slice_get_within ss k s at)

pub weight : (s : SlotState) (b : Bool) → is_free s ≡ b → one_if_free s ≡ (if b then 1 else 0)
weight s b e = ap (λ (c : Bool). if c then 1 else 0) e

-- ---- a slot is acquired, changed, or free again

-- the slot that is listed last is there and free
pub last_is_free : (ss : List SlotState) (rest : List ℕ) (k cap : ℕ) → IsFreeList ss (rest ++ k ∷ []) cap
    → (s : SlotState) × (slice_get ss k ≡ Some s) × (is_free s ≡ true)
last_is_free ss rest k cap l =
    let there : freedom ss k ≡ how_often k rest + 1 = sym (l.listed k) ∙ often-append k rest k ∙ ap (λ n. how_often k rest + n) (one_if_same k) in
    over (slice_get ss k) refl there
  where
    over : (o : Option SlotState) → slice_get ss k ≡ o → option_map_or one_if_free o 0 ≡ how_often k rest + 1
        → (s : SlotState) × (slice_get ss k ≡ Some s) × (is_free s ≡ true)
    over None at is = absurd (omega (arith, is))
    over (Some s) at is = (s, at, free (is_free s) refl)
      where
        free : (b : Bool) → is_free s ≡ b → is_free s ≡ true
        free true e = e
        free false e = absurd (omega (arith, is, weight s false e))

pub IsFreeList-take : (ss : List SlotState) (rest : List ℕ) (k cap : ℕ) (s x : SlotState) → IsFreeList ss (rest ++ k ∷ []) cap
    → slice_get ss k ≡ Some s → is_free s ≡ true → is_free x ≡ false → IsFreeList (slice_set ss k x) rest cap
IsFreeList-take ss rest k cap s x l at free taken = record {
  listed = λ j. each j (k == j) refl (freedom_moves ss k j s x at);
  counted = omega (arith, count_moves ss k s x at, weight s true free, weight x false taken, l.counted, length_push rest k);
  fits = omega (arith, length-set ss k x, l.fits);
}
  where
    each : (j : ℕ) (b : Bool) → (k == j) ≡ b
        → freedom (slice_set ss k x) j + (if b then one_if_free s else 0) ≡ freedom ss j + (if b then one_if_free x else 0)
        → how_often j rest ≡ freedom (slice_set ss k x) j
    each j true e moves =
        let one : one_if k j ≡ 1 = ap (λ (b : Bool). if b then 1 else 0) e in
        omega (arith, moves, weight s true free, weight x false taken, l.listed j, often-append j rest k, one)
    each j false e moves =
        let none : one_if k j ≡ 0 = ap (λ (b : Bool). if b then 1 else 0) e in
        omega (arith, moves, l.listed j, often-append j rest k, none)

pub IsFreeList-give : (ss : List SlotState) (free : List ℕ) (k cap : ℕ) (s x : SlotState) → IsFreeList ss free cap
    → slice_get ss k ≡ Some s → is_free s ≡ false → is_free x ≡ true → IsFreeList (slice_set ss k x) (free ++ k ∷ []) cap
IsFreeList-give ss free k cap s x l at taken now = record {
  listed = λ j. each j (k == j) refl (freedom_moves ss k j s x at);
  counted = omega (arith, count_moves ss k s x at, weight s false taken, weight x true now, l.counted, length_push free k);
  fits = omega (arith, length-set ss k x, l.fits);
}
  where
    each : (j : ℕ) (b : Bool) → (k == j) ≡ b
        → freedom (slice_set ss k x) j + (if b then one_if_free s else 0) ≡ freedom ss j + (if b then one_if_free x else 0)
        → how_often j (free ++ k ∷ []) ≡ freedom (slice_set ss k x) j
    each j true e moves =
        let one : one_if k j ≡ 1 = ap (λ (b : Bool). if b then 1 else 0) e in
        omega (arith, moves, weight s false taken, weight x true now, l.listed j, often-append j free k, one)
    each j false e moves =
        let none : one_if k j ≡ 0 = ap (λ (b : Bool). if b then 1 else 0) e in
        omega (arith, moves, l.listed j, often-append j free k, none)

-- there is memory to list it
pub has_memory : (ss : List SlotState) (free : List ℕ) (k cap : ℕ) (s x : SlotState) → IsFreeList ss free cap
    → slice_get ss k ≡ Some s → is_free s ≡ false → is_free x ≡ true → length free < cap
has_memory ss free k cap s x l at taken now =
    omega (arith, count_moves ss k s x at, weight s false taken, weight x true now, l.counted, l.fits, length-set ss k x, count_by-le-length is_free (slice_set ss k x))

pub IsFreeList-change : (ss : List SlotState) (free : List ℕ) (k cap : ℕ) (s x : SlotState) → IsFreeList ss free cap
    → slice_get ss k ≡ Some s → is_free x ≡ is_free s → IsFreeList (slice_set ss k x) free cap
IsFreeList-change ss free k cap s x l at same = record {
  listed = λ j. each j (k == j) (freedom_moves ss k j s x at);
  counted = omega (arith, count_moves ss k s x at, alike, l.counted);
  fits = omega (arith, length-set ss k x, l.fits);
}
  where
    alike : one_if_free x ≡ one_if_free s
    alike = ap (λ (c : Bool). if c then 1 else 0) same

    each : (j : ℕ) (b : Bool)
        → freedom (slice_set ss k x) j + (if b then one_if_free s else 0) ≡ freedom ss j + (if b then one_if_free x else 0)
        → how_often j free ≡ freedom (slice_set ss k x) j
    each j true moves = omega (arith, moves, l.listed j, alike)
    each j false moves = omega (arith, moves, l.listed j)

-- ---- which slots are free

pub slot_is : (ss : List SlotState) (k : ℕ) (s : SlotState) → slice_get ss k ≡ Some s → slot_in ss k ≡ s
slot_is ss k s at = ap (λ (o : Option SlotState). option_map_or (λ y. y) o no_slot) at

-- a slot that somebody has is there
pub taken_below : (ss : List SlotState) (k : ℕ) → 0 < (slot_in ss k).holders → k < length ss
taken_below ss k some = over (slice_get ss k) refl some
  where
    over : (o : Option SlotState) → slice_get ss k ≡ o → 0 < (option_map_or (λ s. s) o no_slot).holders → k < length ss
    over None at more = absurd (omega (arith, more))
    over (Some s) at more = slice_get_within ss k s at

pub not_free : (s : SlotState) → 0 < s.holders → is_free s ≡ false
not_free s some = over (is_free s) refl
  where
    over : (b : Bool) → is_free s ≡ b → is_free s ≡ false
    over true e = absurd (omega (arith, eqb-true s.holders 0 e, some))
    over false e = e

-- a slot that somebody has is not free with one more
pub held_taken : (ss : List SlotState) (k : ℕ) (s : SlotState) → slice_get ss k ≡ Some s → 0 < (slot_in ss k).holders → is_free (held s) ≡ is_free s
held_taken ss k s at some =
    not_free (held s) (omega arith) ∙ sym (not_free s (subst (λ (x : SlotState). 0 < x.holders) (slot_is ss k s at) some))

pub free_holders : (s : SlotState) → is_free s ≡ true → s.holders ≡ 0
free_holders s e = eqb-true s.holders 0 e

-- one that nobody has is not free when one has it
pub held_is_taken : (s : SlotState) → is_free (held s) ≡ false
held_is_taken s = not_free (held s) (omega arith)

-- where nobody has it, there is nothing to let go
pub nothing_to_let_go : (s : SlotState) → is_free s ≡ true → s ≡ let_go s
nothing_to_let_go s e =
    let none : s.holders ≡ 0 = free_holders s e in
    let same : s.holders ≡ s.holders - 1 = omega (arith, none) in
    ap (λ (n : ℕ). record { serial = s.serial; lane = s.lane; request = s.request; elements = s.elements; holders = n }) same

pub some_have : (s : SlotState) → is_free s ≡ false → 0 < s.holders
some_have s e = over s.holders refl
  where
    over : (n : ℕ) → s.holders ≡ n → 0 < n
    over zero is = absurd (true≢false (sym (ap (λ (m : ℕ). m == 0) is) ∙ e))
    over (suc n) is = omega arith

pub taken_is : (ss : List SlotState) (k : ℕ) (s : SlotState) → slice_get ss k ≡ Some s → is_free s ≡ false → true ≡ is_taken ss k
taken_is ss k s at taken = sym (ap (λ (x : SlotState). not (is_free x)) (slot_is ss k s at) ∙ ap not taken)

-- what is found free at the end of the list is there and free
pub found_free : (ss : List SlotState) (k : ℕ) (s : SlotState) → slice_get ss k ≡ Some s → is_free s ≡ true
    → option_map_or is_free (slice_get ss k) false ≡ true
found_free ss k s at free = ap (λ (o : Option SlotState). option_map_or is_free o false) at ∙ free

-- ---- a new pool

pub no_numbers : AreNumbersBelow 0 []
no_numbers = record { once = λ k. none k (nat_lt k 0) refl; counted = refl }
  where
    none : (k : ℕ) (b : Bool) → nat_lt k 0 ≡ b → ◌≡◌ {A = ℕ} 0 (if b then 1 else 0)
    none k true e = absurd (omega (arith, ltb-true k 0 e))
    none k false e = refl

pub one_more_number : (n : ℕ) (ks : List ℕ) → AreNumbersBelow n ks → AreNumbersBelow (n + 1) (ks ++ n ∷ [])
one_more_number n ks l = record {
  once = λ k. each k (nat_lt k n) (n == k) (nat_lt k (n + 1)) refl refl refl (l.once k);
  counted = omega (arith, length_push ks n, l.counted);
}
  where
    each : (k : ℕ) (a b c : Bool) → nat_lt k n ≡ a → (n == k) ≡ b → nat_lt k (n + 1) ≡ c → how_often k ks ≡ (if a then 1 else 0)
        → how_often k (ks ++ n ∷ []) ≡ (if c then 1 else 0)
    each k true true c ea eb ec is = absurd (omega (arith, ltb-true k n ea, eqb-true n k eb))
    each k true false true ea eb ec is =
        let none : one_if n k ≡ 0 = ap (λ (b : Bool). if b then 1 else 0) eb in
        omega (arith, is, none, often-append k ks n)
    each k true false false ea eb ec is = absurd (omega (arith, ltb-true k n ea, ltb-false k (n + 1) ec))
    each k false true true ea eb ec is =
        let one : one_if n k ≡ 1 = ap (λ (b : Bool). if b then 1 else 0) eb in
        omega (arith, is, one, often-append k ks n)
    each k false true false ea eb ec is = absurd (omega (arith, eqb-true n k eb, ltb-false k (n + 1) ec))
    each k false false true ea eb ec is = absurd (eqb-false n k eb (omega (arith, ltb-false k n ea, ltb-true k (n + 1) ec)))
    each k false false false ea eb ec is =
        let none : one_if n k ≡ 0 = ap (λ (b : Bool). if b then 1 else 0) eb in
        omega (arith, is, none, often-append k ks n)

get-replicate : (n k : ℕ) → freedom (replicate n no_slot) k ≡ (if nat_lt k n then 1 else 0)
get-replicate zero k = over (nat_lt k 0) refl
  where
    over : (b : Bool) → nat_lt k 0 ≡ b → ◌≡◌ {A = ℕ} 0 (if b then 1 else 0)
    over true e = absurd (omega (arith, ltb-true k 0 e))
    over false e = refl
get-replicate (suc n) zero = ap (λ (b : Bool). if b then 1 else 0) (sym (lt-ltb 0 (suc n) (omega arith)))
get-replicate (suc n) (suc k) = get-replicate n k ∙ over (nat_lt k n) (nat_lt (suc k) (suc n)) refl refl
  where
    over : (a b : Bool) → nat_lt k n ≡ a → nat_lt (suc k) (suc n) ≡ b → ◌≡◌ {A = ℕ} (if a then 1 else 0) (if b then 1 else 0)
    over true true ea eb = refl
    over true false ea eb = absurd (omega (arith, ltb-true k n ea, ltb-false (suc k) (suc n) eb))
    over false true ea eb = absurd (omega (arith, ltb-false k n ea, ltb-true (suc k) (suc n) eb))
    over false false ea eb = refl

all_free : (n : ℕ) → count_by is_free (replicate n no_slot) ≡ n * 1
all_free n = sum_by-replicate one_if_free n no_slot

-- all slots of a new pool are listed
pub IsFreeList-new : (n cap : ℕ) (ks : List ℕ) → AreNumbersBelow n ks → n ≤ cap → IsFreeList (replicate n no_slot) ks cap
IsFreeList-new n cap ks l fits = record {
  listed = λ k. l.once k ∙ sym (get-replicate n k);
  counted = omega (arith, l.counted, all_free n);
  fits = omega (arith, fits, length-replicate n no_slot);
}

-- ---- whether all are free

count-all : (ss : List SlotState) → list_all is_free ss ≡ true → count_by is_free ss ≡ length ss
count-all [] e = refl
count-all (s ∷ ss) e = over (is_free s) refl e (count-all ss)
  where
    over : (b : Bool) → is_free s ≡ b → (b && list_all is_free ss) ≡ true → (list_all is_free ss ≡ true → count_by is_free ss ≡ length ss)
        → count_by is_free (s ∷ ss) ≡ length (s ∷ ss)
    over true free e more =
        let first : count_by is_free (s ∷ ss) ≡ one_if_free s + count_by is_free ss = sum_by-cons one_if_free s ss in
        omega (arith, first, weight s true free, more e)
    over false free e more = absurd (true≢false (sym e))

count-some : (ss : List SlotState) → list_all is_free ss ≡ false → count_by is_free ss < length ss
count-some [] e = absurd (true≢false e)
count-some (s ∷ ss) e = over (is_free s) refl e (count-some ss)
  where
    over : (b : Bool) → is_free s ≡ b → (b && list_all is_free ss) ≡ false → (list_all is_free ss ≡ false → count_by is_free ss < length ss)
        → count_by is_free (s ∷ ss) < length (s ∷ ss)
    over true free e more =
        let first : count_by is_free (s ∷ ss) ≡ one_if_free s + count_by is_free ss = sum_by-cons one_if_free s ss in
        omega (arith, first, weight s true free, more e)
    over false free e more =
        let first : count_by is_free (s ∷ ss) ≡ one_if_free s + count_by is_free ss = sum_by-cons one_if_free s ss in
        omega (arith, first, weight s false free, count_by-le-length is_free ss)

pub idle_is : (ss : List SlotState) → nat_eq (count_by is_free ss) (length ss) ≡ list_all is_free ss
idle_is ss = over (list_all is_free ss) refl
  where
    over : (b : Bool) → list_all is_free ss ≡ b → nat_eq (count_by is_free ss) (length ss) ≡ b
    over true e = eq-eqb (count_by is_free ss) (length ss) (count-all ss e)
    over false e = ne_eqb (count_by is_free ss) (length ss) (λ same. omega (arith, same, count-some ss e))

-- ---- where there is no pool

pub none_taken : (pools : List (Option PoolState)) (place k : ℕ) → length pools ≤ place → false ≡ is_taken (slots_of pools place) k
none_taken pools place k past =
    ap (λ (o : Option (Option PoolState)). is_taken (option_map_or (λ p. p.slots) (option_map_or (λ q. q) o None) []) k) (sym (slice_get_past pools place past))
