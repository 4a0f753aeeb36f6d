-- What callers may cite: how many have each slot after a change, what else is in it, and that calls
-- that hold and let go change only holders.
use Rattle.std.specs.Prelude.{◌≡◌, ◌<◌, ℕ, ◌+◌, ◌-◌, zero, suc, Bool, true, false, ◌&&◌, if◌then◌else◌, ◌==◌, nat_lt, List, [], length, Option, Some, None, is_some, option_map, slice_get, slice_set, refl}
use Rattle.std.specs.Option.{option_map_or}
use Rattle.std.proofs.Common.{sym, ap, ◌∙◌, arith, eqb-true, true≢false}
use Rattle.std.proofs.lemmas.Bool.{eq-eqb, lt-ltb, ltb-true}
use Rattle.std.proofs.lemmas.Option.{slice_get_within}
use Rattle.iox_tables.specs.Label.{Label}
use Rattle.iox_tables.specs.HubStates.Ends.{DifferInHolders}
use Rattle.iox_tables.specs.HubStates.Tables.{PoolState, SlotState, labels_of, no_slot, pool_at, slot_at, slots_of, is_free}
use Rattle.iox_slots.specs.FreeLists.{has_free_slot}
use Rattle.iox_tables.specs.HubLoans.Slots.{put_slot, put_slot_of}
use Rattle.iox_slots.specs.Pools.{Acquires, Takes, has_slot, with_pool, with_slot}
use Rattle.iox_slots.specs.Slots.{held, let_go, rewritten, slot_in, with_slot_of, written}
use Rattle.iox_slots.proofs.FreeListLemmas.{taken_below}
use Rattle.iox_slots.proofs.SlotLemmas.{node_ids_stay, owners_stay, port_ids_stay, slot_after}

-- 1 at that slot, else 0
abbrev pub one_at : ℕ → ℕ → ℕ → ℕ → ℕ
one_at P k Q j = if (P == Q) && (k == j) then 1 else 0

-- ---- which slots there are

-- a slot that somebody has is there
taken_within : (ss : List SlotState) (k : ℕ) → 0 < (slot_in ss k).holders → nat_lt k (length ss) ≡ true
taken_within ss k some = lt-ltb k (length ss) (taken_below ss k some)

pub taken_is_there : (pools : List (Option PoolState)) (P k : ℕ) → 0 < (slot_at pools P k).holders → has_slot pools P k ≡ true
taken_is_there pools P k some = taken_within (slots_of pools P) k some

free_within : (ss : List SlotState) (k : ℕ) → option_map_or is_free (slice_get ss k) false ≡ true
    → (nat_lt k (length ss) ≡ true) × ((slot_in ss k).holders ≡ 0)
free_within ss k free = over (slice_get ss k) refl free
  where
    over : (o : Option SlotState) → slice_get ss k ≡ o → option_map_or is_free o false ≡ true
        → (nat_lt k (length ss) ≡ true) × ((option_map_or (λ s. s) o no_slot).holders ≡ 0)
    over None at e = absurd (true≢false (sym e))
    over (Some s) at e = (lt-ltb k (length ss) (slice_get_within ss k s at), eqb-true s.holders 0 e)

-- so is the pool of a slot that is there
pub pool_of_slot : (pools : List (Option PoolState)) (P k : ℕ) → has_slot pools P k ≡ true → is_some (pool_at pools P) ≡ true
pool_of_slot pools P k there = over (pool_at pools P) refl there
  where
    over : (o : Option PoolState) → pool_at pools P ≡ o → nat_lt k (length (option_map_or (λ (p : PoolState). p.slots) o [])) ≡ true → is_some o ≡ true
    over None at e = absurd (omega (arith, ltb-true k 0 e))
    over (Some p) at e = refl

-- so is a free one, and nobody has it
pub free_is_there : (pools : List (Option PoolState)) (P k : ℕ) → has_free_slot pools P k ≡ true
    → (has_slot pools P k ≡ true) × ((slot_at pools P k).holders ≡ 0)
free_is_there pools P k free = free_within (slots_of pools P) k free

-- ---- the slot itself, and all others

-- the slot that changes
pub slot_here : (f : SlotState → SlotState) (pools : List (Option PoolState)) (P k : ℕ) → has_slot pools P k ≡ true
    → slot_at (with_slot f pools P k) P k ≡ f (slot_at pools P k)
slot_here f pools P k there =
    slot_after f pools P k P k
    ∙ ap (λ (b : Bool). if b && (k == k) && has_slot pools P k then f (slot_at pools P k) else slot_at pools P k) (eq-eqb P P refl)
    ∙ ap (λ (b : Bool). if b && has_slot pools P k then f (slot_at pools P k) else slot_at pools P k) (eq-eqb k k refl)
    ∙ ap (λ (b : Bool). if b then f (slot_at pools P k) else slot_at pools P k) there

-- any other slot
pub slot_elsewhere : (f : SlotState → SlotState) (pools : List (Option PoolState)) (P k Q j : ℕ) → ((P == Q) && (k == j)) ≡ false
    → slot_at (with_slot f pools P k) Q j ≡ slot_at pools Q j
slot_elsewhere f pools P k Q j other = slot_after f pools P k Q j ∙ over (P == Q) (k == j) (has_slot pools P k) other
  where
    over : (a b c : Bool) → (a && b) ≡ false → (if a && b && c then f (slot_at pools Q j) else slot_at pools Q j) ≡ slot_at pools Q j
    over true true c e = absurd (true≢false e)
    over true false c e = refl
    over false b c e = refl

-- whatever is said of a slot that the change keeps stays in all slots
pub said_of_slots : {A : Type 0} (g : SlotState → A) (f : SlotState → SlotState) (pools : List (Option PoolState)) (P k Q j : ℕ)
    → ((s : SlotState) → g (f s) ≡ g s) → g (slot_at (with_slot f pools P k) Q j) ≡ g (slot_at pools Q j)
said_of_slots g f pools P k Q j same = ap g (slot_after f pools P k Q j) ∙ over ((P == Q) && (k == j) && has_slot pools P k)
  where
    over : (b : Bool) → g (if b then f (slot_at pools Q j) else slot_at pools Q j) ≡ g (slot_at pools Q j)
    over true = same (slot_at pools Q j)
    over false = refl

-- ---- how many have each slot

-- with one more: one more there, the same elsewhere
pub holders_held : (pools : List (Option PoolState)) (P k Q j : ℕ) → has_slot pools P k ≡ true
    → (slot_at (with_slot held pools P k) Q j).holders ≡ (slot_at pools Q j).holders + one_at P k Q j
holders_held pools P k Q j there = ap (λ (s : SlotState). s.holders) (slot_after held pools P k Q j) ∙ over (P == Q) (k == j) (has_slot pools P k) there
  where
    over : (a b c : Bool) → c ≡ true
        → (if a && b && c then held (slot_at pools Q j) else slot_at pools Q j).holders ≡ (slot_at pools Q j).holders + (if a && b then 1 else 0)
    over true true true e = refl
    over true true false e = absurd (true≢false (sym e))
    over true false c e = omega arith
    over false b c e = omega arith

-- with one less: one less there if anybody had it, the same elsewhere
pub holders_let_go : (pools : List (Option PoolState)) (P k Q j : ℕ)
    → (slot_at (with_slot let_go pools P k) Q j).holders ≡ (slot_at pools Q j).holders - one_at P k Q j
holders_let_go pools P k Q j = ap (λ (s : SlotState). s.holders) (slot_after let_go pools P k Q j) ∙ over (P == Q) refl (k == j) refl (has_slot pools P k) refl
  where
    over : (a : Bool) → (P == Q) ≡ a → (b : Bool) → (k == j) ≡ b → (c : Bool) → has_slot pools P k ≡ c
        → (if a && b && c then let_go (slot_at pools Q j) else slot_at pools Q j).holders ≡ (slot_at pools Q j).holders - (if a && b then 1 else 0)
    over true e true d true t = refl
    over true e true d false t = gone (slot_at pools Q j).holders refl
      where
        gone : (n : ℕ) → (slot_at pools Q j).holders ≡ n → n ≡ n - 1
        gone zero is = refl
        gone (suc n) is =
            let same : slot_at pools P k ≡ slot_at pools Q j = ap (λ (R : ℕ). slot_at pools R k) (eqb-true P Q e) ∙ ap (slot_at pools Q) (eqb-true k j d) in
            let some : (slot_at pools P k).holders ≡ suc n = ap (λ (s : SlotState). s.holders) same ∙ is in
            absurd (true≢false (sym (taken_is_there pools P k (omega (arith, some))) ∙ t))
    over true e false d c t = omega arith
    over false e b d c t = omega arith

-- at the slot itself
pub one_more_here : (pools : List (Option PoolState)) (P k : ℕ) → 0 < (slot_at pools P k).holders
    → (slot_at (with_slot held pools P k) P k).holders ≡ (slot_at pools P k).holders + 1
one_more_here pools P k some = ap (λ (s : SlotState). s.holders) (slot_here held pools P k (taken_is_there pools P k some))

pub one_less_here : (pools : List (Option PoolState)) (P k : ℕ)
    → (slot_at (with_slot let_go pools P k) P k).holders ≡ (slot_at pools P k).holders - 1
one_less_here pools P k =
    holders_let_go pools P k P k
    ∙ ap (λ (b : Bool). (slot_at pools P k).holders - (if b && (k == k) then 1 else 0)) (eq-eqb P P refl)
    ∙ ap (λ (b : Bool). (slot_at pools P k).holders - (if b then 1 else 0)) (eq-eqb k k refl)

-- with another message: the same in all slots
pub holders_written : (serial lane request elements : ℕ) (pools : List (Option PoolState)) (P k Q j : ℕ)
    → (slot_at (with_slot (written serial lane request elements) pools P k) Q j).holders ≡ (slot_at pools Q j).holders
holders_written serial lane request elements pools P k Q j = said_of_slots (λ s. s.holders) (written serial lane request elements) pools P k Q j (λ s. refl)

-- what is acquired was free, and one has it
pub acquires : (pools : List (Option PoolState)) (P k : ℕ) → has_free_slot pools P k ≡ true → Acquires pools P k (with_slot held pools P k)
acquires pools P k free =
    let found = free_is_there pools P k free in
    record {
      there = found.0;
      free = found.1;
      taken = ap (λ (s : SlotState). s.holders) (slot_here held pools P k found.0) ∙ ap (λ (n : ℕ). n + 1) found.1;
      changed = refl;
    }

-- the slot of a pool that is there
put_is : (pools : List (Option PoolState)) (P k : ℕ) (s : SlotState) → has_free_slot pools P k ≡ true
    → with_pool (put_slot_of k s) pools P ≡ put_slot pools P k s
put_is pools P k s free = over (slice_get pools P) free
  where
    over : (o : Option (Option PoolState))
        → option_map_or is_free (slice_get (option_map_or (λ (p : PoolState). p.slots) (option_map_or (λ (q : Option PoolState). q) o None) []) k) false ≡ true
        → option_map_or (λ (q : Option PoolState). slice_set pools P (option_map (put_slot_of k s) q)) o pools
        ≡ option_map_or (λ (p : PoolState). slice_set pools P (Some (put_slot_of k s p))) (option_map_or (λ (q : Option PoolState). q) o None) pools
    over None e = refl
    over (Some None) e = absurd (true≢false (sym e))
    over (Some (Some p)) e = refl

-- what is taken was free
pub takes : (pools : List (Option PoolState)) (P k : ℕ) (s : SlotState) → has_free_slot pools P k ≡ true
    → Takes pools P k s (with_pool (put_slot_of k s) pools P)
takes pools P k s free =
    let found = free_is_there pools P k free in
    record { there = found.0; free = found.1; changed = put_is pools P k s free }

-- ---- changes only of holders

-- a change that keeps all but holders
record KeepsMessage (f : SlotState → SlotState) : Type 0 where
  serial : (s : SlotState) → (f s).serial ≡ s.serial
  lane : (s : SlotState) → (f s).lane ≡ s.lane
  request : (s : SlotState) → (f s).request ≡ s.request
  elements : (s : SlotState) → (f s).elements ≡ s.elements

labels_stay : (f : SlotState → SlotState) → KeepsMessage f → (pools : List (Option PoolState)) (P k Q j : ℕ)
    → labels_of pools Q j ≡ labels_of (with_slot f pools P k) Q j
labels_stay f keeps pools P k Q j =
    sym (said_of_slots (λ s. label_of s) f pools P k Q j
    (λ s. ap (λ (n : ℕ). record { lane = n; request = (f s).request }) (keeps.lane s) ∙ ap (λ (n : ℕ). record { lane = s.lane; request = n }) (keeps.request s)))
  where
    label_of : SlotState → Label
    label_of s = record { lane = s.lane; request = s.request }

differ_in_holders : (f : SlotState → SlotState) → KeepsMessage f → (pools : List (Option PoolState)) (P k : ℕ) → DifferInHolders pools (with_slot f pools P k)
differ_in_holders f keeps pools P k = record {
  owners = λ Q. sym (owners_stay f pools P k Q);
  ids = λ Q. (sym (node_ids_stay f pools P k Q), sym (port_ids_stay f pools P k Q));
  serials = λ Q j. sym (said_of_slots (λ s. s.serial) f pools P k Q j keeps.serial);
  labels = λ Q j. labels_stay f keeps pools P k Q j;
  elements = λ Q j. sym (said_of_slots (λ s. s.elements) f pools P k Q j keeps.elements);
}

-- so is an acquired slot, and one that one more has
pub hold_differs_in_holders : (pools : List (Option PoolState)) (P k : ℕ) → DifferInHolders pools (with_slot held pools P k)
hold_differs_in_holders = differ_in_holders held (record { serial = λ s. refl; lane = λ s. refl; request = λ s. refl; elements = λ s. refl })

-- and one that one less has
pub let_go_differs_in_holders : (pools : List (Option PoolState)) (P k : ℕ) → DifferInHolders pools (with_slot let_go pools P k)
let_go_differs_in_holders = differ_in_holders let_go (record { serial = λ s. refl; lane = λ s. refl; request = λ s. refl; elements = λ s. refl })

-- ---- a message that is written on the lane of the one before

rewritten_of : (serial lane request elements : ℕ) (ss : List SlotState) (k : ℕ) (p : PoolState) → ss ≡ p.slots → lane ≡ (slot_in ss k).lane
    → with_slot_of (rewritten serial request elements) p k ≡ with_slot_of (written serial lane request elements) p k
rewritten_of serial lane request elements ss k p its of = by_slot (slice_get p.slots k) refl
  where
    by_slot : (o : Option SlotState) → slice_get p.slots k ≡ o
        → option_map_or (λ s. record p { slots = slice_set p.slots k (rewritten serial request elements s) }) o p
        ≡ option_map_or (λ s. record p { slots = slice_set p.slots k (written serial lane request elements s) }) o p
    by_slot None at = refl
    by_slot (Some s) at =
        let is : lane ≡ s.lane
        = of ∙ ap (λ (xs : List SlotState). (slot_in xs k).lane) its ∙ ap (λ (o : Option SlotState). (option_map_or (λ x. x) o no_slot).lane) at in
        ap (λ (l : ℕ). record p { slots = slice_set p.slots k (written serial l request elements s) }) (sym is)

-- it is that lane which is written
pub rewritten_is : (serial request elements : ℕ) (pools : List (Option PoolState)) (P k : ℕ)
    → with_slot (rewritten serial request elements) pools P k ≡ with_slot (written serial (slot_at pools P k).lane request elements) pools P k
rewritten_is serial request elements pools P k = by_pool (slot_at pools P k).lane refl (slice_get pools P) refl
  where
    by_pool : (lane : ℕ) → lane ≡ (slot_at pools P k).lane → (o : Option (Option PoolState)) → slice_get pools P ≡ o
        → option_map_or (λ q. slice_set pools P (option_map (λ p. with_slot_of (rewritten serial request elements) p k) q)) o pools
        ≡ option_map_or (λ q. slice_set pools P (option_map (λ p. with_slot_of (written serial lane request elements) p k) q)) o pools
    by_pool lane of None at = refl
    by_pool lane of (Some None) at = refl
    by_pool lane of (Some (Some p)) at =
        ap (λ (q : PoolState). slice_set pools P (Some q))
        (rewritten_of serial lane request elements (slots_of pools P) k p
        (ap (λ (o : Option (Option PoolState)). option_map_or (λ (q : PoolState). q.slots) (option_map_or (λ r. r) o None) []) at) of)
