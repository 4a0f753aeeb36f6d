-- A free slot may take a loan, and while there is one a lane is free.
use Rattle.std.specs.Prelude.{◌≡◌, ℕ, suc, ◌+◌, ◌<◌, ◌≤◌, Bool, true, false, not, ◌&&◌, ◌||◌, if◌then◌else◌, ◌==◌, nat_lt, List, [], ◌∷◌, map, filter, length, refl}
use Rattle.std.specs.List.{list_all, range_with_len}
use Rattle.std.proofs.Common.{sym, ap, subst, ◌∙◌, arith, inl, inr, true≢false, eqb-true}
use Rattle.iox_model.specs.declared.kind.Kind.TheVariants.{PendingResponse}
use Rattle.iox_model.specs.Handles.{is_own, is_request_loan, is_response_loan, same_kind}
use Rattle.iox_laws.proofs.WeaveLedger.Lists.{IsAmong, among-filter, among-map, any-among}
use Rattle.iox_laws.proofs.WeaveLedger.Ranges.{no-longer, range-apart, range-has}
use Rattle.iox_tables.specs.HubStates.Tables.{HubTables, PortState, slot_at}
use Rattle.iox_tables.specs.HubStates.Releases.{lane_of}
use Rattle.iox_tables.specs.HubBooks.Handles.{IsOfPort}
use Rattle.iox_tables.specs.HubBooks.Hubs.{AreInOrder, IsUsed}
use Rattle.iox_tables.proofs.HubBooks.Used.{once_on}
use Rattle.iox_tables.specs.HubLoans.Counts.{is_lane_free, is_lane_taken, is_on_lane}
use Rattle.iox_tables.specs.HubLoans.Lenders.{with_got_back}
use Rattle.iox_tables.proofs.HubLoans.Spare.{unused_slots_may_be_lent}
use Rattle.iox_tables.specs.HubLending.Choosing.{FreeLanesAreOwn, FreeSlotsHaveLanes, FreeSlotsMayTakeLoans, IsFreeSlot}
use Rattle.iox_tables.specs.HubLending.Emptying.{with_back}
use Rattle.iox_tables.specs.HubLending.Keeping.{has_holder}
use Rattle.iox_tables.proofs.HubLending.Back.{back_in_order}
use Rattle.iox_tables.proofs.HubLending.Owning.{free_is_unused, handles_are_on_nodes, has_its_pool, keeps_its_own, not_true, number_is, of_each, port_is, slot_there, two, used_among, used_within}
use Rattle.iox_tables.proofs.HubLending.Kept.{some_holder}
use Rattle.iox_tables.specs.HubLoans.Slots.{IsUnused}
use Rattle.iox_tables.specs.HubStates.Tables.{port_in}
use Rattle.iox_tables.proofs.HubBooks.Frames.{length_map}

-- ---- slots

pub free_slots_may_take_loans : FreeSlotsMayTakeLoans
free_slots_may_take_loans x t n slot p pools order fewer is = record {
  once = λ w l at. once_on t order x w l at;
  dry = unused_slots_may_be_lent x t p slot (ap (port_in t.ports) (number_is t order n p is.there) ∙ is.there) (handles_are_on_nodes t order) (keeps_its_own t order n p is.there) is.within unused;
  pool = has_its_pool t order n p is.there;
  there = slot_there t order n p is.there slot is.within;
  unused = unused;
}
  where
    then : IsUnused (with_back t p pools) p.pool slot
    then = free_is_unused (with_back t p pools) (back_in_order t order n p is.there pools fewer) p.pool slot is.free

    unused : IsUnused (with_got_back t p) p.pool slot
    unused = record { lanes = then.lanes; handles = then.handles }

-- ---- lists

passes_all : {A : Type 0} (test : A → Bool) (a : A) (xs : List A) → IsAmong a xs → list_all test xs ≡ true → test a ≡ true
passes_all test a [] p e = absurd p
passes_all test a (x ∷ xs) (inl is) e = ap test is ∙ (two (test x) (list_all test xs) e).0
passes_all test a (x ∷ xs) (inr p) e = passes_all test a xs p (two (test x) (list_all test xs) e).1

-- no more pass a test than there are
pub no_more : {A : Type 0} (test : A → Bool) (xs : List A) → length (filter test xs) ≤ length xs
no_more test [] = omega arith
no_more test (x ∷ xs) = step (test x) (no_more test xs)
  where
    step : (b : Bool) → length (filter test xs) ≤ length xs → length (if b then x ∷ filter test xs else filter test xs) ≤ length (x ∷ xs)
    step true rest = omega (arith, rest)
    step false rest = omega (arith, rest)

-- where one does not pass, fewer pass than there are
pub one_less : {A : Type 0} (test : A → Bool) (a : A) (xs : List A) → IsAmong a xs → test a ≡ false → length (filter test xs) + 1 ≤ length xs
one_less test a [] p e = absurd p
one_less test a (x ∷ xs) (inl is) e = step (test x) (ap test (sym is) ∙ e) (no_more test xs)
  where
    step : (b : Bool) → b ≡ false → length (filter test xs) ≤ length xs → length (if b then x ∷ filter test xs else filter test xs) + 1 ≤ length (x ∷ xs)
    step true off rest = absurd (true≢false off)
    step false off rest = omega (arith, rest)
one_less test a (x ∷ xs) (inr p) e = step (test x) (one_less test a xs p e)
  where
    step : (b : Bool) → length (filter test xs) + 1 ≤ length xs → length (if b then x ∷ filter test xs else filter test xs) + 1 ≤ length (x ∷ xs)
    step true rest = omega (arith, rest)
    step false rest = omega (arith, rest)

-- ---- lanes

on_lane_own : (a b c : Bool) → (a || c) ≡ true → (a || (b || c)) ≡ true
on_lane_own true b c e = refl
on_lane_own false true c e = refl
on_lane_own false false c e = e

up : (k m : ℕ) → k < m → k < 0 + m
up k m e = omega (arith, e)

none_below : (k : ℕ) → 0 ≤ k
none_below k = omega arith

module _ (t : HubTables) (n slot : ℕ) (p : PortState) (order : AreInOrder t) (is : IsFreeSlot t n p t.pools slot) where
  abbrev used : ℕ → Bool
  used k = has_holder (slot_at t.pools p.pool k)

  abbrev lane : ℕ → ℕ
  lane k = (slot_at t.pools p.pool k).lane

  abbrev slots : List ℕ
  slots = range_with_len 0 p.size

  -- a lane that is taken is that of a slot that somebody has
  taken_slot : (i : ℕ) → is_lane_taken t p.number i ≡ true → IsAmong i (map lane (filter used slots))
  taken_slot i e =
      let r = any-among (λ h. (h.port == p.number) && is_on_lane t i h) t.handles e in
      let parts = two (r.0.port == p.number) (is_on_lane t i r.0) r.2 in
      let on = two (is_request_loan r.0.kind || same_kind r.0.kind PendingResponse) (lane_of t r.0 == i) parts.1 in
      let of : IsOfPort t r.0 = of_each (IsOfPort t) r.0 t.handles order.ports r.1 in
      let own : is_own r.0.kind ≡ true = on_lane_own (is_request_loan r.0.kind) (is_response_loan r.0.kind) (same_kind r.0.kind PendingResponse) on.0 in
      let pool : r.0.pool ≡ p.pool
      = of.of_pool own ∙ ap (λ (q : PortState). q.pool) (port_is t order n p is.there r.0.port of.port of.there (eqb-true r.0.port p.number parts.0)) in
      let had : IsUsed t p.pool r.0.slot = subst (λ c. IsUsed t c r.0.slot) pool (used_among t order r.0 r.1) in
      let its : lane r.0.slot ≡ i = ap (λ c. (slot_at t.pools c r.0.slot).lane) (sym pool) ∙ eqb-true (lane_of t r.0) i on.1 in
      subst (λ j. IsAmong j (map lane (filter used slots))) its
      (among-map lane r.0.slot (filter used slots)
      (among-filter used r.0.slot slots (range-has 0 p.size r.0.slot (none_below r.0.slot) (up r.0.slot p.size (used_within t order n p is.there r.0.slot had))) (some_holder _ had)))

  pub not_all_taken : list_all (is_lane_taken t p.number) slots ≡ false
  not_all_taken = not_true (list_all (is_lane_taken t p.number) slots) never
    where
      no_holder : (m : ℕ) → m ≡ 0 → nat_lt 0 m ≡ false
      no_holder m e = grind (arith, e)

      never : list_all (is_lane_taken t p.number) slots ≡ true → ⊥
      never all =
          let fits = no-longer slots (map lane (filter used slots)) (range-apart 0 p.size) (λ i among. taken_slot i (passes_all (is_lane_taken t p.number) i slots among all)) in
          let as_many = length_map lane (filter used slots) in
          let less = one_less used slot slots (range-has 0 p.size slot (none_below slot) (up slot p.size is.within)) (no_holder _ is.free) in
          omega (arith, fits, as_many, less)

  pub lane_is_own : (i : ℕ) → is_lane_free t p i ≡ true → i < p.size
  lane_is_own i e = step (nat_lt i p.size) refl (two (not (is_lane_taken t p.number i)) _ e).1
    where
      low : nat_lt i p.size ≡ true → i < p.size
      low is = grind (arith, is)

      step : (b : Bool) → nat_lt i p.size ≡ b → (b || list_all (is_lane_taken t p.number) slots) ≡ true → i < p.size
      step true is all = low is
      step false is all = absurd (true≢false (sym all ∙ not_all_taken))

pub free_slots_have_lanes : FreeSlotsHaveLanes
free_slots_have_lanes t n slot p order is = not_all_taken t n slot p order is

pub free_lanes_are_own : FreeLanesAreOwn
free_lanes_are_own t n slot lane p order is free = lane_is_own t n slot p order is lane free
