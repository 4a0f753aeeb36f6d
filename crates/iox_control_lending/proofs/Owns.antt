-- A port has fewer loans and pending responses than slots, while nobody has one of the slots.
use Rattle.std.specs.Prelude.{◌≡◌, ℕ, ◌+◌, ◌<◌, ◌≤◌, ◌&&◌, ◌==◌, nat_lt, Bool, true, false, if◌then◌else◌, List, [], ◌∷◌, map, filter, length, Some, refl}
use Rattle.std.specs.List.{range_with_len}
use Rattle.std.proofs.Common.{sym, ap, subst, ◌∙◌, arith, inl, inr, true≢false, eqb-true, eq-eqb}
use Rattle.std.proofs.lemmas.List.FromFn.{length-range_with_len}
use Rattle.iox_model.specs.Handles.{is_own}
use Rattle.iox_laws.proofs.WeaveLedger.Lists.{IsAmong, NoRepeats, among-filter, filter-among, map-among}
use Rattle.iox_laws.proofs.WeaveLedger.Ranges.{no-longer, range-has}
use Rattle.iox_tables.specs.HubStates.Tables.{HandleState, HubTables, PortState, port_in, slot_at}
use Rattle.iox_tables.specs.HubBooks.Counts.{how_many, is_at, total}
use Rattle.iox_tables.specs.HubBooks.Handles.{IsOfPort, is_own_at}
use Rattle.iox_tables.specs.HubBooks.Hubs.{AreInOrder, IsUsed}
use Rattle.iox_tables.specs.HubBooks.Rooms.{own_count}
use Rattle.iox_tables.specs.HubLending.Choosing.{IsFreeSlot}
use Rattle.iox_tables.specs.HubLending.Keeping.{has_holder}
use Rattle.iox_tables.proofs.HubBooks.Frames.{length_map}
use Rattle.iox_tables.proofs.HubLending.Chosen.{one_less}
use Rattle.iox_tables.proofs.HubLending.Kept.{both, some_holder}
use Rattle.iox_tables.proofs.HubLending.Owning.{of_each, port_is, two, used_among, used_within}

-- ---- lists

-- how many pass is the length of those that do
pub many_are : {A : Type 0} (test : A → Bool) (xs : List A) → how_many test xs ≡ length (filter test xs)
many_are test [] = refl
many_are test (x ∷ xs) = step (test x) (many_are test xs)
  where
    step : (b : Bool) → how_many test xs ≡ length (filter test xs)
        → (if b then 1 else 0) + how_many test xs ≡ length (if b then x ∷ filter test xs else filter test xs)
    step true rest = omega (arith, rest)
    step false rest = omega (arith, rest)

-- a test that passes counts for one
one : (b : Bool) → b ≡ true → 1 ≤ (if b then 1 else 0)
one true e = omega arith
one false e = absurd (true≢false (sym e))

below_each : {A : Type 0} (f g : A → ℕ) (xs : List A) → ((x : A) → IsAmong x xs → f x ≤ g x) → total f xs ≤ total g xs
below_each f g [] less = omega arith
below_each f g (x ∷ xs) less =
    let first = less x (inl refl) in
    let rest = below_each f g xs (λ y among. less y (inr among)) in
    omega (arith, first, rest)

-- one that passes is counted
counts_one : (key : HandleState → ℕ) (test : HandleState → Bool) (h : HandleState) (hs : List HandleState) → IsAmong h hs → test h ≡ true
    → 1 ≤ how_many (λ k. test k && (key k == key h)) hs
counts_one key test h [] among e = absurd among
counts_one key test h (k ∷ ks) (inl is) e =
    let here : (test k && (key k == key h)) ≡ true = both (test k) (key k == key h) (ap test (sym is) ∙ e) (eq-eqb (key k) (key h) (ap key (sym is))) in
    let first = one (test k && (key k == key h)) here in
    omega (arith, first)
counts_one key test h (k ∷ ks) (inr among) e = let rest = counts_one key test h ks among e in omega (arith, rest)

-- where no key is counted twice, none is there twice
once_each : (key : HandleState → ℕ) (test : HandleState → Bool) (hs : List HandleState)
    → ((k : ℕ) → how_many (λ h. test h && (key h == k)) hs ≤ 1) → NoRepeats (map key (filter test hs))
once_each key test [] few = tt
once_each key test (h ∷ hs) few = step (test h) refl (once_each key test hs (λ k. less k (few k)))
  where
    less : (k : ℕ) → how_many (λ h. test h && (key h == k)) (h ∷ hs) ≤ 1 → how_many (λ h. test h && (key h == k)) hs ≤ 1
    less k e = omega (arith, e)

    twice : test h ≡ true → (y : HandleState) × IsAmong y (filter test hs) × (key h ≡ key y) → ⊥
    twice e y =
        let f = filter-among test y.0 hs y.1 in
        let more : 1 ≤ how_many (λ k. test k && (key k == key y.0)) hs = counts_one key test y.0 hs f.0 f.1 in
        let here : (test h && (key h == key y.0)) ≡ true = both (test h) (key h == key y.0) e (eq-eqb (key h) (key y.0) y.2) in
        let first = one (test h && (key h == key y.0)) here in
        let all = few (key y.0) in
        omega (arith, more, first, all)

    step : (b : Bool) → test h ≡ b → NoRepeats (map key (filter test hs)) → NoRepeats (map key (if b then h ∷ filter test hs else filter test hs))
    step false e rest = rest
    step true e rest = (λ among. twice e (map-among key (key h) (filter test hs) among), rest)

-- ---- the port's own

up : (k m : ℕ) → k < m → k < 0 + m
up k m e = omega (arith, e)

none_below : (k : ℕ) → 0 ≤ k
none_below k = omega arith

no_holder : (m : ℕ) → m ≡ 0 → nat_lt 0 m ≡ false
no_holder m e = grind (arith, e)

module _ (t : HubTables) (n : ℕ) (p : PortState) (order : AreInOrder t) (there : port_in t.ports n ≡ Some p) where
  -- the port has the handle as a loan or as a pending response
  abbrev owns : HandleState → Bool
  owns h = is_own h.kind && (h.port == p.number)

  -- somebody has the slot of the port's pool
  abbrev used : ℕ → Bool
  used k = has_holder (slot_at t.pools p.pool k)

  -- its message is in the port's pool
  pool_of : (h : HandleState) → IsAmong h t.handles → owns h ≡ true → h.pool ≡ p.pool
  pool_of h among e =
      let parts = two (is_own h.kind) (h.port == p.number) e in
      let of : IsOfPort t h = of_each (IsOfPort t) h t.handles order.ports among in
      of.of_pool parts.0 ∙ ap (λ (q : PortState). q.pool) (port_is t order n p there h.port of.port of.there (eqb-true h.port p.number parts.1))

  -- those of the port's own that pass are in slots of their own
  module _ (test : HandleState → Bool) (own : (h : HandleState) → test h ≡ true → owns h ≡ true) where
    own_at : (k : ℕ) (h : HandleState) → IsAmong h t.handles
        → (if test h && (h.slot == k) then 1 else 0) ≤ (if is_own_at p.pool k h then 1 else 0)
    own_at k h among = step (test h && (h.slot == k)) refl
      where
        here : (test h && (h.slot == k)) ≡ true → is_own_at p.pool k h ≡ true
        here e =
            let parts = two (test h) (h.slot == k) e in
            both (is_own h.kind) (is_at p.pool k h) (two (is_own h.kind) (h.port == p.number) (own h parts.0)).0
            (both (h.pool == p.pool) (h.slot == k) (eq-eqb h.pool p.pool (pool_of h among (own h parts.0))) parts.1)

        step : (b : Bool) → (test h && (h.slot == k)) ≡ b → (if b then 1 else 0) ≤ (if is_own_at p.pool k h then 1 else 0)
        step true e = one (is_own_at p.pool k h) (here e)
        step false e = omega arith

    pub own_slots_of : NoRepeats (map (λ (h : HandleState). h.slot) (filter test t.handles))
    own_slots_of = once_each (λ h. h.slot) test t.handles few
      where
        few : (k : ℕ) → how_many (λ h. test h && (h.slot == k)) t.handles ≤ 1
        few k =
            let less = below_each (λ h. if test h && (h.slot == k) then 1 else 0) (λ h. if is_own_at p.pool k h then 1 else 0) t.handles (own_at k) in
            let all = order.own p.pool k in
            omega (arith, less, all)

module _ (t : HubTables) (n slot : ℕ) (p : PortState) (order : AreInOrder t) (is : IsFreeSlot t n p t.pools slot) where
  -- the same, of the port of the free slot
  abbrev own : HandleState → Bool
  own = owns t n p order is.there

  -- the slots of the port's pool
  abbrev slots : List ℕ
  slots = range_with_len 0 p.size

  is_used : (k : ℕ) → IsAmong k (map (λ (h : HandleState). h.slot) (filter own t.handles)) → IsAmong k (filter (used t n p order is.there) slots)
  is_used k among =
      let y = map-among (λ (h : HandleState). h.slot) k (filter own t.handles) among in
      let f = filter-among own y.0 t.handles y.1 in
      let had : IsUsed t p.pool y.0.slot = subst (λ q. IsUsed t q y.0.slot) (pool_of t n p order is.there y.0 f.0 f.1) (used_among t order y.0 f.0) in
      subst (λ j. IsAmong j (filter (used t n p order is.there) slots)) (sym y.2)
      (among-filter (used t n p order is.there) y.0.slot slots
      (range-has 0 p.size y.0.slot (none_below y.0.slot) (up y.0.slot p.size (used_within t order n p is.there y.0.slot had))) (some_holder _ had))

  pub own_are_fewer : own_count t.handles p + 1 ≤ p.size
  own_are_fewer =
      let many : own_count t.handles p ≡ length (filter own t.handles) = many_are own t.handles in
      let as_many = length_map (λ (h : HandleState). h.slot) (filter own t.handles) in
      let apart = own_slots_of t n p order is.there own (λ h e. e) in
      let fits = no-longer (map (λ (h : HandleState). h.slot) (filter own t.handles)) (filter (used t n p order is.there) slots) apart is_used in
      let less = one_less (used t n p order is.there) slot slots (range-has 0 p.size slot (none_below slot) (up slot p.size is.within)) (no_holder _ is.free) in
      let size : length slots ≡ p.size = length-range_with_len 0 p.size in
      omega (arith, many, as_many, fits, less, size)
