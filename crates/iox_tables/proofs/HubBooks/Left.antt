-- A handle that is dropped leaves room for another.
use Rattle.std.specs.Prelude.{◌≡◌, ℕ, ◌+◌, ◌-◌, ◌≤◌, Bool, true, false, ◌&&◌, ◌||◌, if◌then◌else◌, ◌==◌, List, [], ◌∷◌, map, length, Some, refl}
use Rattle.std.proofs.Common.{sym, ap, subst, ◌∙◌, arith, true≢false, eqb-true}
use Rattle.iox_model.specs.Handles.{is_own}
use Rattle.iox_model.specs.Maps.{AreDistinct, has_number}
use Rattle.iox_tables.specs.HubStates.Tables.{HandleState, PortState, numbers_of}
use Rattle.iox_tables.specs.HubStates.Ends.{dropped_handles}
use Rattle.iox_tables.specs.HubStates.Wirings.{handle_in}
use Rattle.iox_tables.proofs.HubStates.Keys.{flip}
use Rattle.iox_tables.specs.HubBooks.Counts.{total}
use Rattle.iox_tables.specs.HubBooks.Rooms.{own_count}
use Rattle.iox_tables.proofs.HubBooks.HandleTotals.{handle_dropped}

-- where each counts for one, the sum is how many there are
pub total_ones : {A : Type 0} (xs : List A) → total (λ x. 1) xs ≡ length xs
total_ones [] = refl
total_ones (x ∷ xs) = let more = total_ones xs in omega (arith, more)

-- one handle less
pub one_shorter : (hs : List HandleState) (node n : ℕ) (h : HandleState) → handle_in hs node n ≡ Some h → AreDistinct (map (λ k. k.number) hs)
    → length (dropped_handles node n hs) + 1 ≡ length hs
one_shorter hs node n h there apart =
    ap (λ m. m + 1) (sym (total_ones (dropped_handles node n hs))) ∙ handle_dropped (λ k. 1) hs node n h there apart ∙ total_ones hs

none_of : (n : ℕ) (ports : List PortState) → has_number n (numbers_of ports) ≡ false → total (λ p. if p.number == n then 1 else 0) ports ≡ 0
none_of n [] e = refl
none_of n (p ∷ ps) e = step (p.number == n) e (none_of n ps)
  where
    step : (b : Bool) → (b || has_number n (numbers_of ps)) ≡ false → (has_number n (numbers_of ps) ≡ false → total (λ (q : PortState). if q.number == n then 1 else 0) ps ≡ 0)
        → (if b then 1 else 0) + total (λ (q : PortState). if q.number == n then 1 else 0) ps ≡ 0
    step true f more = absurd (true≢false f)
    step false f more = let z = more f in omega (arith, z)

-- one port at most has the number
one_of : (n : ℕ) (ports : List PortState) → AreDistinct (numbers_of ports) → total (λ p. if p.number == n then 1 else 0) ports ≤ 1
one_of n [] d = omega arith
one_of n (p ∷ ps) d = step (p.number == n) refl (one_of n ps d.1)
  where
    step : (b : Bool) → (p.number == n) ≡ b → total (λ (q : PortState). if q.number == n then 1 else 0) ps ≤ 1
        → (if b then 1 else 0) + total (λ (q : PortState). if q.number == n then 1 else 0) ps ≤ 1
    step true e rest =
        let none = none_of n ps (subst (λ m. has_number m (numbers_of ps) ≡ false) (eqb-true p.number n e) d.0) in omega (arith, none)
    step false e rest = omega (arith, rest)

-- each port may have as many handles of its own as before, and its own one more
more_own : (hs : List HandleState) (node n : ℕ) (h : HandleState) → handle_in hs node n ≡ Some h → AreDistinct (map (λ k. k.number) hs) → (ports : List PortState)
    → total (λ p. p.size - own_count (dropped_handles node n hs) p) ports
    ≤ total (λ p. p.size - own_count hs p) ports + total (λ p. if p.number == h.port then 1 else 0) ports
more_own hs node n h there apart [] = omega arith
more_own hs node n h there apart (p ∷ ps) =
    both _ _ _ _ _ _ (least p.size (own_count (dropped_handles node n hs) p) (own_count hs p) (is_own h.kind) (h.port == p.number) (p.number == h.port)
    (flip h.port p.number) (handle_dropped (λ x. if is_own x.kind && (x.port == p.number) then 1 else 0) hs node n h there apart)) (more_own hs node n h there apart ps)
  where
    both : (a b c d e f : ℕ) → a ≤ b + c → d ≤ e + f → a + d ≤ b + e + (c + f)
    both a b c d e f p q = omega (arith, p, q)

    least : (size new old : ℕ) (own here there : Bool) → here ≡ there → new + (if own && here then 1 else 0) ≡ old → size - new ≤ size - old + (if there then 1 else 0)
    least size new old true true there e sum = subst (λ (b : Bool). size - new ≤ size - old + (if b then 1 else 0)) e (omega (arith, sum))
    least size new old true false there e sum = subst (λ (b : Bool). size - new ≤ size - old + (if b then 1 else 0)) e (omega (arith, sum))
    least size new old false true there e sum = subst (λ (b : Bool). size - new ≤ size - old + (if b then 1 else 0)) e (omega (arith, sum))
    least size new old false false there e sum = subst (λ (b : Bool). size - new ≤ size - old + (if b then 1 else 0)) e (omega (arith, sum))

-- a handle that is dropped leaves room for another
pub room_left : (hs : List HandleState) (node n : ℕ) (h : HandleState) → handle_in hs node n ≡ Some h → AreDistinct (map (λ k. k.number) hs)
    → (ports : List PortState) → AreDistinct (numbers_of ports)
    → total (λ p. p.size - own_count (dropped_handles node n hs) p) ports ≤ total (λ p. p.size - own_count hs p) ports + 1
room_left hs node n h there apart ports distinct =
    let more = more_own hs node n h there apart ports in
    let one = one_of h.port ports distinct in omega (arith, more, one)
