-- The oldest may be pushed out first.
use Rattle.std.specs.Prelude.{◌≡◌, ℕ, ◌+◌, ◌≤◌, Bool, true, false, if◌then◌else◌, nat_le, nat_lt, List, [], ◌∷◌, ◌++◌, drop, length, refl}
use Rattle.std.proofs.Common.{sym, ap, ◌∙◌, arith, length-append, true≢false}
use Rattle.iox_lanes.specs.Lanes.{delivered, without_oldest}
use Rattle.iox_tables.specs.HubStates.Changes.{OldestMayGoFirst}

-- one more than n is more than b exactly if n is no less
more_than : (b n : ℕ) → nat_lt b (n + 1) ≡ nat_le b n
more_than b n = grind (arith)

pub oldest_goes_first : OldestMayGoFirst
oldest_goes_first l k some =
    ap (λ (c : Bool). if c then without_oldest (delivered l k) else delivered l k)
    (ap (nat_lt l.buffer) (length-append l.waiting (k ∷ [])) ∙ more_than l.buffer (length l.waiting))
    ∙ step (nat_le l.buffer (length l.waiting)) refl
  where
    none : (b : ℕ) → 1 ≤ b → nat_le b 0 ≡ false
    none b h = grind (arith, h)

    first : (ks : List ℕ) → nat_le l.buffer (length ks) ≡ true → drop 1 (ks ++ k ∷ []) ≡ drop 1 ks ++ k ∷ []
    first [] e = absurd (true≢false (sym e ∙ none l.buffer some))
    first (j ∷ js) e = refl

    step : (c : Bool) → nat_le l.buffer (length l.waiting) ≡ c
        → (if c then without_oldest (delivered l k) else delivered l k) ≡ (if c then delivered (without_oldest l) k else delivered l k)
    step true e = λ i. record (delivered l k) { waiting = first l.waiting e i }
    step false e = refl
