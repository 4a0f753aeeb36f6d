-- What is so of ports is so of ports that are alike: how many loans they made, and sums over them.
use Rattle.std.specs.Prelude.{◌≡◌, ℕ, ◌+◌, ◌-◌, ◌≤◌, List, [], ◌∷◌, refl}
use Rattle.std.proofs.Common.{sym, ap, ap₂, subst, ◌∙◌}
use Rattle.iox_tables.specs.HubStates.Tables.{HandleState, PortState}
use Rattle.iox_tables.specs.HubBooks.Counts.{OfAll, total}
use Rattle.iox_tables.specs.HubBooks.Rooms.{own_count}
use Rattle.iox_tables.proofs.HubBooks.Frames.{AreAlike, bare_port, bare_ports}

loans_bare : (n : ℕ) (ports : List PortState) → OfAll (λ p. p.loans ≤ n) ports → OfAll (λ p. p.loans ≤ n) (bare_ports ports)
loans_bare n [] a = a
loans_bare n (p ∷ ps) a = (a.0, loans_bare n ps a.1)

bare_loans : (n : ℕ) (ports : List PortState) → OfAll (λ p. p.loans ≤ n) (bare_ports ports) → OfAll (λ p. p.loans ≤ n) ports
bare_loans n [] a = a
bare_loans n (p ∷ ps) a = (a.0, bare_loans n ps a.1)

-- each made as many loans at most
pub loans_stay : (n : ℕ) (old new : List PortState) → AreAlike old new → OfAll (λ p. p.loans ≤ n) old → OfAll (λ p. p.loans ≤ n) new
loans_stay n old new alike a = bare_loans n new (subst (OfAll (λ p. p.loans ≤ n)) (sym alike) (loans_bare n old a))

bare_total : (f : PortState → ℕ) → ((p : PortState) → f (bare_port p) ≡ f p) → (ports : List PortState) → total f (bare_ports ports) ≡ total f ports
bare_total f same [] = refl
bare_total f same (p ∷ ps) = ap₂ (λ (a b : ℕ). a + b) (same p) (bare_total f same ps)

-- a sum that lanes and request states do not change
pub sums_stay : (f : PortState → ℕ) → ((p : PortState) → f (bare_port p) ≡ f p) → (old new : List PortState) → AreAlike old new → total f new ≡ total f old
sums_stay f same old new alike = sym (bare_total f same new) ∙ ap (total f) alike ∙ bare_total f same old

-- each may have as many handles of its own more
pub own_stays : (hs : List HandleState) (old new : List PortState) → AreAlike old new → total (λ p. p.size - own_count hs p) new ≡ total (λ p. p.size - own_count hs p) old
own_stays hs old new alike = sums_stay (λ p. p.size - own_count hs p) (λ p. refl) old new alike
