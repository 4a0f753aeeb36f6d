-- Where the port of a number is, where no two ports have one number.
use Rattle.std.specs.Prelude.{◌≡◌, ℕ, zero, suc, ◌+◌, ◌<◌, Bool, true, false, if◌then◌else◌, ◌==◌, List, [], ◌∷◌, length, Option, Some, None, is_some, slice_get, refl}
use Rattle.std.specs.List.{position_from}
use Rattle.std.specs.Option.{option_map_or}
use Rattle.std.proofs.Common.{sym, ap, ◌∙◌, arith, eqb-true}
use Rattle.std.proofs.lemmas.Bool.{false≢true, or_parts}
use Rattle.std.proofs.lemmas.Option.{slice_get_within}
use Rattle.iox_model.specs.Maps.{AreDistinct, has_number}
use Rattle.iox_tables.specs.HubStates.Tables.{PortState, numbers_of, port_in}
use Rattle.iox_tables.proofs.HubStates.Keys.{flip}
use Rattle.iox_tables.proofs.HubStates.Placing.{places_are_of_numbers}
use Rattle.iox_hub_ports.specs.Ports.{is_at, place_in}
use Rattle.iox_hub_ports.proofs.Firsts.{some_first}
use Rattle.iox_hub_ports.proofs.Seats.{off}

none_from : (xs : List PortState) (n k : ℕ) → has_number n (numbers_of xs) ≡ false → position_from (λ (p : PortState). p.number == n) k xs ≡ None
none_from [] n k e = refl
none_from (x ∷ xs) n k e =
    let parts = or_parts (x.number == n) (has_number n (numbers_of xs)) e in
    ap (λ (b : Bool). if b then Some k else position_from (λ (p : PortState). p.number == n) (k + 1) xs) parts.0 ∙ none_from xs n (k + 1) parts.1

-- no port has the number
pub no_place : (xs : List PortState) (n : ℕ) → has_number n (numbers_of xs) ≡ false → place_in xs n ≡ None
no_place xs n e = none_from xs n 0 e

-- the port that is there
there : (o : Option PortState) (n : ℕ) → option_map_or (λ (p : PortState). p.number == n) o false ≡ true → (p : PortState) × (o ≡ Some p) × (p.number ≡ n)
there None n e = absurd (false≢true e)
there (Some p) n e = (p, refl, eqb-true p.number n e)

first_from : (xs : List PortState) (i n k : ℕ) → AreDistinct (numbers_of xs) → is_at n xs i ≡ true
    → position_from (λ (p : PortState). p.number == n) k xs ≡ Some (k + i)
first_from [] i n k apart e = absurd (false≢true e)
first_from (x ∷ xs) zero n k apart e =
    ap (λ (b : Bool). if b then Some k else position_from (λ (p : PortState). p.number == n) (k + 1) xs) e ∙ ap (λ (m : ℕ). Some m) (omega arith)
first_from (x ∷ xs) (suc i) n k apart e =
    let (p, at, same) = there (slice_get xs i) n e in
    let other : (x.number == n) ≡ false = ap (λ m. x.number == m) (sym same) ∙ flip x.number p.number ∙ off xs i p x.number apart.0 at in
    ap (λ (b : Bool). if b then Some k else position_from (λ (q : PortState). q.number == n) (k + 1) xs) other
    ∙ first_from xs i n (k + 1) apart.1 e ∙ ap (λ (m : ℕ). Some m) (omega arith)

-- the port with the number is the first
pub at_place : (xs : List PortState) (n i : ℕ) → AreDistinct (numbers_of xs) → is_at n xs i ≡ true → place_in xs n ≡ Some i
at_place xs n i apart e = first_from xs i n 0 apart e ∙ ap (λ (m : ℕ). Some m) (omega arith)

pub is_within : (xs : List PortState) (n i : ℕ) → is_at n xs i ≡ true → i < length xs
is_within xs n i e = let (p, at, same) = there (slice_get xs i) n e in slice_get_within xs i p at

has_its_number : (xs : List PortState) (n : ℕ) → is_some (port_in xs n) ≡ true → option_map_or (λ (p : PortState). p.number == n) (port_in xs n) false ≡ true
has_its_number [] n e = absurd (false≢true e)
has_its_number (x ∷ xs) n e = step (x.number == n) refl (has_its_number xs n) e
  where
    step : (b : Bool) → (x.number == n) ≡ b
        → (is_some (port_in xs n) ≡ true → option_map_or (λ (p : PortState). p.number == n) (port_in xs n) false ≡ true)
        → is_some (if b then Some x else port_in xs n) ≡ true
        → option_map_or (λ (p : PortState). p.number == n) (if b then Some x else port_in xs n) false ≡ true
    step true f rest h = f
    step false f rest h = rest h

-- the first port of a number has it
pub place_is_at : (xs : List PortState) (n i : ℕ) → place_in xs n ≡ Some i → is_at n xs i ≡ true
place_is_at xs n i e =
    ap (λ (o : Option PortState). option_map_or (λ (p : PortState). p.number == n) o false) (places_are_of_numbers xs n i e).port
    ∙ has_its_number xs n (some_first (λ (p : PortState). p.number) xs n 0 i e)
