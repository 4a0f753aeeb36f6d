-- What is done to the port in a place.
use Rattle.std.specs.Prelude.{◌≡◌, ℕ, zero, suc, ◌<◌, Bool, true, false, if◌then◌else◌, ◌==◌, List, [], ◌∷◌, length, Option, Some, None, slice_get, slice_set, refl}
use Rattle.std.specs.Option.{option_map_or}
use Rattle.std.proofs.Common.{sym, ap, ◌∙◌, arith, eqb-true, get_or}
use Rattle.iox_model.specs.declared.way.RequestState.TheVariants.{Closed}
use Rattle.iox_model.specs.Maps.{has_number}
use Rattle.iox_tables.specs.Incomings.{rank_from}
use Rattle.iox_tables.specs.Pipes.{PipeState}
use Rattle.iox_tables.specs.HubStates.Tables.{PortState, pipe_from, pipes_of, port_in, senders_of, with_first_by}
use Rattle.iox_tables.specs.HubStates.Ways.{with_pipe_from, with_pipe_of, with_pipes, with_port}
use Rattle.iox_tables.proofs.HubStates.Placing.{places_are_of_numbers}
use Rattle.iox_hub_ports.specs.InPlace.{in_place, on_pipe_from, with_place}
use Rattle.iox_hub_ports.specs.Ports.{place_in, state_from}
use Rattle.iox_hub_ports.proofs.Seats.{get_in}

-- ---- a place, and a number

module _ (ports : List PortState) (n i : ℕ) where
  -- what the port in a place says, the first of the number that stands there says
  pub asked_by_number : {A : Type 0} (f : PortState → A) (none : A) → place_in ports n ≡ Some i
      → in_place f none ports i ≡ option_map_or f (port_in ports n) none
  asked_by_number f none e = ap (λ (o : Option PortState). option_map_or f o none) (places_are_of_numbers ports n i e).port

  -- a change in a place is the change of the port of the number that stands there
  pub changed_by_number : (f : PortState → PortState) → place_in ports n ≡ Some i → with_place f ports i ≡ with_port f ports n
  changed_by_number f e = (places_are_of_numbers ports n i e).changes f

-- ---- the port that is there

module _ (ports : List PortState) (i : ℕ) (p : PortState) where
  pub said_in : {A : Type 0} (f : PortState → A) (none : A) → i < length ports → p ≡ get_or ports i p → f p ≡ in_place f none ports i
  said_in f none h e = ap (λ (o : Option PortState). option_map_or f o none) (sym (get_in ports i p h e))

  pub changed_in : (f : PortState → PortState) → i < length ports → p ≡ get_or ports i p → slice_set ports i (f p) ≡ with_place f ports i
  changed_in f h e = ap (λ (o : Option PortState). option_map_or (λ q. slice_set ports i (f q)) o ports) (sym (get_in ports i p h e))

-- ---- no pipe is kept

pub no_rank : (ps : List PipeState) (s : ℕ) → (length ps == 0) ≡ true → rank_from ps s ≡ None
no_rank [] s e = refl
no_rank (q ∷ qs) s e = let same : length (q ∷ qs) ≡ 0 = eqb-true (length (q ∷ qs)) 0 e in absurd (omega (arith, same))

-- ---- what is only asked

state_of_pipe : (lane : ℕ) (o : Option PipeState)
    → option_map_or (λ (q : PipeState). option_map_or (λ r. r) (slice_get q.states lane) Closed) o Closed
    ≡ option_map_or (λ r. r) (slice_get (option_map_or (λ (q : PipeState). q.states) o []) lane) Closed
state_of_pipe lane (Some q) = refl
state_of_pipe lane None = refl

pub state_there : (p : PortState) (s lane : ℕ)
    → on_pipe_from (λ q. option_map_or (λ r. r) (slice_get q.states lane) Closed) Closed p s ≡ state_from p s lane
state_there p s lane = state_of_pipe lane (pipe_from (pipes_of p) s)

first_same : {A : Type 0} (key : A → ℕ) (xs : List A) (n : ℕ) → with_first_by key (λ x. x) xs n ≡ xs
first_same key [] n = refl
first_same key (x ∷ xs) n = step (key x == n) (first_same key xs n)
  where
    step : (b : Bool) → with_first_by key (λ x. x) xs n ≡ xs → (if b then x ∷ xs else x ∷ with_first_by key (λ x. x) xs n) ≡ x ∷ xs
    step true rest = refl
    step false rest = ap (λ ys. x ∷ ys) rest

pipe_same : (p : PortState) (s : ℕ) → with_pipe_of (λ q. q) p s ≡ p
pipe_same p s = step (has_number s (senders_of p.expired.pipes))
  where
    step : (b : Bool)
        → (if b then record p { expired = with_pipes p.expired (with_pipe_from (λ q. q) p.expired.pipes s) } else record p { incoming = with_pipes p.incoming (with_pipe_from (λ q. q) p.incoming.pipes s) }) ≡ p
    step true = ap (λ qs. record p { expired = with_pipes p.expired qs }) (first_same (λ q. q.sender) p.expired.pipes s)
    step false = ap (λ qs. record p { incoming = with_pipes p.incoming qs }) (first_same (λ q. q.sender) p.incoming.pipes s)

set_same : (f : PortState → PortState) → ((p : PortState) → f p ≡ p) → (xs : List PortState) (i : ℕ) → with_place f xs i ≡ xs
set_same f same [] i = refl
set_same f same (x ∷ xs) zero = ap (λ y. y ∷ xs) (same x)
set_same f same (x ∷ xs) (suc i) = later (slice_get xs i) ∙ ap (λ ys. x ∷ ys) (set_same f same xs i)
  where
    later : (o : Option PortState)
        → option_map_or (λ p. slice_set (x ∷ xs) (suc i) (f p)) o (x ∷ xs) ≡ x ∷ option_map_or (λ p. slice_set xs i (f p)) o xs
    later (Some p) = refl
    later None = refl

-- the port in a place stays as it is
pub with_same : (f : PortState → PortState) (xs : List PortState) (i : ℕ) → ((p : PortState) → slice_get xs i ≡ Some p → f p ≡ p) → with_place f xs i ≡ xs
with_same f xs i same = over (slice_get xs i) refl
  where
    set_there : (ys : List PortState) (j : ℕ) (p : PortState) → slice_get ys j ≡ Some p → slice_set ys j p ≡ ys
    set_there [] j p e = refl
    set_there (y ∷ ys) zero p e = ap (λ o. option_map_or (λ q. q ∷ ys) o ys) (sym e)
    set_there (y ∷ ys) (suc j) p e = ap (λ qs. y ∷ qs) (set_there ys j p e)

    over : (o : Option PortState) → slice_get xs i ≡ o → option_map_or (λ p. slice_set xs i (f p)) o xs ≡ xs
    over None e = refl
    over (Some p) e = ap (λ q. slice_set xs i q) (same p e) ∙ set_there xs i p e

-- a step that changes nothing
pub place_same : (ports : List PortState) (i s : ℕ) → with_place (λ p. with_pipe_of (λ q. q) p s) ports i ≡ ports
place_same ports i s = set_same (λ p. with_pipe_of (λ q. q) p s) (λ p. pipe_same p s) ports i

-- what is asked alike of each port is asked alike of one that may be there
pub asks_alike : {A : Type 0} (f g : PortState → A) → ((p : PortState) → f p ≡ g p) → (none : A) (o : Option PortState)
    → option_map_or f o none ≡ option_map_or g o none
asks_alike f g alike none (Some p) = alike p
asks_alike f g alike none None = refl
