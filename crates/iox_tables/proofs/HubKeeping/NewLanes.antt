-- What new lanes count, and what is so of each of them.
use Rattle.std.specs.Prelude.{◌≡◌, ℕ, zero, suc, ◌+◌, ◌*◌, Bool, true, false, if◌then◌else◌, List, [], ◌∷◌, ◌++◌, map, filter, replicate, length, slice_get, refl}
use Rattle.std.specs.List.{sum_by}
use Rattle.std.specs.Option.{option_map_or}
use Rattle.std.proofs.Common.{sym, ap, ap₂, subst, ◌∙◌, arith}
use Rattle.std.proofs.lemmas.List.Sums.{sum_by-cons}
use Rattle.iox_lanes.specs.Lanes.{LaneState, empty_lane}
use Rattle.iox_lanes.specs.Pipes.{PipeState}
use Rattle.iox_tables.specs.HubStates.Tables.{HubSettings, PortState}
use Rattle.iox_tables.specs.HubStates.Wirings.{buffer_from, limit_from}
use Rattle.iox_tables.specs.HubBooks.Counts.{OfAll, OfAllLanes, on_lanes}
use Rattle.iox_tables.proofs.HubBooks.Eachs.{OfPipe, OfPort, all-append, all-front, all-back}
use Rattle.iox_tables.specs.HubMaking.LaneSums.{sum_that_comes}
use Rattle.iox_tables.specs.HubMaking.NewPorts.{connected_from, connected_to, is_other, pipe_between, ports_with, width_of}
use Rattle.iox_tables.proofs.HubMaking.Summing.{new_lanes_count, new_pipes_count}
use Rattle.iox_tables.proofs.HubKeeping.Ordered.{lanes_sum}

pub length_same : {A : Type 0} (n : ℕ) (a : A) → length (replicate n a) ≡ n
length_same zero a = refl
length_same (suc n) a = ap suc (length_same n a)

-- in a list of the same there is nothing else
pub same_or : {A : Type 0} (n : ℕ) (a : A) (k : ℕ) → option_map_or (λ x. x) (slice_get (replicate n a) k) a ≡ a
same_or zero a k = refl
same_or (suc n) a zero = refl
same_or (suc n) a (suc k) = same_or n a k

all_same : {A : Type 0} (P : A → Type 0) (n : ℕ) (a : A) → P a → OfAll P (replicate n a)
all_same P zero a is = tt
all_same P (suc n) a is = (is, all_same P n a is)

times_none : (a b c d : ℕ) → b ≡ 0 → d ≡ 0 → a * b + c * d ≡ 0
times_none a b c d e f = ap₂ (λ x y. a * x + c * y) e f ∙ (omega arith)

sum_none : {A : Type 0} (f : A → ℕ) → ((x : A) → f x ≡ 0) → (xs : List A) → sum_by f xs ≡ 0
sum_none f none [] = refl
sum_none f none (x ∷ xs) = sum_by-cons f x xs ∙ ap₂ (λ (a b : ℕ). a + b) (none x) (sum_none f none xs)

module _ (settings : HubSettings) (ports : List PortState) (new : PortState) (bare : new.expired.pipes ≡ []) where
  -- nothing is on a new lane
  pub new_lanes_same : (f : LaneState → ℕ) → ((pool buffer limit : ℕ) → f (empty_lane pool buffer limit) ≡ 0)
      → on_lanes f (ports_with settings ports new) ≡ on_lanes f ports
  new_lanes_same f none =
      lanes_sum f (ports_with settings ports new) ∙ new_lanes_count f settings ports new bare
      ∙ ap₂ (λ (a b : ℕ). a + b) (sym (lanes_sum f ports)) (sum_none (sum_that_comes f settings new) comes (filter (λ p. is_other p new) ports))
      ∙ plus_none (on_lanes f ports)
    where
      plus_none : (n : ℕ) → n + 0 ≡ n
      plus_none n = omega arith

      comes : (p : PortState) → sum_that_comes f settings new p ≡ 0
      comes p =
          ap₂ (λ (a b : ℕ). a + b) (new_pipes_count f settings new p) (new_pipes_count f settings p new)
          ∙ times_none (width_of p) _ (width_of new) _ (none new.pool (buffer_from settings new.role) (limit_from settings new.role)) (none p.pool (buffer_from settings p.role) (limit_from settings p.role))

  module _ (P : LaneState → Type 0) (empty : (pool buffer limit : ℕ) → P (empty_lane pool buffer limit)) where
    new_pipe_is : (from to : PortState) → OfPipe P (pipe_between settings from to)
    new_pipe_is from to = all_same P (width_of to) _ (empty from.pool (buffer_from settings from.role) (limit_from settings from.role))

    old_is : (p : PortState) → OfPort P p → OfPort P (connected_to settings new p)
    old_is p a = step (is_other p new)
      where
        step : (b : Bool) → OfPort P (if b then record p { incoming = record (p.incoming) { pipes = p.incoming.pipes ++ pipe_between settings new p ∷ [] } } else p)
        step true =
            all-append (OfPipe P) p.expired.pipes (p.incoming.pipes ++ pipe_between settings new p ∷ []) (all-front (OfPipe P) p.expired.pipes p.incoming.pipes a)
            (all-append (OfPipe P) p.incoming.pipes (pipe_between settings new p ∷ []) (all-back (OfPipe P) p.expired.pipes p.incoming.pipes a) (new_pipe_is new p, tt))
        step false = a

    last_is : OfPort P (connected_from settings ports new)
    last_is = subst (λ (es : List PipeState). OfAll (OfPipe P) (es ++ map (λ p. pipe_between settings p new) (filter (λ p. is_other p new) ports))) (sym bare) (each (filter (λ p. is_other p new) ports))
      where
        each : (ps : List PortState) → OfAll (OfPipe P) (map (λ p. pipe_between settings p new) ps)
        each [] = tt
        each (p ∷ ps) = (new_pipe_is p new, each ps)

    pub new_lanes_are : OfAllLanes P ports → OfAllLanes P (ports_with settings ports new)
    new_lanes_are a = all-append (OfPort P) (map (connected_to settings new) ports) (connected_from settings ports new ∷ []) (each ports a) (last_is, tt)
      where
        each : (ps : List PortState) → OfAll (OfPort P) ps → OfAll (OfPort P) (map (connected_to settings new) ps)
        each [] b = tt
        each (p ∷ ps) b = (old_is p b.0, each ps b.1)
