-- What visits of a port's lanes say of sums over all lanes: where a message was got, one lane had it, and may have one less.
use Rattle.std.specs.Prelude.{◌≡◌, ℕ, zero, suc, ◌+◌, ◌-◌, ◌≤◌, ◌<◌, nat_le, Bool, true, false, if◌then◌else◌, ◌==◌, List, [], ◌∷◌, ◌++◌, length, Option, Some, None, slice_get, slice_set, refl}
use Rattle.std.specs.Option.{option_map_or}
use Rattle.std.proofs.Common.{ap, subst, ◌∙◌, arith, eq-eqb}
use Rattle.std.proofs.lemmas.Option.{none-some, same_Some}
use Rattle.iox_lanes.specs.declared.incoming.Visits.{Visits}
use Rattle.iox_lanes.specs.declared.incoming.Visits.TheVariants.{Got, AtLimit, Nothing}
use Rattle.iox_lanes.specs.declared.search.LaneVisit.{LaneVisit}
use Rattle.iox_lanes.specs.declared.search.LaneVisit.TheVariants as one
use Rattle.iox_lanes.specs.declared.wanted.Wanted.{Wanted}
use Rattle.iox_lanes.specs.Lanes.{LaneState, is_at_limit}
use Rattle.iox_lanes.specs.Pipes.{PipeState}
use Rattle.iox_lanes.specs.Searches.{LabelsByPlace, found, first_wanted, lane_visit, searched, seen, visited, visit_on, visited_on, wanted_on, with_found}
use Rattle.iox_lanes.specs.Visited.{after_visit, all_visited, all_visits, is_got, pipe_visit, pipe_visited, pool_on, visits_from}
use Rattle.iox_hub_ports.specs.HubStates.Tables.{PortState, pipes_of, pipes_to, port_in}
use Rattle.iox_hub_ports.specs.HubStates.Ways.{with_port}
use Rattle.iox_hub_ports.specs.HubStates.Receives.{visited_port}
use Rattle.iox_hub_ports.specs.HubStates.Steps.{places_on}
use Rattle.iox_hub_ports.proofs.HubStates.Borrows.{both_left}
use Rattle.iox_hub_ports.specs.HubBooks.Counts.{how_often, in_pipe, in_port, lane_count, lane_uses, on_lanes, total}
use Rattle.iox_hub_ports.specs.HubBooks.Rooms.{spare}
use Rattle.iox_hub_ports.proofs.HubBooks.Places.{get_below, first_below}
use Rattle.iox_hub_ports.proofs.HubBooks.Totals.{total-append, total_first, total_set, first_none}

-- 1 where a message was got
abbrev pub one_got : LaneVisit → ℕ
one_got (one.Got k) = 1
one_got one.AtLimit = 0
one_got one.Nothing = 0

abbrev pub got_one : Visits → ℕ
got_one (Got sender pool k) = 1
got_one AtLimit = 0
got_one Nothing = 0

-- the place of what was got
abbrev place_got : LaneVisit → ℕ
place_got (one.Got k) = k
place_got one.AtLimit = 0
place_got one.Nothing = 0

zero_one : (n m : ℕ) → n ≡ m → n ≡ 0 → m ≡ 1 → ⊥
zero_one n m e z o = omega (arith, e, z, o)

-- ---- one lane

len_last : (xs : List ℕ) (k : ℕ) → length (xs ++ k ∷ []) ≡ length xs + 1
len_last [] k = refl
len_last (x ∷ xs) k = let more = len_last xs k in omega (arith, more)

fewer : (limit : ℕ) (xs : List ℕ) (k : ℕ) → length xs < limit → (limit - length (xs ++ k ∷ [])) + 1 ≡ limit - length xs
fewer limit xs k less = let n = len_last xs k in omega (arith, n, less)

below_limit : (n limit : ℕ) → nat_le limit n ≡ false → n < limit
below_limit n limit e = grind (arith)

plus_none : (n : ℕ) (m : ℕ) → m ≡ 0 → n + m ≡ n
plus_none n m e = omega (arith, e)

lane_spare : (test : ℕ → Bool) (l : LaneState) → spare (visited test l) + one_got (lane_visit test l) ≡ spare l
lane_spare test l = step (is_at_limit l) refl (first_wanted test l.waiting)
  where
    nothing : (ws : List ℕ) → one_got (seen ws) ≡ 0
    nothing [] = refl
    nothing (k ∷ ks) = refl

    step : (b : Bool) → is_at_limit l ≡ b → (o : Option ℕ)
        → spare (if b then l else with_found o (searched test l)) + one_got (if b then seen l.waiting else found o) ≡ spare l
    step true e o = plus_none (spare l) (one_got (seen l.waiting)) (nothing l.waiting)
    step false e None = plus_none (spare l) 0 refl
    step false e (Some k) = fewer l.limit l.taken k (below_limit (length l.taken) l.limit e)

at_least : (a b : ℕ) → a ≡ 1 → 1 ≤ a + b
at_least a b e = omega (arith, e)

-- the message that is got waited there
first_often : (test : ℕ → Bool) (ks : List ℕ) (k : ℕ) → first_wanted test ks ≡ Some k → 1 ≤ how_often k ks
first_often test [] k e = absurd (none-some k e)
first_often test (n ∷ ks) k e = step (test n) (first_often test ks k) e
  where
    step : (b : Bool) → (first_wanted test ks ≡ Some k → 1 ≤ how_often k ks) → (if b then Some n else first_wanted test ks) ≡ Some k
        → 1 ≤ (if n == k then 1 else 0) + how_often k ks
    step true more is =
        let here : (n == k) ≡ true = eq-eqb n k (same_Some n k is) in
        at_least (if n == k then 1 else 0) (how_often k ks) (ap (λ (b : Bool). if b then suc zero else zero) here)
    step false more is = let m = more is in omega (arith, m)

not_got : (v : LaneVisit) (k : ℕ) → v ≡ one.Got k → one_got v ≡ 0 → ⊥
not_got v k e z = zero_one (one_got v) (one_got (one.Got k)) (ap one_got e) z refl

lane_had : (test : ℕ → Bool) (l : LaneState) (k : ℕ) → lane_visit test l ≡ one.Got k → 1 ≤ lane_count l.pool k l
lane_had test l k e = step (is_at_limit l) (first_wanted test l.waiting) refl e
  where
    nothing : (ws : List ℕ) → one_got (seen ws) ≡ 0
    nothing [] = refl
    nothing (k ∷ ks) = refl

    own : (n : ℕ) → (if l.pool == l.pool then n else 0) ≡ n
    own n = ap (λ (b : Bool). if b then n else 0) (eq-eqb l.pool l.pool refl)

    counted : (n : ℕ) → first_wanted test l.waiting ≡ Some n → n ≡ k → 1 ≤ lane_count l.pool k l
    counted n first same =
        let often : 1 ≤ how_often k l.waiting = first_often test l.waiting k (first ∙ ap (λ m. Some m) same) in
        let all : how_often k (places_on l) ≡ how_often k l.returned + (how_often k l.waiting + how_often k l.taken)
        = total-append (λ n. if n == k then 1 else 0) l.returned (l.waiting ++ l.taken)
        ∙ ap (λ m. how_often k l.returned + m) (total-append (λ n. if n == k then 1 else 0) l.waiting l.taken) in
        let is : lane_count l.pool k l ≡ how_often k (places_on l) = own (how_often k (places_on l)) in
        omega (arith, often, all, is)

    step : (b : Bool) (o : Option ℕ) → first_wanted test l.waiting ≡ o → (if b then seen l.waiting else found o) ≡ one.Got k
        → 1 ≤ lane_count l.pool k l
    step true o first e = absurd (not_got (seen l.waiting) k e (nothing l.waiting))
    step false None first e = absurd (not_got one.Nothing k e refl)
    step false (Some n) first e = counted n first (ap place_got e)

-- where and in which pool a message was got
abbrev place_of_got : Visits → ℕ
place_of_got (Got sender pool k) = k
place_of_got AtLimit = 0
place_of_got Nothing = 0

abbrev pool_of_got : Visits → ℕ
pool_of_got (Got sender pool k) = pool
pool_of_got AtLimit = 0
pool_of_got Nothing = 0

no_got : (v : Visits) (sender pool k : ℕ) → v ≡ Got sender pool k → got_one v ≡ 0 → ⊥
no_got v sender pool k e z = zero_one (got_one v) (got_one (Got sender pool k)) (ap got_one e) z refl

-- ---- one pipe

module _ (wanted : Wanted) (labels : LabelsByPlace) (lane : ℕ) where
  pipe_spare : (p : PipeState) → in_pipe spare (pipe_visited wanted labels lane p) + one_got (pipe_visit wanted labels lane p) ≡ in_pipe spare p
  pipe_spare p = step (slice_get p.lanes lane) refl
    where
      step : (o : Option LaneState) → slice_get p.lanes lane ≡ o
          → in_pipe spare (option_map_or (λ l. record p { lanes = slice_set p.lanes lane (visited_on wanted p.states labels l) }) o p)
          + one_got (option_map_or (λ l. visit_on wanted p.states labels l) o one.Nothing)
          ≡ in_pipe spare p
      step None at = plus_none (in_pipe spare p) 0 refl
      step (Some l) at =
          let sums : total spare (slice_set p.lanes lane (visited_on wanted p.states labels l)) + spare l ≡ total spare p.lanes + spare (visited_on wanted p.states labels l)
          = total_set spare p.lanes lane l (visited_on wanted p.states labels l) at in
          let one : spare (visited_on wanted p.states labels l) + one_got (visit_on wanted p.states labels l) ≡ spare l
          = lane_spare (wanted_on wanted p.states labels l) l in
          omega (arith, sums, one)

  pipe_had : (p : PipeState) (k : ℕ) → pipe_visit wanted labels lane p ≡ one.Got k → 1 ≤ in_pipe (lane_count (pool_on p lane) k) p
  pipe_had p k got = step (slice_get p.lanes lane) refl got
    where
      step : (o : Option LaneState) → slice_get p.lanes lane ≡ o
          → option_map_or (λ l. visit_on wanted p.states labels l) o one.Nothing ≡ one.Got k
          → 1 ≤ in_pipe (lane_count (option_map_or (λ l. l.pool) o 0) k) p
      step None at got = absurd (not_got one.Nothing k got refl)
      step (Some l) at got =
          let had : 1 ≤ lane_count l.pool k l = lane_had (wanted_on wanted p.states labels l) l k got in
          let one : lane_count l.pool k l ≤ total (lane_count l.pool k) p.lanes = get_below (lane_count l.pool k) p.lanes lane l at in
          omega (arith, had, one)

  -- ---- all pipes

  visits_spare : (ps : List PipeState) (waits : Bool)
      → total (in_pipe spare) (all_visited wanted labels lane ps) + got_one (visits_from wanted labels lane ps waits) ≡ total (in_pipe spare) ps
  visits_spare [] true = refl
  visits_spare [] false = refl
  visits_spare (p ∷ ps) waits = step (pipe_visit wanted labels lane p) (pipe_spare p) (visits_spare ps true) (visits_spare ps waits)
    where
      step : (v : LaneVisit) → in_pipe spare (pipe_visited wanted labels lane p) + one_got v ≡ in_pipe spare p
          → total (in_pipe spare) (all_visited wanted labels lane ps) + got_one (visits_from wanted labels lane ps true) ≡ total (in_pipe spare) ps
          → total (in_pipe spare) (all_visited wanted labels lane ps) + got_one (visits_from wanted labels lane ps waits) ≡ total (in_pipe spare) ps
          → in_pipe spare (pipe_visited wanted labels lane p) + total (in_pipe spare) (if is_got v then ps else all_visited wanted labels lane ps)
          + got_one (after_visit v p lane (visits_from wanted labels lane ps true) (visits_from wanted labels lane ps waits))
          ≡ in_pipe spare p + total (in_pipe spare) ps
      step (one.Got k) here first more = omega (arith, here)
      step one.AtLimit here first more = omega (arith, here, first)
      step one.Nothing here first more = omega (arith, here, more)

  visits_had : (ps : List PipeState) (waits : Bool) (sender pool k : ℕ) → visits_from wanted labels lane ps waits ≡ Got sender pool k
      → 1 ≤ total (in_pipe (lane_count pool k)) ps
  visits_had [] true sender pool k got = absurd (no_got AtLimit sender pool k got refl)
  visits_had [] false sender pool k got = absurd (no_got Nothing sender pool k got refl)
  visits_had (p ∷ ps) waits sender pool k got =
      step (pipe_visit wanted labels lane p) refl (visits_had ps true sender pool k) (visits_had ps waits sender pool k) got
    where
      step : (v : LaneVisit) → pipe_visit wanted labels lane p ≡ v
          → (visits_from wanted labels lane ps true ≡ Got sender pool k → 1 ≤ total (in_pipe (lane_count pool k)) ps)
          → (visits_from wanted labels lane ps waits ≡ Got sender pool k → 1 ≤ total (in_pipe (lane_count pool k)) ps)
          → after_visit v p lane (visits_from wanted labels lane ps true) (visits_from wanted labels lane ps waits) ≡ Got sender pool k
          → 1 ≤ in_pipe (lane_count pool k) p + total (in_pipe (lane_count pool k)) ps
      step (one.Got n) is first more e =
          let place : n ≡ k = ap place_of_got e in
          let had : 1 ≤ in_pipe (lane_count pool k) p
          = subst (λ m. 1 ≤ in_pipe (lane_count m k) p) (ap pool_of_got e) (pipe_had p k (is ∙ ap (λ m. one.Got m) place)) in
          omega (arith, had)
      step one.AtLimit is first more e = let m = first e in omega (arith, m)
      step one.Nothing is first more e = let m = more e in omega (arith, m)

  -- ---- all ports

  -- each message that is got takes one of what may still be had
  pub visited_spare : (ports : List PortState) (n : ℕ)
      → on_lanes spare (with_port (visited_port wanted labels lane) ports n) + got_one (all_visits wanted labels lane (pipes_to ports n))
      ≡ on_lanes spare ports
  visited_spare ports n = step (port_in ports n) refl
    where
      step : (o : Option PortState) → port_in ports n ≡ o
          → on_lanes spare (with_port (visited_port wanted labels lane) ports n) + got_one (all_visits wanted labels lane (option_map_or pipes_of o []))
          ≡ on_lanes spare ports
      step None at =
          plus_none (on_lanes spare (with_port (visited_port wanted labels lane) ports n)) 0 refl
          ∙ ap (on_lanes spare) (first_none (λ p. p.number) (visited_port wanted labels lane) ports n at)
      step (Some p) at =
          let sums : on_lanes spare (with_port (visited_port wanted labels lane) ports n) + in_port spare p ≡ on_lanes spare ports + in_port spare (visited_port wanted labels lane p)
          = total_first (λ p. p.number) (visited_port wanted labels lane) (in_port spare) ports n p at in
          let left : in_port spare (visited_port wanted labels lane p) ≡ total (in_pipe spare) (all_visited wanted labels lane (pipes_of p))
          = ap (total (in_pipe spare)) (both_left wanted labels lane p) in
          let one : total (in_pipe spare) (all_visited wanted labels lane (pipes_of p)) + got_one (all_visits wanted labels lane (pipes_of p)) ≡ in_port spare p
          = visits_spare (pipes_of p) false in
          omega (arith, sums, left, one)

  -- a lane has what is got
  pub visited_had : (ports : List PortState) (n sender pool k : ℕ) → all_visits wanted labels lane (pipes_to ports n) ≡ Got sender pool k
      → 1 ≤ lane_uses ports pool k
  visited_had ports n sender pool k got = step (port_in ports n) refl got
    where
      step : (o : Option PortState) → port_in ports n ≡ o → all_visits wanted labels lane (option_map_or pipes_of o []) ≡ Got sender pool k
          → 1 ≤ lane_uses ports pool k
      step None at got = absurd (no_got Nothing sender pool k got refl)
      step (Some p) at got =
          let one : 1 ≤ in_port (lane_count pool k) p = visits_had (pipes_of p) false sender pool k got in
          let below : in_port (lane_count pool k) p ≤ on_lanes (lane_count pool k) ports = first_below (in_port (lane_count pool k)) (λ p. p.number) ports n p at in
          omega (arith, one, below)
