-- Sums over all lanes as a port is made, and as one goes.
use Rattle.std.specs.Prelude.{◌≡◌, ℕ, ◌+◌, Bool, true, false, not, ◌||◌, if◌then◌else◌, ◌==◌, nat_lt, List, [], ◌∷◌, ◌++◌, drop, map, filter, Option, Some, None, slice_get, refl}
use Rattle.std.specs.List.{sum_by}
use Rattle.std.specs.Option.{option_map_or}
use Rattle.std.proofs.Common.{sym, ap, ap₂, ◌∙◌, arith, eqb-true}
use Rattle.std.proofs.lemmas.Bool.{or_parts}
use Rattle.std.proofs.lemmas.List.Folds.{sum_by-replicate}
use Rattle.std.proofs.lemmas.List.Sums.{sum_by-append, sum_by-cons}
use Rattle.iox_model.specs.Maps.{AreDistinct, has_number}
use Rattle.iox_lanes.specs.Incomings.{IncomingState, given_up_for, has_room_for, with_kept}
use Rattle.iox_lanes.specs.Lanes.{LaneState, empty_lane}
use Rattle.iox_lanes.specs.Pipes.{PipeState, has_waiting_on_any}
use Rattle.iox_tables.specs.HubStates.Tables.{HubSettings, PortState, pipe_from, senders_of}
use Rattle.iox_tables.specs.HubStates.Wirings.{buffer_from, limit_from}
use Rattle.iox_tables.specs.HubMaking.Disconnections.{cut_from, ports_without}
use Rattle.iox_tables.specs.HubMaking.Expirings.{gone_with, with_expired}
use Rattle.iox_tables.specs.HubBooks.Counts.{OfAll}
use Rattle.iox_tables.specs.HubMaking.LaneSums.{GoneLanesCount, NewLanesCount, NewPipesCount, sum_in_pipe, sum_in_port, sum_on_lanes, sum_that_comes, sum_that_goes}
use Rattle.iox_tables.specs.HubMaking.NewPorts.{connected_from, connected_to, is_other, pipe_between, ports_with, width_of}

-- ---- a port that is gone

-- those that are left, and those that go
split_sum : {A : Type 0} (f : A → ℕ) (test : A → Bool) (xs : List A) → sum_by f xs ≡ sum_by f (filter (λ x. not (test x)) xs) + sum_by f (filter test xs)
split_sum f test [] = refl
split_sum {A = A} f test (x ∷ xs) = sum_by-cons f x xs ∙ step (test x) (split_sum f test xs)
  where
    left : List A
    left = filter (λ x. not (test x)) xs

    gone : List A
    gone = filter test xs

    step : (b : Bool) → sum_by f xs ≡ sum_by f (filter (λ x. not (test x)) xs) + sum_by f (filter test xs)
        → f x + sum_by f xs
        ≡ sum_by f (if not b then x ∷ filter (λ x. not (test x)) xs else filter (λ x. not (test x)) xs) + sum_by f (if b then x ∷ filter test xs else filter test xs)
    step true rest = sums (f x) (sum_by f xs) (sum_by f left) (sum_by f gone) rest ∙ ap (λ k. sum_by f left + k) (sym (sum_by-cons f x gone))
      where
        sums : (a b c d : ℕ) → b ≡ c + d → a + b ≡ c + (a + d)
        sums a b c d e = omega (arith, e)
    step false rest = sums (f x) (sum_by f xs) (sum_by f left) (sum_by f gone) rest ∙ ap (λ k. k + sum_by f gone) (sym (sum_by-cons f x left))
      where
        sums : (a b c d : ℕ) → b ≡ c + d → a + b ≡ (a + c) + d
        sums a b c d e = omega (arith, e)

module _ (f : LaneState → ℕ) (n : ℕ) where
  abbrev from_it : PortState → ℕ
  from_it p = option_map_or (sum_in_pipe f) (gone_with p.expired (pipe_from p.incoming.pipes n)) 0

  -- of pipes from different senders one is from that
  one_from : (qs : List PipeState) → AreDistinct (senders_of qs) → sum_by (sum_in_pipe f) (filter (λ q. q.sender == n) qs) ≡ option_map_or (sum_in_pipe f) (pipe_from qs n) 0
  one_from [] apart = refl
  one_from (q ∷ qs) apart = step (q.sender == n) refl (one_from qs apart.1)
    where
      none_of : (ps : List PipeState) → has_number n (senders_of ps) ≡ false → sum_by (sum_in_pipe f) (filter (λ q. q.sender == n) ps) ≡ 0
      none_of [] e = refl
      none_of (p ∷ ps) e =
          let parts = or_parts (p.sender == n) (has_number n (senders_of ps)) e in
          ap (λ (b : Bool). sum_by (sum_in_pipe f) (if b then p ∷ filter (λ r. r.sender == n) ps else filter (λ r. r.sender == n) ps)) parts.0
          ∙ none_of ps parts.1

      plus_none : (k : ℕ) → k + 0 ≡ k
      plus_none k = omega arith

      step : (b : Bool) → (q.sender == n) ≡ b → sum_by (sum_in_pipe f) (filter (λ q. q.sender == n) qs) ≡ option_map_or (sum_in_pipe f) (pipe_from qs n) 0
          → sum_by (sum_in_pipe f) (if b then q ∷ filter (λ r. r.sender == n) qs else filter (λ r. r.sender == n) qs)
          ≡ option_map_or (sum_in_pipe f) (if b then Some q else pipe_from qs n) 0
      step true e rest =
          sum_by-cons (sum_in_pipe f) q (filter (λ r. r.sender == n) qs)
          ∙ ap (λ k. sum_in_pipe f q + k) (none_of qs (ap (λ k. has_number k (senders_of qs)) (sym (eqb-true q.sender n e)) ∙ apart.0)) ∙ plus_none (sum_in_pipe f q)
      step false e rest = rest

  -- what is kept and what goes
  kept_sum : (c : IncomingState) (o : Option PipeState)
      → sum_by (sum_in_pipe f) c.pipes + option_map_or (sum_in_pipe f) o 0
      ≡ sum_by (sum_in_pipe f) (with_expired c o).pipes + option_map_or (sum_in_pipe f) (gone_with c o) 0
  kept_sum c None = refl
  kept_sum c (Some q) = waits (has_waiting_on_any q)
    where
      F : PipeState → ℕ
      F p = sum_in_pipe f p

      last : (ps : List PipeState) → sum_by (sum_in_pipe f) (ps ++ q ∷ []) ≡ sum_by (sum_in_pipe f) ps + (sum_in_pipe f q + 0)
      last ps = sum_by-append (sum_in_pipe f) ps (q ∷ []) ∙ ap (λ k. sum_by (sum_in_pipe f) ps + k) (sum_by-cons (sum_in_pipe f) q [])

      one_more : (a b l : ℕ) → l ≡ a + (b + 0) → a + b ≡ l + 0
      one_more a b l e = omega (arith, e)

      over : (ps : List PipeState) → sum_by (sum_in_pipe f) ps + sum_in_pipe f q ≡ sum_by (sum_in_pipe f) (drop 1 ps ++ q ∷ []) + option_map_or (sum_in_pipe f) (slice_get ps 0) 0
      over [] = one_more 0 (sum_in_pipe f q) _ (last [])
      over (p ∷ ps) = ap (λ k. k + sum_in_pipe f q) (sum_by-cons (sum_in_pipe f) p ps) ∙ first (sum_in_pipe f p) (sum_by (sum_in_pipe f) ps) (sum_in_pipe f q) _ (last ps)
        where
          first : (a b c l : ℕ) → l ≡ b + (c + 0) → a + b + c ≡ l + a
          first a b c l e = omega (arith, e)

      room : (b z : Bool)
          → sum_by (sum_in_pipe f) c.pipes + sum_in_pipe f q
          ≡ sum_by (sum_in_pipe f) (if b then record c { pipes = c.pipes ++ q ∷ [] } else (if z then record c { pipes = drop 1 c.pipes ++ q ∷ [] } else c)).pipes
          + option_map_or (sum_in_pipe f) (if b then None else (if z then slice_get c.pipes 0 else Some q)) 0
      room true z = one_more (sum_by (sum_in_pipe f) c.pipes) (sum_in_pipe f q) _ (last c.pipes)
      room false true = over c.pipes
      room false false = refl

      waits : (b : Bool)
          → sum_by (sum_in_pipe f) c.pipes + sum_in_pipe f q
          ≡ sum_by (sum_in_pipe f) (if b then with_kept c q else c).pipes + option_map_or (sum_in_pipe f) (if b then given_up_for c q else Some q) 0
      waits true = room (has_room_for c) (nat_lt 0 c.most)
      waits false = refl

  cut_sum : (p : PortState) → AreDistinct (senders_of p.incoming.pipes) → sum_in_port f p ≡ sum_in_port f (cut_from n p) + from_it p
  cut_sum p apart =
      sum_by-append (sum_in_pipe f) p.expired.pipes p.incoming.pipes
      ∙ sums (sum_by (sum_in_pipe f) p.expired.pipes) (sum_by (sum_in_pipe f) p.incoming.pipes) _ _ _ _
      (split_sum (sum_in_pipe f) (λ q. q.sender == n) p.incoming.pipes ∙ ap (λ k. sum_by (sum_in_pipe f) (filter (λ q. not (q.sender == n)) p.incoming.pipes) + k) (one_from p.incoming.pipes apart))
      (kept_sum p.expired (pipe_from p.incoming.pipes n))
      ∙ ap (λ k. k + from_it p)
      (sym (sum_by-append (sum_in_pipe f) (with_expired p.expired (pipe_from p.incoming.pipes n)).pipes (filter (λ q. not (q.sender == n)) p.incoming.pipes)))
    where
      sums : (a b c d e g : ℕ) → b ≡ c + d → a + d ≡ e + g → a + b ≡ (e + c) + g
      sums a b c d e g h k = omega (arith, h, k)

  gone_sum : (ports : List PortState) → OfAll (λ p. AreDistinct (senders_of p.incoming.pipes)) ports → sum_on_lanes f ports ≡ sum_on_lanes f (ports_without n ports) + sum_by (sum_that_goes f n) ports
  gone_sum [] apart = refl
  gone_sum (p ∷ ps) apart =
      sum_by-cons (sum_in_port f) p ps ∙ step (p.number == n) (gone_sum ps apart.1)
      ∙ ap (λ k. sum_on_lanes f (ports_without n (p ∷ ps)) + k) (sym (sum_by-cons (sum_that_goes f n) p ps))
    where
      left : ℕ
      left = sum_on_lanes f (ports_without n ps)

      went : ℕ
      went = sum_by (sum_that_goes f n) ps

      step : (b : Bool) → sum_on_lanes f ps ≡ sum_on_lanes f (ports_without n ps) + sum_by (sum_that_goes f n) ps
          → sum_in_port f p + sum_on_lanes f ps
          ≡ sum_on_lanes f (map (cut_from n) (if not b then p ∷ filter (λ p. not (p.number == n)) ps else filter (λ p. not (p.number == n)) ps))
          + ((if b then sum_in_port f p else option_map_or (sum_in_pipe f) (gone_with p.expired (pipe_from p.incoming.pipes n)) 0) + sum_by (sum_that_goes f n) ps)
      step true rest = sums (sum_in_port f p) (sum_on_lanes f ps) left went rest
        where
          sums : (a b c d : ℕ) → b ≡ c + d → a + b ≡ c + (a + d)
          sums a b c d e = omega (arith, e)
      step false rest =
          sums (sum_in_port f p) (sum_in_port f (cut_from n p)) (from_it p) (sum_on_lanes f ps) left went (cut_sum p apart.0) rest
          ∙ ap (λ k. k + (from_it p + went)) (sym (sum_by-cons (sum_in_port f) (cut_from n p) (ports_without n ps)))
        where
          sums : (a a' z b c d : ℕ) → a ≡ a' + z → b ≡ c + d → a + b ≡ (a' + c) + (z + d)
          sums a a' z b c d e h = omega (arith, e, h)

pub gone_lanes_count : GoneLanesCount
gone_lanes_count f n ports apart = gone_sum f n ports apart

-- ---- a new port

pub new_pipes_count : NewPipesCount
new_pipes_count f settings from to = sum_by-replicate f (width_of to) (empty_lane from.pool (buffer_from settings from.role) (limit_from settings from.role))

module _ (f : LaneState → ℕ) (settings : HubSettings) (new : PortState) where
  abbrev others : List PortState → List PortState
  others ps = filter (λ p. is_other p new) ps

  abbrev to_it : PortState → ℕ
  to_it p = sum_in_pipe f (pipe_between settings p new)

  abbrev to_other : PortState → ℕ
  to_other p = sum_in_pipe f (pipe_between settings new p)

  -- the pipes to all others
  others_sum : (ps : List PortState) → sum_on_lanes f (map (connected_to settings new) ps) ≡ sum_on_lanes f ps + sum_by to_other (others ps)
  others_sum [] = refl
  others_sum (p ∷ ps) =
      sum_by-cons (sum_in_port f) (connected_to settings new p) (map (connected_to settings new) ps)
      ∙ step (is_other p new) (others_sum ps)
      ∙ ap (λ k. k + sum_by to_other (others (p ∷ ps))) (sym (sum_by-cons (sum_in_port f) p ps))
    where
      more : sum_by (sum_in_pipe f) (p.expired.pipes ++ (p.incoming.pipes ++ pipe_between settings new p ∷ [])) ≡ sum_in_port f p + to_other p
      more =
          sum_by-append (sum_in_pipe f) p.expired.pipes (p.incoming.pipes ++ pipe_between settings new p ∷ [])
          ∙ ap (λ k. sum_by (sum_in_pipe f) p.expired.pipes + k)
          (sum_by-append (sum_in_pipe f) p.incoming.pipes (pipe_between settings new p ∷ [])
          ∙ ap (λ k. sum_by (sum_in_pipe f) p.incoming.pipes + k) (sum_by-cons (sum_in_pipe f) (pipe_between settings new p) []))
          ∙ sums (sum_by (sum_in_pipe f) p.expired.pipes) (sum_by (sum_in_pipe f) p.incoming.pipes) (to_other p)
          ∙ ap (λ k. k + to_other p) (sym (sum_by-append (sum_in_pipe f) p.expired.pipes p.incoming.pipes))
        where
          sums : (a b c : ℕ) → a + (b + (c + 0)) ≡ (a + b) + c
          sums a b c = omega arith

      step : (b : Bool) → sum_on_lanes f (map (connected_to settings new) ps) ≡ sum_on_lanes f ps + sum_by (λ p. sum_in_pipe f (pipe_between settings new p)) (filter (λ p. is_other p new) ps)
          → sum_in_port f (if b then record p { incoming = record (p.incoming) { pipes = p.incoming.pipes ++ pipe_between settings new p ∷ [] } } else p)
          + sum_on_lanes f (map (connected_to settings new) ps)
          ≡ (sum_in_port f p + sum_on_lanes f ps) + sum_by (λ p. sum_in_pipe f (pipe_between settings new p)) (if b then p ∷ filter (λ p. is_other p new) ps else filter (λ p. is_other p new) ps)
      step true rest =
          ap₂ (λ a b. a + b) more rest
          ∙ sums (sum_in_port f p) (to_other p) (sum_on_lanes f ps) (sum_by to_other (others ps))
          ∙ ap (λ k. (sum_in_port f p + sum_on_lanes f ps) + k) (sym (sum_by-cons to_other p (others ps)))
        where
          sums : (a b c d : ℕ) → (a + b) + (c + d) ≡ (a + c) + (b + d)
          sums a b c d = omega arith
      step false rest = ap (λ k. sum_in_port f p + k) rest ∙ sums (sum_in_port f p) (sum_on_lanes f ps) (sum_by to_other (others ps))
        where
          sums : (a b c : ℕ) → a + (b + c) ≡ (a + b) + c
          sums a b c = omega arith

  -- the pipes to the new port
  it_sum : (ps : List PortState) → sum_by (sum_in_pipe f) (map (λ p. pipe_between settings p new) ps) ≡ sum_by to_it ps
  it_sum [] = refl
  it_sum (p ∷ ps) =
      sum_by-cons (sum_in_pipe f) (pipe_between settings p new) (map (λ p. pipe_between settings p new) ps)
      ∙ ap (λ k. to_it p + k) (it_sum ps) ∙ sym (sum_by-cons to_it p ps)

  both_sum : (ps : List PortState) → sum_by to_other ps + sum_by to_it ps ≡ sum_by (sum_that_comes f settings new) ps
  both_sum [] = refl
  both_sum (p ∷ ps) =
      ap₂ (λ a b. a + b) (sum_by-cons to_other p ps) (sum_by-cons to_it p ps)
      ∙ sums (to_other p) (sum_by to_other ps) (to_it p) (sum_by to_it ps) _ (both_sum ps)
      ∙ sym (sum_by-cons (sum_that_comes f settings new) p ps)
    where
      sums : (a b c d e : ℕ) → b + d ≡ e → (a + b) + (c + d) ≡ (a + c) + e
      sums a b c d e h = omega (arith, h)

  new_sum : (ports : List PortState) → new.expired.pipes ≡ []
      → sum_on_lanes f (ports_with settings ports new) ≡ sum_on_lanes f ports + sum_by (sum_that_comes f settings new) (others ports)
  new_sum ports bare =
      sum_by-append (sum_in_port f) (map (connected_to settings new) ports) (connected_from settings ports new ∷ [])
      ∙ ap₂ (λ a b. a + b) (others_sum ports)
      (sum_by-cons (sum_in_port f) (connected_from settings ports new) []
      ∙ ap (λ k. k + 0) (ap (λ (es : List PipeState). sum_by (sum_in_pipe f) (es ++ map (λ p. pipe_between settings p new) (others ports))) bare ∙ it_sum (others ports)))
      ∙ sums (sum_on_lanes f ports) (sum_by to_other (others ports)) (sum_by to_it (others ports)) _ (both_sum (others ports))
    where
      sums : (a b c d : ℕ) → b + c ≡ d → (a + b) + (c + 0) ≡ a + d
      sums a b c d h = omega (arith, h)

pub new_lanes_count : NewLanesCount
new_lanes_count f settings ports new bare = new_sum f settings new ports bare
