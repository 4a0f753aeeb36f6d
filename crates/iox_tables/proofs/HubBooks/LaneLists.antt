-- How a sum over all lanes changes as the lanes of several ways do, or a port is visited.
use Rattle.std.specs.Prelude.{◌≡◌, ℕ, ◌+◌, Bool, true, false, ◌||◌, if◌then◌else◌, List, [], ◌∷◌, Option, Some, None, slice_get, refl}
use Rattle.std.specs.Option.{option_map, option_map_or}
use Rattle.std.proofs.Common.{sym, ap, ap₂, subst, ◌∙◌, arith, true≢false}
use Rattle.iox_model.specs.declared.way.Way.{Way}
use Rattle.iox_model.specs.Maps.{AreDistinctWays, has_way, same_way}
use Rattle.iox_laws.proofs.WeaveLaws.MapLemmas.{same_way-flip}
use Rattle.iox_lanes.specs.declared.wanted.Wanted.{Wanted}
use Rattle.iox_lanes.specs.Lanes.{LaneState}
use Rattle.iox_lanes.specs.Pipes.{PipeState}
use Rattle.iox_lanes.specs.Searches.{LabelsByPlace, visited, visited_on}
use Rattle.iox_lanes.specs.Visited.{all_visited, is_got, pipe_visit, pipe_visited}
use Rattle.iox_tables.specs.HubStates.Tables.{PortState, pipes_of, port_in}
use Rattle.iox_tables.specs.HubStates.Ways.{OnWays, at, lane_on, with_lane_on, with_lanes_on, with_port}
use Rattle.iox_tables.specs.HubStates.Receives.{visited_port}
use Rattle.iox_tables.specs.HubStates.Shown.{by_lane}
use Rattle.iox_tables.proofs.HubStates.Borrows.{both_left}
use Rattle.iox_tables.proofs.HubStates.Keys.{at_is, lane_turned}
use Rattle.iox_tables.specs.HubBooks.Counts.{OfAll, OfAllLanes, in_pipe, in_port, on_lanes, total}
use Rattle.iox_tables.proofs.HubBooks.Totals.{first_none, total_first}
use Rattle.iox_tables.proofs.HubBooks.Eachs.{OfPipe, OfPort, all_with_first, pipe_keeps}
use Rattle.iox_tables.proofs.HubBooks.LaneTotals.{lane_total, pipe_lane, pipe_no_lane}

-- ---- several ways

-- a change of one way leaves what the others have
pub elsewhere : (f : LaneState → ℕ) (g : LaneState → LaneState) (on : OnWays LaneState) (w : Way) (ws : List Way) → has_way w ws ≡ false
    → total (by_lane f 0 (at g on w)) ws ≡ total (by_lane f 0 on) ws
elsewhere f g on w [] apart = refl
elsewhere f g on w (v ∷ vs) apart = step (same_way w v) refl apart (elsewhere f g on w vs)
  where
    one : same_way w v ≡ false → by_lane f 0 (at g on w) v ≡ by_lane f 0 on v
    one e =
        ap (λ o. option_map_or f o 0)
        (at_is g on w v ∙ ap (λ (b : Bool). if b then option_map g (on v) else on v) (same_way-flip v w (same_way v w) e refl))

    step : (b : Bool) → same_way w v ≡ b → (b || has_way w vs) ≡ false → (has_way w vs ≡ false → total (by_lane f 0 (at g on w)) vs ≡ total (by_lane f 0 on) vs)
        → by_lane f 0 (at g on w) v + total (by_lane f 0 (at g on w)) vs ≡ by_lane f 0 on v + total (by_lane f 0 on) vs
    step true is e rest = absurd (true≢false e)
    step false is e rest = ap₂ (λ (a b : ℕ). a + b) (one is) (rest e)

module _ (f : LaneState → ℕ) (g : LaneState → LaneState) where
  pub lanes_total : (ports : List PortState) (ws : List Way) → AreDistinctWays ws
      → on_lanes f (with_lanes_on g ports ws) + total (by_lane f 0 (lane_on ports)) ws
      ≡ on_lanes f ports + total (by_lane (λ l. f (g l)) 0 (lane_on ports)) ws
  lanes_total ports [] apart = refl
  lanes_total ports (w ∷ ws) apart =
      let new : List PortState = with_lane_on g ports w in
      let one = lane_total f g ports w in
      let rest = lanes_total new ws apart.1 in
      let old : total (by_lane f 0 (lane_on new)) ws ≡ total (by_lane f 0 (lane_on ports)) ws
      = ap (λ on. total (by_lane f 0 on) ws) (lane_turned g ports w) ∙ elsewhere f g (lane_on ports) w ws apart.0 in
      let turned : total (by_lane (λ l. f (g l)) 0 (lane_on new)) ws ≡ total (by_lane (λ l. f (g l)) 0 (lane_on ports)) ws
      = ap (λ on. total (by_lane (λ l. f (g l)) 0 on) ws) (lane_turned g ports w) ∙ elsewhere (λ l. f (g l)) g (lane_on ports) w ws apart.0 in
      omega (arith, one, rest, old, turned)

  -- where the change keeps what each lane counts, the ways need not differ
  pub lanes_same : ((l : LaneState) → f (g l) ≡ f l) → (ports : List PortState) (ws : List Way) → on_lanes f (with_lanes_on g ports ws) ≡ on_lanes f ports
  lanes_same same ports [] = refl
  lanes_same same ports (w ∷ ws) = lanes_same same (with_lane_on g ports w) ws ∙ one (lane_on ports w) (lane_total f g ports w)
    where
      one : (o : Option LaneState) → on_lanes f (with_lane_on g ports w) + option_map_or f o 0 ≡ on_lanes f ports + option_map_or (λ l. f (g l)) o 0
          → on_lanes f (with_lane_on g ports w) ≡ on_lanes f ports
      one (Some l) e = let s = same l in omega (arith, e, s)
      one None e = omega (arith, e)

-- ---- visits

module _ (wanted : Wanted) (labels : LabelsByPlace) (lane : ℕ) where
  module _ (f : LaneState → ℕ) (same : (test : ℕ → Bool) (l : LaneState) → f (visited test l) ≡ f l) where
    one_pipe : (p : PipeState) → in_pipe f (pipe_visited wanted labels lane p) ≡ in_pipe f p
    one_pipe p = step (slice_get p.lanes lane) refl
      where
        step : (o : Option LaneState) → slice_get p.lanes lane ≡ o → in_pipe f (pipe_visited wanted labels lane p) ≡ in_pipe f p
        step (Some l) is =
            let all = pipe_lane f (λ m. visited_on wanted p.states labels m) p lane l is in
            let s : f (visited_on wanted p.states labels l) ≡ f l = same _ l in omega (arith, all, s)
        step None is = ap (in_pipe f) (pipe_no_lane f (λ m. visited_on wanted p.states labels m) p lane is)

    all_pipes : (ps : List PipeState) → total (in_pipe f) (all_visited wanted labels lane ps) ≡ total (in_pipe f) ps
    all_pipes [] = refl
    all_pipes (p ∷ ps) = ap₂ (λ (a b : ℕ). a + b) (one_pipe p) (step (is_got (pipe_visit wanted labels lane p)) (all_pipes ps))
      where
        step : (b : Bool) → total (in_pipe f) (all_visited wanted labels lane ps) ≡ total (in_pipe f) ps
            → total (in_pipe f) (if b then ps else all_visited wanted labels lane ps) ≡ total (in_pipe f) ps
        step true rest = refl
        step false rest = rest

    one_port : (p : PortState) → in_port f (visited_port wanted labels lane p) ≡ in_port f p
    one_port p = ap (total (in_pipe f)) (both_left wanted labels lane p) ∙ all_pipes (pipes_of p)

    pub visits_same : (ports : List PortState) (n : ℕ) → on_lanes f (with_port (visited_port wanted labels lane) ports n) ≡ on_lanes f ports
    visits_same ports n = step (port_in ports n) refl
      where
        step : (o : Option PortState) → port_in ports n ≡ o → on_lanes f (with_port (visited_port wanted labels lane) ports n) ≡ on_lanes f ports
        step (Some p) is =
            let all = total_first (λ x. x.number) (visited_port wanted labels lane) (in_port f) ports n p is in
            let s = one_port p in omega (arith, all, s)
        step None is = ap (on_lanes f) (first_none (λ x. x.number) (visited_port wanted labels lane) ports n is)

  -- what visits of a lane keep of it, visits of a port keep of all lanes
  module _ (P : LaneState → Type 0) (keeps : (test : ℕ → Bool) (l : LaneState) → P l → P (visited test l)) where
    all_keep : (ps : List PipeState) → OfAll (OfPipe P) ps → OfAll (OfPipe P) (all_visited wanted labels lane ps)
    all_keep [] a = a
    all_keep (p ∷ ps) a =
        (pipe_keeps P (λ m. visited_on wanted p.states labels m) p lane (λ l b. keeps _ l b) a.0, step (is_got (pipe_visit wanted labels lane p)) (all_keep ps a.1))
      where
        step : (b : Bool) → OfAll (OfPipe P) (all_visited wanted labels lane ps) → OfAll (OfPipe P) (if b then ps else all_visited wanted labels lane ps)
        step true rest = a.1
        step false rest = rest

    pub visits_keep : (ports : List PortState) (n : ℕ) → OfAllLanes P ports → OfAllLanes P (with_port (visited_port wanted labels lane) ports n)
    visits_keep ports n a =
        all_with_first (OfPort P) (λ x. x.number) (visited_port wanted labels lane) ports n
        (λ p b. subst (OfAll (OfPipe P)) (sym (both_left wanted labels lane p)) (all_keep (pipes_of p) b)) a
