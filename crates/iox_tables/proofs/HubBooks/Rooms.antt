-- A receive takes the room of the handle that it makes; holders are not shown.
use Rattle.std.specs.Prelude.{◌≡◌, ℕ, ◌+◌, ◌-◌, Bool, true, false, ◌&&◌, if◌then◌else◌, ◌==◌, nat_le, List, [], ◌∷◌, ◌++◌, length, Option, Some, None, slice_get, refl}
use Rattle.std.specs.Option.{option_map, option_map_or}
use Rattle.std.proofs.Common.{sym, ap, ◌∙◌, arith, length-append}
use Rattle.std.proofs.lemmas.Bool.Decides.{nat_tests}
use Rattle.iox_model.specs.declared.kind.Role.{Role}
use Rattle.iox_model.specs.declared.kind.Role.TheVariants.{Client, Server}
use Rattle.iox_model.specs.Handles.{is_own}
use Rattle.iox_lanes.specs.declared.incoming.Visits.{Visits}
use Rattle.iox_lanes.specs.declared.incoming.Visits.TheVariants.{Got, AtLimit, Nothing}
use Rattle.iox_lanes.specs.declared.search.LaneVisit.{LaneVisit}
use Rattle.iox_lanes.specs.declared.search.LaneVisit.TheVariants as one
use Rattle.iox_lanes.specs.declared.wanted.Wanted.{Wanted}
use Rattle.iox_lanes.specs.declared.wanted.Wanted.TheVariants.{Of}
use Rattle.iox_lanes.specs.declared.wanted.Label.{Label}
use Rattle.iox_lanes.specs.Lanes.{LaneState}
use Rattle.iox_lanes.specs.Pipes.{PipeState}
use Rattle.iox_lanes.specs.Searches.{first_wanted, found, lane_visit, searched, seen, visit_on, visited, visited_on, with_found}
use Rattle.iox_lanes.specs.Visited.{after_visit, all_visited, all_visits, is_got, pipe_visit, pipe_visited, visits_from}
use Rattle.iox_tables.specs.HubStates.Tables.{HandleState, HubTables, PoolState, PortState, SlotState, labels_of, pipes_of, pipes_to, pool_at, port_in}
use Rattle.iox_tables.specs.HubStates.Ways.{with_port}
use Rattle.iox_tables.specs.HubStates.Ends.{DifferInHolders}
use Rattle.iox_tables.specs.HubStates.Receives.{got_handle, visited_port, visits_at, wanted_by_server, with_got, with_visited}
use Rattle.iox_tables.specs.HubStates.States.{no_id, node_id_of, port_id_of}
use Rattle.iox_tables.proofs.HubStates.Borrows.{both_left}
use Rattle.iox_tables.proofs.HubStates.Holding.{holders_are_not_shown}
use Rattle.iox_tables.specs.HubBooks.Counts.{in_pipe, in_port, on_lanes, total}
use Rattle.iox_tables.specs.HubBooks.Keeps.{BarePoolsShowTheSame, bare_pool, bare_pools}
use Rattle.iox_tables.specs.HubBooks.Rooms.{RequestsTakeTheirRoom, ResponsesTakeTheirRoom, asked_for, may_come, own_count, spare}
use Rattle.iox_tables.proofs.HubBooks.LaneTotals.{pipe_lane, pipe_no_lane}
use Rattle.iox_tables.proofs.HubBooks.Structures.{pool_bare, same_owner, same_serial, same_slot}
use Rattle.iox_tables.proofs.HubBooks.Totals.{first_none, total-last, total_first, total_same}

-- ---- holders are not shown

node_bare : (pools : List (Option PoolState)) (place : ℕ) → node_id_of (bare_pools pools) place ≡ node_id_of pools place
node_bare pools place = ap (λ o. option_map_or (λ (p : PoolState). p.node_id) o no_id) (pool_bare pools place) ∙ step (pool_at pools place)
  where
    step : (o : Option PoolState) → option_map_or (λ (p : PoolState). p.node_id) (option_map bare_pool o) no_id ≡ option_map_or (λ (p : PoolState). p.node_id) o no_id
    step (Some p) = refl
    step None = refl

id_bare : (pools : List (Option PoolState)) (place : ℕ) → port_id_of (bare_pools pools) place ≡ port_id_of pools place
id_bare pools place = ap (λ o. option_map_or (λ (p : PoolState). p.port_id) o no_id) (pool_bare pools place) ∙ step (pool_at pools place)
  where
    step : (o : Option PoolState) → option_map_or (λ (p : PoolState). p.port_id) (option_map bare_pool o) no_id ≡ option_map_or (λ (p : PoolState). p.port_id) o no_id
    step (Some p) = refl
    step None = refl

-- pools that are the same but for holders differ only in these
pub differ_in_holders : (old new : List (Option PoolState)) → bare_pools old ≡ bare_pools new → DifferInHolders old new
differ_in_holders old new same = record {
  owners = same_owner old new same;
  ids = λ place. (
    sym (node_bare old place) ∙ ap (λ ps. node_id_of ps place) same ∙ node_bare new place,
    sym (id_bare old place) ∙ ap (λ ps. port_id_of ps place) same ∙ id_bare new place,
  );
  serials = same_serial old new same;
  labels = λ place k. ap (λ (s : SlotState). label s.lane s.request) (same_slot old new same place k);
  elements = λ place k. ap (λ (s : SlotState). s.elements) (same_slot old new same place k);
}
  where
    label : ℕ → ℕ → Label
    label lane request = record { lane = lane; request = request }

pub bare_pools_show_the_same : BarePoolsShowTheSame
bare_pools_show_the_same x t pools same = holders_are_not_shown x t pools (differ_in_holders t.pools pools same)

-- ---- what may still come on lanes

abbrev got_one : LaneVisit → ℕ
got_one v = if is_got v then 1 else 0

plus_none : (n : ℕ) → n + 0 ≡ n
plus_none n = omega arith

one_taken : (a b : ℕ) → nat_le a b ≡ false → (a - (b + 1)) + 1 ≡ a - b
one_taken a b e = grind (arith, nat_tests)

lane_spare : (test : ℕ → Bool) (l : LaneState) → spare (visited test l) + got_one (lane_visit test l) ≡ spare l
lane_spare test l = step (nat_le l.limit (length l.taken)) refl (first_wanted test l.waiting) l.waiting
  where
    step : (b : Bool) → nat_le l.limit (length l.taken) ≡ b → (o : Option ℕ) (ks : List ℕ)
        → spare (if b then l else with_found o (searched test l)) + got_one (if b then seen ks else found o) ≡ spare l
    step true e o [] = plus_none (spare l)
    step true e o (k ∷ ks) = plus_none (spare l)
    step false e (Some k) ks = ap (λ n. (l.limit - n) + 1) (length-append l.taken (k ∷ [])) ∙ one_taken l.limit (length l.taken) e
    step false e None ks = plus_none (spare l)

module _ (wanted : Wanted) (labels : ℕ → ℕ → Label) (lane : ℕ) where
  pipe_spare : (p : PipeState) → in_pipe spare (pipe_visited wanted labels lane p) + got_one (pipe_visit wanted labels lane p) ≡ in_pipe spare p
  pipe_spare p = step (slice_get p.lanes lane) refl
    where
      step : (o : Option LaneState) → slice_get p.lanes lane ≡ o
          → in_pipe spare (pipe_visited wanted labels lane p) + got_one (option_map_or (λ l. visit_on wanted p.states labels l) o one.Nothing) ≡ in_pipe spare p
      step (Some l) is =
          let all = pipe_lane spare (λ m. visited_on wanted p.states labels m) p lane l is in
          let s : spare (visited_on wanted p.states labels l) + got_one (visit_on wanted p.states labels l) ≡ spare l = lane_spare _ l in omega (arith, all, s)
      step None is = let same : in_pipe spare (pipe_visited wanted labels lane p) ≡ in_pipe spare p = ap (in_pipe spare) (pipe_no_lane spare (λ m. visited_on wanted p.states labels m) p lane is) in omega (arith, same)

  pipes_spare : (ps : List PipeState) (waits : Bool) → total (in_pipe spare) (all_visited wanted labels lane ps) + asked_for (visits_from wanted labels lane ps waits) ≡ total (in_pipe spare) ps
  pipes_spare [] true = plus_none 0
  pipes_spare [] false = plus_none 0
  pipes_spare (p ∷ ps) waits = step (pipe_visit wanted labels lane p) (pipe_spare p) (pipes_spare ps true) (pipes_spare ps waits)
    where
      step : (v : LaneVisit) → in_pipe spare (pipe_visited wanted labels lane p) + got_one v ≡ in_pipe spare p
          → total (in_pipe spare) (all_visited wanted labels lane ps) + asked_for (visits_from wanted labels lane ps true) ≡ total (in_pipe spare) ps
          → total (in_pipe spare) (all_visited wanted labels lane ps) + asked_for (visits_from wanted labels lane ps waits) ≡ total (in_pipe spare) ps
          → (in_pipe spare (pipe_visited wanted labels lane p) + total (in_pipe spare) (if is_got v then ps else all_visited wanted labels lane ps))
          + asked_for (after_visit v p lane (visits_from wanted labels lane ps true) (visits_from wanted labels lane ps waits))
          ≡ in_pipe spare p + total (in_pipe spare) ps
      step (one.Got k) a b c = omega (arith, a)
      step one.AtLimit a b c = omega (arith, a, b)
      step one.Nothing a b c = omega (arith, a, c)

  ports_spare : (ports : List PortState) (n : ℕ)
      → on_lanes spare (with_port (visited_port wanted labels lane) ports n) + asked_for (all_visits wanted labels lane (pipes_to ports n)) ≡ on_lanes spare ports
  ports_spare ports n = step (port_in ports n) refl
    where
      step : (o : Option PortState) → port_in ports n ≡ o
          → on_lanes spare (with_port (visited_port wanted labels lane) ports n) + asked_for (all_visits wanted labels lane (option_map_or pipes_of o [])) ≡ on_lanes spare ports
      step (Some p) e =
          let all = total_first (λ x. x.number) (visited_port wanted labels lane) (in_port spare) ports n p e in
          let one : in_port spare (visited_port wanted labels lane p) ≡ total (in_pipe spare) (all_visited wanted labels lane (pipes_of p)) = ap (total (in_pipe spare)) (both_left wanted labels lane p) in
          let pipes = pipes_spare (pipes_of p) false in omega (arith, all, one, pipes)
      step None e = plus_none (on_lanes spare (with_port (visited_port wanted labels lane) ports n)) ∙ ap (on_lanes spare) (first_none (λ x. x.number) (visited_port wanted labels lane) ports n e)

  -- what ports' own handles may still be
  own_same : (hs : List HandleState) (ports : List PortState) (n : ℕ)
      → total (λ p. p.size - own_count hs p) (with_port (visited_port wanted labels lane) ports n) ≡ total (λ p. p.size - own_count hs p) ports
  own_same hs ports n = step (port_in ports n) refl
    where
      less : (a b c : ℕ) → a + b ≡ c + b → a ≡ c
      less a b c e = omega (arith, e)

      step : (o : Option PortState) → port_in ports n ≡ o
          → total (λ p. p.size - own_count hs p) (with_port (visited_port wanted labels lane) ports n) ≡ total (λ p. p.size - own_count hs p) ports
      step (Some p) e = less _ (p.size - own_count hs p) _ (total_first (λ x. x.number) (visited_port wanted labels lane) (λ p. p.size - own_count hs p) ports n p e)
      step None e = ap (total (λ p. p.size - own_count hs p)) (first_none (λ x. x.number) (visited_port wanted labels lane) ports n e)

-- ---- receives

own_more : (hs : List HandleState) (h : HandleState) → is_own h.kind ≡ false → (ports : List PortState)
    → total (λ p. p.size - own_count (hs ++ h ∷ []) p) ports ≡ total (λ p. p.size - own_count hs p) ports
own_more hs h not ports = total_same (λ p. p.size - own_count (hs ++ h ∷ []) p) (λ p. p.size - own_count hs p) (λ p. ap (λ c. p.size - c) (one p)) ports
  where
    one : (p : PortState) → own_count (hs ++ h ∷ []) p ≡ own_count hs p
    one p =
        total-last (λ k. if is_own k.kind && (k.port == p.number) then 1 else 0) hs h
        ∙ ap (λ (b : Bool). own_count hs p + (if b && (h.port == p.number) then 1 else 0)) not ∙ plus_none (own_count hs p)

got_not_own : (t : HubTables) (node : ℕ) (r : Role) (n pool k : ℕ) → is_own (got_handle t node r n pool k).kind ≡ false
got_not_own t node Client n pool k = refl
got_not_own t node Server n pool k = refl

receive_room : (t : HubTables) (node n lane : ℕ) (r : Role) (wanted : Wanted)
    → may_come (with_got (with_visited t n lane wanted) node r n (visits_at t n lane wanted)) + asked_for (visits_at t n lane wanted) ≡ may_come t
receive_room t node n lane r wanted = step (visits_at t n lane wanted) (ports_spare wanted (labels_of t.pools) lane t.ports n)
  where
    step : (v : Visits) → on_lanes spare (with_port (visited_port wanted (labels_of t.pools) lane) t.ports n) + asked_for v ≡ on_lanes spare t.ports
        → may_come (with_got (with_visited t n lane wanted) node r n v) + asked_for v ≡ may_come t
    step (Got s pool k) e =
        let own = own_more t.handles (got_handle t node r n pool k) (got_not_own t node r n pool k) (with_port (visited_port wanted (labels_of t.pools) lane) t.ports n) in
        let same = own_same wanted (labels_of t.pools) lane t.handles t.ports n in omega (arith, e, own, same)
    step AtLimit e = let same = own_same wanted (labels_of t.pools) lane t.handles t.ports n in omega (arith, e, same)
    step Nothing e = let same = own_same wanted (labels_of t.pools) lane t.handles t.ports n in omega (arith, e, same)

pub requests_take_their_room : RequestsTakeTheirRoom
requests_take_their_room t node n = receive_room t node n 0 Server (wanted_by_server t.settings.fire_and_forget)

pub responses_take_their_room : ResponsesTakeTheirRoom
responses_take_their_room t node h = receive_room t node h.port (labels_of t.pools h.pool h.slot).lane Client (Of (labels_of t.pools h.pool h.slot).request)
