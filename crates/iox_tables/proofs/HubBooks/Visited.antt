-- What visits of a port's lanes take, and from which lane.
use Rattle.std.specs.Prelude.{◌≡◌, ℕ, ◌+◌, Bool, true, false, ◌&&◌, ◌||◌, if◌then◌else◌, ◌==◌, List, [], ◌∷◌, Option, Some, None, slice_get, refl, ⊤}
use Rattle.std.specs.Option.{option_map, option_map_or}
use Rattle.std.proofs.Common.{sym, ap, subst, ◌∙◌, arith, true≢false, eqb-true}
use Rattle.iox_model.specs.declared.way.Way.{Way}
use Rattle.iox_model.specs.Maps.{AreDistinct, has_number}
use Rattle.iox_laws.proofs.WeaveLaws.MapLemmas.{eqb-refl}
use Rattle.iox_lanes.specs.declared.incoming.Visits.{Visits}
use Rattle.iox_lanes.specs.declared.incoming.Visits.TheVariants.{Got, AtLimit, Nothing}
use Rattle.iox_lanes.specs.declared.search.LaneVisit.{LaneVisit}
use Rattle.iox_lanes.specs.declared.search.LaneVisit.TheVariants as one
use Rattle.iox_lanes.specs.declared.wanted.Wanted.{Wanted}
use Rattle.iox_lanes.specs.Lanes.{LaneState, is_at_limit}
use Rattle.iox_lanes.specs.Pipes.{PipeState}
use Rattle.iox_lanes.specs.Searches.{LabelsByPlace, first_wanted, found, lane_visit, searched, seen, visit_on, visited, visited_on, wanted_on, with_found}
use Rattle.iox_lanes.specs.Visited.{after_visit, all_visited, all_visits, is_got, pipe_visit, pipe_visited, pool_on, visits_from}
use Rattle.iox_tables.specs.HubStates.Receives.{visited_port}
use Rattle.iox_tables.specs.HubStates.Tables.{PortState, pipe_from, pipes_of, port_in, senders_of}
use Rattle.iox_tables.specs.HubStates.Ways.{lane_on, lanes_from, with_port}
use Rattle.iox_tables.proofs.HubStates.Borrows.{both_left}
use Rattle.iox_tables.proofs.HubStates.Keys.{first_changed, lane_sender, lane_sets}
use Rattle.iox_tables.specs.HubBooks.Counts.{total}
use Rattle.iox_tables.proofs.HubBooks.Totals.{total-last}
use Rattle.std.proofs.lemmas.Bool.{or_parts}

plus_none : (n : ℕ) → n ≡ n + 0
plus_none n = omega arith

abbrev none_of : Bool → ℕ
none_of b = if b then 0 else 0

-- ---- what the receiver has of a lane

module _ (f : ℕ → ℕ) where
  -- of a lane that may be there
  abbrev pub taken_by : Option LaneState → ℕ
  taken_by o = option_map_or (λ l. total f l.taken) o 0

  abbrev pub found_by : LaneVisit → ℕ
  found_by (one.Got k) = f k
  found_by one.AtLimit = 0
  found_by one.Nothing = 0

  visit_taken : (test : ℕ → Bool) (l : LaneState) → total f (visited test l).taken ≡ total f l.taken + found_by (lane_visit test l)
  visit_taken test l = step (is_at_limit l) (first_wanted test l.waiting) l.waiting
    where
      step : (b : Bool) (o : Option ℕ) (ks : List ℕ) → total f (if b then l else with_found o (searched test l)).taken ≡ total f l.taken + found_by (if b then seen ks else found o)
      step true o [] = plus_none (total f l.taken)
      step true o (k ∷ ks) = plus_none (total f l.taken)
      step false (Some k) ks = total-last f l.taken k
      step false None ks = plus_none (total f l.taken)

  module _ (wanted : Wanted) (labels : LabelsByPlace) (lane : ℕ) where
    pipe_taken : (p : PipeState) (j : ℕ)
        → taken_by (slice_get (pipe_visited wanted labels lane p).lanes j) ≡ taken_by (slice_get p.lanes j) + (if j == lane then found_by (pipe_visit wanted labels lane p) else 0)
    pipe_taken p j = ap taken_by (lane_sets (λ l. visited_on wanted p.states labels l) lane p j) ∙ at (j == lane) refl
      where
        on_it : (o : Option LaneState) → taken_by (option_map (λ l. visited_on wanted p.states labels l) o) ≡ taken_by o + found_by (option_map_or (λ l. visit_on wanted p.states labels l) o one.Nothing)
        on_it (Some l) = visit_taken _ l
        on_it None = plus_none 0

        at : (b : Bool) → (j == lane) ≡ b
            → taken_by (if b then option_map (λ l. visited_on wanted p.states labels l) (slice_get p.lanes j) else slice_get p.lanes j)
            ≡ taken_by (slice_get p.lanes j) + (if b then found_by (pipe_visit wanted labels lane p) else 0)
        at true e = on_it (slice_get p.lanes j) ∙ ap (λ i. taken_by (slice_get p.lanes j) + found_by (option_map_or (λ l. visit_on wanted p.states labels l) (slice_get p.lanes i) one.Nothing)) (eqb-true j lane e)
        at false e = plus_none (taken_by (slice_get p.lanes j))

    -- what the visits took from the lane of that sender and number
    abbrev pub got_by : ℕ → ℕ → Visits → ℕ
    got_by s j (Got sender pool k) = if (sender == s) && (j == lane) then f k else 0
    got_by s j AtLimit = 0
    got_by s j Nothing = 0

    got_none : (ps : List PipeState) (waits : Bool) (s j : ℕ) → has_number s (senders_of ps) ≡ false → got_by s j (visits_from wanted labels lane ps waits) ≡ 0
    got_none [] true s j none = refl
    got_none [] false s j none = refl
    got_none (p ∷ ps) waits s j none =
        step (pipe_visit wanted labels lane p) (or_parts (p.sender == s) (has_number s (senders_of ps)) none)
        (λ e. got_none ps true s j e) (λ e. got_none ps waits s j e)
      where
        step : (v : LaneVisit) → ((p.sender == s) ≡ false) × (has_number s (senders_of ps) ≡ false)
            → (has_number s (senders_of ps) ≡ false → got_by s j (visits_from wanted labels lane ps true) ≡ 0)
            → (has_number s (senders_of ps) ≡ false → got_by s j (visits_from wanted labels lane ps waits) ≡ 0)
            → got_by s j (after_visit v p lane (visits_from wanted labels lane ps true) (visits_from wanted labels lane ps waits)) ≡ 0
        step (one.Got k) e a b = ap (λ (c : Bool). if c && (j == lane) then f k else 0) e.0
        step one.AtLimit e a b = a e.1
        step one.Nothing e a b = b e.1

    pub pipes_taken : (ps : List PipeState) (waits : Bool) → AreDistinct (senders_of ps) → (s j : ℕ)
        → taken_by (slice_get (lanes_from (all_visited wanted labels lane ps) s) j)
        ≡ taken_by (slice_get (lanes_from ps s) j) + got_by s j (visits_from wanted labels lane ps waits)
    pipes_taken [] true apart s j = plus_none 0
    pipes_taken [] false apart s j = plus_none 0
    pipes_taken (p ∷ ps) waits apart s j =
        ap (λ k. taken_by (slice_get (option_map_or (λ (q : PipeState). q.lanes)
        (if k == s then Some (pipe_visited wanted labels lane p) else pipe_from (if is_got (pipe_visit wanted labels lane p) then ps else all_visited wanted labels lane ps) s) []) j))
        (lane_sender (λ l. visited_on wanted p.states labels l) lane p)
        ∙ step (pipe_visit wanted labels lane p) (p.sender == s) refl (pipe_taken p j) (pipes_taken ps true apart.1 s j) (pipes_taken ps waits apart.1 s j)
      where
        here : ℕ
        here = taken_by (slice_get p.lanes j)

        none_here : (v : Bool) → (p.sender == s) ≡ true → got_by s j (visits_from wanted labels lane ps v) ≡ 0
        none_here v e = got_none ps v s j (subst (λ k. has_number k (senders_of ps) ≡ false) (eqb-true p.sender s e) apart.0)

        nothing_if : (b : Bool) → none_of b ≡ 0
        nothing_if true = refl
        nothing_if false = refl

        passed : (a b c d : ℕ) → a ≡ b + c → c ≡ 0 → d ≡ 0 → a ≡ b + d
        passed a b c d e z y = omega (arith, e, z, y)

        step : (v : LaneVisit) (b : Bool) → (p.sender == s) ≡ b
            → taken_by (slice_get (pipe_visited wanted labels lane p).lanes j) ≡ taken_by (slice_get p.lanes j) + (if j == lane then found_by v else 0)
            → taken_by (slice_get (lanes_from (all_visited wanted labels lane ps) s) j) ≡ taken_by (slice_get (lanes_from ps s) j) + got_by s j (visits_from wanted labels lane ps true)
            → taken_by (slice_get (lanes_from (all_visited wanted labels lane ps) s) j) ≡ taken_by (slice_get (lanes_from ps s) j) + got_by s j (visits_from wanted labels lane ps waits)
            → taken_by (slice_get (option_map_or (λ (q : PipeState). q.lanes) (if b then Some (pipe_visited wanted labels lane p) else pipe_from (if is_got v then ps else all_visited wanted labels lane ps) s) []) j)
            ≡ taken_by (slice_get (option_map_or (λ (q : PipeState). q.lanes) (if b then Some p else pipe_from ps s) []) j)
            + got_by s j (after_visit v p lane (visits_from wanted labels lane ps true) (visits_from wanted labels lane ps waits))
        step (one.Got k) true e on a c = on ∙ ap (λ (b : Bool). taken_by (slice_get p.lanes j) + (if b && (j == lane) then f k else 0)) (sym e)
        step (one.Got k) false e on a c =
            plus_none (taken_by (slice_get (lanes_from ps s) j)) ∙ ap (λ (b : Bool). taken_by (slice_get (lanes_from ps s) j) + (if b && (j == lane) then f k else 0)) (sym e)
        step one.AtLimit true e on a c = passed _ _ _ _ on (nothing_if (j == lane)) (none_here true e)
        step one.AtLimit false e on a c = a
        step one.Nothing true e on a c = passed _ _ _ _ on (nothing_if (j == lane)) (none_here waits e)
        step one.Nothing false e on a c = c

    pub ports_taken : (ports : List PortState) (n : ℕ) (p : PortState) → port_in ports n ≡ Some p → AreDistinct (senders_of (pipes_of p)) → (w : Way)
        → taken_by (lane_on (with_port (visited_port wanted labels lane) ports n) w)
        ≡ taken_by (lane_on ports w) + (if w.receiver == n then got_by w.sender w.lane (all_visits wanted labels lane (pipes_of p)) else 0)
    ports_taken ports n p there apart w =
        ap (λ o. taken_by (slice_get (lanes_from (option_map_or pipes_of o []) w.sender) w.lane)) (first_changed (λ q. q.number) (visited_port wanted labels lane) (λ q. refl) ports n w.receiver)
        ∙ step (w.receiver == n) refl
      where
        step : (b : Bool) → (w.receiver == n) ≡ b
            → taken_by (slice_get (lanes_from (option_map_or pipes_of (if b then option_map (visited_port wanted labels lane) (port_in ports w.receiver) else port_in ports w.receiver) []) w.sender) w.lane)
            ≡ taken_by (lane_on ports w) + (if b then got_by w.sender w.lane (all_visits wanted labels lane (pipes_of p)) else 0)
        step true e =
            let is : port_in ports w.receiver ≡ Some p = ap (port_in ports) (eqb-true w.receiver n e) ∙ there in
            ap (λ o. taken_by (slice_get (lanes_from (option_map_or pipes_of (option_map (visited_port wanted labels lane) o) []) w.sender) w.lane)) is
            ∙ ap (λ ps. taken_by (slice_get (lanes_from ps w.sender) w.lane)) (both_left wanted labels lane p)
            ∙ pipes_taken (pipes_of p) false apart w.sender w.lane
            ∙ ap (λ o. taken_by (slice_get (lanes_from (option_map_or pipes_of o []) w.sender) w.lane) + got_by w.sender w.lane (all_visits wanted labels lane (pipes_of p))) (sym is)
        step false e = plus_none (taken_by (lane_on ports w))

-- ---- what is got waited on its lane

module _ (wanted : Wanted) (labels : LabelsByPlace) (lane : ℕ) where
  abbrev pub GotFrom : List PipeState → Visits → Type 0
  GotFrom ps (Got s pool k) =
      (l : LaneState) × (slice_get (lanes_from ps s) lane ≡ Some l) × (l.pool ≡ pool) × (has_number k l.waiting ≡ true) × (has_number s (senders_of ps) ≡ true)
  GotFrom ps AtLimit = ⊤
  GotFrom ps Nothing = ⊤

  abbrev FoundOn : PipeState → LaneVisit → Type 0
  FoundOn p (one.Got k) = (l : LaneState) × (slice_get p.lanes lane ≡ Some l) × (l.pool ≡ pool_on p lane) × (has_number k l.waiting ≡ true)
  FoundOn p one.AtLimit = ⊤
  FoundOn p one.Nothing = ⊤

  abbrev IsIn : List ℕ → Option ℕ → Type 0
  IsIn ks (Some k) = has_number k ks ≡ true
  IsIn ks None = ⊤

  first_in : (test : ℕ → Bool) (ks : List ℕ) → IsIn ks (first_wanted test ks)
  first_in test [] = tt
  first_in test (k ∷ ks) = step (test k) (first_wanted test ks) (first_in test ks)
    where
      behind : (b c : Bool) → c ≡ true → (b || c) ≡ true
      behind true c e = refl
      behind false c e = e

      step : (b : Bool) (o : Option ℕ) → IsIn ks o → IsIn (k ∷ ks) (if b then Some k else o)
      step true o i = ap (λ b. b || has_number k ks) (eqb-refl k)
      step false (Some j) i = behind (k == j) (has_number j ks) i
      step false None i = tt

  pipe_found : (p : PipeState) → FoundOn p (pipe_visit wanted labels lane p)
  pipe_found p = step (slice_get p.lanes lane) refl
    where
      at : (l : LaneState) → slice_get p.lanes lane ≡ Some l → (b : Bool) (o : Option ℕ) (ks : List ℕ) → IsIn l.waiting o → FoundOn p (if b then seen ks else found o)
      at l is true o [] i = tt
      at l is true o (k ∷ ks) i = tt
      at l is false (Some k) ks i = (l, is, sym (ap (λ o. option_map_or (λ (m : LaneState). m.pool) o 0) is), i)
      at l is false None ks i = tt

      step : (o : Option LaneState) → slice_get p.lanes lane ≡ o → FoundOn p (option_map_or (λ l. visit_on wanted p.states labels l) o one.Nothing)
      step (Some l) is = at l is (is_at_limit l) _ l.waiting (first_in (wanted_on wanted p.states labels l) l.waiting)
      step None is = tt

  pub got_is : (ps : List PipeState) (waits : Bool) → AreDistinct (senders_of ps) → GotFrom ps (visits_from wanted labels lane ps waits)
  got_is [] true apart = tt
  got_is [] false apart = tt
  got_is (p ∷ ps) waits apart = step (pipe_visit wanted labels lane p) (pipe_found p) (visits_from wanted labels lane ps true) (got_is ps true apart.1) (visits_from wanted labels lane ps waits) (got_is ps waits apart.1)
    where
      behind : (b : Bool) (c : Bool) → c ≡ true → (b || c) ≡ true
      behind true c e = refl
      behind false c e = e

      differs : (b : Bool) (s : ℕ) → (p.sender == s) ≡ b → has_number s (senders_of ps) ≡ true → b ≡ false
      differs false s e has = refl
      differs true s e has = absurd (true≢false (sym (subst (λ k. has_number k (senders_of ps) ≡ true) (sym (eqb-true p.sender s e)) has) ∙ apart.0))

      later : (v : Visits) → GotFrom ps v → GotFrom (p ∷ ps) v
      later (Got s pool k) g = (
        g.0,
        ap (λ (b : Bool). slice_get (option_map_or (λ (q : PipeState). q.lanes) (if b then Some p else pipe_from ps s) []) lane) (differs (p.sender == s) s refl g.4) ∙ g.1,
        g.2,
        g.3,
        behind (p.sender == s) (has_number s (senders_of ps)) g.4,
      )
      later AtLimit g = tt
      later Nothing g = tt

      step : (v : LaneVisit) → FoundOn p v → (a : Visits) → GotFrom ps a → (c : Visits) → GotFrom ps c → GotFrom (p ∷ ps) (after_visit v p lane a c)
      step (one.Got k) on a ga c gc = (
        on.0,
        ap (λ (b : Bool). slice_get (option_map_or (λ (q : PipeState). q.lanes) (if b then Some p else pipe_from ps p.sender) []) lane) (eqb-refl p.sender) ∙ on.1,
        on.2,
        on.3,
        ap (λ b. b || has_number p.sender (senders_of ps)) (eqb-refl p.sender),
      )
      step one.AtLimit on a ga c gc = later a ga
      step one.Nothing on a ga c gc = later c gc

-- ---- what visits keep of each lane

module _ (wanted : Wanted) (labels : LabelsByPlace) (lane : ℕ) (f : LaneState → ℕ) (same : (test : ℕ → Bool) (l : LaneState) → f (visited test l) ≡ f l) where
  abbrev counts_of : Option LaneState → ℕ
  counts_of o = option_map_or f o 0

  pipe_counts : (p : PipeState) (j : ℕ) → counts_of (slice_get (pipe_visited wanted labels lane p).lanes j) ≡ counts_of (slice_get p.lanes j)
  pipe_counts p j = ap counts_of (lane_sets (λ l. visited_on wanted p.states labels l) lane p j) ∙ at (j == lane)
    where
      on_it : (o : Option LaneState) → counts_of (option_map (λ l. visited_on wanted p.states labels l) o) ≡ counts_of o
      on_it (Some l) = same _ l
      on_it None = refl

      at : (b : Bool) → counts_of (if b then option_map (λ l. visited_on wanted p.states labels l) (slice_get p.lanes j) else slice_get p.lanes j) ≡ counts_of (slice_get p.lanes j)
      at true = on_it (slice_get p.lanes j)
      at false = refl

  pipes_count : (ps : List PipeState) (s j : ℕ) → counts_of (slice_get (lanes_from (all_visited wanted labels lane ps) s) j) ≡ counts_of (slice_get (lanes_from ps s) j)
  pipes_count [] s j = refl
  pipes_count (p ∷ ps) s j =
      ap (λ k. counts_of (slice_get (option_map_or (λ (q : PipeState). q.lanes)
      (if k == s then Some (pipe_visited wanted labels lane p) else pipe_from (if is_got (pipe_visit wanted labels lane p) then ps else all_visited wanted labels lane ps) s) []) j))
      (lane_sender (λ l. visited_on wanted p.states labels l) lane p)
      ∙ step (p.sender == s) (is_got (pipe_visit wanted labels lane p)) (pipes_count ps s j)
    where
      step : (b c : Bool) → counts_of (slice_get (lanes_from (all_visited wanted labels lane ps) s) j) ≡ counts_of (slice_get (lanes_from ps s) j)
          → counts_of (slice_get (option_map_or (λ (q : PipeState). q.lanes) (if b then Some (pipe_visited wanted labels lane p) else pipe_from (if c then ps else all_visited wanted labels lane ps) s) []) j)
          ≡ counts_of (slice_get (option_map_or (λ (q : PipeState). q.lanes) (if b then Some p else pipe_from ps s) []) j)
      step true c rest = pipe_counts p j
      step false true rest = refl
      step false false rest = rest

  pub ports_count : (ports : List PortState) (n : ℕ) (w : Way) → counts_of (lane_on (with_port (visited_port wanted labels lane) ports n) w) ≡ counts_of (lane_on ports w)
  ports_count ports n w =
      ap (λ o. counts_of (slice_get (lanes_from (option_map_or pipes_of o []) w.sender) w.lane)) (first_changed (λ q. q.number) (visited_port wanted labels lane) (λ q. refl) ports n w.receiver)
      ∙ step (w.receiver == n) (port_in ports w.receiver)
    where
      step : (b : Bool) (o : Option PortState)
          → counts_of (slice_get (lanes_from (option_map_or pipes_of (if b then option_map (visited_port wanted labels lane) o else o) []) w.sender) w.lane)
          ≡ counts_of (slice_get (lanes_from (option_map_or pipes_of o []) w.sender) w.lane)
      step true (Some p) = ap (λ ps. counts_of (slice_get (lanes_from ps w.sender) w.lane)) (both_left wanted labels lane p) ∙ pipes_count (pipes_of p) w.sender w.lane
      step true None = refl
      step false o = refl
