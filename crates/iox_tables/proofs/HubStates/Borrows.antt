-- How many messages receivers have after visits, and what visits leave as it was.
use Rattle.std.specs.Prelude.{◌≡◌, ℕ, ◌+◌, Bool, true, false, if◌then◌else◌, ◌==◌, List, [], ◌∷◌, ◌++◌, length, nat_le, Option, Some, None, slice_get, slice_set, refl}
use Rattle.std.specs.Option.{option_map_or}
use Rattle.std.proofs.Common.{sym, ap, ap₂, subst, ◌∙◌, append_assoc, length-append}
use Rattle.iox_model.specs.declared.way.Way.{Way}
use Rattle.iox_model.specs.declared.way.RequestState.{RequestState}
use Rattle.iox_model.specs.Maps.{same_way, put, AreDistinct}
use Rattle.iox_laws.proofs.WeaveLaws.MapLemmas.{put_same}
use Rattle.iox_lanes.specs.declared.wanted.Wanted.{Wanted}
use Rattle.iox_lanes.specs.declared.search.LaneVisit.{LaneVisit}
use Rattle.iox_lanes.specs.declared.search.LaneVisit.TheVariants as one
use Rattle.iox_lanes.specs.declared.incoming.Visits.{Visits}
use Rattle.iox_lanes.specs.declared.incoming.Visits.TheVariants.{Got, AtLimit, Nothing}
use Rattle.iox_lanes.specs.Lanes.{LaneState}
use Rattle.iox_lanes.specs.Pipes.{PipeState}
use Rattle.iox_lanes.specs.Searches.{LabelsByPlace, first_wanted, found, lane_visit, searched, seen, visit_on, visited, visited_on, wanted_on, with_found}
use Rattle.iox_lanes.specs.Visited.{after_visit, all_visited, all_visits, is_got, pipe_visit, pipe_visited, visits_from}
use Rattle.iox_tables.specs.HubStates.Tables.{PortState, pipe_from, pipes_of, senders_of}
use Rattle.iox_tables.specs.HubStates.Ways.{states_from}
use Rattle.iox_tables.specs.HubStates.Shown.{borrowed_in}
use Rattle.iox_tables.specs.HubStates.Receives.{both_visits, has_got, visited_port}
use Rattle.iox_tables.proofs.HubStates.Pipes.{IsNone, lane_put, lane_there, lanes, none_before, way}
use Rattle.iox_tables.proofs.HubStates.Visits.{set_lane}

-- ---- one lane

taken_by : (limit : Bool) (o : Option ℕ) (l m : LaneState) (ks : List ℕ) → m.taken ≡ l.taken
    → length (if limit then l else with_found o m).taken ≡ (if is_got (if limit then seen ks else found o) then length l.taken + 1 else length l.taken)
taken_by true o l m [] e = refl
taken_by true o l m (k ∷ ks) e = refl
taken_by false (Some k) l m ks e = length-append m.taken (k ∷ []) ∙ ap (λ (xs : List ℕ). length xs + 1) e
taken_by false None l m ks e = ap length e

pub taken_is : (test : ℕ → Bool) (l : LaneState) → length (visited test l).taken ≡ (if is_got (lane_visit test l) then length l.taken + 1 else length l.taken)
taken_is test l = taken_by (nat_le l.limit (length l.taken)) (first_wanted test l.waiting) l (searched test l) l.waiting refl

-- what visits add to what receivers have
abbrev pub borrowed_by : ℕ → ℕ → Visits → (Way → ℕ) → Way → ℕ
borrowed_by n lane (Got sender pool k) g = let w : Way = record { sender = sender; receiver = n; lane = lane } in put g w (g w + 1)
borrowed_by n lane AtLimit g = g
borrowed_by n lane Nothing g = g

module _ (base : ℕ → List PipeState) (n lane : ℕ) (wanted : Wanted) (labels : LabelsByPlace) where
  abbrev C : List PipeState → Way → ℕ
  C qs = borrowed_in (lanes base n lane qs)

  abbrev says : List PipeState → Bool → Visits
  says ps waits = visits_from wanted labels lane ps waits

  abbrev leaves : List PipeState → List PipeState
  leaves ps = all_visited wanted labels lane ps

  put_count : (done ps : List PipeState) (p : PipeState) (l m : LaneState) → IsNone done p.sender → slice_get p.lanes lane ≡ Some l
      → C (done ++ set_lane p lane m ∷ ps) ≡ put (C (done ++ p ∷ ps)) (way base n lane p.sender) (length m.taken)
  put_count done ps p l m none there =
      ap borrowed_in (lane_put base n lane done ps p l m none there)
      ∙ (λ i v. by_case v (same v) i)
    where
      same : Way → Bool
      same v = same_way v (way base n lane p.sender)

      by_case : (v : Way) (b : Bool) → option_map_or (λ l. length l.taken) (if b then Some m else lanes base n lane (done ++ p ∷ ps) v) 0
          ≡ (if b then length m.taken else option_map_or (λ l. length l.taken) (lanes base n lane (done ++ p ∷ ps) v) 0)
      by_case v true = refl
      by_case v false = refl

  count_there : (done ps : List PipeState) (p : PipeState) (l : LaneState) → IsNone done p.sender → slice_get p.lanes lane ≡ Some l
      → C (done ++ p ∷ ps) (way base n lane p.sender) ≡ length l.taken
  count_there done ps p l none there = ap (λ o. option_map_or (λ l. length l.taken) o 0) (lane_there base n lane done ps p none ∙ there)

  one_borrows : (done ps : List PipeState) (p : PipeState) (waits : Bool) (l m : LaneState) (v : LaneVisit) → IsNone done p.sender → slice_get p.lanes lane ≡ Some l
      → length m.taken ≡ (if is_got v then length l.taken + 1 else length l.taken)
      → ((after : Bool) → C (done ++ p ∷ leaves ps) ≡ borrowed_by n lane (says ps after) (C (done ++ p ∷ ps)))
      → C (done ++ set_lane p lane m ∷ (if is_got v then ps else leaves ps))
      ≡ borrowed_by n lane (after_visit v p lane (says ps true) (says ps waits)) (C (done ++ p ∷ ps))
  one_borrows done ps p waits l m (one.Got k) none there is next =
      put_count done ps p l m none there
      ∙ ap (put (C (done ++ p ∷ ps)) (way base n lane p.sender)) (is ∙ ap (λ k. k + 1) (sym (count_there done ps p l none there)))
  one_borrows done ps p waits l m one.AtLimit none there is next =
      put_count done (leaves ps) p l m none there
      ∙ put_same (C (done ++ p ∷ leaves ps)) (way base n lane p.sender) (length m.taken) (count_there done (leaves ps) p l none there ∙ sym is)
      ∙ next true
  one_borrows done ps p waits l m one.Nothing none there is next =
      put_count done (leaves ps) p l m none there
      ∙ put_same (C (done ++ p ∷ leaves ps)) (way base n lane p.sender) (length m.taken) (count_there done (leaves ps) p l none there ∙ sym is)
      ∙ next waits

  pub borrows_are : (done ps : List PipeState) (waits : Bool) → AreDistinct (senders_of (done ++ ps))
      → C (done ++ leaves ps) ≡ borrowed_by n lane (says ps waits) (C (done ++ ps))
  borrows_are done [] true apart = refl
  borrows_are done [] false apart = refl
  borrows_are done (p ∷ ps) waits apart = step (slice_get p.lanes lane) refl
      (λ after. ap C (sym (append_assoc done (p ∷ []) (leaves ps)))
      ∙ borrows_are (done ++ p ∷ []) ps after (subst AreDistinct (ap senders_of (sym (append_assoc done (p ∷ []) ps))) apart)
      ∙ ap (λ qs. borrowed_by n lane (says ps after) (C qs)) (append_assoc done (p ∷ []) ps))
    where
      step : (o : Option LaneState) → slice_get p.lanes lane ≡ o
          → ((after : Bool) → C (done ++ p ∷ leaves ps) ≡ borrowed_by n lane (says ps after) (C (done ++ p ∷ ps)))
          → C (done ++ option_map_or (λ l. set_lane p lane (visited_on wanted p.states labels l)) o p
          ∷ (if is_got (option_map_or (λ l. visit_on wanted p.states labels l) o one.Nothing) then ps else leaves ps))
          ≡ borrowed_by n lane (after_visit (option_map_or (λ l. visit_on wanted p.states labels l) o one.Nothing) p lane (says ps true) (says ps waits)) (C (done ++ p ∷ ps))
      step (Some l) there next =
          one_borrows done ps p waits l (visited_on wanted p.states labels l) (visit_on wanted p.states labels l) (none_before done ps p apart) there
          (taken_is (wanted_on wanted p.states labels l) l) next
      step None there next = next waits

-- ---- what visits leave

module _ (wanted : Wanted) (labels : LabelsByPlace) (lane : ℕ) where
  abbrev sees : List PipeState → Bool → Visits
  sees ps waits = visits_from wanted labels lane ps waits

  abbrev parts : List PipeState → List PipeState
  parts ps = all_visited wanted labels lane ps

  pipe_shows : {B : Type 0} (show : PipeState → B) (p : PipeState) → ((ls : List LaneState) → show (record p { lanes = ls }) ≡ show p)
      → show (pipe_visited wanted labels lane p) ≡ show p
  pipe_shows show p same = step (slice_get p.lanes lane)
    where
      step : (o : Option LaneState) → show (option_map_or (λ l. set_lane p lane (visited_on wanted p.states labels l)) o p) ≡ show p
      step (Some l) = same (slice_set p.lanes lane (visited_on wanted p.states labels l))
      step None = refl

  -- their senders
  pub same_left : (ps : List PipeState) → senders_of (parts ps) ≡ senders_of ps
  same_left [] = refl
  same_left (p ∷ ps) = ap₂ (λ k ks. k ∷ ks) (pipe_shows (λ q. q.sender) p (λ ls. refl)) (rest (is_got (pipe_visit wanted labels lane p)) (same_left ps))
    where
      rest : (b : Bool) → senders_of (parts ps) ≡ senders_of ps → senders_of (if b then ps else parts ps) ≡ senders_of ps
      rest true e = refl
      rest false e = e

  -- and their request states
  pub states_left : (ps : List PipeState) (s : ℕ) → states_from (parts ps) s ≡ states_from ps s
  states_left [] s = refl
  states_left (p ∷ ps) s =
      step (is_got (pipe_visit wanted labels lane p)) (states_left ps s)
    where
      first : (qs : List PipeState) → states_from qs s ≡ states_from ps s → states_from (pipe_visited wanted labels lane p ∷ qs) s ≡ states_from (p ∷ ps) s
      first qs e =
          here ((pipe_visited wanted labels lane p).sender == s)
          ∙ ap₂ (λ (k : ℕ) (ss : List RequestState). if k == s then ss else states_from qs s) (pipe_shows (λ q. q.sender) p (λ ls. refl)) (pipe_shows (λ q. q.states) p (λ ls. refl))
          ∙ ap (λ zs. if p.sender == s then p.states else zs) e
          ∙ sym (there (p.sender == s))
        where
          here : (b : Bool) → option_map_or (λ q. q.states) (if b then Some (pipe_visited wanted labels lane p) else pipe_from qs s) []
              ≡ (if b then (pipe_visited wanted labels lane p).states else states_from qs s)
          here true = refl
          here false = refl

          there : (b : Bool) → option_map_or (λ q. q.states) (if b then Some p else pipe_from ps s) [] ≡ (if b then p.states else states_from ps s)
          there true = refl
          there false = refl

      step : (b : Bool) → states_from (parts ps) s ≡ states_from ps s
          → states_from (pipe_visited wanted labels lane p ∷ (if b then ps else parts ps)) s ≡ states_from (p ∷ ps) s
      step true e = first ps refl
      step false e = first (parts ps) e

  -- ---- visits to some, and then to others

  got_same : (ps : List PipeState) → has_got (sees ps true) ≡ has_got (sees ps false)
  got_same [] = refl
  got_same (p ∷ ps) = step (pipe_visit wanted labels lane p) (got_same ps)
    where
      step : (v : LaneVisit) → has_got (sees ps true) ≡ has_got (sees ps false)
          → has_got (after_visit v p lane (sees ps true) (sees ps true)) ≡ has_got (after_visit v p lane (sees ps true) (sees ps false))
      step (one.Got k) e = refl
      step one.AtLimit e = refl
      step one.Nothing e = e

  left_append : (ps qs : List PipeState) → parts (ps ++ qs) ≡ parts ps ++ (if has_got (sees ps false) then qs else parts qs)
  left_append [] qs = refl
  left_append (p ∷ ps) qs = step (pipe_visit wanted labels lane p) (left_append ps qs) (got_same ps)
    where
      step : (v : LaneVisit) → parts (ps ++ qs) ≡ parts ps ++ (if has_got (sees ps false) then qs else parts qs) → has_got (sees ps true) ≡ has_got (sees ps false)
          → pipe_visited wanted labels lane p ∷ (if is_got v then ps ++ qs else parts (ps ++ qs))
          ≡ pipe_visited wanted labels lane p ∷ ((if is_got v then ps else parts ps) ++ (if has_got (after_visit v p lane (sees ps true) (sees ps false)) then qs else parts qs))
      step (one.Got k) e h = refl
      step one.AtLimit e h = ap (λ zs. pipe_visited wanted labels lane p ∷ zs) (e ∙ ap (λ b. parts ps ++ (if b then qs else parts qs)) (sym h))
      step one.Nothing e h = ap (λ zs. pipe_visited wanted labels lane p ∷ zs) e

  -- one that waited is remembered
  remembered : (qs : List PipeState) → sees qs true ≡ both_visits AtLimit (sees qs false)
  remembered [] = refl
  remembered (q ∷ qs) = step (pipe_visit wanted labels lane q) (remembered qs)
    where
      twice : (v : Visits) → both_visits AtLimit v ≡ both_visits AtLimit (both_visits AtLimit v)
      twice (Got sender pool k) = refl
      twice AtLimit = refl
      twice Nothing = refl

      step : (v : LaneVisit) → sees qs true ≡ both_visits AtLimit (sees qs false)
          → after_visit v q lane (sees qs true) (sees qs true) ≡ both_visits AtLimit (after_visit v q lane (sees qs true) (sees qs false))
      step (one.Got k) e = refl
      step one.AtLimit e = e ∙ twice (sees qs false) ∙ ap (both_visits AtLimit) (sym e)
      step one.Nothing e = e

  visits_append : (ps qs : List PipeState) (waits : Bool) → sees (ps ++ qs) waits ≡ both_visits (sees ps waits) (sees qs false)
  visits_append [] qs true = remembered qs
  visits_append [] qs false = refl
  visits_append (p ∷ ps) qs waits = step (pipe_visit wanted labels lane p) (visits_append ps qs true) (visits_append ps qs waits)
    where
      step : (v : LaneVisit) → sees (ps ++ qs) true ≡ both_visits (sees ps true) (sees qs false) → sees (ps ++ qs) waits ≡ both_visits (sees ps waits) (sees qs false)
          → after_visit v p lane (sees (ps ++ qs) true) (sees (ps ++ qs) waits) ≡ both_visits (after_visit v p lane (sees ps true) (sees ps waits)) (sees qs false)
      step (one.Got k) e h = refl
      step one.AtLimit e h = e
      step one.Nothing e h = h

  pub both_are : (p : PortState) → all_visits wanted labels lane (pipes_of p) ≡ both_visits (all_visits wanted labels lane p.expired.pipes) (all_visits wanted labels lane p.incoming.pipes)
  both_are p = visits_append p.expired.pipes p.incoming.pipes false

  pub both_left : (p : PortState) → pipes_of (visited_port wanted labels lane p) ≡ parts (pipes_of p)
  both_left p = ap (λ zs. parts p.expired.pipes ++ zs) (step (has_got (all_visits wanted labels lane p.expired.pipes))) ∙ sym (left_append p.expired.pipes p.incoming.pipes)
    where
      step : (b : Bool) → (if b then p.incoming else record (p.incoming) { pipes = parts p.incoming.pipes }).pipes ≡ (if b then p.incoming.pipes else parts p.incoming.pipes)
      step true = refl
      step false = refl
