-- The visits of a receiver are the machine's.
use Rattle.std.specs.Prelude.{◌≡◌, ℕ, Bool, true, false, not, ◌||◌, if◌then◌else◌, List, [], ◌∷◌, ◌++◌, length, map, nat_le, Option, Some, None, slice_get, slice_set, refl}
use Rattle.std.specs.Option.{option_map, option_map_or}
use Rattle.std.proofs.Common.{sym, ap, ap₂, subst, ◌∙◌, append_assoc}
use Rattle.iox_model.specs.declared.way.Way.{Way}
use Rattle.iox_model.specs.declared.way.RequestState.{RequestState}
use Rattle.iox_model.specs.declared.reply.Refusal.TheVariants.{ExceedsMaxBorrows}
use Rattle.iox_model.specs.declared.reply.Reply.TheVariants as replies
use Rattle.iox_model.specs.Doings.{Receiver, Outcome, Tells, Receives}
use Rattle.iox_model.specs.Maps.{is_empty, AreDistinct}
use Rattle.iox_model.specs.Messages.{Message, serials_of}
use Rattle.iox_model.specs.Peers.{borrow_limit_on, is_connected_port, is_counted_on}
use Rattle.iox_model.specs.Receives.{is_at_limit}
use Rattle.iox_model.specs.States.{Members, Fixed, State}
use Rattle.iox_laws.proofs.WeaveLaws.MapLemmas.{put_same}
use Rattle.iox_laws.specs.CallFunctions.Searches.{after_first, and_back, before_first, first_that, fits, found_or}
use Rattle.iox_laws.specs.CallFunctions.Searches as calls
use Rattle.iox_lanes.specs.declared.wanted.Wanted.{Wanted}
use Rattle.iox_lanes.specs.declared.search.LaneVisit.{LaneVisit}
use Rattle.iox_lanes.specs.declared.search.LaneVisit.TheVariants as one
use Rattle.iox_lanes.specs.declared.incoming.Visits.{Visits}
use Rattle.iox_lanes.specs.declared.incoming.Visits.TheVariants.{AtLimit, Nothing}
use Rattle.iox_lanes.specs.Lanes.{LaneState}
use Rattle.iox_lanes.specs.Pipes.{PipeState}
use Rattle.iox_lanes.specs.Searches.{LabelsByPlace, first_wanted, found, seen, visit_on, visited_on, wanted_on}
use Rattle.iox_lanes.specs.Visited.{after_visit, all_visited, is_got, pipe_visit, pipe_visited, visits_from}
use Rattle.iox_tables.specs.HubStates.Tables.{senders_of}
use Rattle.iox_tables.specs.HubStates.Ways.{OnWays}
use Rattle.iox_tables.specs.HubStates.Shown.{MessagesByPlace, returned_in, shown, waiting_in}
use Rattle.iox_tables.specs.HubStates.Receives.{outcome_of, way_to, ways_to}
use Rattle.iox_tables.proofs.HubStates.Lists.{first_is}
use Rattle.iox_tables.proofs.HubStates.Phases.{at_value}
use Rattle.iox_tables.proofs.HubStates.Pipes.{IsNone, lane_put, lane_there, lanes, none_before, same_senders, set_same}
use Rattle.iox_tables.proofs.HubStates.Searching.{searched_is, taken_from}

-- the same pipe with another lane
abbrev pub set_lane : PipeState → ℕ → LaneState → PipeState
set_lane p lane m = record p { lanes = slice_set p.lanes lane m }

module _ (members : Members) (f : Fixed) (message : MessagesByPlace) (states : OnWays RequestState) (base : ℕ → List PipeState)
    (r : Receiver) (wanted : Wanted) (labels : LabelsByPlace) (nobody : (n : ℕ) → f.forgot n ≡ []) where
  abbrev S : List PipeState → State
  S qs = shown members f message (lanes base r.port r.lane qs) states

  -- The tests, the limit and the count of one pipe are the machine's.
  pub record Fits (p : PipeState) : Type 0 where
    pub tests :
        (l : LaneState) → slice_get p.lanes r.lane ≡ Some l → (k : ℕ)
        → fits (S []) r (way_to r p.sender) (message l.pool k) ≡ wanted_on wanted p.states labels l k
    pub limit : (l : LaneState) → slice_get p.lanes r.lane ≡ Some l → borrow_limit_on f (way_to r p.sender) ≡ l.limit
    pub borrowed : f.borrowed (way_to r p.sender) ≡ option_map_or (λ l. length l.taken) (slice_get p.lanes r.lane) 0

  abbrev pub AllFit : List PipeState → Type 0
  AllFit [] = Unit {0}
  AllFit (p ∷ ps) = Fits p × AllFit ps

  abbrev says : List PipeState → Bool → Visits
  says ps waits = visits_from wanted labels r.lane ps waits

  abbrev leaves : List PipeState → List PipeState
  leaves ps = all_visited wanted labels r.lane ps

  -- what a visit says and leaves, and what those behind it then do
  abbrev Told : List PipeState → PipeState → PipeState → List PipeState → Bool → LaneVisit → Outcome × State
  Told done p q ps waits v = (
    outcome_of message r (after_visit v p r.lane (says ps true) (says ps waits)),
    S (done ++ q ∷ (if is_got v then ps else leaves ps)),
  )

  abbrev Next : List PipeState → PipeState → List PipeState → Type 0
  Next done p ps =
      (q : PipeState) (after : Bool) → q.sender ≡ p.sender
      → calls.visited (S (done ++ q ∷ ps)) r (ways_to r ps) after ≡ (outcome_of message r (says ps after), S (done ++ q ∷ leaves ps))

  or_false : (b : Bool) → (b || false) ≡ b
  or_false true = refl
  or_false false = refl

  or_true : (b : Bool) → (b || true) ≡ true
  or_true true = refl
  or_true false = refl

  -- at the limit
  seen_one : (done ps : List PipeState) (p q : PipeState) (waits : Bool) (ks : List ℕ) (pool : ℕ) → q.sender ≡ p.sender → Next done p ps
      → calls.visited (S (done ++ q ∷ ps)) r (ways_to r ps) (waits || not (is_empty (map (message pool) ks))) ≡ Told done p q ps waits (seen ks)
  seen_one done ps p q waits [] pool same next = ap (calls.visited (S (done ++ q ∷ ps)) r (ways_to r ps)) (or_false waits) ∙ next q waits same
  seen_one done ps p q waits (k ∷ ks) pool same next = ap (calls.visited (S (done ++ q ∷ ps)) r (ways_to r ps)) (or_true waits) ∙ next q true same

  -- below it
  found_one : (done ps : List PipeState) (p q : PipeState) (waits : Bool) (l : LaneState) (o : Option ℕ) → q.sender ≡ p.sender → Next done p ps → slice_get p.lanes r.lane ≡ Some l
      → found_or (option_map (message l.pool) o) (λ m. (Receives r (way_to r p.sender) m, S (done ++ q ∷ ps))) (calls.visited (S (done ++ q ∷ ps)) r (ways_to r ps) waits)
      ≡ Told done p q ps waits (found o)
  found_one done ps p q waits l (Some k) same next there =
      ap (λ (a : Option LaneState). (Receives r (way_to r p.sender) (message (option_map_or (λ n. n.pool) a 0) k), S (done ++ q ∷ ps))) (sym there)
  found_one done ps p q waits l None same next there = next q waits same

  some : (done ps : List PipeState) (p : PipeState) (waits : Bool) (l : LaneState) → Fits p → IsNone done p.sender → Next done p ps → slice_get p.lanes r.lane ≡ Some l
      → calls.visited (S (done ++ p ∷ ps)) r (way_to r p.sender ∷ ways_to r ps) waits
      ≡ Told done p (set_lane p r.lane (visited_on wanted p.states labels l)) ps waits (visit_on wanted p.states labels l)
  some done ps p waits l fit none next there =
      let test : ℕ → Bool = wanted_on wanted p.states labels l in
      let w : Way = way_to r p.sender in
      let s : State = S (done ++ p ∷ ps) in
      let on : lanes base r.port r.lane (done ++ p ∷ ps) w ≡ Some l = lane_there base r.port r.lane done ps p none ∙ there in
      let limit : is_at_limit f w ≡ nat_le l.limit (length l.taken)
      = ap₂ nat_le (fit.limit l there) (fit.borrowed ∙ ap (λ o. option_map_or (λ m. length m.taken) o 0) there) in
      let waiting : s.waiting w ≡ map (message l.pool) l.waiting = ap (λ o. option_map_or (waiting_in message) o []) on in
      let same : set_lane p r.lane l ≡ p = λ i. record p { lanes = set_same p.lanes r.lane l there i } in
      let first : first_that (fits s r w) (s.waiting w) ≡ option_map (message l.pool) (first_wanted test l.waiting)
      = ap (first_that (fits s r w)) waiting ∙ first_is (fits s r w) (message l.pool) test (fit.tests l there) l.waiting in
      let moved : calls.searched s r w ≡ S (done ++ set_lane p r.lane (taken_from test l) ∷ ps)
      = searched_is members f message states (lanes base r.port r.lane (done ++ p ∷ ps)) r w l on test (fit.tests l there) (nobody _)
      ∙ ap (λ g. shown members f message g states)
      (at_value (taken_from test) (lanes base r.port r.lane (done ++ p ∷ ps)) w l on
      ∙ sym (lane_put base r.port r.lane done ps p l (taken_from test l) none there)) in
      ap (λ b. if b then calls.visited s r (ways_to r ps) (waits || not (is_empty (s.waiting w)))
      else found_or (first_that (fits s r w) (s.waiting w)) (λ m. (Receives r w m, calls.searched s r w)) (calls.visited (calls.searched s r w) r (ways_to r ps) waits)) limit
      ∙ (elim (nat_le l.limit (length l.taken)) as (λ b. (if b then calls.visited s r (ways_to r ps) (waits || not (is_empty (s.waiting w)))
      else found_or (first_that (fits s r w) (s.waiting w)) (λ m. (Receives r w m, calls.searched s r w)) (calls.visited (calls.searched s r w) r (ways_to r ps) waits))
      ≡ Told done p (set_lane p r.lane (if b then l else taken_from test l)) ps waits (if b then seen l.waiting else found (first_wanted test l.waiting))) [
        | true ↦ ap₂ (λ (q : PipeState) (ms : List Message). calls.visited (S (done ++ q ∷ ps)) r (ways_to r ps) (waits || not (is_empty ms))) (sym same) waiting
            ∙ seen_one done ps p (set_lane p r.lane l) waits l.waiting l.pool refl next
        | false ↦ ap₂ (λ (o : Option Message) (t : State). found_or o (λ m. (Receives r w m, t)) (calls.visited t r (ways_to r ps) waits)) first moved
            ∙ found_one done ps p (set_lane p r.lane (taken_from test l)) waits l (first_wanted test l.waiting) refl next there
      ])

  -- a pipe with no such lane is passed
  passed : (done ps : List PipeState) (p : PipeState) (waits : Bool) → IsNone done p.sender → Next done p ps → slice_get p.lanes r.lane ≡ None
      → calls.visited (S (done ++ p ∷ ps)) r (way_to r p.sender ∷ ways_to r ps) waits ≡ (outcome_of message r (says ps waits), S (done ++ p ∷ leaves ps))
  passed done ps p waits none next gone = step (is_at_limit f w)
    where
      w : Way
      w = way_to r p.sender

      s : State
      s = S (done ++ p ∷ ps)

      step : (b : Bool)
          → (if b then calls.visited (S (done ++ p ∷ ps)) r (ways_to r ps) (waits || not (is_empty ((S (done ++ p ∷ ps)).waiting (way_to r p.sender))))
          else found_or (first_that (fits (S (done ++ p ∷ ps)) r (way_to r p.sender)) ((S (done ++ p ∷ ps)).waiting (way_to r p.sender)))
          (λ m. (Receives r (way_to r p.sender) m, calls.searched (S (done ++ p ∷ ps)) r (way_to r p.sender)))
          (calls.visited (calls.searched (S (done ++ p ∷ ps)) r (way_to r p.sender)) r (ways_to r ps) waits))
          ≡ (outcome_of message r (says ps waits), S (done ++ p ∷ leaves ps))
      step true = ap (λ ms. calls.visited (S (done ++ p ∷ ps)) r (ways_to r ps) (waits || not (is_empty ms))) nothing
          ∙ ap (calls.visited (S (done ++ p ∷ ps)) r (ways_to r ps)) (or_false waits) ∙ next p waits refl
        where
          nothing : (S (done ++ p ∷ ps)).waiting (way_to r p.sender) ≡ []
          nothing = ap (λ o. option_map_or (waiting_in message) o []) (lane_there base r.port r.lane done ps p none ∙ gone)
      step false =
          ap (λ ms. found_or (first_that (fits (S (done ++ p ∷ ps)) r (way_to r p.sender)) ms)
          (λ m. (Receives r (way_to r p.sender) m, calls.searched (S (done ++ p ∷ ps)) r (way_to r p.sender)))
          (calls.visited (calls.searched (S (done ++ p ∷ ps)) r (way_to r p.sender)) r (ways_to r ps) waits)) nothing
          ∙ ap (λ t. calls.visited t r (ways_to r ps) waits) unsearched ∙ next p waits refl
        where
          t : State
          t = S (done ++ p ∷ ps)

          nothing : (S (done ++ p ∷ ps)).waiting (way_to r p.sender) ≡ []
          nothing = ap (λ o. option_map_or (waiting_in message) o []) (lane_there base r.port r.lane done ps p none ∙ gone)

          back : (c : Bool) → (if c then option_map_or (returned_in message) None [] else []) ≡ and_back c (if c then option_map_or (returned_in message) None [] else []) []
          back true = refl
          back false = refl

          no_more : (c d : Bool) (rs : List ℕ) → rs ≡ (if c then [] else []) → rs ≡ and_back d rs []
          no_more true true rs e = e ∙ ap (λ ks. ks ++ []) (sym e)
          no_more false true rs e = e ∙ ap (λ ks. ks ++ []) (sym e)
          no_more c false rs e = refl

          returned : (S (done ++ p ∷ ps)).returned (way_to r p.sender) ≡ (if is_connected_port f p.sender then [] else [])
          returned = ap (λ o. if is_connected_port f p.sender then option_map_or (returned_in message) o [] else []) (lane_there base r.port r.lane done ps p none ∙ gone)

          unsearched : calls.searched (S (done ++ p ∷ ps)) r (way_to r p.sender) ≡ S (done ++ p ∷ ps)
          unsearched = λ i. record (S (done ++ p ∷ ps)) {
            waiting = put_same (S (done ++ p ∷ ps)).waiting (way_to r p.sender) (after_first (fits (S (done ++ p ∷ ps)) r (way_to r p.sender)) ((S (done ++ p ∷ ps)).waiting (way_to r p.sender)))
                (nothing ∙ sym (ap (after_first (fits (S (done ++ p ∷ ps)) r (way_to r p.sender))) nothing)) i;
            returned = put_same (S (done ++ p ∷ ps)).returned (way_to r p.sender)
                (and_back (is_counted_on f (way_to r p.sender)) ((S (done ++ p ∷ ps)).returned (way_to r p.sender)) (serials_of (before_first (fits (S (done ++ p ∷ ps)) r (way_to r p.sender)) ((S (done ++ p ∷ ps)).waiting (way_to r p.sender)))))
                (no_more (is_connected_port f p.sender) (is_counted_on f (way_to r p.sender)) ((S (done ++ p ∷ ps)).returned (way_to r p.sender)) returned
                ∙ sym (ap (λ ms. and_back (is_counted_on f (way_to r p.sender)) ((S (done ++ p ∷ ps)).returned (way_to r p.sender)) (serials_of (before_first (fits (S (done ++ p ∷ ps)) r (way_to r p.sender)) ms))) nothing)) i;
          }

  one_pipe : (done ps : List PipeState) (p : PipeState) (waits : Bool) → Fits p → IsNone done p.sender → Next done p ps
      → calls.visited (S (done ++ p ∷ ps)) r (way_to r p.sender ∷ ways_to r ps) waits
      ≡ Told done p (pipe_visited wanted labels r.lane p) ps waits (pipe_visit wanted labels r.lane p)
  one_pipe done ps p waits fit none next = step (slice_get p.lanes r.lane) refl
    where
      step : (o : Option LaneState) → slice_get p.lanes r.lane ≡ o
          → calls.visited (S (done ++ p ∷ ps)) r (way_to r p.sender ∷ ways_to r ps) waits
          ≡ Told done p (option_map_or (λ l. set_lane p r.lane (visited_on wanted p.states labels l)) o p) ps waits (option_map_or (λ l. visit_on wanted p.states labels l) o one.Nothing)
      step (Some l) there = some done ps p waits l fit none next there
      step None gone = passed done ps p waits none next gone

  -- The visits to a receiver's lanes come to what the machine's come to.
  pub visited_is : (done ps : List PipeState) (waits : Bool) → AllFit ps → AreDistinct (senders_of (done ++ ps))
      → calls.visited (S (done ++ ps)) r (ways_to r ps) waits ≡ (outcome_of message r (says ps waits), S (done ++ leaves ps))
  visited_is done [] waits fit apart = λ i. (by_waits waits i, S (done ++ []))
    where
      by_waits : (b : Bool) → Tells (if b then replies.Refused ExceedsMaxBorrows else replies.Nothing) ≡ outcome_of message r (if b then AtLimit else Nothing)
      by_waits true = refl
      by_waits false = refl
  visited_is done (p ∷ ps) waits fit apart =
      one_pipe done ps p waits fit.0 (none_before done ps p apart)
      (λ q after same. ap (λ qs. calls.visited (S qs) r (ways_to r ps) after) (sym (append_assoc done (q ∷ []) ps))
      ∙ visited_is (done ++ q ∷ []) ps after fit.1
      (subst AreDistinct (sym (ap senders_of (append_assoc done (q ∷ []) ps) ∙ same_senders done ps p q same)) apart)
      ∙ ap (λ qs. (outcome_of message r (says ps after), S qs)) (append_assoc done (q ∷ []) (leaves ps)))
