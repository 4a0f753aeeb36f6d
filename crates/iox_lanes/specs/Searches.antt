-- The search of one lane for a message that its receiver wants.
use Rattle.std.specs.Prelude.{ℕ, ◌+◌, Bool, true, if◌then◌else◌, ◌==◌, List, [], ◌∷◌, ◌++◌, length, Option, Some, None, slice_get}
use Rattle.std.specs.Option.{option_map_or}
use Rattle.iox_model.specs.declared.way.RequestState.{RequestState}
use Rattle.iox_model.specs.declared.way.RequestState.TheVariants.{Closed}
use Rattle.iox_model.specs.Messages.{names}
use Rattle.iox_lanes.specs.declared.wanted.Label.{Label}
use Rattle.iox_lanes.specs.declared.wanted.Wanted.{Wanted}
use Rattle.iox_lanes.specs.declared.wanted.Wanted.TheVariants.{Any, Named, Of}
use Rattle.iox_lanes.specs.declared.search.LaneVisit.{LaneVisit}
use Rattle.iox_lanes.specs.declared.search.LaneVisit.TheVariants.{Got, AtLimit, Nothing}
use Rattle.iox_lanes.specs.Lanes.{LaneState, is_at_limit, with_taken}

-- the request state of that lane; closed where there is no such lane
abbrev pub state_on : List RequestState → ℕ → RequestState
state_on states lane = option_map_or (λ s. s) (slice_get states lane) Closed

-- the labels of messages, by pool and place
abbrev pub LabelsByPlace : Type 0
LabelsByPlace = ℕ → ℕ → Label

-- whether the receiver wants the message in this place, by the labels of its pool
abbrev pub is_wanted : Wanted → List RequestState → (ℕ → Label) → ℕ → Bool
is_wanted Any states label k = true
-- the state of its lane names its request
is_wanted Named states label k = names (state_on states (label k).lane) (label k).request
is_wanted (Of id) states label k = (label k).request == id

-- ---- a line of places, and which of them are wanted

-- those before the first that is wanted
abbrev pub before_wanted : (ℕ → Bool) → List ℕ → List ℕ
before_wanted test [] = []
before_wanted test (k ∷ ks) = if test k then [] else k ∷ before_wanted test ks

-- the first that is wanted
abbrev pub first_wanted : (ℕ → Bool) → List ℕ → Option ℕ
first_wanted test [] = None
first_wanted test (k ∷ ks) = if test k then Some k else first_wanted test ks

-- those behind it
abbrev pub after_wanted : (ℕ → Bool) → List ℕ → List ℕ
after_wanted test [] = []
after_wanted test (k ∷ ks) = if test k then ks else after_wanted test ks

-- ---- a lane

-- those before the first that is wanted are given back unread, and it waits no more
abbrev pub searched : (ℕ → Bool) → LaneState → LaneState
searched test l = record l {
  waiting = after_wanted test l.waiting;
  returned = l.returned ++ before_wanted test l.waiting;
  returns = l.returns + length (before_wanted test l.waiting);
}

-- what a search found
abbrev pub found : Option ℕ → LaneVisit
found None = Nothing
found (Some k) = Got k

-- what is seen of a line that may not be touched
abbrev pub seen : List ℕ → LaneVisit
seen [] = Nothing
seen (k ∷ ks) = AtLimit

-- what a visit to the lane comes to: at the limit nothing is taken, not even what is not wanted
abbrev pub lane_visit : (ℕ → Bool) → LaneState → LaneVisit
lane_visit test l = if is_at_limit l then seen l.waiting else found (first_wanted test l.waiting)

-- the receiver has the one that was found
abbrev pub with_found : Option ℕ → LaneState → LaneState
with_found None l = l
with_found (Some k) l = with_taken l k

-- the lane after the visit
abbrev pub visited : (ℕ → Bool) → LaneState → LaneState
visited test l =
    if is_at_limit l then l else with_found (first_wanted test l.waiting) (searched test l)

-- ---- what the labels, the request states and what is wanted say of a lane

-- which of its messages are wanted
abbrev pub wanted_on : Wanted → List RequestState → LabelsByPlace → LaneState → ℕ → Bool
wanted_on wanted states labels l = is_wanted wanted states (labels l.pool)

-- the oldest of them
abbrev pub first_on : Wanted → List RequestState → LabelsByPlace → LaneState → Option ℕ
first_on wanted states labels l = first_wanted (wanted_on wanted states labels l) l.waiting

-- the lane after a search for it
abbrev pub searched_on : Wanted → List RequestState → LabelsByPlace → LaneState → LaneState
searched_on wanted states labels l = searched (wanted_on wanted states labels l) l

-- what a visit to the lane comes to
abbrev pub visit_on : Wanted → List RequestState → LabelsByPlace → LaneState → LaneVisit
visit_on wanted states labels l = lane_visit (wanted_on wanted states labels l) l

-- the lane after it
abbrev pub visited_on : Wanted → List RequestState → LabelsByPlace → LaneState → LaneState
visited_on wanted states labels l = visited (wanted_on wanted states labels l) l
