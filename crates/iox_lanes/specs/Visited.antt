-- Visits to the lanes of one number from each sender, in their order.
use Rattle.std.specs.Prelude.{ℕ, Bool, true, false, if◌then◌else◌, List, [], ◌∷◌}
use Rattle.iox_lanes.specs.declared.wanted.Wanted.{Wanted}
use Rattle.iox_lanes.specs.declared.search.LaneVisit as one
use Rattle.iox_lanes.specs.declared.search.LaneVisit.{LaneVisit}
use Rattle.iox_lanes.specs.declared.incoming.Visits.{Visits}
use Rattle.iox_lanes.specs.declared.incoming.Visits.TheVariants.{Got, AtLimit, Nothing}
use Rattle.iox_lanes.specs.Pipes.{PipeState, on_lane, with_lane}
use Rattle.iox_lanes.specs.Searches.{LabelsByPlace, visit_on, visited_on}

-- ---- one pipe

-- what a visit to that lane comes to
abbrev pub pipe_visit : Wanted → LabelsByPlace → ℕ → PipeState → LaneVisit
pipe_visit wanted labels lane p =
    on_lane (λ l. visit_on wanted p.states labels l) one.TheVariants.Nothing p lane

-- the pipe after it
abbrev pub pipe_visited : Wanted → LabelsByPlace → ℕ → PipeState → PipeState
pipe_visited wanted labels lane p =
    with_lane (λ l. visited_on wanted p.states labels l) p lane

-- the pool of that lane
abbrev pub pool_on : PipeState → ℕ → ℕ
pool_on p lane = on_lane (λ l. l.pool) 0 p lane

-- ---- all pipes, in their order

-- a message was got
abbrev pub is_got : LaneVisit → Bool
is_got (one.TheVariants.Got k) = true
is_got one.TheVariants.AtLimit = false
is_got one.TheVariants.Nothing = false

-- The first message that is got decides. Where none is, a lane at its limit on which something
-- waits does.
abbrev pub after_visit : LaneVisit → PipeState → ℕ → Visits → Visits → Visits
after_visit (one.TheVariants.Got k) p lane waits passed =
    Got p.sender (pool_on p lane) k
after_visit one.TheVariants.AtLimit p lane waits passed = waits
after_visit one.TheVariants.Nothing p lane waits passed = passed

-- what the visits come to
abbrev pub visits_from : Wanted → LabelsByPlace → ℕ → List PipeState → Bool → Visits
visits_from wanted labels lane [] waits = if waits then AtLimit else Nothing
visits_from wanted labels lane (p ∷ ps) waits =
    after_visit (pipe_visit wanted labels lane p) p lane (visits_from wanted labels lane ps true)
    (visits_from wanted labels lane ps waits)

-- what the visits to all come to
abbrev pub all_visits : Wanted → LabelsByPlace → ℕ → List PipeState → Visits
all_visits wanted labels lane ps = visits_from wanted labels lane ps false

-- the pipes after the visits: those behind the one that gave a message are not visited
abbrev pub all_visited : Wanted → LabelsByPlace → ℕ → List PipeState → List PipeState
all_visited wanted labels lane [] = []
all_visited wanted labels lane (p ∷ ps) =
    pipe_visited wanted labels lane p
    ∷ (if is_got (pipe_visit wanted labels lane p) then ps else all_visited wanted labels lane ps)
