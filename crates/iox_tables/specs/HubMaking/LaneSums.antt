-- How sums over all lanes change as a port is made, and as one goes. What a lane counts may be how
-- often it has a message, how many more its receiver may have, or 1.
use Rattle.std.specs.Prelude.{◌≡◌, ℕ, ◌+◌, ◌*◌, if◌then◌else◌, ◌==◌, List, [], filter}
use Rattle.std.specs.List.{sum_by}
use Rattle.std.specs.Option.{option_map_or}
use Rattle.iox_model.specs.Maps.{AreDistinct}
use Rattle.iox_lanes.specs.Lanes.{LaneState, empty_lane}
use Rattle.iox_lanes.specs.Pipes.{PipeState}
use Rattle.iox_tables.specs.HubStates.Tables.{HubSettings, PortState, pipe_from, pipes_of, senders_of}
use Rattle.iox_tables.specs.HubStates.Wirings.{buffer_from, limit_from}
use Rattle.iox_tables.specs.HubBooks.Counts.{OfAll}
use Rattle.iox_tables.specs.HubMaking.Disconnections.{ports_without}
use Rattle.iox_tables.specs.HubMaking.Expirings.{gone_with}
use Rattle.iox_tables.specs.HubMaking.NewPorts.{is_other, pipe_between, ports_with, width_of}

-- the sum over the lanes of a pipe
abbrev pub sum_in_pipe : (LaneState → ℕ) → PipeState → ℕ
sum_in_pipe f q = sum_by f q.lanes

-- the sum over the lanes to a port
abbrev pub sum_in_port : (LaneState → ℕ) → PortState → ℕ
sum_in_port f p = sum_by (sum_in_pipe f) (pipes_of p)

-- the sum over all lanes
abbrev pub sum_on_lanes : (LaneState → ℕ) → List PortState → ℕ
sum_on_lanes f ports = sum_by (sum_in_port f) ports

-- ---- a port that is gone

-- what goes with the port of that number: all lanes to it, and of each other port those from it, or
-- those that are given up for them
abbrev pub sum_that_goes : (LaneState → ℕ) → ℕ → PortState → ℕ
sum_that_goes f n p =
    if p.number == n then sum_in_port f p
    else option_map_or (sum_in_pipe f) (gone_with p.expired (pipe_from p.incoming.pipes n)) 0

-- As a port goes, what is left and what goes is what there was, where no two pipes to a port come
-- from one.
abbrev pub GoneLanesCount : Type 0
GoneLanesCount =
    (f : LaneState → ℕ) (n : ℕ) (ports : List PortState)
    → OfAll (λ p. AreDistinct (senders_of p.incoming.pipes)) ports
    → sum_on_lanes f ports
    ≡ sum_on_lanes f (ports_without n ports) + sum_by (sum_that_goes f n) ports

-- ---- a new port

-- what comes between the new port and another
abbrev pub sum_that_comes : (LaneState → ℕ) → HubSettings → PortState → PortState → ℕ
sum_that_comes f settings new p =
    sum_in_pipe f (pipe_between settings new p) + sum_in_pipe f (pipe_between settings p new)

-- As a port is made, what there is then is what there was, and what comes between the new port and
-- each of the other role.
abbrev pub NewLanesCount : Type 0
NewLanesCount =
    (f : LaneState → ℕ) (settings : HubSettings) (ports : List PortState) (new : PortState)
    → new.expired.pipes ≡ []
    → sum_on_lanes f (ports_with settings ports new)
    ≡ sum_on_lanes f ports
    + sum_by (sum_that_comes f settings new) (filter (λ p. is_other p new) ports)

-- Each lane of a new pipe counts the same.
abbrev pub NewPipesCount : Type 0
NewPipesCount =
    (f : LaneState → ℕ) (settings : HubSettings) (from to : PortState)
    → sum_in_pipe f (pipe_between settings from to)
    ≡ width_of to
    * f (empty_lane from.pool (buffer_from settings from.role) (limit_from settings from.role))
