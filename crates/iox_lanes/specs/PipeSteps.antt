-- What steps on a whole pipe do.
use Rattle.std.specs.Prelude.{ℕ, Bool, false, if◌then◌else◌, Option, None}
use Rattle.iox_lanes.specs.Lanes.{LaneState, is_full, is_taken, offered, oldest, released, without_oldest}
use Rattle.iox_lanes.specs.Pipes.{PipeState, closed, on_lane, opened, with_lane}

-- ---- a push

-- the message that is pushed out of a full lane
unfoldable pub pushed_out : LaneState → Option ℕ
pushed_out l = if is_full l then oldest l else None

-- the message is last in line, where there is room once the oldest is out of a full lane
unfoldable pub pushed : LaneState → ℕ → LaneState
pushed l k = offered (if is_full l then without_oldest l else l) k

-- ---- two steps in one

-- the receiver gave the message on lane 0 back, if it had it, and the request is closed whose
-- responses go on that lane, if it was open
abbrev pub given_back_and_closed : PipeState → ℕ → ℕ → ℕ → PipeState
given_back_and_closed p k lane id = closed (with_lane (λ l. released l k) p 0) lane id

-- whether it had the message
abbrev pub has_on_first : PipeState → ℕ → Bool
has_on_first p k = on_lane (λ l. is_taken l k) false p 0

-- the request is open, its responses go on that lane, and its message is last in line on lane 0
abbrev pub opened_and_pushed : PipeState → ℕ → ℕ → ℕ → PipeState
opened_and_pushed p k lane id = with_lane (λ l. pushed l k) (opened p lane id) 0

-- the message that is pushed out for it
abbrev pub pushed_out_of_first : PipeState → Option ℕ
pushed_out_of_first p = on_lane pushed_out None p 0
