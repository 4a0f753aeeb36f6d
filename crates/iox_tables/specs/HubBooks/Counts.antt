-- How many lanes and handles have the message in a slot.
use Rattle.std.specs.Prelude.{ℕ, ◌+◌, Bool, ◌&&◌, if◌then◌else◌, ◌==◌, List, [], ◌∷◌, ⊤}
use Rattle.iox_lanes.specs.Lanes.{LaneState}
use Rattle.iox_lanes.specs.Pipes.{PipeState}
use Rattle.iox_tables.specs.HubStates.Tables.{HandleState, HubTables, PortState, pipes_of}
use Rattle.iox_tables.specs.HubStates.Steps.{places_on}

-- ---- lists

-- the sum of what each in the list counts
abbrev pub total : {A : Type 0} → (A → ℕ) → List A → ℕ
total f [] = 0
total f (x ∷ xs) = f x + total f xs

-- how many in the list pass
abbrev pub how_many : {A : Type 0} → (A → Bool) → List A → ℕ
how_many test xs = total (λ x. if test x then 1 else 0) xs

-- how often the number stands in the list
abbrev pub how_often : ℕ → List ℕ → ℕ
how_often k ks = how_many (λ n. n == k) ks

-- it is so of each in the list
abbrev pub OfAll : {A : Type 0} → (A → Type 0) → List A → Type 0
OfAll P [] = ⊤
OfAll P (x ∷ xs) = P x × OfAll P xs

-- ---- all lanes of a hub

-- what the lanes of a pipe count
abbrev pub in_pipe : (LaneState → ℕ) → PipeState → ℕ
in_pipe f p = total f p.lanes

-- what the lanes to a port count
abbrev pub in_port : (LaneState → ℕ) → PortState → ℕ
in_port f p = total (in_pipe f) (pipes_of p)

-- what all lanes count
abbrev pub on_lanes : (LaneState → ℕ) → List PortState → ℕ
on_lanes f ports = total (in_port f) ports

-- it is so of each lane
abbrev pub OfAllLanes : (LaneState → Type 0) → List PortState → Type 0
OfAllLanes P ports = OfAll (λ p. OfAll (λ q. OfAll P q.lanes) (pipes_of p)) ports

-- ---- who has a slot

-- how often the lane has the message in that slot of that pool
abbrev pub lane_count : ℕ → ℕ → LaneState → ℕ
lane_count pool k l = if l.pool == pool then how_often k (places_on l) else 0

-- how often all lanes have it
abbrev pub lane_uses : List PortState → ℕ → ℕ → ℕ
lane_uses ports pool k = on_lanes (lane_count pool k) ports

-- the handle has the message in that slot of that pool
abbrev pub is_at : ℕ → ℕ → HandleState → Bool
is_at pool k h = (h.pool == pool) && (h.slot == k)

-- how many handles have it
abbrev pub handle_uses : List HandleState → ℕ → ℕ → ℕ
handle_uses hs pool k = how_many (is_at pool k) hs

-- How often lanes and handles have it. A message that was received counts twice: for its lane, and
-- for its handle.
abbrev pub uses : HubTables → ℕ → ℕ → ℕ
uses t pool k = handle_uses t.handles pool k + lane_uses t.ports pool k
