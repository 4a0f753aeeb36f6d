-- No slot is held more often than each lane and each handle once.
use Rattle.std.specs.Prelude.{◌≡◌, ℕ, ◌+◌, ◌<◌, ◌≤◌, ◌^◌, Bool, true, false, if◌then◌else◌, ◌==◌, List, [], ◌∷◌, length}
use Rattle.std.proofs.Common.{arith}
use Rattle.iox_lanes.specs.Lanes.{LaneState}
use Rattle.iox_tables.specs.HubStates.Tables.{PortState, pipes_of}
use Rattle.iox_tables.specs.HubStates.Steps.{places_on}
use Rattle.iox_tables.specs.HubBooks.Changes.{HoldersCanBeCounted, UsesAreBounded}
use Rattle.iox_tables.specs.HubBooks.Counts.{OfAllLanes, how_many, how_often, in_pipe, in_port, lane_count, on_lanes}
use Rattle.iox_tables.specs.HubBooks.Hubs.{HasEachPlaceOnce}
use Rattle.iox_tables.proofs.HubBooks.Eachs.{OfPipe, OfPort, all_from}
use Rattle.iox_tables.proofs.HubBooks.Totals.{total_below}

-- sums over lanes, where each lane counts no more
pub lanes_below : (f g : LaneState → ℕ) (ports : List PortState) → OfAllLanes (λ l. f l ≤ g l) ports → on_lanes f ports ≤ on_lanes g ports
lanes_below f g ports a =
    total_below (in_port f) (in_port g) ports
    (all_from (OfPort (λ l. f l ≤ g l)) (λ p. in_port f p ≤ in_port g p)
    (λ p b. total_below (in_pipe f) (in_pipe g) (pipes_of p) (all_from (OfPipe (λ l. f l ≤ g l)) (λ q. in_pipe f q ≤ in_pipe g q) (λ q c. total_below f g q.lanes c) (pipes_of p) b)) ports a)

pub all_lanes_from : (P Q : LaneState → Type 0) → ((l : LaneState) → P l → Q l) → (ports : List PortState) → OfAllLanes P ports → OfAllLanes Q ports
all_lanes_from P Q from ports a =
    all_from (OfPort P) (OfPort Q) (λ p b. all_from (OfPipe P) (OfPipe Q) (λ q c. all_from P Q from q.lanes c) (pipes_of p) b) ports a

pub lane_once : (pool k : ℕ) (l : LaneState) → HasEachPlaceOnce l → lane_count pool k l ≤ 1
lane_once pool k l once = step (l.pool == pool) (once k)
  where
    step : (b : Bool) → how_often k (places_on l) ≤ 1 → (if b then how_often k (places_on l) else 0) ≤ 1
    step true h = h
    step false h = omega arith

pub many_below : {A : Type 0} (test : A → Bool) (xs : List A) → how_many test xs ≤ length xs
many_below test [] = omega arith
many_below test (x ∷ xs) = step (test x) (many_below test xs)
  where
    step : (b : Bool) → how_many test xs ≤ length xs → (if b then 1 else 0) + how_many test xs ≤ length (x ∷ xs)
    step true rest = omega (arith, rest)
    step false rest = omega (arith, rest)

pub uses_are_bounded : UsesAreBounded
uses_are_bounded t pool k order =
    both (lanes_below (lane_count pool k) (λ l. 1) t.ports (all_lanes_from HasEachPlaceOnce (λ l. lane_count pool k l ≤ 1) (lane_once pool k) t.ports order.once))
    (many_below _ t.handles)
  where
    both : {a b c d : ℕ} → a ≤ b → c ≤ d → c + a ≤ b + d
    both p q = omega (arith, p, q)

pub holders_can_be_counted : HoldersCanBeCounted
holders_can_be_counted t room pool k order fits =
    within _ _ _ room (order.counted pool k) (uses_are_bounded t pool k order) fits
  where
    within : (h u m room : ℕ) → h ≡ u → u ≤ m → m + room < 2 ^ 64 → h + room < 2 ^ 64
    within h u m room e b f = omega (arith, e, b, f)
