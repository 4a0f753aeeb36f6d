-- Room in the table of handles, and that holders can be counted.
use Rattle.std.specs.Prelude.{◌≡◌, ℕ, ◌+◌, ◌-◌, ◌<◌, ◌≤◌, ◌^◌, ◌&&◌, ◌==◌, List, length}
use Rattle.iox_model.specs.Handles.{is_own}
use Rattle.iox_lanes.specs.declared.incoming.Visits.{Visits}
use Rattle.iox_lanes.specs.declared.incoming.Visits.TheVariants.{Got, AtLimit, Nothing}
use Rattle.iox_lanes.specs.declared.wanted.Wanted.TheVariants.{Of}
use Rattle.iox_lanes.specs.Lanes.{LaneState}
use Rattle.iox_tables.specs.HubStates.Tables.{HandleState, HubTables, PortState, labels_of}
use Rattle.iox_tables.specs.HubStates.Receives.{visits_at, wanted_by_server, with_request, with_response}
use Rattle.iox_tables.specs.HubBooks.Counts.{how_many, on_lanes, total}

-- how many more messages of the lane its receiver may have
abbrev pub spare : LaneState → ℕ
spare l = l.limit - length l.taken

-- how many loans and pending responses the port has
abbrev pub own_count : List HandleState → PortState → ℕ
own_count hs p = how_many (λ h. is_own h.kind && (h.port == p.number)) hs

-- how many handles may still come with the ports that there are: of received messages, and of each
-- port's own
abbrev pub may_come : HubTables → ℕ
may_come t = on_lanes spare t.ports + total (λ p. p.size - own_count t.handles p) t.ports

-- there is room for them
abbrev pub HasRoomForAll : ℕ → HubTables → Type 0
HasRoomForAll room t = may_come t ≤ room

-- the most holders that a slot may have: each lane and each handle counts once
abbrev pub most_holders : HubTables → ℕ
most_holders t = on_lanes (λ l. 1) t.ports + length t.handles

-- With so many handles more, holders can still be counted.
abbrev pub CanCountHolders : ℕ → HubTables → Type 0
CanCountHolders room t = most_holders t + room < 2 ^ 64

-- ---- a receive

-- one handle, where a message is got
abbrev pub asked_for : Visits → ℕ
asked_for (Got sender pool k) = 1
asked_for AtLimit = 0
asked_for Nothing = 0

-- A server's receive takes the room of the handle that it makes, and no more may come than before.
abbrev pub RequestsTakeTheirRoom : Type 0
RequestsTakeTheirRoom =
    (t : HubTables) (node n : ℕ)
    → may_come (with_request t node n)
    + asked_for (visits_at t n 0 (wanted_by_server t.settings.fire_and_forget))
    ≡ may_come t

-- So does the receive of a pending response.
abbrev pub ResponsesTakeTheirRoom : Type 0
ResponsesTakeTheirRoom =
    (t : HubTables) (node : ℕ) (h : HandleState)
    → may_come (with_response t node h)
    + asked_for (visits_at t h.port (labels_of t.pools h.pool h.slot).lane
    (Of (labels_of t.pools h.pool h.slot).request))
    ≡ may_come t
