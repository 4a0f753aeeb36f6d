-- What the release of each kind of handle leaves, before its port may go.
use Rattle.iox_model.specs.declared.kind.Kind.{Kind}
use Rattle.iox_model.specs.declared.kind.Kind.TheVariants as kinds
use Rattle.std.specs.Prelude.{ℕ, [], ◌∷◌, map}
use Rattle.iox_lanes.specs.declared.wanted.Label.{Label}
use Rattle.iox_lanes.specs.Lanes.{released}
use Rattle.iox_model.specs.declared.kind.Role.TheVariants.{Server}
use Rattle.iox_model.specs.Messages.{closed_for, request_way, response_way}
use Rattle.iox_tables.specs.HubStates.Tables.{HandleState, HubTables}
use Rattle.iox_tables.specs.HubStates.Changes.{with_lanes, with_states}
use Rattle.iox_tables.specs.HubStates.Ends.{with_dropped}
use Rattle.iox_tables.specs.HubStates.Releases.{pending_states, request_of, with_given_back, with_request_closed, way_to_client}
use Rattle.iox_tables.specs.HubStates.Wirings.{numbers_of_role}
use Rattle.iox_tables.specs.HubBooks.Handles.{way_in}

-- as a handle of that kind is given up, a received message is given back, and a request is closed
-- whose pending response or active request it was
abbrev pub given_up_as : Kind → HubTables → HandleState → HubTables
given_up_as kinds.PendingResponse t h =
    with_states (λ r. closed_for r (request_of t h)) t (pending_states t h)
given_up_as kinds.ActiveRequest t h = with_request_closed t (way_in t.pools h) (way_to_client t h) h
given_up_as kinds.Response t h = with_given_back t (way_in t.pools h) h
given_up_as kinds.Client t h = t
given_up_as kinds.Server t h = t
given_up_as kinds.RequestMutUninit t h = t
given_up_as kinds.RequestMut t h = t
given_up_as kinds.ResponseMutUninit t h = t
given_up_as kinds.ResponseMut t h = t

-- the same, where the message has that label and is of that port's pool
abbrev pub given_up_with : Kind → HubTables → HandleState → Label → ℕ → HubTables
given_up_with kinds.PendingResponse t h l owner =
    with_states (λ r. closed_for r l.request) t
    (map (response_way h.port l.lane) (numbers_of_role Server t.ports))
given_up_with kinds.ActiveRequest t h l owner =
    with_states (λ r. closed_for r l.request)
    (with_lanes (λ m. released m h.slot) t (request_way h.client h.port ∷ []))
    (response_way h.client l.lane h.port ∷ [])
given_up_with kinds.Response t h l owner =
    with_lanes (λ m. released m h.slot) t (response_way h.port l.lane owner ∷ [])
given_up_with kinds.Client t h l owner = t
given_up_with kinds.Server t h l owner = t
given_up_with kinds.RequestMutUninit t h l owner = t
given_up_with kinds.RequestMut t h l owner = t
given_up_with kinds.ResponseMutUninit t h l owner = t
given_up_with kinds.ResponseMut t h l owner = t

-- and the node has the handle no more
abbrev pub with_ended : HubTables → HandleState → HubTables
with_ended t h = with_dropped (given_up_as h.kind t h) h.node h.number
