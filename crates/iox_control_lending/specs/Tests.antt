-- Which handles and slots are counted.
use Rattle.std.specs.Prelude.{ℕ, ◌*◌, Bool, ◌&&◌, ◌||◌, ◌==◌, nat_le}
use Rattle.iox_model.specs.declared.kind.Kind.{Kind}
use Rattle.iox_model.specs.declared.kind.Kind.TheVariants.{PendingResponse}
use Rattle.iox_model.specs.Handles.{is_request_loan, is_response_loan, same_kind}
use Rattle.iox_handles.specs.declared.entry.Entry.{Entry}
use Rattle.iox_lanes.specs.Searches.{LabelsByPlace}
use Rattle.iox_tables.specs.HubStates.Tables.{HubTables}
use Rattle.iox_tables.specs.HubLoans.Counts.{responses_on_loan, responses_to}

-- the handle is a response that the port has on loan, to that request of that client
abbrev pub is_responding : LabelsByPlace → ℕ → ℕ → ℕ → Entry → Bool
is_responding labels port client request e =
    (e.port == port)
    && (is_response_loan e.kind
    && ((e.client == client) && ((labels e.pool e.slot).request == request)))

-- the handle is a loaned request or a pending response of the port, on that lane
abbrev pub is_on_lane_of : LabelsByPlace → ℕ → ℕ → Entry → Bool
is_on_lane_of labels port lane e =
    (e.port == port)
    && ((is_request_loan e.kind || same_kind e.kind PendingResponse)
    && ((labels e.pool e.slot).lane == lane))

-- it is a loaned request or a pending response
abbrev pub is_of_request : Kind → Bool
is_of_request kind = is_request_loan kind || same_kind kind PendingResponse

-- the server, which may have so many loans to one request, has as many as it may: to that one, or in
-- all
abbrev pub has_all_responses : HubTables → ℕ → ℕ → ℕ → ℕ → Bool
has_all_responses t server most client request =
    nat_le most (responses_to t server client request)
    || nat_le (most * t.settings.active_requests * t.settings.clients)
    (responses_on_loan t server)
