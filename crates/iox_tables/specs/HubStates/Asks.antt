-- Whether something waits, and loans, up to their end.
use Rattle.std.specs.Prelude.{◌≡◌, ℕ, Bool, true, ◌||◌, if◌then◌else◌, List, []}
use Rattle.iox_model.specs.declared.reply.Refusal.TheVariants.{OutOfMemory}
use Rattle.iox_model.specs.declared.reply.Reply.TheVariants.{Answer}
use Rattle.iox_model.specs.Doings.{Loans}
use Rattle.iox_model.specs.Ends.{settled}
use Rattle.iox_model.specs.Counts.{holding}
use Rattle.iox_model.specs.Loans.{lending_ways}
use Rattle.iox_model.specs.Outstandings.{is_dry, kept}
use Rattle.iox_model.specs.States as m
use Rattle.iox_laws.specs.CallFunctions.Answers.{refusing}
use Rattle.iox_laws.specs.CallFunctions.Loans.{handed_out, lent}
use Rattle.iox_laws.specs.CallFunctions.Looks.{has_requests_by, has_response_by}
use Rattle.iox_lanes.specs.Incomings.{has_waiting_from_any}
use Rattle.iox_tables.specs.HubStates.Tables.{HandleState, HubTables, PortState}
use Rattle.iox_tables.specs.HubStates.Ways.{lane_on}
use Rattle.iox_tables.specs.HubStates.States.{Given, fixed_of, handle_of, message_of, state_shown}
use Rattle.iox_tables.specs.HubStates.Changes.{emptied_lane, with_lanes, HasEachOnce, OfEachLane}
use Rattle.iox_tables.specs.HubStates.Ends.{with_added, with_call, with_loan}
use Rattle.iox_tables.specs.HubStates.Releases.{lane_of}
use Rattle.iox_tables.specs.HubStates.Steps.{is_there}
use Rattle.iox_tables.specs.HubStates.Wirings.{IsPending, IsServer, IsWired}

-- ---- questions

-- something waits for the port on the lane of that number
abbrev pub waits_for : PortState → ℕ → Bool
waits_for p lane = has_waiting_from_any p.expired lane || has_waiting_from_any p.incoming lane

-- A server is told whether a request waits.
abbrev pub ServersAreTold : Type 0
ServersAreTold =
    (x : Given) (t : HubTables) (node n : ℕ) → (server : IsServer t node n)
    → IsWired t server.port
    → has_requests_by (state_shown x t) node n
    ≡ (Answer (waits_for server.port 0), state_shown x t)

-- A pending response is told whether a response waits on its lane.
abbrev pub PendingsAreTold : Type 0
PendingsAreTold =
    (x : Given) (t : HubTables) (node n : ℕ) → (pending : IsPending t node n)
    → IsWired t pending.port
    → has_response_by (state_shown x t) node n
    ≡ (Answer (waits_for pending.port (lane_of t pending.handle)), state_shown x t)

-- ---- loans

-- the tables once a port that lends got back all that it can
abbrev pub with_all_back : Given → HubTables → m.Handle → HubTables
with_all_back x t h = with_lanes emptied_lane t (lending_ways (fixed_of x t) h)

-- A port that lends gets all back first; then the pool refuses exactly if it is dry.
abbrev pub LendingIsShown : Type 0
LendingIsShown =
    (x : Given) (t : HubTables) (h : m.Handle)
    → OfEachLane (HasEachOnce (message_of x t.pools)) (lane_on t.ports)
    → lent handed_out (state_shown x t) h
    ≡ (if is_dry (fixed_of x t) h.port (kept (state_shown x (with_all_back x t h)) h.port [])
    then refusing OutOfMemory (state_shown x (with_all_back x t h))
    else (Loans h, state_shown x (with_all_back x t h)))

-- A loan that is handed out has a handle, and it is counted. Its slot has to hold the loan's
-- message already.
abbrev pub LoansAreHandedOut : Type 0
LoansAreHandedOut =
    (x : Given) (t : HubTables) (loan : m.Handle) (payload : List ℕ) (h : HandleState)
    → handle_of x (message_of x t.pools) h ≡ holding loan payload
    → is_there t.ports h.port ≡ true
    → settled (state_shown x t) h.node payload (Loans loan)
    ≡ state_shown x (with_call (with_loan (with_added t h) h.port))
