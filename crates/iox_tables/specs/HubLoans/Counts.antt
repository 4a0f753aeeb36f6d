-- How many handles of a port there are, and which lanes its requests have.
use Rattle.std.specs.Prelude.{◌≡◌, ℕ, Bool, not, ◌&&◌, ◌||◌, ◌==◌, nat_le, nat_lt, length, filter, Some}
use Rattle.std.specs.List.{list_all, list_any, range_with_len}
use Rattle.iox_model.specs.declared.kind.Kind.{Kind}
use Rattle.iox_model.specs.declared.kind.Kind.TheVariants.{PendingResponse}
use Rattle.iox_model.specs.Begins.{is_open_lane}
use Rattle.iox_model.specs.Handles.{count_of, has_lane, is_request_loan, is_response_loan, same_kind}
use Rattle.iox_model.specs.Loans.{loans_of_request}
use Rattle.iox_model.specs.Requests.{is_active_spent}
use Rattle.iox_tables.specs.HubStates.Tables.{HandleState, HubTables, PortState, port_in}
use Rattle.iox_tables.specs.HubStates.States.{Given, fixed_of, port_of}
use Rattle.iox_tables.specs.HubStates.Ends.{OfEachHandle}
use Rattle.iox_tables.specs.HubStates.Releases.{handle_shown, lane_of, request_of}

-- the handle's port is connected, and the handle is of that port's node
pub record IsOnNode (t : HubTables) (h : HandleState) : Type 0 where
  pub port : PortState
  pub there : port_in t.ports h.port ≡ Some port
  pub node : h.node ≡ port.node

-- it is so of each handle
abbrev pub AreOnNodes : HubTables → Type 0
AreOnNodes t = OfEachHandle (IsOnNode t) t.handles

-- ---- counts

-- how many handles of the port pass
abbrev pub count_in : HubTables → ℕ → (HandleState → Bool) → ℕ
count_in t n test = length (filter (λ h. (h.port == n) && test h) t.handles)

-- how many requests the client has on loan
abbrev pub requests_on_loan : HubTables → ℕ → ℕ
requests_on_loan t n = count_in t n (λ h. is_request_loan h.kind)

-- how many responses the server has on loan
abbrev pub responses_on_loan : HubTables → ℕ → ℕ
responses_on_loan t n = count_in t n (λ h. is_response_loan h.kind)

-- the handle is a loaned response to that request of that client
abbrev pub responds_to : HubTables → ℕ → ℕ → HandleState → Bool
responds_to t client request h =
    is_response_loan h.kind && ((h.client == client) && (request_of t h == request))

-- how many responses to that request the server has on loan
abbrev pub responses_to : HubTables → ℕ → ℕ → ℕ → ℕ
responses_to t n client request = count_in t n (responds_to t client request)

-- how many pending responses the client has
abbrev pub pendings_of : HubTables → ℕ → ℕ
pendings_of t n = count_in t n (λ h. same_kind h.kind PendingResponse)

-- the client has as many pending responses as it may
abbrev pub has_all_active : HubTables → ℕ → Bool
has_all_active t n = nat_le t.settings.active_requests (pendings_of t n)

-- ---- lanes

-- the handle is a loaned request or a pending response, on that lane
abbrev pub is_on_lane : HubTables → ℕ → HandleState → Bool
is_on_lane t lane h =
    (is_request_loan h.kind || same_kind h.kind PendingResponse) && (lane_of t h == lane)

-- a loaned request or a pending response of the client has the lane
abbrev pub is_lane_taken : HubTables → ℕ → ℕ → Bool
is_lane_taken t n lane = list_any (λ h. (h.port == n) && is_on_lane t lane h) t.handles

-- a request of the client may be loaned on the lane: nobody has it, and it is one of the client's,
-- unless each of those is taken
abbrev pub is_lane_free : HubTables → PortState → ℕ → Bool
is_lane_free t p lane =
    not (is_lane_taken t p.number lane)
    && (nat_lt lane p.size || list_all (is_lane_taken t p.number) (range_with_len 0 p.size))

-- ---- laws

-- The machine counts the same.
pub record CountsAreTheSame (x : Given) (t : HubTables) : Type 0 where
  pub kinds :
      (n : ℕ) (test : Kind → Bool)
      → count_of (fixed_of x t) n test ≡ count_in t n (λ h. test h.kind)
  pub responses :
      (h : HandleState)
      → loans_of_request (fixed_of x t) (handle_shown x t h)
      ≡ responses_to t h.port h.client (request_of t h)
  pub active :
      (h : HandleState)
      → is_active_spent (fixed_of x t) (handle_shown x t h) ≡ has_all_active t h.port
  pub taken : (n lane : ℕ) → has_lane (fixed_of x t) n lane ≡ is_lane_taken t n lane
  pub free :
      (p : PortState) (lane : ℕ)
      → is_open_lane (fixed_of x t) (port_of x p) lane ≡ is_lane_free t p lane

-- It does so wherever each handle is of its port's node.
abbrev pub EachCountIsTheSame : Type 0
EachCountIsTheSame = (x : Given) (t : HubTables) → AreOnNodes t → CountsAreTheSame x t
