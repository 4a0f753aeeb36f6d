-- What is asked of handles: whether a request is awaited or has a hint, and the words of a message.
use Rattle.std.specs.Prelude.{◌≡◌, ℕ, Bool, true, false, ◌&&◌, if◌then◌else◌, ◌==◌, List, ◌++◌, Option, Some, None}
use Rattle.std.specs.List.{list_any}
use Rattle.std.specs.Option.{option_map_or}
use Rattle.iox_model.specs.declared.kind.Kind.{Kind}
use Rattle.iox_model.specs.declared.kind.Kind.TheVariants.{ActiveRequest, PendingResponse}
use Rattle.iox_model.specs.declared.kind.Kind.TheVariants as kinds
use Rattle.iox_model.specs.declared.kind.Role.{Role}
use Rattle.iox_model.specs.declared.kind.Role.TheVariants.{Client}
use Rattle.iox_model.specs.declared.call.Call.TheVariants.{HasHint, IsConnected, Read}
use Rattle.iox_model.specs.declared.reply.Refusal.TheVariants.{WantOfMemory}
use Rattle.iox_model.specs.declared.reply.Reply.TheVariants.{Answer, Refused, Words}
use Rattle.iox_model.specs.declared.way.RequestState.{RequestState}
use Rattle.iox_model.specs.declared.way.RequestState.TheVariants.{Closed}
use Rattle.iox_model.specs.declared.way.Way.{Way}
use Rattle.iox_model.specs.Handles.{has, same_kind}
use Rattle.iox_model.specs.Loans.{Choice}
use Rattle.iox_model.specs.Maps.{has_number}
use Rattle.iox_model.specs.Messages.{names, names_with_hint, response_way}
use Rattle.iox_model.specs.Names.{suits}
use Rattle.iox_model.specs.Settings.{is_client}
use Rattle.iox_model.specs.Values.{is_still, still_has}
use Rattle.iox_laws.specs.CallFunctions.Calls.{call_by}
use Rattle.iox_laws.specs.CallFunctions.Responses.{is_awaited}
use Rattle.iox_tables.specs.HubStates.Tables.{HandleState, HubTables, PortState, port_in}
use Rattle.iox_tables.specs.HubStates.Ways.{state_on}
use Rattle.iox_tables.specs.HubStates.States.{Given, fixed_of, state_shown}
use Rattle.iox_tables.specs.HubStates.Releases.{handle_shown, lane_of, pending_states, request_of}
use Rattle.iox_tables.specs.HubStates.Steps.{is_there}
use Rattle.iox_tables.specs.HubStates.Wirings.{IsHandle, handle_in, numbers_of_role}

-- ---- request states

-- the request state of a way
abbrev pub state_of : HubTables → Way → RequestState
state_of t w = option_map_or (λ r. r) (state_on t.ports w) Closed

-- it names that request, with a hint if that is asked
abbrev pub names_request : Bool → ℕ → RequestState → Bool
names_request hinted id r = if hinted then names_with_hint r id else names r id

-- the client of the handle's request is connected
abbrev pub has_client : HubTables → HandleState → Bool
has_client t h = has_number h.client (numbers_of_role Client t.ports)

-- the request state of an active request, or of a loaned response, names its request
abbrev pub is_named_by_client : HubTables → HandleState → Bool → Bool
is_named_by_client t h hinted =
    has_client t h
    && names_request hinted (request_of t h)
    (state_of t (response_way h.client (lane_of t h) h.port))

-- the request state of a pending response with some server names its request
abbrev pub is_named_by_server : HubTables → HandleState → Bool → Bool
is_named_by_server t h hinted =
    list_any (λ w. names_request hinted (request_of t h) (state_of t w)) (pending_states t h)

-- the request of a pending response, or of an active request, is still named
abbrev pub is_named : HubTables → HandleState → Bool → Bool
is_named t h hinted =
    if same_kind h.kind PendingResponse then is_named_by_server t h hinted
    else is_named_by_client t h hinted

-- A loaned response is awaited if its client still names the request.
abbrev pub AwaitedAreNamed : Type 0
AwaitedAreNamed =
    (x : Given) (t : HubTables) (h : HandleState)
    → is_awaited (state_shown x t) (handle_shown x t h) ≡ is_named_by_client t h false

-- A pending response, or an active request, is connected if its request is still named.
abbrev pub ConnectionsAreTold : Type 0
ConnectionsAreTold =
    (x : Given) (t : HubTables) (node n : ℕ) (h : HandleState) (c : Choice) (payload : List ℕ)
    → IsHandle t node n h → suits false (IsConnected n) h.kind ≡ true
    → is_there t.ports h.port ≡ true
    → call_by (state_shown x t) node (IsConnected n) c payload
    ≡ (Answer (is_named t h false), state_shown x t)

-- An active request has a hint if its client gave one.
abbrev pub HintsAreTold : Type 0
HintsAreTold =
    (x : Given) (t : HubTables) (node n : ℕ) (h : HandleState) (c : Choice) (payload : List ℕ)
    → IsHandle t node n h → h.kind ≡ ActiveRequest
    → call_by (state_shown x t) node (HasHint n) c payload
    ≡ (Answer (is_named_by_client t h true), state_shown x t)

-- ---- words

-- The words of a handle's message are read, where there is memory for them.
pub record WordsAreRead (x : Given) (t : HubTables) (node n : ℕ) (h : HandleState) : Type 0 where
  pub told :
      (c : Choice) (payload : List ℕ) → c.memory ≡ true
      → call_by (state_shown x t) node (Read n) c payload
      ≡ (Words (x.user h.pool h.slot ++ x.payload h.pool h.slot), state_shown x t)
  pub refused :
      (c : Choice) (payload : List ℕ) → c.memory ≡ false
      → call_by (state_shown x t) node (Read n) c payload
      ≡ (Refused WantOfMemory, state_shown x t)

-- It is so of each handle that may be read.
abbrev pub EachIsRead : Type 0
EachIsRead =
    (x : Given) (t : HubTables) (node n : ℕ) (h : HandleState) → IsHandle t node n h
    → suits false (Read n) h.kind ≡ true → WordsAreRead x t node n h

-- ---- values

-- the kind of a port of that role
abbrev pub kind_of_role : Role → Kind
kind_of_role role = if is_client role then kinds.Client else kinds.Server

-- the kind of the port or the handle, if it is the node's, and is not released
abbrev pub kind_by : ℕ → Option PortState → Option HandleState → Option Kind
kind_by node (Some p) o =
    if p.held && (p.node == node) then Some (kind_of_role p.role) else None
kind_by node None (Some h) = Some h.kind
kind_by node None None = None

-- the kind of the node's value of that number
abbrev pub kind_in : HubTables → ℕ → ℕ → Option Kind
kind_in t node n = kind_by node (port_in t.ports n) (handle_in t.handles node n)

-- The node has a value of that kind if the tables say so.
pub record ValuesAreThere (x : Given) (t : HubTables) (node n : ℕ) (kind : Kind) : Type 0 where
  pub has_it :
      has (fixed_of x t) node n kind
      ≡ option_map_or (λ k. same_kind k kind) (kind_in t node n) false
  pub still :
      still_has (fixed_of x t) node n kind
      ≡ option_map_or (is_still kind) (kind_in t node n) false

-- It is so of each number and kind.
abbrev pub EachValueIsThere : Type 0
EachValueIsThere =
    (x : Given) (t : HubTables) (node n : ℕ) (kind : Kind) → ValuesAreThere x t node n kind
