-- What a receive does to the tables of a hub.
use Rattle.std.specs.Prelude.{◌≡◌, ℕ, ◌+◌, ◌<◌, ◌^◌, Bool, true, false, if◌then◌else◌, List, [], ◌∷◌, ◌++◌, map}
use Rattle.iox_model.specs.declared.kind.Kind.TheVariants.{ActiveRequest, Response}
use Rattle.iox_model.specs.declared.kind.Role.{Role}
use Rattle.iox_model.specs.declared.kind.Role.TheVariants.{Client, Server}
use Rattle.iox_model.specs.Settings.{is_client}
use Rattle.iox_model.specs.declared.way.Way.{Way}
use Rattle.iox_model.specs.declared.reply.Refusal.TheVariants.{ExceedsMaxBorrows}
use Rattle.iox_model.specs.declared.reply.Reply.TheVariants as replies
use Rattle.iox_model.specs.Commands.{Reply}
use Rattle.iox_model.specs.Doings.{Receiver, Outcome, Tells, Receives}
use Rattle.iox_laws.specs.CallFunctions.Searches.{received}
use Rattle.iox_lanes.specs.declared.wanted.Label.{Label}
use Rattle.iox_lanes.specs.declared.wanted.Wanted.{Wanted}
use Rattle.iox_lanes.specs.declared.wanted.Wanted.TheVariants.{Any, Named, Of}
use Rattle.iox_lanes.specs.declared.incoming.Visits.{Visits}
use Rattle.iox_lanes.specs.declared.incoming.Visits.TheVariants.{Got, AtLimit, Nothing}
use Rattle.iox_lanes.specs.Incomings.{all_visited_of}
use Rattle.iox_lanes.specs.Pipes.{PipeState}
use Rattle.iox_lanes.specs.Searches.{LabelsByPlace}
use Rattle.iox_lanes.specs.Visited.{all_visited, all_visits}
use Rattle.iox_tables.specs.HubStates.Tables.{HandleState, HubTables, PortState, labels_of, owner_of, pipes_of, pipes_to}
use Rattle.iox_tables.specs.HubStates.Ways.{with_port}
use Rattle.iox_tables.specs.HubStates.Shown.{MessagesByPlace}
use Rattle.iox_tables.specs.HubStates.States.{Given, state_shown}
use Rattle.iox_tables.specs.HubStates.Wirings.{HaveLimits, IsPending, IsServer, IsWired}

-- ---- visits

-- the way from a sender to the receiver
abbrev pub way_to : Receiver → ℕ → Way
way_to r sender = record { sender = sender; receiver = r.port; lane = r.lane }

-- the ways from all senders
abbrev pub ways_to : Receiver → List PipeState → List Way
ways_to r ps = map (λ p. way_to r p.sender) ps

-- what visits came to, in the machine's words
abbrev pub outcome_of : MessagesByPlace → Receiver → Visits → Outcome
outcome_of message r (Got sender pool k) = Receives r (way_to r sender) (message pool k)
outcome_of message r AtLimit = Tells (replies.Refused ExceedsMaxBorrows)
outcome_of message r Nothing = Tells replies.Nothing

-- a message was got
abbrev pub has_got : Visits → Bool
has_got (Got sender pool k) = true
has_got AtLimit = false
has_got Nothing = false

-- what visits to some pipes and then to others come to, where the second are made only if the first
-- gave no message
abbrev pub both_visits : Visits → Visits → Visits
both_visits (Got sender pool k) second = Got sender pool k
both_visits Nothing second = second
both_visits AtLimit Nothing = AtLimit
both_visits AtLimit second = second

-- the port after visits to the lane of that number: first of the pipes from ports that are gone
abbrev pub visited_port : Wanted → LabelsByPlace → ℕ → PortState → PortState
visited_port wanted labels lane p =
    record p {
      expired = all_visited_of wanted labels lane p.expired;
      incoming =
          if has_got (all_visits wanted labels lane p.expired.pipes) then p.incoming
          else all_visited_of wanted labels lane p.incoming;
    }

-- ---- the whole call

-- the handle of a message that a port of that role got: an active request, or a response
abbrev pub got_handle : HubTables → ℕ → Role → ℕ → ℕ → ℕ → HandleState
got_handle t node role port pool k = record {
  node = node;
  number = t.next_number;
  kind = if is_client role then Response else ActiveRequest;
  port = port;
  pool = pool;
  slot = k;
  client = if is_client role then port else owner_of t.pools pool;
  connections = 0;
}

-- what is left to do once the visits are made: a message that was got has a new handle
abbrev pub with_got : HubTables → ℕ → Role → ℕ → Visits → HubTables
with_got t node role port (Got sender pool k) = record t {
  handles = t.handles ++ got_handle t node role port pool k ∷ [];
  next_number = t.next_number + 1;
  calls = t.calls + 1;
}
with_got t node role port AtLimit = t
with_got t node role port Nothing = record t { calls = t.calls + 1 }

-- what is answered
abbrev pub got_reply : HubTables → Visits → Reply
got_reply t (Got sender pool k) = replies.Handle t.next_number
got_reply t AtLimit = replies.Refused ExceedsMaxBorrows
got_reply t Nothing = replies.Nothing

-- what the visits of the port of that number come to
abbrev pub visits_at : HubTables → ℕ → ℕ → Wanted → Visits
visits_at t n lane wanted = all_visits wanted (labels_of t.pools) lane (pipes_to t.ports n)

-- the tables after them
abbrev pub with_visited : HubTables → ℕ → ℕ → Wanted → HubTables
with_visited t n lane wanted =
    record t { ports = with_port (visited_port wanted (labels_of t.pools) lane) t.ports n }

-- what a server is handed: under fire-and-forget any request, else those that are still named
abbrev pub wanted_by_server : Bool → Wanted
wanted_by_server fire_and_forget = if fire_and_forget then Any else Named

-- the reply to a server's receive
abbrev pub request_reply : HubTables → ℕ → Reply
request_reply t n =
    got_reply t (visits_at t n 0 (wanted_by_server t.settings.fire_and_forget))

-- the tables after it
abbrev pub with_request : HubTables → ℕ → ℕ → HubTables
with_request t node n =
    let wanted : Wanted = wanted_by_server t.settings.fire_and_forget in
    with_got (with_visited t n 0 wanted) node Server n (visits_at t n 0 wanted)

-- The receive of a server is the machine's: the same reply, and the state that the tables then
-- show.
abbrev pub ServersReceive : Type 0
ServersReceive =
    (x : Given) (t : HubTables) (node n : ℕ) → (server : IsServer t node n)
    → IsWired t server.port → HaveLimits t → t.calls < 2 ^ 56
    → received (state_shown x t) node n
    ≡ (request_reply t n, state_shown x (with_request t node n))

-- the reply to the receive of a pending response, of that client, lane and request
abbrev pub response_reply : HubTables → HandleState → Reply
response_reply t h =
    let label : Label = labels_of t.pools h.pool h.slot in
    got_reply t (visits_at t h.port label.lane (Of label.request))

-- the tables after it
abbrev pub with_response : HubTables → ℕ → HandleState → HubTables
with_response t node h =
    let label : Label = labels_of t.pools h.pool h.slot in
    with_got (with_visited t h.port label.lane (Of label.request)) node Client h.port
    (visits_at t h.port label.lane (Of label.request))

-- The receive of a pending response is the machine's.
abbrev pub ResponsesAreReceived : Type 0
ResponsesAreReceived =
    (x : Given) (t : HubTables) (node n : ℕ) → (pending : IsPending t node n)
    → IsWired t pending.port → HaveLimits t → t.calls < 2 ^ 56
    → received (state_shown x t) node n
    ≡ (response_reply t pending.handle, state_shown x (with_response t node pending.handle))

-- What visits to all pipes of a port come to, and leave, is what visits to those from ports that
-- are gone, and then to the others, come to and leave.
abbrev pub VisitsAreOfBoth : Type 0
VisitsAreOfBoth =
    (wanted : Wanted) (labels : LabelsByPlace) (lane : ℕ) (p : PortState)
    → (all_visits wanted labels lane (pipes_of p)
    ≡ both_visits (all_visits wanted labels lane p.expired.pipes)
    (all_visits wanted labels lane p.incoming.pipes))
    × (pipes_of (visited_port wanted labels lane p) ≡ all_visited wanted labels lane (pipes_of p))
