-- What is a call of the machine as a function is a whole call of it, over the state that tables show.
use Rattle.std.specs.Prelude.{◌≡◌, ℕ, Bool, false, ◌<◌, ◌≤◌, ◌^◌, nat_lt, List, Option, Some, None, refl}
use Rattle.std.proofs.Common.{sym, ap, subst, ◌∙◌, arith}
use Rattle.iox_model.specs.declared.call.Call.TheVariants.{HasRequests, HasResponse, Receive}
use Rattle.iox_model.specs.declared.reply.Reply.TheVariants.{Answer}
use Rattle.std.specs.Option.{option_map_or}
use Rattle.iox_laws.proofs.CallFunctions.Looking.{each_seek_is_whole}
use Rattle.iox_hub_ports.specs.HubStates.Asks.{waits_for}
use Rattle.iox_hub_ports.specs.HubStates.Releases.{lane_of}
use Rattle.iox_hub_ports.proofs.HubStates.Asking.{pendings_are_told, servers_are_told}
use Rattle.iox_model.specs.Commands.{Call, Reply}
use Rattle.iox_model.specs.WholeCalls.{IsWholeCall}
use Rattle.iox_model.specs.States as m
use Rattle.iox_laws.proofs.CallFunctions.Received.{each_receive_is_whole}
use Rattle.iox_hub_ports.specs.HubStates.Tables.{HubTables, PoolState, port_in}
use Rattle.iox_hub_ports.specs.HubStates.States.{Given, state_shown}
use Rattle.iox_hub_ports.specs.HubStates.Wirings.{HaveLimits, IsPending, IsServer, IsWired}
use Rattle.iox_hub_ports.specs.HubStates.Receives.{request_reply, response_reply, with_request, with_response}
use Rattle.iox_hub_ports.specs.HubStates.Ends.{DifferInHolders}
use Rattle.iox_hub_ports.proofs.HubStates.Serving.{responses_are_received, servers_receive}
use Rattle.iox_hub_ports.proofs.HubStates.Holding.{holders_are_not_shown}
use Rattle.iox_model.specs.Handles.{Subject, TheHandle, ThePort}

-- a whole call, by what its function answers and leaves
pub is_whole_of : (s : m.State) (node : ℕ) (call : Call) (r : Reply × m.State) (reply : Reply) (s' : m.State)
    → IsWholeCall s node call r.0 r.1 → r ≡ (reply, s') → IsWholeCall s node call reply s'
is_whole_of s node call r reply s' whole is = subst (λ (q : Reply × m.State). IsWholeCall s node call q.0 q.1) is whole

-- the handle of a subject
abbrev pub handle_or : m.Handle → Option Subject → m.Handle
handle_or d (Some (TheHandle k)) = k
handle_or d (Some (ThePort p)) = d
handle_or d None = d

-- a lane with no more than its buffer is not over it
pub not_over : (buffer k : ℕ) → k ≤ buffer → nat_lt buffer k ≡ false
not_over buffer k e = grind (arith)

-- the tables with other pools show the same, where only holders differ
pub shows_same : (x : Given) (t : HubTables) (pools : List (Option PoolState)) → DifferInHolders t.pools pools
    → state_shown x t ≡ state_shown x (record t { pools = pools })
shows_same x t pools d = holders_are_not_shown x t pools d

-- a server's receive
pub request_received : (x : Given) (t : HubTables) (node n : ℕ) (pools : List (Option PoolState)) (server : IsServer t node n)
    → IsWired t server.port → HaveLimits t → t.calls < 2 ^ 56
    → DifferInHolders (with_request t node n).pools pools
    → IsWholeCall (state_shown x t) node (Receive n) (request_reply t n) (state_shown x (record (with_request t node n) { pools = pools }))
request_received x t node n pools server wired limits few d =
    is_whole_of (state_shown x t) node (Receive n) _ (request_reply t n) (state_shown x (record (with_request t node n) { pools = pools }))
    (each_receive_is_whole (state_shown x t) node n refl)
    (servers_receive x t node n server wired limits few
    ∙ ap (λ s. (request_reply t n, s)) (shows_same x (with_request t node n) pools d))

-- a pending response's receive
pub response_received : (x : Given) (t : HubTables) (node n : ℕ) (pools : List (Option PoolState)) (pending : IsPending t node n)
    → IsWired t pending.port → HaveLimits t → t.calls < 2 ^ 56
    → DifferInHolders (with_response t node pending.handle).pools pools
    → IsWholeCall (state_shown x t) node (Receive n) (response_reply t pending.handle) (state_shown x (record (with_response t node pending.handle) { pools = pools }))
response_received x t node n pools pending wired limits few d =
    is_whole_of (state_shown x t) node (Receive n) _ (response_reply t pending.handle)
    (state_shown x (record (with_response t node pending.handle) { pools = pools }))
    (each_receive_is_whole (state_shown x t) node n refl)
    (responses_are_received x t node n pending wired limits few
    ∙ ap (λ s. (response_reply t pending.handle, s)) (shows_same x (with_response t node pending.handle) pools d))

-- whether something waits for a server
pub requests_told : (x : Given) (t : HubTables) (node n : ℕ) (told : Bool) (server : IsServer t node n) → IsWired t server.port
    → told ≡ option_map_or (λ p. waits_for p 0) (port_in t.ports n) false
    → IsWholeCall (state_shown x t) node (HasRequests n) (Answer told) (state_shown x t)
requests_told x t node n told server wired is =
    is_whole_of (state_shown x t) node (HasRequests n) _ (Answer told) (state_shown x t)
    (each_seek_is_whole (state_shown x t) node n).0
    (servers_are_told x t node n server wired
    ∙ ap (λ b. (Answer b, state_shown x t)) (sym (is ∙ ap (λ o. option_map_or (λ p. waits_for p 0) o false) server.there)))

-- whether something waits for a pending response
pub response_told : (x : Given) (t : HubTables) (node n lane : ℕ) (told : Bool) (pending : IsPending t node n) → IsWired t pending.port
    → lane ≡ lane_of t pending.handle
    → told ≡ option_map_or (λ p. waits_for p lane) (port_in t.ports pending.handle.port) false
    → IsWholeCall (state_shown x t) node (HasResponse n) (Answer told) (state_shown x t)
response_told x t node n lane told pending wired at is =
    is_whole_of (state_shown x t) node (HasResponse n) _ (Answer told) (state_shown x t)
    (each_seek_is_whole (state_shown x t) node n).1
    (pendings_are_told x t node n pending wired
    ∙ ap (λ b. (Answer b, state_shown x t))
    (sym (is ∙ ap (λ m. option_map_or (λ p. waits_for p m) (port_in t.ports pending.handle.port) false) at
    ∙ ap (λ o. option_map_or (λ p. waits_for p (lane_of t pending.handle)) o false) pending.there)))
