-- How a request is sent: its ways are emptied and looked at, its request states opened, and it is
-- delivered.
use Rattle.std.specs.Prelude.{ℕ, Bool, false, if◌then◌else◌, nat_le, List, [], ◌∷◌, map, Option, Some, None}
use Rattle.std.specs.List.{list_any}
use Rattle.std.specs.Option.{option_map_or}
use Rattle.iox_model.specs.declared.kind.Kind.TheVariants.{PendingResponse}
use Rattle.iox_model.specs.declared.way.Way.{Way}
use Rattle.iox_model.specs.declared.reply.Refusal.TheVariants.{ExceedsMaxActiveRequests, UnableToDeliver}
use Rattle.iox_model.specs.Doings.{Sending, Outcome, Sends, FailsToSend, Doing, Ended, Emptying, Looking, Opening, Delivering}
use Rattle.iox_model.specs.Settings.{overflow_of, fails_by_strategy, fails_by}
use Rattle.iox_model.specs.States.{Port, Handle, Fixed, State}
use Rattle.iox_model.specs.Handles.{same_kind, is_request_loan, count_of}
use Rattle.iox_model.specs.Maps.{same_way, not_in}
use Rattle.iox_model.specs.Moments.{is_overfull}
use Rattle.iox_model.specs.Messages.{request_way, response_way}
use Rattle.iox_model.specs.Peers.{port_at, role_at}

-- whether a request is sent, and not a response
abbrev pub is_request : Sending → Bool
is_request x = is_request_loan x.loan.kind

-- the ways on which the message is delivered
abbrev pub targets : Sending → List Way
targets x =
    if is_request x then map (request_way x.loan.port) x.to
    else map (λ client. response_way client x.loan.lane x.loan.port) x.to

-- the ways on which a send opens its request
abbrev pub to_open : Sending → List Way
to_open x = if is_request x then map (response_way x.loan.port x.loan.lane) x.to else []

-- whether a send of the port fails where that receiver is full: a handler that is set decides
abbrev pub port_fails : Fixed → Port → Way → Bool
port_fails f p w =
    option_map_or (λ words. fails_by (f.acts words w.sender w.receiver) p.strategy) p.handler
    (fails_by_strategy p.strategy)

-- whether a full receiver on this way makes the send fail
abbrev pub fails_at : Fixed → Way → Bool
fails_at f w = option_map_or (λ p. port_fails f p w) (port_at f w.sender) false

-- a send, with what its targets, the overflow and the strategies say
abbrev pub sending_of : Fixed → Handle → Bool → List ℕ → Sending
sending_of f h copied to = record {
  loan = h;
  copied = copied;
  to = to;
  overflow = overflow_of f.limits (role_at f h.port);
  fails = fails_at f;
}

-- a send with these request states left to open; then it delivers on each way that was not seen
-- full
abbrev pub opening : Sending → List Way → List Way → Doing
opening x [] full = Delivering x None (not_in full (targets x)) 0
opening x (w ∷ left) full = Opening x (w ∷ left) full

-- a send with these ways left to look at; then it fails if one seen full makes it fail, before any
-- request state is opened
abbrev pub looking : Sending → List Way → List Way → Doing
looking x [] full =
    if list_any x.fails full then Ended (FailsToSend x.loan x.copied UnableToDeliver)
    else opening x (to_open x) full
looking x (w ∷ left) full = Looking x (w ∷ left) full

-- a send with these ways left to empty; then it looks at each, but with overflow at none
abbrev pub emptying : Sending → List Way → Doing
emptying x [] = if x.overflow then opening x (to_open x) [] else looking x (targets x) []
emptying x (w ∷ left) = Emptying x (w ∷ left)

-- whether the client has as many pending responses as it may
abbrev pub is_active_spent : Fixed → Handle → Bool
is_active_spent f h =
    nat_le f.limits.active_requests (count_of f h.port (λ k. same_kind k PendingResponse))

-- the send of a request to these servers, or its refusal at the limit of active requests
abbrev pub sends_request : Fixed → Handle → Bool → List ℕ → Doing
sends_request f h copied servers =
    if is_active_spent f h then Ended (FailsToSend h copied ExceedsMaxActiveRequests)
    else emptying (sending_of f h copied servers) (map (request_way h.port) servers)

-- the way of the last delivery, where one too many may wait
abbrev pub may_evict : Sending → Way → Option Way
may_evict x w = if x.overflow then Some w else None

-- whether the call delivered last on this way
abbrev pub is_last : Way → Option Way → Bool
is_last w None = false
is_last w (Some v) = same_way w v

-- whether one message too many waits on the way where the call delivered last
abbrev pub is_over : State → Option Way → Bool
is_over s None = false
is_over s (Some w) = is_overfull s w

-- a send ends once all is delivered, and nothing is left to evict
abbrev pub sent_all : State → Sending → Option Way → List Way → ℕ → Option Outcome
sent_all s x last [] count = if is_over s last then None else Some (Sends x.loan x.copied count)
sent_all s x last (w ∷ left) count = None
