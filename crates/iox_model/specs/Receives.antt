-- How a message is received: pairs are visited in any order, until one gives a message that fits.
use Rattle.std.specs.Prelude.{ℕ, Bool, false, if◌then◌else◌, ◌==◌, nat_le, List, [], ◌∷◌, ◌++◌, map}
use Rattle.iox_model.specs.declared.kind.Role.TheVariants.{Client, Server}
use Rattle.iox_model.specs.declared.way.Way.{Way}
use Rattle.iox_model.specs.declared.way.RequestState.{RequestState}
use Rattle.iox_model.specs.declared.reply.Refusal.TheVariants.{ExceedsMaxBorrows}
use Rattle.iox_model.specs.declared.reply.Reply.TheVariants.{Nothing, Answer, Refused}
use Rattle.iox_model.specs.Doings.{Receiver, Tells, Receives, Doing, Ended, Visiting, Again, Judging, Stale, Seeking}
use Rattle.iox_model.specs.Settings.{is_client}
use Rattle.iox_model.specs.States.{Port, Handle, Fixed}
use Rattle.iox_model.specs.Handles.{Subject, ThePort, TheHandle}
use Rattle.iox_model.specs.Messages.{request_way, response_way, names, Message}
use Rattle.iox_model.specs.Peers.{forgot_port, ports_of_role, others, borrow_limit_on}

-- The clients that a server's receive visits. Under fire-and-forget: those that are gone, oldest
-- first, then all connected ones, ascending. Else: the connected ones that its node did not forget.
abbrev pub clients_to_visit : Fixed → Port → List ℕ
clients_to_visit f p =
    if f.limits.fire_and_forget then f.expired p.number ++ ports_of_role f Client
    else others f p.node Client

-- the ways that a server's receive visits
abbrev pub server_ways : Fixed → Port → List Way
server_ways f p = map (λ client. request_way client p.number) (clients_to_visit f p)

-- the ways that a pending response's receive visits: those of servers that are gone first, oldest
-- first
abbrev pub pending_ways : Fixed → Handle → List Way
pending_ways f h = map (response_way h.port h.lane) (f.expired h.port ++ ports_of_role f Server)

-- a receive with these ways left to visit; once none is left it ends and got nothing
abbrev pub visiting : Receiver → List Way → Bool → Doing
visiting x [] seen = Ended (Tells (if seen then Refused ExceedsMaxBorrows else Nothing))
visiting x (w ∷ left) seen = Visiting x (w ∷ left) seen

-- a message that does not fit is given back; to a forgotten sender without a moment
abbrev pub stale : Fixed → ℕ → Receiver → Way → Message → List Way → Bool → Doing
stale f node x w m left seen =
    if forgot_port f node w.sender then Again x w left seen else Stale x w m left seen

-- a response was taken: it is received if it answers the request, and else stale
abbrev pub took_response : Fixed → ℕ → Receiver → Way → Message → List Way → Bool → Doing
took_response f node x w m left seen =
    if m.request == x.request then Ended (Receives x w m) else stale f node x w m left seen

-- a server took a request: under fire-and-forget it is received, else its request state is looked
-- at
abbrev pub took_request : Fixed → Receiver → Way → Message → List Way → Bool → Doing
took_request f x w m left seen =
    if f.limits.fire_and_forget then Ended (Receives x w m) else Judging x w m left seen

-- what follows a take, of a client or of a server
abbrev pub took : Fixed → ℕ → Receiver → Way → Message → List Way → Bool → Doing
took f node x w m left seen =
    if is_client x.role then took_response f node x w m left seen else took_request f x w m left seen

-- a request is received if its request state names it; else it is stale
abbrev pub judged : Receiver → Way → Message → List Way → Bool → RequestState → Doing
judged x w m left seen shown =
    if names shown m.request then Ended (Receives x w m) else Stale x w m left seen

-- the way of the request state of a request that came on this way
abbrev pub state_of_request : Way → Message → Way
state_of_request w m = response_way w.sender m.lane w.receiver

-- whether the receiver has as many messages of the way as it may
abbrev pub is_at_limit : Fixed → Way → Bool
is_at_limit f w = nat_le (borrow_limit_on f w) (f.borrowed w)

-- how a receive begins
abbrev pub receives : Fixed → Subject → Doing
receives f (ThePort p) =
    visiting (record { port = p.number; role = Server; lane = 0; request = 0 }) (server_ways f p) false
receives f (TheHandle h) =
    visiting (record { port = h.port; role = Client; lane = h.lane; request = h.request })
    (pending_ways f h) false

-- a look for a message that waits
abbrev pub seeking : List Way → Doing
seeking [] = Ended (Tells (Answer false))
seeking (w ∷ left) = Seeking (w ∷ left)
