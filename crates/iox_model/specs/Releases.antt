-- How values are released.
use Rattle.std.specs.Prelude.{if◌then◌else◌, ◌==◌, List, [], ◌∷◌, map, filter}
use Rattle.iox_model.specs.declared.kind.Role.TheVariants.{Client, Server}
use Rattle.iox_model.specs.declared.kind.Kind.TheVariants.{PendingResponse, ActiveRequest}
use Rattle.iox_model.specs.declared.way.Way.{Way}
use Rattle.iox_model.specs.Doings.{Drops, DropsPort, Doing, Ended, Closing, Returning, Leaving}
use Rattle.iox_model.specs.States.{Handle, Fixed}
use Rattle.iox_model.specs.Handles.{same_kind, is_received, way_of, Subject, ThePort, TheHandle}
use Rattle.iox_model.specs.Messages.{response_way}
use Rattle.iox_model.specs.Peers.{forgot_port, others}

-- the ways whose request states a handle looks at: a pending response those with each server, an
-- active request its own; none of a forgotten peer
abbrev pub states_of : Fixed → Handle → List Way
states_of f h =
    if same_kind h.kind PendingResponse
    then map (response_way h.port h.lane) (others f h.node Server)
    else map (λ client. response_way client h.lane h.port)
    (filter (λ client. client == h.client) (others f h.node Client))

-- closes the request states of the ways left, one after another
abbrev pub closing : Handle → List Way → Doing
closing h [] = Ended (Drops h)
closing h (w ∷ left) = Closing h (w ∷ left)

-- a received message as its release begins: it is given back, but to a forgotten sender without a
-- moment
abbrev pub returning : Fixed → Handle → Doing
returning f h =
    if forgot_port f h.node (way_of h).sender then Ended (Drops h) else Returning h

-- the message is given back: a request's state is then closed
abbrev pub given_back : Handle → Doing
given_back h = if same_kind h.kind ActiveRequest then Leaving h else Ended (Drops h)

-- how the release of a handle begins, by its kind
abbrev pub releases_handle : Fixed → Handle → Doing
releases_handle f h =
    if is_received h.kind then returning f h
    else (if same_kind h.kind PendingResponse then closing h (states_of f h) else Ended (Drops h))

-- how a release begins
abbrev pub releases : Fixed → Subject → Doing
releases f (ThePort p) = Ended (DropsPort p.number)
releases f (TheHandle h) = releases_handle f h
