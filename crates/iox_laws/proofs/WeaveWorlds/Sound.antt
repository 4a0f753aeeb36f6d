-- What holds of every world that may come about, as far as it keeps calls going: a way of a sender is
-- overfull only where its call delivered last, and what a call has left to do can be done.
use Rattle.std.specs.Prelude.{◌≡◌, ℕ, ◌+◌, Bool, true, false, ◌&&◌, if◌then◌else◌, ◌==◌, nat_le, List, length, map, Option, Some, None}
use Rattle.std.specs.List.{list_all}
use Rattle.iox_model.specs.declared.way.Way.{Way}
use Rattle.iox_model.specs.Doings.{Receiver, Sending, Outcome, Loans, Fills, Sends, FailsToSend, Receives, DropsPort, Doing, Ended, Loaning, Asking, Emptying, Looking, Opening, Delivering, Evicted, Visiting, Again, Judging, Stale, Closing, Returning, Leaving, Checking, Hinting, Seeking}
use Rattle.iox_model.specs.Weaves.{World}
use Rattle.iox_model.specs.Settings.{is_client, overflow_of}
use Rattle.iox_model.specs.States.{Handle, Fixed, State}
use Rattle.iox_model.specs.Requests.{targets, is_last}
use Rattle.iox_model.specs.Maps.{is_empty, has_way, not_in, AreDistinctWays, AreDistinct}
use Rattle.iox_model.specs.Responses.{copies}
use Rattle.iox_model.specs.Peers.{is_connected_port, role_at, node_of_port, buffer_on}
use Rattle.iox_laws.proofs.WeaveLaws.Plays.{has_room}

-- ---- ways and handles of a node

-- all these ways go from the port
abbrev pub AreFrom : ℕ → List Way → Type 0
AreFrom port ways = (v : Way) → has_way v ways ≡ true → v.sender ≡ port

-- the way of the last delivery, where messages overflow
abbrev pub IsLast : Sending → Option Way → Type 0
IsLast x None = Unit {0}
IsLast x (Some w) = (w.sender ≡ x.loan.port) × (x.overflow ≡ true)

-- the way goes to the receiver, on its lane
abbrev pub IsTo : Receiver → Way → Type 0
IsTo x v = (v.receiver ≡ x.port) × (v.lane ≡ x.lane)

abbrev pub AreTo : Receiver → List Way → Type 0
AreTo x ways = (v : Way) → has_way v ways ≡ true → IsTo x v

-- the port is connected, and the node's
abbrev pub IsPortOf : Fixed → ℕ → ℕ → Type 0
IsPortOf f node port = (is_connected_port f port ≡ true) × (node_of_port f port ≡ node)

abbrev pub is_port_of : Fixed → ℕ → ℕ → Bool
is_port_of f node port = is_connected_port f port && (node_of_port f port == node)

-- the handle is the node's, and belongs to a port of the node
abbrev pub IsOwn : Fixed → ℕ → Handle → Type 0
IsOwn f node h = (h.node ≡ node) × IsPortOf f node h.port

-- each handle of the node belongs to a port of the node
abbrev pub has_own : Fixed → ℕ → Bool
has_own f node = list_all (λ h. is_port_of f node h.port) (f.handles node)

-- one more may be delivered on each of these ways
abbrev pub HaveRoom : State → List Way → Type 0
HaveRoom s ways = (v : Way) → has_way v ways ≡ true → has_room s v ≡ true

-- what a send keeps of its port is so
abbrev pub IsSending : Fixed → ℕ → Sending → Type 0
IsSending f node x =
    IsOwn f node x.loan × (x.overflow ≡ overflow_of f.limits (role_at f x.loan.port)) × AreDistinctWays (targets x)

-- ---- what is left to do

abbrev pub FitsOutcome : Fixed → ℕ → Outcome → Type 0
FitsOutcome f node (Loans h) = IsOwn f node h
FitsOutcome f node (Fills h) = IsOwn f node h
FitsOutcome f node (Sends h copied count) = IsOwn f node h
FitsOutcome f node (FailsToSend h copied refusal) = IsOwn f node h
FitsOutcome f node (Receives x w m) =
    IsPortOf f node x.port × IsTo x w × (is_client x.role ≡ true → m.request ≡ x.request)
-- on a wire ports stay
FitsOutcome f node (DropsPort port) = (f.on_wire ≡ false) × IsPortOf f node port
FitsOutcome f node o = Unit {0}

-- What is left is some way, of the own port; and where a send delivers there is room.
abbrev pub SoundDoing : State → ℕ → Doing → Type 0
SoundDoing s node (Ended o) = FitsOutcome s.fixed node o
SoundDoing s node (Loaning copies h left) = IsOwn s.fixed node h × AreFrom h.port left × (is_empty left ≡ false)
SoundDoing s node (Asking x) = IsSending s.fixed node x
SoundDoing s node (Emptying x left) = IsSending s.fixed node x × AreFrom x.loan.port left × (is_empty left ≡ false)
-- what was looked at and not seen full has room
SoundDoing s node (Looking x left full) =
    IsSending s.fixed node x × (is_empty left ≡ false)
    × ((v : Way) → has_way v (targets x) ≡ true → has_way v left ≡ false → has_way v full ≡ false → has_room s v ≡ true)
SoundDoing s node (Opening x left full) =
    IsSending s.fixed node x × (is_empty left ≡ false) × HaveRoom s (not_in full (targets x))
SoundDoing s node (Delivering x last left count) =
    IsSending s.fixed node x × AreFrom x.loan.port left × AreDistinctWays left × HaveRoom s left × IsLast x last
SoundDoing s node (Evicted x w left count) =
    IsSending s.fixed node x × AreFrom x.loan.port left × AreDistinctWays left × HaveRoom s left × (w.sender ≡ x.loan.port)
    × (is_empty (s.in_hand w) ≡ false)
SoundDoing s node (Visiting x left seen) = IsPortOf s.fixed node x.port × (is_empty left ≡ false) × AreTo x left
SoundDoing s node (Again x w left seen) = IsPortOf s.fixed node x.port × IsTo x w × AreTo x left
SoundDoing s node (Judging x w m left seen) =
    IsPortOf s.fixed node x.port × IsTo x w × AreTo x left × (is_client x.role ≡ false)
SoundDoing s node (Stale x w m left seen) = IsPortOf s.fixed node x.port × IsTo x w × AreTo x left
SoundDoing s node (Closing h left) = is_empty left ≡ false
SoundDoing s node (Returning h) = Unit {0}
SoundDoing s node (Leaving h) = Unit {0}
SoundDoing s node (Checking h hinted left) = is_empty left ≡ false
SoundDoing s node (Hinting h left) = is_empty left ≡ false
SoundDoing s node (Seeking left) = is_empty left ≡ false

abbrev pub FitsCall : State → ℕ → Option Doing → Type 0
FitsCall s node None = Unit {0}
FitsCall s node (Some d) = SoundDoing s node d

-- ---- how many wait

-- the way of the last delivery of a call under way, if it may still evict there
abbrev pub last_of : Option Doing → Option Way
last_of (Some (Delivering x last left count)) = last
last_of d = None

-- On the ways from the node's ports no more than the buffer waits, but one more where it delivered last.
abbrev pub IsWithin : State → ℕ → Option Way → Type 0
IsWithin s node last =
    (v : Way) → IsPortOf s.fixed node v.sender
    → nat_le (length (s.waiting v)) (buffer_on s.fixed v + (if is_last v last then 1 else 0)) ≡ true

-- ---- the invariant

abbrev pub SoundCall : State → ℕ → Option Doing → Type 0
SoundCall s node o = IsWithin s node (last_of o) × FitsCall s node o

pub record Sound (w : World) : Type 0 where
  pub on_wire : w.state.fixed.on_wire ≡ true
  pub distinct : AreDistinct (map (λ p. p.number) w.state.fixed.ports)
  pub own : (n : ℕ) → has_own w.state.fixed n ≡ true
  pub calls : (n : ℕ) → SoundCall w.state n (w.doing n)
