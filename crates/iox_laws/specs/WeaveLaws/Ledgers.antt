-- What a receiver has of a way, which ways are emptied and live, and how much is out on one.
use Rattle.std.specs.Prelude.{ℕ, ◌+◌, Bool, true, false, not, ◌&&◌, if◌then◌else◌, ◌==◌, List, [], ◌∷◌, ◌++◌, length, map, filter, Option, Some, None}
use Rattle.std.specs.Option.{option_map_or}
use Rattle.iox_model.specs.declared.way.Way.{Way}
use Rattle.iox_model.specs.Doings.{Outcome, Loans, Sends, FailsToSend, Receives, Drops, Doing, Ended, Loaning, Asking, Emptying, Looking, Opening, Delivering, Evicted, Judging, Stale, Leaving}
use Rattle.iox_model.specs.Weaves.{made, World}
use Rattle.iox_model.specs.States.{Handle, Fixed}
use Rattle.iox_model.specs.Requests.{targets}
use Rattle.iox_model.specs.Loans.{lending_ways}
use Rattle.iox_model.specs.Handles.{is_received, way_of}
use Rattle.iox_model.specs.Maps.{same_way, has_way}
use Rattle.iox_model.specs.Outstandings.{kept}
use Rattle.iox_model.specs.Responses.{copies}
use Rattle.iox_model.specs.Peers.{is_connected_port, node_of_port, forgot_port, is_counted_on, buffer_on, borrow_limit_on}

-- ---- what a receiver has

-- the serial, as a list of one, if the two ways are the same, and else none
abbrev pub if_on : Way → Way → ℕ → List ℕ
if_on w v k = if same_way w v then k ∷ [] else []

-- whether the handle holds a message that was received on this way
abbrev pub has_received : Way → Handle → Bool
has_received w h =
    is_received h.kind && ((h.port == w.receiver) && same_way (way_of h) w)

-- whether the call is a release that has given back its handle's message
abbrev pub is_given_up : Handle → Doing → Bool
is_given_up h (Leaving g) = g.number == h.number
is_given_up h (Ended (Drops g)) = g.number == h.number
is_given_up h d = false

-- the message that a receive took and did not hand out yet
abbrev pub taken_by : Way → Doing → List ℕ
taken_by w (Judging x v m left seen) = if_on w v m.serial
taken_by w (Stale x v m left seen) = if_on w v m.serial
taken_by w (Ended (Receives x v m)) = if_on w v m.serial
taken_by w d = []

-- the serials that a receiver has of a way, in its handles and in its call under way
abbrev pub held_on : Way → List Handle → Option Doing → List ℕ
held_on w hs None = map (λ h. h.message.serial) (filter (has_received w) hs)
held_on w hs (Some d) =
    map (λ h. h.message.serial) (filter (λ h. has_received w h && not (is_given_up h d)) hs)
    ++ taken_by w d

-- What the receiver has of the way: the messages of its handles, but one that is given back
-- already, and of its call. A message of a forgotten sender that does not fit does not count.
abbrev pub had_on : World → Way → List ℕ
had_on w v =
    let node : ℕ = node_of_port w.state.fixed v.receiver in
    held_on v (w.state.fixed.handles node) (w.doing node)

-- ---- emptied ways

-- whether the call saw nothing to get back on the way, and did not deliver there since
abbrev pub is_emptied_by : Fixed → Way → Doing → Bool
is_emptied_by f w (Loaning copies h left) = has_way w (lending_ways f h) && not (has_way w left)
is_emptied_by f w (Emptying x left) = has_way w (targets x) && not (has_way w left)
is_emptied_by f w (Looking x left full) = has_way w (targets x)
is_emptied_by f w (Opening x left full) = has_way w (targets x)
is_emptied_by f w (Delivering x last left count) = has_way w left
is_emptied_by f w (Evicted x v left count) = has_way w left
is_emptied_by f w d = false

-- the sender's call under way emptied this way
abbrev pub is_emptied : World → Way → Bool
is_emptied w v =
    option_map_or (is_emptied_by w.state.fixed v) (w.doing (node_of_port w.state.fixed v.sender)) false

-- both ends are connected, and neither's node forgot the other's
abbrev pub is_live : Fixed → Way → Bool
is_live f w =
    is_counted_on f w
    && (is_connected_port f w.receiver
    && not (forgot_port f (node_of_port f w.receiver) w.sender))

-- how many messages of the way wait, are at the receiver, and were given back
abbrev pub size_of : World → Way → ℕ
size_of w v = length (w.state.waiting v) + length (had_on w v) + length (w.state.returned v)

-- the most that may be outstanding where the way is emptied; elsewhere it is one more
abbrev pub room_of : World → Way → ℕ
room_of w v =
    buffer_on w.state.fixed v + borrow_limit_on w.state.fixed v + (if is_emptied w v then 0 else 1)
