-- What becomes of a port's ways as it disconnects. A pair is a sender and a receiver, with all ways
-- from the one to the other.
use Rattle.std.specs.Prelude.{ℕ, Bool, true, false, not, ◌&&◌, ◌||◌, if◌then◌else◌, ◌==◌, nat_lt, nat_le, List, [], ◌∷◌, ◌++◌, length, filter}
use Rattle.std.specs.List.{list_any, range_with_len}
use Rattle.iox_model.specs.declared.kind.Role.{Role}
use Rattle.iox_model.specs.declared.kind.Role.TheVariants.{Client, Server}
use Rattle.iox_model.specs.declared.way.Way.{Way}
use Rattle.iox_model.specs.declared.way.RequestState.TheVariants.{Closed}
use Rattle.iox_model.specs.Settings.{is_client, same_role}
use Rattle.iox_model.specs.States.{Fixed, State}
use Rattle.iox_model.specs.Handles.{handles_of}
use Rattle.iox_model.specs.Maps.{is_empty, rest_of, has_number, put_at}
use Rattle.iox_model.specs.Peers.{role_at, lanes_of}

-- how many disconnected senders a receiver of this role keeps the messages of
abbrev pub room_for_expired : Fixed → Role → ℕ
room_for_expired f Client = f.limits.client_expired
room_for_expired f Server = if f.limits.fire_and_forget then f.limits.server_expired else 0

-- how many lanes a receiver has from one sender
abbrev pub lanes_between : Fixed → ℕ → ℕ
lanes_between f receiver = if is_client (role_at f receiver) then lanes_of f receiver else 1

-- whether a message waits from this sender to this receiver, on any lane
abbrev pub waits_between : State → ℕ → ℕ → Bool
waits_between s sender receiver =
    list_any
    (λ lane.
    not (is_empty (s.waiting (record { sender = sender; receiver = receiver; lane = lane }))))
    (range_with_len 0 (lanes_between s.fixed receiver))

-- the list with one more at its end; a full buffer gives up its oldest
abbrev pub kept_expired : ℕ → List ℕ → ℕ → List ℕ
kept_expired room senders gone =
    (if nat_le room (length senders) then rest_of senders else senders) ++ gone ∷ []

-- the disconnected senders that a receiver keeps, once this one is gone too: it is kept if a
-- message waits
abbrev pub expired_after : State → ℕ → ℕ → List ℕ
expired_after s gone receiver =
    let room : ℕ = room_for_expired s.fixed (role_at s.fixed receiver) in
    if waits_between s gone receiver && nat_lt 0 room
    then kept_expired room (s.fixed.expired receiver) gone
    else s.fixed.expired receiver

-- whether the waiting messages of the way are still there once the port is gone
abbrev pub stays : State → ℕ → Way → Bool
stays s gone w =
    if w.receiver == gone then false else
    (if w.sender == gone || has_number w.sender (s.fixed.expired w.receiver)
    then has_number w.sender (expired_after s gone w.receiver) else true)

-- whether the port is one of the way's two ends
abbrev pub is_end : ℕ → Way → Bool
is_end port w = (w.sender == port) || (w.receiver == port)

-- the disconnected senders whose messages this port keeps, once that port is gone
abbrev pub expired_once : State → ℕ → ℕ → List ℕ
expired_once s gone p =
    if p == gone then [] else
    (if same_role (role_at s.fixed p) (role_at s.fixed gone) then s.fixed.expired p
    else expired_after s gone p)

-- The state once the port is gone, with all counts and request states of its ways. A receiver that
-- keeps expired pairs keeps this one if a message waits there; senders forget all that they
-- delivered.
abbrev pub disconnected : State → ℕ → State
disconnected s gone = record s {
  fixed = record (s.fixed) {
    ports = filter (λ p. not (p.number == gone)) s.fixed.ports;
    loans = put_at s.fixed.loans gone 0;
    borrowed = λ w. if stays s gone w then s.fixed.borrowed w else 0;
    expired = expired_once s gone;
  };
  waiting = λ w. if stays s gone w then s.waiting w else [];
  returned = λ w. if is_end gone w then [] else s.returned w;
  in_hand = λ w. if is_end gone w then [] else s.in_hand w;
  delivered = λ w k. if is_end gone w then false else s.delivered w k;
  request_state = λ w. if is_end gone w then Closed else s.request_state w;
}

-- whether a port disconnects: its value and all its handles are released, and no wire is open
abbrev pub is_last_gone : Fixed → ℕ → Bool
is_last_gone f port =
    not f.on_wire
    && (not (list_any (λ p. (p.number == port) && p.held) f.ports) && is_empty (handles_of f port))

-- the state once the port is disconnected, if its value and all its handles are gone
abbrev pub released : State → ℕ → State
released s port = if is_last_gone s.fixed port then disconnected s port else s
