-- What a sender delivered and did not get back, and what it keeps.
use Rattle.std.specs.Prelude.{ℕ, ◌+◌, Bool, true, not, ◌&&◌, ◌||◌, ◌==◌, nat_le, List, length, filter}
use Rattle.std.specs.List.{list_any, range_with_len}
use Rattle.std.specs.Option.{option_map_or}
use Rattle.iox_model.specs.declared.way.Way.{Way}
use Rattle.iox_model.specs.States.{Fixed, State}
use Rattle.iox_model.specs.Handles.{is_own, handles_of}
use Rattle.iox_model.specs.Maps.{has_number}
use Rattle.iox_model.specs.Peers.{port_at, ways_from}

-- the serials that a sender delivered on the way and did not get back
abbrev pub outstanding_on : State → Way → List ℕ
outstanding_on s w = filter (s.delivered w) (range_with_len 0 (s.fixed.loans w.sender + 1))

-- the serials outstanding from one port to another on a lane; requests use lane 0
abbrev pub outstanding : State → ℕ → ℕ → ℕ → List ℕ
outstanding s port other lane =
    outstanding_on s (record { sender = port; receiver = other; lane = lane })

-- whether a handle of the port holds its own message of that serial
abbrev pub is_held : Fixed → ℕ → ℕ → Bool
is_held f port k =
    list_any (λ h. is_own h.kind && (h.message.serial == k)) (handles_of f port)

-- whether the port's message of that serial was delivered and not got back, on some way
abbrev pub is_outstanding : State → ℕ → ℕ → Bool
is_outstanding s port k = list_any (λ w. s.delivered w k) (ways_from s.fixed port)

-- whether the port keeps the message of that serial: its call under way has it, a handle holds it,
-- or it is outstanding
abbrev pub is_kept : State → ℕ → List ℕ → ℕ → Bool
is_kept s port under_way k =
    has_number k under_way || (is_held s.fixed port k || is_outstanding s port k)

-- the messages that the port keeps, each once, of those that it ever loaned
abbrev pub kept : State → ℕ → List ℕ → List ℕ
kept s port under_way =
    filter (is_kept s port under_way) (range_with_len 0 (s.fixed.loans port + 1))

-- whether the port keeps the message of that serial once it got back all that was given back
abbrev pub is_kept_after : State → ℕ → ℕ → Bool
is_kept_after s port k =
    is_held s.fixed port k
    || list_any (λ w. s.delivered w k && not (has_number k (s.returned w))) (ways_from s.fixed port)

-- the serials of a port's messages that are not free after a call
abbrev pub kept_after : State → ℕ → List ℕ
kept_after s port = filter (is_kept_after s port) (range_with_len 0 (s.fixed.loans port + 1))

-- whether the pool of the port has no message left
abbrev pub is_dry : Fixed → ℕ → List ℕ → Bool
is_dry f port keeps = option_map_or (λ p. nat_le p.pool (length keeps)) (port_at f port) true
