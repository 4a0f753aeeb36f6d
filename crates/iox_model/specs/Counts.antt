-- How ends of calls change handles, numbers and counts.
use Rattle.std.specs.Prelude.{ℕ, ◌+◌, ◌-◌, Bool, not, if◌then◌else◌, ◌==◌, List, [], ◌∷◌, ◌++◌, filter}
use Rattle.iox_model.specs.declared.kind.Kind.TheVariants.{PendingResponse, ActiveRequest, Response}
use Rattle.iox_model.specs.declared.way.Way.{Way}
use Rattle.iox_model.specs.Doings.{Receiver}
use Rattle.iox_model.specs.Settings.{is_client}
use Rattle.iox_model.specs.States.{Handle, Fixed, State}
use Rattle.iox_model.specs.Handles.{is_received, way_of, new_number}
use Rattle.iox_model.specs.Maps.{put_at, put}
use Rattle.iox_model.specs.Messages.{Message}

-- whether the handle has this number
abbrev pub is_same_handle : Handle → Handle → Bool
is_same_handle h k = k.number == h.number

-- the handles without the one of this number
abbrev pub without_handle : Handle → List Handle → List Handle
without_handle h hs = filter (λ k. not (is_same_handle h k)) hs

-- the handles, with the one of that number replaced
abbrev pub with_handle : Handle → List Handle → List Handle
with_handle h [] = []
with_handle h (k ∷ ks) = if is_same_handle h k then h ∷ ks else k ∷ with_handle h ks

-- the fixed part of the state, with one more handle of the node
abbrev pub added : Fixed → Handle → Fixed
added f h = record f { handles = put_at f.handles h.node (f.handles h.node ++ h ∷ []) }

-- the fixed part of the state, with one of the node's handles replaced
abbrev pub changed : Fixed → Handle → Fixed
changed f h = record f { handles = put_at f.handles h.node (with_handle h (f.handles h.node)) }

-- the fixed part of the state, without this handle of the node
abbrev pub dropped : Fixed → Handle → Fixed
dropped f h = record f { handles = put_at f.handles h.node (without_handle h (f.handles h.node)) }

-- the fixed part of the state, with one more number given; on a wire it is given by the node
abbrev pub numbered : Fixed → ℕ → Fixed
numbered f node =
    if f.on_wire then record f { handles_made = put_at f.handles_made node (f.handles_made node + 1) }
    else record f { next_number = f.next_number + 1 }

-- the fixed part of the state, with one more loan of the port
abbrev pub lent : Fixed → ℕ → Fixed
lent f port = record f { loans = put_at f.loans port (f.loans port + 1) }

-- the fixed part of the state, with one more loan, send or receive counted
abbrev pub called : Fixed → Fixed
called f = record f { calls = f.calls + 1 }

-- the fixed part of the state, with one more message of this way at its receiver
abbrev pub borrows : Fixed → Way → Fixed
borrows f w = record f { borrowed = put f.borrowed w (f.borrowed w + 1) }

-- the fixed part of the state once the handle gave up its message: if that was received, one less
-- is borrowed
abbrev pub gives_up : Fixed → Handle → Fixed
gives_up f h =
    if is_received h.kind
    then record f { borrowed = put f.borrowed (way_of h) (f.borrowed (way_of h) - 1) } else f

-- the state with its ports, handles and counts changed
abbrev pub with_fixed : State → Fixed → State
with_fixed s f = record s { fixed = f }

-- ---- handles that are made

-- the handle of a message that was received
abbrev pub received_handle : Fixed → ℕ → Receiver → Message → Handle
received_handle f node x m = record {
  node = node;
  number = new_number f node;
  kind = if is_client x.role then Response else ActiveRequest;
  port = x.port;
  message = m;
  filled = m.elements;
  client = if is_client x.role then x.port else m.sender;
  lane = m.lane;
  request = m.request;
  connections = 0;
}

-- the handle of a sent request: a pending response, delivered to so many servers
abbrev pub sent_handle : Handle → ℕ → Handle
sent_handle h count = record h { kind = PendingResponse; connections = count }

-- the handle with this payload in its message
abbrev pub holding : Handle → List ℕ → Handle
holding h payload = record h { message = record (h.message) { payload = payload } }
