-- What a node has of the machine as it begins a call, and what it chooses then.
use Rattle.std.specs.Prelude.{◌≡◌, ℕ, ◌<◌, true, not, ◌&&◌, nat_lt, Some}
use Rattle.std.specs.Option.{option_map_or}
use Rattle.iox_model.specs.declared.call.WireCall.TheVariants as wire_calls
use Rattle.iox_model.specs.Commands.{WireCall, number_of}
use Rattle.iox_model.specs.Handles.{has_lane}
use Rattle.iox_model.specs.Loans.{Choice}
use Rattle.iox_model.specs.Maps.{has_number}
use Rattle.iox_model.specs.Peers.{port_at}
use Rattle.iox_model.specs.Settings.{is_client}
use Rattle.iox_model.specs.States.{Port}
use Rattle.iox_model.specs.Weaves.{World}
use Rattle.iox_wire_moments.specs.MomentsOf.{Pools}
use Rattle.iox_wire_locals.specs.declared.table.Entry.{Entry}
use Rattle.iox_wire_locals.specs.declared.seat.Seat.{Seat}
use Rattle.iox_wire_locals.specs.Tables.{Setting, entry_at}
use Rattle.iox_wire_locals.specs.Known.{free_lanes, known}
use Rattle.iox_wire_locals.specs.Doings.{doing_of}
use Rattle.iox_wire_locals.specs.Lendings.{first_lane}
use Rattle.iox_wire_locals.specs.BeginLaws.{Counts, IsOwnPort, IsOwnEntry}

-- the node's place stands for what its call has still to do, or for no call
abbrev pub ShowsDoing : Setting → Pools → World → Seat → Type 0
ShowsDoing p held w x = w.doing x.node ≡ doing_of p w.state.fixed held x.node x.local

-- ---- lanes

-- The free lanes of a client are those of its lanes that no loan and no pending response has, and
-- none of these has a lane beyond.
pub record LanesFit (p : Setting) (x : Seat) (q : Port) : Type 0 where
  pub free : (lane : ℕ) → has_number lane (free_lanes x q.number)
      ≡ (nat_lt lane q.pool && not (has_lane (known p x) q.number lane))
  pub taken : (lane : ℕ) → has_lane (known p x) q.number lane ≡ true → lane < q.pool

-- the lane of a call's loan: the first free one of its client
abbrev pub lane_for : Setting → Seat → WireCall → ℕ
lane_for p x (wire_calls.Port call) =
    option_map_or (λ q. first_lane q.pool (free_lanes x q.number))
    (port_at (known p x) (number_of call)) 0
lane_for p x (wire_calls.Forget dead) = 0

-- what the node chooses as its call begins; memory was taken as the wire opened
abbrev pub choice_for : Setting → Seat → WireCall → Choice
choice_for p x call = record { lane = lane_for p x call; memory = true }

-- ---- between calls

-- A node with no call under way: it knows its own part, each of its ports and entries is as it
-- counts them, and so are the lanes of its clients.
pub record IsReady (p : Setting) (held : Pools) (w : World) (x : Seat) : Type 0 where
  pub counts : Counts p x w.state held
  pub doing : ShowsDoing p held w x
  pub ports : (n : ℕ) (q : Port) → port_at (known p x) n ≡ Some q → q.node ≡ x.node
      → IsOwnPort p x w.state q
  pub entries : (n : ℕ) (e : Entry) → entry_at n x.table ≡ Some e → IsOwnEntry p x w.state held e
  pub lanes : (n : ℕ) (q : Port) → port_at (known p x) n ≡ Some q → q.node ≡ x.node
      → is_client q.role ≡ true → LanesFit p x q
