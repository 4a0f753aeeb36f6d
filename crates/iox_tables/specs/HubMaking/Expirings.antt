-- What receivers keep of ports that are gone: the pipes from them on which something waited.
use Rattle.std.specs.Prelude.{◌≡◌, ℕ, ◌≤◌, true, if◌then◌else◌, length, Option, Some, None}
use Rattle.iox_model.specs.Maps.{has_number}
use Rattle.iox_lanes.specs.Incomings.{IncomingState, given_up_for, with_kept}
use Rattle.iox_lanes.specs.Pipes.{PipeState, has_waiting_on_any}
use Rattle.iox_tables.specs.HubStates.Tables.{HubTables, PortState, pipe_from, port_in, senders_of}
use Rattle.iox_tables.specs.HubMaking.NewPorts.{room_for_gone, width_of}

-- ---- the sender of a pipe goes

-- the pipes from ports that are gone, once the sender of this one is gone too: it is kept last if
-- something waits there
abbrev pub with_expired : IncomingState → Option PipeState → IncomingState
with_expired c None = c
with_expired c (Some q) = if has_waiting_on_any q then with_kept c q else c

-- the pipe that goes then: this one, or one that is given up for it
abbrev pub gone_with : IncomingState → Option PipeState → Option PipeState
gone_with c None = None
gone_with c (Some q) = if has_waiting_on_any q then given_up_for c q else Some q

-- ---- what is so between calls

-- A port has room for as many pipes from ports that are gone as its service says, and no more than
-- those. They come from such ports, and are as wide as those from connected ones.
pub record KeepsExpired (t : HubTables) (p : PortState) : Type 0 where
  pub room : p.expired.most ≡ room_for_gone t.settings p.role
  pub few : length p.expired.pipes ≤ p.expired.most
  pub gone :
      (n : ℕ) → has_number n (senders_of p.expired.pipes) ≡ true → port_in t.ports n ≡ None
  pub wide :
      (n : ℕ) (q : PipeState) → pipe_from p.expired.pipes n ≡ Some q
      → length q.lanes ≡ width_of p
