-- Loans of a client that are sent at once: only for proofs of this crate.
use Rattle.std.specs.Prelude.{◌≡◌, ◌≤◌, ◌^◌, ℕ, Bool, [], length}
use Rattle.iox_model.specs.declared.kind.Kind.TheVariants.{RequestMut}
use Rattle.iox_lanes.specs.Lanes.{IsSound}
use Rattle.iox_tables.specs.HubStates.Changes.{OnEach}
use Rattle.iox_tables.specs.HubStates.Tables.{HandleState}
use Rattle.iox_tables.specs.HubStates.Ways.{lane_on}
use Rattle.iox_tables.specs.HubStates.Wirings.{IsHandle}
use Rattle.iox_hub_delivering.specs.Deliveries.{HasDelivered}
use Rattle.iox_control.specs.Controls.{ControlState, IsControl, with_tables}
use Rattle.iox_control_copies.specs.Loaned.{Loaned}
use Rattle.iox_control_requests.specs.Requests.{ways_of, with_request_sent}
use Rattle.iox_control_requests.specs.Servers.{request_ways}

-- the handle of that loan of a client, which is filled
abbrev pub lent_handle : ℕ → ℕ → Loaned → HandleState
lent_handle node client l = record {
  node = node;
  number = l.number;
  kind = RequestMut;
  port = client;
  pool = l.pool;
  slot = l.slot;
  client = client;
  connections = 0;
}

-- The handle is a filled loan whose client got all back, and calls can be counted.
pub record MayBeSent (c : ControlState) (h : HandleState) : Type 0 where
  pub order : IsControl c
  pub calls : c.tables.calls ≤ 2 ^ 56
  pub named : IsHandle c.tables h.node h.number h
  pub filled : h.kind ≡ RequestMut
  pub returned :
      OnEach (λ w l. l.returned ≡ []) (lane_on c.tables.ports) (request_ways h.port c.tables.ports)

-- Its request is sent to so many servers, whose lanes from the client were sound.
pub record IsSent (c : ControlState) (h : HandleState) (overflow : Bool) (servers : ℕ)
    (new : ControlState) : Type 0 where
  pub sound : OnEach (λ w l. IsSound l) (lane_on c.tables.ports) (request_ways h.port c.tables.ports)
  pub count : servers ≡ length (ways_of c.tables h overflow)
  pub left :
      new
      ≡ with_tables c
      (record (with_request_sent c.tables h overflow) { pools = new.tables.pools })
  pub delivered :
      HasDelivered overflow h.slot (lane_on c.tables.ports) (ways_of c.tables h overflow)
      c.tables.pools new.tables.pools
  pub order : IsControl new
