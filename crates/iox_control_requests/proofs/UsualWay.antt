-- A request that is sent as the only message of its pool that somebody has: nothing is got back, and nothing is pushed out.
use Rattle.std.specs.Prelude.{◌≡◌, ℕ, Bool, true, false, if◌then◌else◌, [], Option, Some, None, slice_get, refl}
use Rattle.std.specs.Option.{option_map_or}
use Rattle.std.proofs.Common.{ap}
use Rattle.iox_model.specs.Handles.{is_request_loan}
use Rattle.iox_model.specs.Messages.{request_way}
use Rattle.iox_lanes.specs.Lanes.{LaneState, is_full}
use Rattle.iox_tables.specs.HubStates.Tables.{HandleState, PortState, port_in}
use Rattle.iox_tables.specs.HubStates.Ways.{lane_on}
use Rattle.iox_tables.specs.HubStates.Wirings.{IsHandle}
use Rattle.iox_hub_ports.specs.Ports.{on_way, pushed_out}
use Rattle.iox_control.specs.Controls.{ControlState, IsControl, with_tables}
use Rattle.iox_control_retrieving.proofs.OneLoan.{none_by_port, nothing_waits}
use Rattle.iox_control_retrieving.specs.Alone.{HasOneLoan, has_one_out}
use Rattle.iox_control_requests.specs.Requests.{with_requests_back}
use Rattle.iox_control_requests.proofs.Emptied.{got_back, only_loan, the_port}

module _ (c : ControlState) (node n : ℕ) (h : HandleState) (order : IsControl c) (named : IsHandle c.tables node n h) (kind : is_request_loan h.kind ≡ true)
    (one : has_one_out c.tables.pools h.pool ≡ true)
  where
    -- its client has all back
    pub is_back : c ≡ with_tables c (record (with_requests_back c.tables h) { pools = c.tables.pools })
    is_back =
        got_back c node n h order named kind c
        (λ p there. (none_by_port c h.port p order there (only_loan c node n h order named kind p there one)).left)

    its_client : (p : PortState) × (port_in c.tables.ports h.port ≡ Some p)
    its_client = the_port c node n h order named kind

    its_loan : HasOneLoan c.tables its_client.0.pool
    its_loan = only_loan c node n h order named kind its_client.0 its_client.1 one

    pub none_out : (server : ℕ) → on_way pushed_out None c.tables.ports (request_way h.port server) ≡ None
    none_out server = step (lane_on c.tables.ports (request_way h.port server)) refl
      where
        out : (l : LaneState) → l.waiting ≡ [] → (full : Bool) → (if full then slice_get l.waiting 0 else None) ≡ None
        out l none true = ap (λ ks. slice_get ks 0) none
        out l none false = refl

        step : (o : Option LaneState) → lane_on c.tables.ports (request_way h.port server) ≡ o → option_map_or pushed_out o None ≡ None
        step (Some l) at =
            out l
            (nothing_waits c.tables order.order its_client.0.pool its_loan (request_way h.port server) l at
            (order.order.lanes (request_way h.port server) l its_client.0 at its_client.1).of_pool)
            (is_full l)
        step None at = refl
