use Rattle.std.proofs.Common.{◌≡◌, length, subst, sym}
use Rattle.iox_tables.specs.HubStates.Changes.{OnEach, with_lanes}
use Rattle.iox_tables.specs.HubStates.Releases.{pending_states, request_of}
use Rattle.iox_tables.specs.HubStates.Sends.{with_opened}
use Rattle.iox_tables.specs.HubStates.Ways.{lane_on}
use Rattle.iox_tables.specs.HubStates.Wirings.{IsHandle}
use Rattle.iox_tables.specs.HubBooks.Keeps.{delivers}
use Rattle.iox_lanes.specs.Lanes.{IsSound}
use Rattle.iox_hub_delivering.specs.Deliveries.{HasDelivered}
use Rattle.iox_control.specs.Controls.{ControlState, with_tables}
use Rattle.iox_control.specs.Entries.{handle_state}
use Rattle.iox_control_requests.specs.Deliveries.{CanTake}
use Rattle.iox_control_requests.specs.Requests.{ways_of}
use Rattle.iox_control_requests.specs.Servers.{request_ways}
use Rattle.iox_control_requests.proofs.Opened.{count_is, delivered_is, each_stayed, each_stays, holders_are, named_then}
use Rattle.iox_control_requests.proofs.sends.open_and_deliver.Goals as goal

pub deliver_to_all-requires-clause-named : goal.deliver_to_all-requires-clause-named
deliver_to_all-requires-clause-named c =
    subst (λ (d : ControlState). IsHandle d.tables c.args.entry.node c.args.entry.number (handle_state c.args.entry)) (sym c.open_request.ensures.left)
    (named_then c.args.control.now (handle_state c.args.entry) c.args.overflow c.args.entry.node c.args.entry.number c.requires.named)

pub deliver_to_all-requires-clause-lanes : goal.deliver_to_all-requires-clause-lanes
deliver_to_all-requires-clause-lanes c =
    subst (λ (d : ControlState). OnEach (λ w l. CanTake c.args.entry.pool l) (lane_on d.tables.ports) (request_ways c.args.entry.port d.tables.ports)) (sym c.open_request.ensures.left)
    (each_stays c.args.control.now (handle_state c.args.entry) c.args.overflow (λ w l. CanTake c.args.entry.pool l) c.requires.lanes)

pub returns-then-overflow-clause-count : goal.returns-then-overflow-clause-count
returns-then-overflow-clause-count c =
    subst (λ b. c.push_to_all.result ≡ length (ways_of c.args.control.now.tables (handle_state c.args.entry) b)) (sym c.if-overflow.true) c.push_to_all.ensures.count

pub returns-then-overflow-clause-left : goal.returns-then-overflow-clause-left
returns-then-overflow-clause-left c =
    subst (λ b. c.push_to_all.new.control ≡ with_tables c.args.control.now
    (record (with_lanes (delivers b c.args.entry.slot) (with_opened c.args.control.now.tables
    (request_of c.args.control.now.tables (handle_state c.args.entry)) (pending_states c.args.control.now.tables (handle_state c.args.entry)))
    (ways_of c.args.control.now.tables (handle_state c.args.entry) b)) { pools = c.push_to_all.new.control.tables.pools }))
    (sym c.if-overflow.true) c.push_to_all.ensures.left

pub returns-then-overflow-clause-holders : goal.returns-then-overflow-clause-holders
returns-then-overflow-clause-holders c =
    subst (λ b. HasDelivered b c.args.entry.slot (lane_on c.args.control.now.tables.ports) (ways_of c.args.control.now.tables (handle_state c.args.entry) b)
    c.args.control.now.tables.pools c.push_to_all.new.control.tables.pools)
    (sym c.if-overflow.true) c.push_to_all.ensures.holders

pub returns-clause-sound : goal.returns-clause-sound
returns-clause-sound c =
    each_stayed c.args.control.now (handle_state c.args.entry) c.args.overflow (λ w l. IsSound l)
    (subst (λ (d : ControlState). OnEach (λ w l. IsSound l) (lane_on d.tables.ports) (request_ways c.args.entry.port d.tables.ports)) c.open_request.ensures.left
    c.deliver_to_all.ensures.sound)

pub returns-clause-count : goal.returns-clause-count
returns-clause-count c =
    count_is c.args.control.now (handle_state c.args.entry) c.args.overflow c.open_request.new.control c.deliver_to_all.result c.open_request.ensures.left c.deliver_to_all.ensures.count

pub returns-clause-left : goal.returns-clause-left
returns-clause-left c =
    delivered_is c.args.control.now (handle_state c.args.entry) c.args.overflow c.open_request.new.control c.deliver_to_all.new.control c.open_request.ensures.left c.deliver_to_all.ensures.left

pub returns-clause-holders : goal.returns-clause-holders
returns-clause-holders c =
    holders_are c.args.control.now (handle_state c.args.entry) c.args.overflow c.open_request.new.control c.deliver_to_all.new.control c.open_request.ensures.left c.deliver_to_all.ensures.holders
