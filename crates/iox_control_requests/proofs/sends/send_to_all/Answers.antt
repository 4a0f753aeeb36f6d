use Rattle.std.proofs.Common.{subst, sym}
use Rattle.iox_tables.specs.HubStates.Ways.{lane_on}
use Rattle.iox_hub_delivering.specs.Deliveries.{HasDelivered}
use Rattle.iox_control.specs.Controls.{IsControl}
use Rattle.iox_control.specs.Entries.{handle_state}
use Rattle.iox_control_requests.specs.Requests.{ways_of}
use Rattle.iox_control_requests.proofs.Opened.{sent_is, sent_keeps}
use Rattle.iox_control_requests.proofs.Ready.{can_take_all}
use Rattle.iox_control_requests.proofs.sends.send_to_all.Goals as goal

pub open_and_deliver-count-requires-clause-lanes : goal.open_and_deliver-count-requires-clause-lanes
open_and_deliver-count-requires-clause-lanes c =
    can_take_all c.args.control.now.tables c.args.entry.node c.args.entry.number (handle_state c.args.entry) c.requires.order.order c.requires.named c.requires.kind
    c.requires.order.counted c.requires.order.buffers.requests c.requires.returned

pub returns-clause-sound : goal.returns-clause-sound
returns-clause-sound c = c.open_and_deliver-count.ensures.sound

pub returns-clause-count : goal.returns-clause-count
returns-clause-count c = c.open_and_deliver-count.ensures.count

pub returns-clause-left : goal.returns-clause-left
returns-clause-left c =
    (sent_is c.args.control.now (handle_state c.args.entry) c.args.overflow c.open_and_deliver-count.new.control c.become_pending.new.control
    c.open_and_deliver-count.result c.open_and_deliver-count.ensures.left c.open_and_deliver-count.ensures.count c.become_pending.ensures).0

pub returns-clause-holders : goal.returns-clause-holders
returns-clause-holders c =
    subst
    (HasDelivered c.args.overflow c.args.entry.slot (lane_on c.args.control.now.tables.ports) (ways_of c.args.control.now.tables (handle_state c.args.entry) c.args.overflow)
    c.args.control.now.tables.pools)
    (sym (sent_is c.args.control.now (handle_state c.args.entry) c.args.overflow c.open_and_deliver-count.new.control c.become_pending.new.control
    c.open_and_deliver-count.result c.open_and_deliver-count.ensures.left c.open_and_deliver-count.ensures.count c.become_pending.ensures).1)
    c.open_and_deliver-count.ensures.holders

pub returns-clause-order : goal.returns-clause-order
returns-clause-order c =
    subst IsControl (sym (returns-clause-left c))
    (sent_keeps c.args.control.now (handle_state c.args.entry) c.args.overflow c.args.entry.node c.args.entry.number c.requires.order c.requires.calls c.requires.named
    c.requires.kind c.become_pending.new.control.tables.pools (returns-clause-holders c))
