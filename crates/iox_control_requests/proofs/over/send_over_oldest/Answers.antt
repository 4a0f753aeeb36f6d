use Rattle.std.specs.Prelude.{◌≡◌, ◌-◌, ◌<◌, ◌^◌, false, length, true}
use Rattle.std.proofs.Common.{subst, sym}
use Rattle.iox_tables.specs.HubStates.Tables.{slot_at}
use Rattle.iox_hub_ports.specs.InPlace.{AllApart, in_place}
use Rattle.iox_hub_ports.specs.Known.{is_from}
use Rattle.iox_control.specs.Controls.{ControlState, IsControl}
use Rattle.iox_control.specs.Entries.{handle_state}
use Rattle.iox_control.proofs.InPlaceLemmas.{all_apart}
use Rattle.iox_control_requests.proofs.OnlySent.{counts_one, handed_only, is_sound, loan_holds, may_hold, sent_only}
use Rattle.iox_control_requests.proofs.Opened.{sent_keeps}
use Rattle.iox_control_requests.proofs.over.send_over_oldest.Goals as goal

pub become_pending_of_one-requires-clause-there : goal.become_pending_of_one-requires-clause-there
become_pending_of_one-requires-clause-there c = c.requires.named.there

pub push_on_known-requires-clause-there : goal.push_on_known-requires-clause-there
push_on_known-requires-clause-there c = subst (λ (d : ControlState). c.args.place < length d.tables.ports) (sym c.become_pending_of_one.ensures) c.requires.there

pub push_on_known-requires-clause-apart : goal.push_on_known-requires-clause-apart
push_on_known-requires-clause-apart c =
    subst (λ (d : ControlState). AllApart d.tables.ports) (sym c.become_pending_of_one.ensures) (all_apart c.args.control.now c.requires.order)

pub push_on_known-requires-clause-taken : goal.push_on_known-requires-clause-taken
push_on_known-requires-clause-taken c =
    subst (λ (d : ControlState). 0 < (slot_at d.tables.pools c.args.entry.pool c.args.entry.slot).holders) (sym c.become_pending_of_one.ensures)
    (loan_holds c.args.control.now c.args.entry.node c.args.entry.number (handle_state c.args.entry) c.args.place c.requires.order c.requires.named c.requires.kind
    c.requires.returned c.requires.only)

pub push_on_known-requires-clause-fits : goal.push_on_known-requires-clause-fits
push_on_known-requires-clause-fits c =
    subst (λ (d : ControlState). (slot_at d.tables.pools c.args.entry.pool c.args.entry.slot).holders < 2 ^ 64 - 1) (sym c.become_pending_of_one.ensures)
    (may_hold c.args.control.now c.args.entry.node c.args.entry.number (handle_state c.args.entry) c.args.place c.requires.order c.requires.named c.requires.kind
    c.requires.returned c.requires.only)

pub push_on_known-requires-clause-from : goal.push_on_known-requires-clause-from
push_on_known-requires-clause-from c =
    subst (λ (d : ControlState). in_place (is_from c.args.rank c.args.entry.port) false d.tables.ports c.args.place ≡ true)
    (sym c.become_pending_of_one.ensures) c.requires.from

pub returns-clause-sound : goal.returns-clause-sound
returns-clause-sound c =
    is_sound c.args.control.now c.args.entry.node c.args.entry.number (handle_state c.args.entry) c.args.place c.requires.order c.requires.named c.requires.kind
    c.requires.returned c.requires.only c.lane_is_sound.ensures

pub returns-clause-count : goal.returns-clause-count
returns-clause-count c =
    counts_one c.args.control.now c.args.entry.node c.args.entry.number (handle_state c.args.entry) c.args.place c.requires.order c.requires.named c.requires.kind
    c.requires.returned c.requires.only

pub returns-clause-left : goal.returns-clause-left
returns-clause-left c =
    sent_only c.args.control.now c.args.entry.node c.args.entry.number (handle_state c.args.entry) c.args.place c.requires.order c.requires.named c.requires.kind
    c.requires.returned c.requires.only c.lane_is_sound.ensures c.become_pending_of_one.new.control c.push_on_known.new.control c.become_pending_of_one.ensures c.push_on_known.ensures

pub returns-clause-holders : goal.returns-clause-holders
returns-clause-holders c =
    handed_only c.args.control.now c.args.entry.node c.args.entry.number (handle_state c.args.entry) c.args.place c.requires.order c.requires.named c.requires.kind
    c.requires.returned c.requires.only c.lane_is_sound.ensures c.become_pending_of_one.new.control c.push_on_known.new.control c.become_pending_of_one.ensures c.push_on_known.ensures

pub returns-clause-order : goal.returns-clause-order
returns-clause-order c =
    subst IsControl (sym (returns-clause-left c))
    (sent_keeps c.args.control.now (handle_state c.args.entry) true c.args.entry.node c.args.entry.number c.requires.order c.requires.calls c.requires.named
    c.requires.kind c.push_on_known.new.control.tables.pools (returns-clause-holders c))
