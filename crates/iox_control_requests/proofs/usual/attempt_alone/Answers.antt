use Rattle.std.proofs.Common.{refl, true}
use Rattle.iox_control.specs.Entries.{handle_state}
use Rattle.iox_control_requests.proofs.Emptied.{calls_then, counts_then, nothing_returned, sent_then, waits_then}
use Rattle.iox_control_requests.proofs.UsualWay.{is_back, none_out}
use Rattle.iox_control_requests.proofs.usual.attempt_alone.Goals as goal

pub send_to_only-requires-clause-calls : goal.send_to_only-requires-clause-calls
send_to_only-requires-clause-calls c =
    calls_then c.args.control.now c.args.entry.node c.args.entry.number (handle_state c.args.entry) c.requires.order c.requires.named c.requires.kind
    c.args.control.now (is_back c.args.control.now c.args.entry.node c.args.entry.number (handle_state c.args.entry) c.requires.order c.requires.named c.requires.kind c.requires.alone) c.requires.calls

pub send_to_only-requires-clause-returned : goal.send_to_only-requires-clause-returned
send_to_only-requires-clause-returned c =
    nothing_returned c.args.control.now c.args.entry.node c.args.entry.number (handle_state c.args.entry) c.requires.order c.requires.named c.requires.kind
    c.args.control.now (is_back c.args.control.now c.args.entry.node c.args.entry.number (handle_state c.args.entry) c.requires.order c.requires.named c.requires.kind c.requires.alone)

pub send_to_only-requires-clause-none : goal.send_to_only-requires-clause-none
send_to_only-requires-clause-none c p there =
    none_out c.args.control.now c.args.entry.node c.args.entry.number (handle_state c.args.entry) c.requires.order c.requires.named c.requires.kind c.requires.alone p.number

pub returns-clause-count : goal.returns-clause-count
returns-clause-count c =
    counts_then c.args.control.now c.args.entry.node c.args.entry.number (handle_state c.args.entry) c.requires.order c.requires.named c.requires.kind
    c.args.control.now (is_back c.args.control.now c.args.entry.node c.args.entry.number (handle_state c.args.entry) c.requires.order c.requires.named c.requires.kind c.requires.alone) true 1 1 c.send_to_only.ensures.count refl

pub returns-clause-sent : goal.returns-clause-sent
returns-clause-sent c =
    sent_then c.args.control.now c.args.entry.node c.args.entry.number (handle_state c.args.entry) c.requires.order c.requires.named c.requires.kind
    c.args.control.now (is_back c.args.control.now c.args.entry.node c.args.entry.number (handle_state c.args.entry) c.requires.order c.requires.named c.requires.kind c.requires.alone) true c.send_to_only.new.control refl c.send_to_only.ensures.left

pub returns-clause-waits : goal.returns-clause-waits
returns-clause-waits c =
    waits_then c.args.control.now c.args.entry.node c.args.entry.number (handle_state c.args.entry) c.requires.order c.requires.named c.requires.kind
    c.args.control.now (is_back c.args.control.now c.args.entry.node c.args.entry.number (handle_state c.args.entry) c.requires.order c.requires.named c.requires.kind c.requires.alone) c.send_to_only.ensures.sound

pub returns-clause-messages : goal.returns-clause-messages
returns-clause-messages c = c.send_to_only.ensures.holders.same
