use Rattle.std.proofs.Common.{◌∙◌, false, sym, true}
use Rattle.std.proofs.lemmas.Option.{same_Some}
use Rattle.iox_control.specs.Entries.{handle_state}
use Rattle.iox_control.proofs.HeldLemmas.{handle_has_pool, handle_has_slot}
use Rattle.iox_control_requests.proofs.Emptied.{calls_then, counts_then, ended_bare, ended_is, fails_then, got_back, is_loan_then, labels_same, nothing_returned, only_loan, sent_then, still_named, the_port, waits_then}
use Rattle.iox_control_requests.proofs.attempts.attempt.Goals as goal

pub label_of-label-requires : goal.label_of-label-requires
label_of-label-requires g c =
    handle_has_slot c.args.control.now.tables c.requires.order.order c.args.entry.node c.args.entry.number (handle_state c.args.entry) c.requires.named.there

pub has_one_out-alone-requires : goal.has_one_out-alone-requires
has_one_out-alone-requires g c =
    handle_has_pool c.args.control.now.tables c.requires.order.order c.args.entry.node c.args.entry.number (handle_state c.args.entry) c.requires.named.there

pub retrieve_all_unless-requires-clause-there : goal.retrieve_all_unless-requires-clause-there
retrieve_all_unless-requires-clause-there g c =
    the_port c.args.control.now c.args.entry.node c.args.entry.number (handle_state c.args.entry) c.requires.order c.requires.named c.requires.kind

pub retrieve_all_unless-requires-clause-alone : goal.retrieve_all_unless-requires-clause-alone
retrieve_all_unless-requires-clause-alone g c p there alone =
    only_loan c.args.control.now c.args.entry.node c.args.entry.number (handle_state c.args.entry) c.requires.order c.requires.named c.requires.kind p there
    (sym c.has_one_out-alone.ensures ∙ alone)

pub end_loan-requires-clause-loan : goal.end_loan-requires-clause-loan
end_loan-requires-clause-loan g c =
    is_loan_then c.args.control.now c.args.entry.node c.args.entry.number (handle_state c.args.entry) c.requires.order c.requires.named c.requires.kind c.retrieve_all_unless.new.control (got_back c.args.control.now c.args.entry.node c.args.entry.number (handle_state c.args.entry) c.requires.order c.requires.named c.requires.kind c.retrieve_all_unless.new.control c.retrieve_all_unless.ensures.left)

pub returns-then-is_to_fail-clause-fails : goal.returns-then-is_to_fail-clause-fails
returns-then-is_to_fail-clause-fails g c =
    fails_then c.args.control.now c.args.entry.node c.args.entry.number (handle_state c.args.entry) c.requires.order c.requires.named c.requires.kind c.retrieve_all_unless.new.control (got_back c.args.control.now c.args.entry.node c.args.entry.number (handle_state c.args.entry) c.requires.order c.requires.named c.requires.kind c.retrieve_all_unless.new.control c.retrieve_all_unless.ensures.left) (g.B.WhenFull.fails c.args.backpressure.now) c.args.overflow true c.is_to_fail.result c.is_to_fail.ensures c.if-is_to_fail.true

pub returns-then-is_to_fail-clause-failed : goal.returns-then-is_to_fail-clause-failed
returns-then-is_to_fail-clause-failed g c none =
    ended_is c.args.control.now c.args.entry.node c.args.entry.number (handle_state c.args.entry) c.requires.order c.requires.named c.requires.kind c.retrieve_all_unless.new.control (got_back c.args.control.now c.args.entry.node c.args.entry.number (handle_state c.args.entry) c.requires.order c.requires.named c.requires.kind c.retrieve_all_unless.new.control c.retrieve_all_unless.ensures.left) c.end_loan.new.control (c.end_loan.ensures.ended (handle_state c.args.entry) (still_named c.args.control.now c.args.entry.node c.args.entry.number (handle_state c.args.entry) c.requires.order c.requires.named c.requires.kind c.retrieve_all_unless.new.control (got_back c.args.control.now c.args.entry.node c.args.entry.number (handle_state c.args.entry) c.requires.order c.requires.named c.requires.kind c.retrieve_all_unless.new.control c.retrieve_all_unless.ensures.left)).there)

pub returns-then-is_to_fail-clause-messages : goal.returns-then-is_to_fail-clause-messages
returns-then-is_to_fail-clause-messages g c =
    (c.retrieve_all_unless.ensures.back (the_port c.args.control.now c.args.entry.node c.args.entry.number (handle_state c.args.entry) c.requires.order c.requires.named c.requires.kind).0 (the_port c.args.control.now c.args.entry.node c.args.entry.number (handle_state c.args.entry) c.requires.order c.requires.named c.requires.kind).1).same
    ∙ ended_bare c.args.control.now c.args.entry.node c.args.entry.number (handle_state c.args.entry) c.requires.order c.requires.named c.requires.kind c.retrieve_all_unless.new.control (got_back c.args.control.now c.args.entry.node c.args.entry.number (handle_state c.args.entry) c.requires.order c.requires.named c.requires.kind c.retrieve_all_unless.new.control c.retrieve_all_unless.ensures.left) c.end_loan.new.control (c.end_loan.ensures.ended (handle_state c.args.entry) (still_named c.args.control.now c.args.entry.node c.args.entry.number (handle_state c.args.entry) c.requires.order c.requires.named c.requires.kind c.retrieve_all_unless.new.control (got_back c.args.control.now c.args.entry.node c.args.entry.number (handle_state c.args.entry) c.requires.order c.requires.named c.requires.kind c.retrieve_all_unless.new.control c.retrieve_all_unless.ensures.left)).there)

pub send_to_all-requires-clause-calls : goal.send_to_all-requires-clause-calls
send_to_all-requires-clause-calls g c =
    calls_then c.args.control.now c.args.entry.node c.args.entry.number (handle_state c.args.entry) c.requires.order c.requires.named c.requires.kind c.retrieve_all_unless.new.control (got_back c.args.control.now c.args.entry.node c.args.entry.number (handle_state c.args.entry) c.requires.order c.requires.named c.requires.kind c.retrieve_all_unless.new.control c.retrieve_all_unless.ensures.left) c.requires.calls

pub send_to_all-requires-clause-named : goal.send_to_all-requires-clause-named
send_to_all-requires-clause-named g c =
    still_named c.args.control.now c.args.entry.node c.args.entry.number (handle_state c.args.entry) c.requires.order c.requires.named c.requires.kind c.retrieve_all_unless.new.control (got_back c.args.control.now c.args.entry.node c.args.entry.number (handle_state c.args.entry) c.requires.order c.requires.named c.requires.kind c.retrieve_all_unless.new.control c.retrieve_all_unless.ensures.left)

pub send_to_all-requires-clause-label : goal.send_to_all-requires-clause-label
send_to_all-requires-clause-label g c =
    c.label_of-label.ensures
    ∙ labels_same c.args.control.now.tables.pools c.retrieve_all_unless.new.control.tables.pools c.args.entry.pool c.args.entry.slot
    (c.retrieve_all_unless.ensures.back (the_port c.args.control.now c.args.entry.node c.args.entry.number (handle_state c.args.entry) c.requires.order c.requires.named c.requires.kind).0 (the_port c.args.control.now c.args.entry.node c.args.entry.number (handle_state c.args.entry) c.requires.order c.requires.named c.requires.kind).1).same

pub send_to_all-requires-clause-returned : goal.send_to_all-requires-clause-returned
send_to_all-requires-clause-returned g c =
    nothing_returned c.args.control.now c.args.entry.node c.args.entry.number (handle_state c.args.entry) c.requires.order c.requires.named c.requires.kind c.retrieve_all_unless.new.control (got_back c.args.control.now c.args.entry.node c.args.entry.number (handle_state c.args.entry) c.requires.order c.requires.named c.requires.kind c.retrieve_all_unless.new.control c.retrieve_all_unless.ensures.left)

pub returns-clause-fails : goal.returns-clause-fails
returns-clause-fails g c =
    fails_then c.args.control.now c.args.entry.node c.args.entry.number (handle_state c.args.entry) c.requires.order c.requires.named c.requires.kind c.retrieve_all_unless.new.control (got_back c.args.control.now c.args.entry.node c.args.entry.number (handle_state c.args.entry) c.requires.order c.requires.named c.requires.kind c.retrieve_all_unless.new.control c.retrieve_all_unless.ensures.left) (g.B.WhenFull.fails c.args.backpressure.now) c.args.overflow false c.is_to_fail.result c.is_to_fail.ensures c.if-is_to_fail.false

pub returns-clause-count : goal.returns-clause-count
returns-clause-count g c count same =
    counts_then c.args.control.now c.args.entry.node c.args.entry.number (handle_state c.args.entry) c.requires.order c.requires.named c.requires.kind c.retrieve_all_unless.new.control (got_back c.args.control.now c.args.entry.node c.args.entry.number (handle_state c.args.entry) c.requires.order c.requires.named c.requires.kind c.retrieve_all_unless.new.control c.retrieve_all_unless.ensures.left) c.args.overflow c.send_to_all.result count c.send_to_all.ensures.count (same_Some _ count same)

pub returns-clause-sent : goal.returns-clause-sent
returns-clause-sent g c count same =
    sent_then c.args.control.now c.args.entry.node c.args.entry.number (handle_state c.args.entry) c.requires.order c.requires.named c.requires.kind c.retrieve_all_unless.new.control (got_back c.args.control.now c.args.entry.node c.args.entry.number (handle_state c.args.entry) c.requires.order c.requires.named c.requires.kind c.retrieve_all_unless.new.control c.retrieve_all_unless.ensures.left) c.args.overflow c.send_to_all.new.control (c.retrieve_all_unless.ensures.back (the_port c.args.control.now c.args.entry.node c.args.entry.number (handle_state c.args.entry) c.requires.order c.requires.named c.requires.kind).0 (the_port c.args.control.now c.args.entry.node c.args.entry.number (handle_state c.args.entry) c.requires.order c.requires.named c.requires.kind).1).same c.send_to_all.ensures.left

pub returns-clause-waits : goal.returns-clause-waits
returns-clause-waits g c count same =
    waits_then c.args.control.now c.args.entry.node c.args.entry.number (handle_state c.args.entry) c.requires.order c.requires.named c.requires.kind c.retrieve_all_unless.new.control (got_back c.args.control.now c.args.entry.node c.args.entry.number (handle_state c.args.entry) c.requires.order c.requires.named c.requires.kind c.retrieve_all_unless.new.control c.retrieve_all_unless.ensures.left) c.send_to_all.ensures.sound

pub returns-clause-messages : goal.returns-clause-messages
returns-clause-messages g c =
    (c.retrieve_all_unless.ensures.back (the_port c.args.control.now c.args.entry.node c.args.entry.number (handle_state c.args.entry) c.requires.order c.requires.named c.requires.kind).0 (the_port c.args.control.now c.args.entry.node c.args.entry.number (handle_state c.args.entry) c.requires.order c.requires.named c.requires.kind).1).same ∙ c.send_to_all.ensures.holders.same
