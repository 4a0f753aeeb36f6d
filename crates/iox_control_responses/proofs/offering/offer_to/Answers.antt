use Rattle.std.specs.Prelude.{◌≡◌, IfSome, Option, Some, is_some}
use Rattle.std.proofs.Common.{ap, subst, sym, ◌∙◌}
use Rattle.iox_lanes.specs.declared.wanted.Label.{Label}
use Rattle.iox_model.specs.Messages.{response_way}
use Rattle.iox_hub_ports.specs.Ports.{place_in}
use Rattle.iox_control.specs.Controls.{ControlState}
use Rattle.iox_control.specs.Entries.{handle_state}
use Rattle.iox_control.proofs.HeldLemmas.{handle_has_pool}
use Rattle.iox_control_responses.specs.declared.targets.Target.{Target}
use Rattle.iox_control_responses.specs.declared.responded.Responded.TheVariants.{Done, Undelivered}
use Rattle.iox_control.proofs.InPlaceLemmas.{all_apart}
use Rattle.iox_control_responses.proofs.Offered.{fails_to_send, found_then, goes_to_nobody, in_line_keeps, is_in_line, left_for, loan_counted, loan_then, nobody_waits, of_pool, only_loan, place_then, whole_for}
use Rattle.iox_control_responses.proofs.offering.offer_to.Goals as goal

pub has_one_out-alone-requires : goal.has_one_out-alone-requires
has_one_out-alone-requires c =
    handle_has_pool c.args.control.now.tables c.requires.order.order c.args.node c.args.number (handle_state c.args.entry) (sym c.requires.entry)

pub returns-in_default-clause-pools : goal.returns-in_default-clause-pools
returns-in_default-clause-pools c =
    (nobody_waits c.args.control.now c.args.node c.args.number c.requires.order c.requires.calls c.requires.response c.requires.order.buffers.responses c.args.entry c.requires.entry c.args.fails
    (response_way c.args.entry.client c.args.label.lane c.args.entry.port)
    (ap (λ (l : Label). response_way c.args.entry.client l.lane c.args.entry.port) c.requires.label)
    c.is_shut-shut.result c.is_shut-shut.ensures.shut c.is_shut-shut.ensures.sound
    (sym c.requires.awaits ∙ ap (λ (o : Option Target). is_some o) c.in_default.is) c.count.new.control c.end_loan.new.control c.count.ensures.counted
    (c.end_loan.ensures.ended _ (found_then c.args.control.now c.args.node c.args.number c.requires.order c.requires.calls c.requires.response c.requires.order.buffers.responses c.args.entry c.requires.entry c.args.fails
    (response_way c.args.entry.client c.args.label.lane c.args.entry.port)
    (ap (λ (l : Label). response_way c.args.entry.client l.lane c.args.entry.port) c.requires.label)
    c.is_shut-shut.result c.is_shut-shut.ensures.shut c.is_shut-shut.ensures.sound
    c.count.new.control (ap (λ (d : ControlState). d.tables.handles) c.count.ensures.counted)))).same

pub returns-in_default-clause-whole : goal.returns-in_default-clause-whole
returns-in_default-clause-whole c =
    whole_for c.args.control.now c.args.node c.args.number c.requires.order c.requires.calls c.requires.response c.requires.order.buffers.responses c.args.entry c.requires.entry c.args.fails
    (response_way c.args.entry.client c.args.label.lane c.args.entry.port)
    (ap (λ (l : Label). response_way c.args.entry.client l.lane c.args.entry.port) c.requires.label)
    c.is_shut-shut.result c.is_shut-shut.ensures.shut c.is_shut-shut.ensures.sound
    Done c.end_loan.new.control.tables (nobody_waits c.args.control.now c.args.node c.args.number c.requires.order c.requires.calls c.requires.response c.requires.order.buffers.responses c.args.entry c.requires.entry c.args.fails
    (response_way c.args.entry.client c.args.label.lane c.args.entry.port)
    (ap (λ (l : Label). response_way c.args.entry.client l.lane c.args.entry.port) c.requires.label)
    c.is_shut-shut.result c.is_shut-shut.ensures.shut c.is_shut-shut.ensures.sound
    (sym c.requires.awaits ∙ ap (λ (o : Option Target). is_some o) c.in_default.is) c.count.new.control c.end_loan.new.control c.count.ensures.counted
    (c.end_loan.ensures.ended _ (found_then c.args.control.now c.args.node c.args.number c.requires.order c.requires.calls c.requires.response c.requires.order.buffers.responses c.args.entry c.requires.entry c.args.fails
    (response_way c.args.entry.client c.args.label.lane c.args.entry.port)
    (ap (λ (l : Label). response_way c.args.entry.client l.lane c.args.entry.port) c.requires.label)
    c.is_shut-shut.result c.is_shut-shut.ensures.shut c.is_shut-shut.ensures.sound
    c.count.new.control (ap (λ (d : ControlState). d.tables.handles) c.count.ensures.counted))))

pub retrieve_unless-requires-clause-pool : goal.retrieve_unless-requires-clause-pool
retrieve_unless-requires-clause-pool c =
    of_pool c.args.control.now c.args.node c.args.number c.requires.order c.requires.calls c.requires.response c.requires.order.buffers.responses c.args.entry c.requires.entry c.args.fails
    (response_way c.args.entry.client c.args.label.lane c.args.entry.port)
    (ap (λ (l : Label). response_way c.args.entry.client l.lane c.args.entry.port) c.requires.label)
    c.is_shut-shut.result c.is_shut-shut.ensures.shut c.is_shut-shut.ensures.sound

pub retrieve_unless-requires-clause-alone : goal.retrieve_unless-requires-clause-alone
retrieve_unless-requires-clause-alone c alone =
    only_loan c.args.control.now c.args.node c.args.number c.requires.order c.requires.calls c.requires.response c.requires.order.buffers.responses c.args.entry c.requires.entry c.args.fails
    (response_way c.args.entry.client c.args.label.lane c.args.entry.port)
    (ap (λ (l : Label). response_way c.args.entry.client l.lane c.args.entry.port) c.requires.label)
    c.is_shut-shut.result c.is_shut-shut.ensures.shut c.is_shut-shut.ensures.sound (sym c.has_one_out-alone.ensures ∙ alone)

pub hand_over-requires-clause-loan : goal.hand_over-requires-clause-loan
hand_over-requires-clause-loan c =
    loan_then c.args.control.now c.args.node c.args.number c.requires.order c.requires.calls c.requires.response c.requires.order.buffers.responses c.args.entry c.requires.entry c.args.fails
    (response_way c.args.entry.client c.args.label.lane c.args.entry.port)
    (ap (λ (l : Label). response_way c.args.entry.client l.lane c.args.entry.port) c.requires.label)
    c.is_shut-shut.result c.is_shut-shut.ensures.shut c.is_shut-shut.ensures.sound
    (sym c.requires.awaits ∙ ap (λ (o : Option Target). is_some o) c.in-Some.is) c.retrieve_unless.new.control c.retrieve_unless.ensures.order c.retrieve_unless.ensures.left c.retrieve_unless.ensures.fewer.same

pub hand_over-requires-clause-there : goal.hand_over-requires-clause-there
hand_over-requires-clause-there c =
    place_then c.args.control.now c.args.node c.args.number c.requires.order c.requires.calls c.requires.response c.requires.order.buffers.responses c.args.entry c.requires.entry c.args.fails
    (response_way c.args.entry.client c.args.label.lane c.args.entry.port)
    (ap (λ (l : Label). response_way c.args.entry.client l.lane c.args.entry.port) c.requires.label)
    c.is_shut-shut.result c.is_shut-shut.ensures.shut c.is_shut-shut.ensures.sound
    (sym c.requires.awaits ∙ ap (λ (o : Option Target). is_some o) c.in-Some.is) c.retrieve_unless.new.control c.retrieve_unless.ensures.order c.retrieve_unless.ensures.left c.retrieve_unless.ensures.fewer.same
    c.in-Some.to.place (subst (λ (o : Option Target). IfSome o (λ (t : Target). place_in c.args.control.now.tables.ports c.args.entry.client ≡ Some t.place)) c.in-Some.is c.requires.there)

pub hand_over-requires-clause-apart : goal.hand_over-requires-clause-apart
hand_over-requires-clause-apart c = all_apart c.retrieve_unless.new.control c.retrieve_unless.ensures.order

pub returns-then-not-shut-clause-pools : goal.returns-then-not-shut-clause-pools
returns-then-not-shut-clause-pools c =
    (is_in_line c.args.control.now c.args.node c.args.number c.requires.order c.requires.calls c.requires.response c.requires.order.buffers.responses c.args.entry c.requires.entry c.args.fails
    (response_way c.args.entry.client c.args.label.lane c.args.entry.port)
    (ap (λ (l : Label). response_way c.args.entry.client l.lane c.args.entry.port) c.requires.label)
    c.is_shut-shut.result c.is_shut-shut.ensures.shut c.is_shut-shut.ensures.sound
    (sym c.requires.awaits ∙ ap (λ (o : Option Target). is_some o) c.in-Some.is) c.retrieve_unless.new.control c.retrieve_unless.ensures.order c.retrieve_unless.ensures.left c.retrieve_unless.ensures.fewer.same c.if-not-shut.true c.hand_over.new.control c.hand_over.ensures).same

pub returns-then-not-shut-clause-whole : goal.returns-then-not-shut-clause-whole
returns-then-not-shut-clause-whole c =
    whole_for c.args.control.now c.args.node c.args.number c.requires.order c.requires.calls c.requires.response c.requires.order.buffers.responses c.args.entry c.requires.entry c.args.fails
    (response_way c.args.entry.client c.args.label.lane c.args.entry.port)
    (ap (λ (l : Label). response_way c.args.entry.client l.lane c.args.entry.port) c.requires.label)
    c.is_shut-shut.result c.is_shut-shut.ensures.shut c.is_shut-shut.ensures.sound
    Done c.hand_over.new.control.tables (is_in_line c.args.control.now c.args.node c.args.number c.requires.order c.requires.calls c.requires.response c.requires.order.buffers.responses c.args.entry c.requires.entry c.args.fails
    (response_way c.args.entry.client c.args.label.lane c.args.entry.port)
    (ap (λ (l : Label). response_way c.args.entry.client l.lane c.args.entry.port) c.requires.label)
    c.is_shut-shut.result c.is_shut-shut.ensures.shut c.is_shut-shut.ensures.sound
    (sym c.requires.awaits ∙ ap (λ (o : Option Target). is_some o) c.in-Some.is) c.retrieve_unless.new.control c.retrieve_unless.ensures.order c.retrieve_unless.ensures.left c.retrieve_unless.ensures.fewer.same c.if-not-shut.true c.hand_over.new.control c.hand_over.ensures)

pub returns-then-not-shut-clause-left : goal.returns-then-not-shut-clause-left
returns-then-not-shut-clause-left c =
    left_for c.args.control.now c.args.node c.args.number c.requires.order c.requires.calls c.requires.response c.requires.order.buffers.responses c.args.entry c.requires.entry c.args.fails
    (response_way c.args.entry.client c.args.label.lane c.args.entry.port)
    (ap (λ (l : Label). response_way c.args.entry.client l.lane c.args.entry.port) c.requires.label)
    c.is_shut-shut.result c.is_shut-shut.ensures.shut c.is_shut-shut.ensures.sound
    Done c.hand_over.new.control.tables (is_in_line c.args.control.now c.args.node c.args.number c.requires.order c.requires.calls c.requires.response c.requires.order.buffers.responses c.args.entry c.requires.entry c.args.fails
    (response_way c.args.entry.client c.args.label.lane c.args.entry.port)
    (ap (λ (l : Label). response_way c.args.entry.client l.lane c.args.entry.port) c.requires.label)
    c.is_shut-shut.result c.is_shut-shut.ensures.shut c.is_shut-shut.ensures.sound
    (sym c.requires.awaits ∙ ap (λ (o : Option Target). is_some o) c.in-Some.is) c.retrieve_unless.new.control c.retrieve_unless.ensures.order c.retrieve_unless.ensures.left c.retrieve_unless.ensures.fewer.same c.if-not-shut.true c.hand_over.new.control c.hand_over.ensures)

pub returns-then-not-shut-clause-order : goal.returns-then-not-shut-clause-order
returns-then-not-shut-clause-order c =
    in_line_keeps c.args.control.now c.args.node c.args.number c.requires.order c.requires.calls c.requires.response c.requires.order.buffers.responses c.args.entry c.requires.entry c.args.fails
    (response_way c.args.entry.client c.args.label.lane c.args.entry.port)
    (ap (λ (l : Label). response_way c.args.entry.client l.lane c.args.entry.port) c.requires.label)
    c.is_shut-shut.result c.is_shut-shut.ensures.shut c.is_shut-shut.ensures.sound
    (sym c.requires.awaits ∙ ap (λ (o : Option Target). is_some o) c.in-Some.is) c.retrieve_unless.new.control c.retrieve_unless.ensures.order c.retrieve_unless.ensures.left c.retrieve_unless.ensures.fewer.same c.if-not-shut.true c.hand_over.new.control c.hand_over.ensures

pub end_loan-requires-then-fails-clause-loan : goal.end_loan-requires-then-fails-clause-loan
end_loan-requires-then-fails-clause-loan c =
    loan_then c.args.control.now c.args.node c.args.number c.requires.order c.requires.calls c.requires.response c.requires.order.buffers.responses c.args.entry c.requires.entry c.args.fails
    (response_way c.args.entry.client c.args.label.lane c.args.entry.port)
    (ap (λ (l : Label). response_way c.args.entry.client l.lane c.args.entry.port) c.requires.label)
    c.is_shut-shut.result c.is_shut-shut.ensures.shut c.is_shut-shut.ensures.sound
    (sym c.requires.awaits ∙ ap (λ (o : Option Target). is_some o) c.in-Some.is) c.retrieve_unless.new.control c.retrieve_unless.ensures.order c.retrieve_unless.ensures.left c.retrieve_unless.ensures.fewer.same

pub returns-then-fails-clause-pools : goal.returns-then-fails-clause-pools
returns-then-fails-clause-pools c =
    (fails_to_send c.args.control.now c.args.node c.args.number c.requires.order c.requires.calls c.requires.response c.requires.order.buffers.responses c.args.entry c.requires.entry c.args.fails
    (response_way c.args.entry.client c.args.label.lane c.args.entry.port)
    (ap (λ (l : Label). response_way c.args.entry.client l.lane c.args.entry.port) c.requires.label)
    c.is_shut-shut.result c.is_shut-shut.ensures.shut c.is_shut-shut.ensures.sound
    (sym c.requires.awaits ∙ ap (λ (o : Option Target). is_some o) c.in-Some.is) c.retrieve_unless.new.control c.retrieve_unless.ensures.order c.retrieve_unless.ensures.left c.retrieve_unless.ensures.fewer.same c.if-not-shut.false c.if-fails.true c.end_loan-then-fails.new.control
    (c.end_loan-then-fails.ensures.ended _ (found_then c.args.control.now c.args.node c.args.number c.requires.order c.requires.calls c.requires.response c.requires.order.buffers.responses c.args.entry c.requires.entry c.args.fails
    (response_way c.args.entry.client c.args.label.lane c.args.entry.port)
    (ap (λ (l : Label). response_way c.args.entry.client l.lane c.args.entry.port) c.requires.label)
    c.is_shut-shut.result c.is_shut-shut.ensures.shut c.is_shut-shut.ensures.sound
    c.retrieve_unless.new.control (ap (λ (d : ControlState). d.tables.handles) c.retrieve_unless.ensures.left)))).same

pub returns-then-fails-clause-whole : goal.returns-then-fails-clause-whole
returns-then-fails-clause-whole c =
    whole_for c.args.control.now c.args.node c.args.number c.requires.order c.requires.calls c.requires.response c.requires.order.buffers.responses c.args.entry c.requires.entry c.args.fails
    (response_way c.args.entry.client c.args.label.lane c.args.entry.port)
    (ap (λ (l : Label). response_way c.args.entry.client l.lane c.args.entry.port) c.requires.label)
    c.is_shut-shut.result c.is_shut-shut.ensures.shut c.is_shut-shut.ensures.sound
    Undelivered c.end_loan-then-fails.new.control.tables (fails_to_send c.args.control.now c.args.node c.args.number c.requires.order c.requires.calls c.requires.response c.requires.order.buffers.responses c.args.entry c.requires.entry c.args.fails
    (response_way c.args.entry.client c.args.label.lane c.args.entry.port)
    (ap (λ (l : Label). response_way c.args.entry.client l.lane c.args.entry.port) c.requires.label)
    c.is_shut-shut.result c.is_shut-shut.ensures.shut c.is_shut-shut.ensures.sound
    (sym c.requires.awaits ∙ ap (λ (o : Option Target). is_some o) c.in-Some.is) c.retrieve_unless.new.control c.retrieve_unless.ensures.order c.retrieve_unless.ensures.left c.retrieve_unless.ensures.fewer.same c.if-not-shut.false c.if-fails.true c.end_loan-then-fails.new.control
    (c.end_loan-then-fails.ensures.ended _ (found_then c.args.control.now c.args.node c.args.number c.requires.order c.requires.calls c.requires.response c.requires.order.buffers.responses c.args.entry c.requires.entry c.args.fails
    (response_way c.args.entry.client c.args.label.lane c.args.entry.port)
    (ap (λ (l : Label). response_way c.args.entry.client l.lane c.args.entry.port) c.requires.label)
    c.is_shut-shut.result c.is_shut-shut.ensures.shut c.is_shut-shut.ensures.sound
    c.retrieve_unless.new.control (ap (λ (d : ControlState). d.tables.handles) c.retrieve_unless.ensures.left))))

pub end_loan-requires-2-clause-loan : goal.end_loan-requires-2-clause-loan
end_loan-requires-2-clause-loan c =
    loan_counted c.args.control.now c.args.node c.args.number c.requires.order c.requires.calls c.requires.response c.requires.order.buffers.responses c.args.entry c.requires.entry c.args.fails
    (response_way c.args.entry.client c.args.label.lane c.args.entry.port)
    (ap (λ (l : Label). response_way c.args.entry.client l.lane c.args.entry.port) c.requires.label)
    c.is_shut-shut.result c.is_shut-shut.ensures.shut c.is_shut-shut.ensures.sound
    c.retrieve_unless.new.control c.count-2.new.control c.count-2.ensures.counted (loan_then c.args.control.now c.args.node c.args.number c.requires.order c.requires.calls c.requires.response c.requires.order.buffers.responses c.args.entry c.requires.entry c.args.fails
    (response_way c.args.entry.client c.args.label.lane c.args.entry.port)
    (ap (λ (l : Label). response_way c.args.entry.client l.lane c.args.entry.port) c.requires.label)
    c.is_shut-shut.result c.is_shut-shut.ensures.shut c.is_shut-shut.ensures.sound
    (sym c.requires.awaits ∙ ap (λ (o : Option Target). is_some o) c.in-Some.is) c.retrieve_unless.new.control c.retrieve_unless.ensures.order c.retrieve_unless.ensures.left c.retrieve_unless.ensures.fewer.same)

pub returns-clause-pools : goal.returns-clause-pools
returns-clause-pools c =
    (goes_to_nobody c.args.control.now c.args.node c.args.number c.requires.order c.requires.calls c.requires.response c.requires.order.buffers.responses c.args.entry c.requires.entry c.args.fails
    (response_way c.args.entry.client c.args.label.lane c.args.entry.port)
    (ap (λ (l : Label). response_way c.args.entry.client l.lane c.args.entry.port) c.requires.label)
    c.is_shut-shut.result c.is_shut-shut.ensures.shut c.is_shut-shut.ensures.sound
    (sym c.requires.awaits ∙ ap (λ (o : Option Target). is_some o) c.in-Some.is) c.retrieve_unless.new.control c.retrieve_unless.ensures.order c.retrieve_unless.ensures.left c.retrieve_unless.ensures.fewer.same c.if-not-shut.false c.if-fails.false c.count-2.new.control c.end_loan-2.new.control c.count-2.ensures.counted
    (c.end_loan-2.ensures.ended _ (found_then c.args.control.now c.args.node c.args.number c.requires.order c.requires.calls c.requires.response c.requires.order.buffers.responses c.args.entry c.requires.entry c.args.fails
    (response_way c.args.entry.client c.args.label.lane c.args.entry.port)
    (ap (λ (l : Label). response_way c.args.entry.client l.lane c.args.entry.port) c.requires.label)
    c.is_shut-shut.result c.is_shut-shut.ensures.shut c.is_shut-shut.ensures.sound
    c.count-2.new.control (ap (λ (d : ControlState). d.tables.handles) c.count-2.ensures.counted ∙ ap (λ (d : ControlState). d.tables.handles) c.retrieve_unless.ensures.left)))).same

pub returns-clause-whole : goal.returns-clause-whole
returns-clause-whole c =
    whole_for c.args.control.now c.args.node c.args.number c.requires.order c.requires.calls c.requires.response c.requires.order.buffers.responses c.args.entry c.requires.entry c.args.fails
    (response_way c.args.entry.client c.args.label.lane c.args.entry.port)
    (ap (λ (l : Label). response_way c.args.entry.client l.lane c.args.entry.port) c.requires.label)
    c.is_shut-shut.result c.is_shut-shut.ensures.shut c.is_shut-shut.ensures.sound
    Done c.end_loan-2.new.control.tables (goes_to_nobody c.args.control.now c.args.node c.args.number c.requires.order c.requires.calls c.requires.response c.requires.order.buffers.responses c.args.entry c.requires.entry c.args.fails
    (response_way c.args.entry.client c.args.label.lane c.args.entry.port)
    (ap (λ (l : Label). response_way c.args.entry.client l.lane c.args.entry.port) c.requires.label)
    c.is_shut-shut.result c.is_shut-shut.ensures.shut c.is_shut-shut.ensures.sound
    (sym c.requires.awaits ∙ ap (λ (o : Option Target). is_some o) c.in-Some.is) c.retrieve_unless.new.control c.retrieve_unless.ensures.order c.retrieve_unless.ensures.left c.retrieve_unless.ensures.fewer.same c.if-not-shut.false c.if-fails.false c.count-2.new.control c.end_loan-2.new.control c.count-2.ensures.counted
    (c.end_loan-2.ensures.ended _ (found_then c.args.control.now c.args.node c.args.number c.requires.order c.requires.calls c.requires.response c.requires.order.buffers.responses c.args.entry c.requires.entry c.args.fails
    (response_way c.args.entry.client c.args.label.lane c.args.entry.port)
    (ap (λ (l : Label). response_way c.args.entry.client l.lane c.args.entry.port) c.requires.label)
    c.is_shut-shut.result c.is_shut-shut.ensures.shut c.is_shut-shut.ensures.sound
    c.count-2.new.control (ap (λ (d : ControlState). d.tables.handles) c.count-2.ensures.counted ∙ ap (λ (d : ControlState). d.tables.handles) c.retrieve_unless.ensures.left))))
