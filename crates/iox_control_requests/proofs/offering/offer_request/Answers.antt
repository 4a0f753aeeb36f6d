use Rattle.std.proofs.Common.{ap, sym, ◌∙◌}
use Rattle.iox_tables.specs.HubStates.Tables.{HubSettings}
use Rattle.iox_control.specs.Entries.{handle_state}
use Rattle.iox_control_requests.specs.declared.requested.Requested.TheVariants.{To, ExceedsMaxActiveRequests, UnableToDeliver}
use Rattle.iox_control_requests.proofs.Offered.{ended_bare, is_lost_so, is_sent_so, is_spent_so, left_for, named_so, whole_for}
use Rattle.iox_control_requests.proofs.offering.offer_request.Goals as goal

pub attempt-requires-clause-named : goal.attempt-requires-clause-named
attempt-requires-clause-named g c =
    named_so c.args.control.now c.args.node c.args.number c.requires.order c.requires.calls c.requires.request c.args.entry c.requires.entry (g.B.WhenFull.fails c.args.backpressure.now)

-- ---- its client may send no more

pub returns-then-is_spent-clause-left : goal.returns-then-is_spent-clause-left
returns-then-is_spent-clause-left g c =
    left_for c.args.control.now c.args.node c.args.number c.requires.order c.requires.calls c.requires.request c.args.entry c.requires.entry (g.B.WhenFull.fails c.args.backpressure.now) ExceedsMaxActiveRequests c.end_loan.new.control.tables
    (is_spent_so c.args.control.now c.args.node c.args.number c.requires.order c.requires.calls c.requires.request c.args.entry c.requires.entry (g.B.WhenFull.fails c.args.backpressure.now) (sym c.is_spent.ensures ∙ c.if-is_spent.true) c.end_loan.new.control
    (c.end_loan.ensures.ended (handle_state c.args.entry) (sym c.requires.entry)))

pub returns-then-is_spent-clause-pools : goal.returns-then-is_spent-clause-pools
returns-then-is_spent-clause-pools g c =
    ended_bare c.args.control.now c.end_loan.new.control c.args.node c.args.number (handle_state c.args.entry)
    (c.end_loan.ensures.ended (handle_state c.args.entry) (sym c.requires.entry))

pub returns-then-is_spent-clause-whole : goal.returns-then-is_spent-clause-whole
returns-then-is_spent-clause-whole g c =
    whole_for c.args.control.now c.args.node c.args.number c.requires.order c.requires.calls c.requires.request c.args.entry c.requires.entry (g.B.WhenFull.fails c.args.backpressure.now) ExceedsMaxActiveRequests c.end_loan.new.control.tables
    (is_spent_so c.args.control.now c.args.node c.args.number c.requires.order c.requires.calls c.requires.request c.args.entry c.requires.entry (g.B.WhenFull.fails c.args.backpressure.now) (sym c.is_spent.ensures ∙ c.if-is_spent.true) c.end_loan.new.control
    (c.end_loan.ensures.ended (handle_state c.args.entry) (sym c.requires.entry)))

-- ---- it is sent

pub returns-in-Some-clause-whole : goal.returns-in-Some-clause-whole
returns-in-Some-clause-whole g c =
    whole_for c.args.control.now c.args.node c.args.number c.requires.order c.requires.calls c.requires.request c.args.entry c.requires.entry (g.B.WhenFull.fails c.args.backpressure.now) (To c.in-Some.count) c.attempt.new.control.tables
    (is_sent_so c.args.control.now c.args.node c.args.number c.requires.order c.requires.calls c.requires.request c.args.entry c.requires.entry (g.B.WhenFull.fails c.args.backpressure.now)
    (sym c.is_spent.ensures ∙ c.if-is_spent.false) c.settings-overflow.result.request_overflow (ap (λ (s : HubSettings). s.request_overflow) c.settings-overflow.ensures)
    c.attempt.result c.attempt.new.control.tables c.attempt.ensures.fails c.attempt.ensures.messages
    c.in-Some.count c.in-Some.is (c.attempt.ensures.count c.in-Some.count c.in-Some.is)
    (c.attempt.ensures.sent c.in-Some.count c.in-Some.is) (c.attempt.ensures.waits c.in-Some.count c.in-Some.is))

-- ---- it is lost

pub returns-in-None-clause-left : goal.returns-in-None-clause-left
returns-in-None-clause-left g c =
    left_for c.args.control.now c.args.node c.args.number c.requires.order c.requires.calls c.requires.request c.args.entry c.requires.entry (g.B.WhenFull.fails c.args.backpressure.now) UnableToDeliver c.attempt.new.control.tables
    (is_lost_so c.args.control.now c.args.node c.args.number c.requires.order c.requires.calls c.requires.request c.args.entry c.requires.entry (g.B.WhenFull.fails c.args.backpressure.now)
    (sym c.is_spent.ensures ∙ c.if-is_spent.false) c.settings-overflow.result.request_overflow (ap (λ (s : HubSettings). s.request_overflow) c.settings-overflow.ensures)
    c.attempt.result c.attempt.new.control.tables c.attempt.ensures.fails c.attempt.ensures.messages
    c.in-None.is (c.attempt.ensures.failed c.in-None.is))

pub returns-in-None-clause-whole : goal.returns-in-None-clause-whole
returns-in-None-clause-whole g c =
    whole_for c.args.control.now c.args.node c.args.number c.requires.order c.requires.calls c.requires.request c.args.entry c.requires.entry (g.B.WhenFull.fails c.args.backpressure.now) UnableToDeliver c.attempt.new.control.tables
    (is_lost_so c.args.control.now c.args.node c.args.number c.requires.order c.requires.calls c.requires.request c.args.entry c.requires.entry (g.B.WhenFull.fails c.args.backpressure.now)
    (sym c.is_spent.ensures ∙ c.if-is_spent.false) c.settings-overflow.result.request_overflow (ap (λ (s : HubSettings). s.request_overflow) c.settings-overflow.ensures)
    c.attempt.result c.attempt.new.control.tables c.attempt.ensures.fails c.attempt.ensures.messages
    c.in-None.is (c.attempt.ensures.failed c.in-None.is))
