use Rattle.std.proofs.Common.{ap, arith, refl, sym, ◌∙◌}
use Rattle.std.specs.Prelude.{false, true}
use Rattle.iox_tables.specs.HubStates.Tables.{HubSettings}
use Rattle.iox_control_copies.specs.LoanRefusal.TheVariants.{CallsSpent}
use Rattle.iox_control_request_copies.specs.declared.copied.Copied.TheVariants.{Refused, ExceedsMaxActiveRequests, UnableToDeliver}
use Rattle.iox_control_request_copies.specs.Copies.{to_fill}
use Rattle.iox_control_request_copies.proofs.Left.{active_is, asked_filled, calls_spent, fails_is, lost_so, lost_waits, sent_so}
use Rattle.iox_control_request_copies.proofs.Whole.{copies_whole}
use Rattle.iox_control_request_copies.proofs.copying.copy_request.Goals as goal

-- ---- as many calls as may be are counted

pub returns-then-calls-clause-whole : goal.returns-then-calls-clause-whole
returns-then-calls-clause-whole g c x q asked failure role elements =
    copies_whole x c.args.control.now c.args.node c.args.client q (to_fill c.args.asked) c.requires.order c.requires.client role elements (asked_filled x.request c.args.asked asked) refl
    (g.B.WhenFull.fails c.args.backpressure.now) failure (Refused CallsSpent) c.args.control.now
    (calls_spent c.args.control.now c.args.client (to_fill c.args.asked) (g.B.WhenFull.fails c.args.backpressure.now) c.requires.order (omega (arith, c.if-calls.true, c.calls.ensures)) c.requires.client.port)
    tt

-- ---- the client may send no more

pub returns-in-Some-clause-left : goal.returns-in-Some-clause-left
returns-in-Some-clause-left g c p at =
    lost_so c.args.control.now c.args.client (to_fill c.args.asked) (g.B.WhenFull.fails c.args.backpressure.now) c.requires.order c.in-Some.refused c.lose.new.control p (c.in-Some.ensures.left p at)

pub returns-in-Some-clause-whole : goal.returns-in-Some-clause-whole
returns-in-Some-clause-whole g c x q asked failure role elements =
    copies_whole x c.args.control.now c.args.node c.args.client q (to_fill c.args.asked) c.requires.order c.requires.client role elements (asked_filled x.request c.args.asked asked) refl
    (g.B.WhenFull.fails c.args.backpressure.now) failure c.in-Some.refused c.lose.new.control
    (returns-in-Some-clause-left g c c.requires.client.port c.requires.client.there)
    (lost_waits c.args.control.now c.args.client (to_fill c.args.asked) (g.B.WhenFull.fails c.args.backpressure.now) c.requires.order c.in-Some.refused c.lose.new.control c.requires.client.port (c.in-Some.ensures.left c.requires.client.port c.requires.client.there))

pub returns-in-None-clause-left : goal.returns-in-None-clause-left
returns-in-None-clause-left g c p at =
    (active_is c.args.control.now c.args.client (to_fill c.args.asked) (g.B.WhenFull.fails c.args.backpressure.now) c.requires.order true (sym c.has_all_active.ensures ∙ c.if-has_all_active.true) p at, c.in-None.ensures.left p at)

pub returns-in-None-clause-whole : goal.returns-in-None-clause-whole
returns-in-None-clause-whole g c x q asked failure role elements =
    copies_whole x c.args.control.now c.args.node c.args.client q (to_fill c.args.asked) c.requires.order c.requires.client role elements (asked_filled x.request c.args.asked asked) refl
    (g.B.WhenFull.fails c.args.backpressure.now) failure ExceedsMaxActiveRequests c.lose.new.control
    (returns-in-None-clause-left g c c.requires.client.port c.requires.client.there)
    tt

-- ---- a server may not take it

pub returns-in-Some-lose-clause-left : goal.returns-in-Some-lose-clause-left
returns-in-Some-lose-clause-left g c p at =
    lost_so c.args.control.now c.args.client (to_fill c.args.asked) (g.B.WhenFull.fails c.args.backpressure.now) c.requires.order c.in-Some-lose.refused c.lose-then-is_failing.new.control p (c.in-Some-lose.ensures.left p at)

pub returns-in-Some-lose-clause-whole : goal.returns-in-Some-lose-clause-whole
returns-in-Some-lose-clause-whole g c x q asked failure role elements =
    copies_whole x c.args.control.now c.args.node c.args.client q (to_fill c.args.asked) c.requires.order c.requires.client role elements (asked_filled x.request c.args.asked asked) refl
    (g.B.WhenFull.fails c.args.backpressure.now) failure c.in-Some-lose.refused c.lose-then-is_failing.new.control
    (returns-in-Some-lose-clause-left g c c.requires.client.port c.requires.client.there)
    (lost_waits c.args.control.now c.args.client (to_fill c.args.asked) (g.B.WhenFull.fails c.args.backpressure.now) c.requires.order c.in-Some-lose.refused c.lose-then-is_failing.new.control c.requires.client.port (c.in-Some-lose.ensures.left c.requires.client.port c.requires.client.there))

pub returns-in-None-lose-clause-left : goal.returns-in-None-lose-clause-left
returns-in-None-lose-clause-left g c p at = (
  active_is c.args.control.now c.args.client (to_fill c.args.asked) (g.B.WhenFull.fails c.args.backpressure.now) c.requires.order false (sym c.has_all_active.ensures ∙ c.if-has_all_active.false) p at,
  fails_is c.args.control.now c.args.client (to_fill c.args.asked) (g.B.WhenFull.fails c.args.backpressure.now) c.requires.order true (sym c.is_failing.ensures ∙ c.if-is_failing.true) p at,
  c.in-None-lose.ensures.left p at,
)

pub returns-in-None-lose-clause-whole : goal.returns-in-None-lose-clause-whole
returns-in-None-lose-clause-whole g c x q asked failure role elements =
    copies_whole x c.args.control.now c.args.node c.args.client q (to_fill c.args.asked) c.requires.order c.requires.client role elements (asked_filled x.request c.args.asked asked) refl
    (g.B.WhenFull.fails c.args.backpressure.now) failure UnableToDeliver c.lose-then-is_failing.new.control
    (returns-in-None-lose-clause-left g c c.requires.client.port c.requires.client.there)
    tt

-- ---- it is sent

pub returns-clause-left : goal.returns-clause-left
returns-clause-left g c p at =
    sent_so c.args.control.now c.args.client (to_fill c.args.asked) (g.B.WhenFull.fails c.args.backpressure.now) c.requires.order c.lend_and_send.result c.lend_and_send.new.control p c.settings-overflow.result.request_overflow (ap (λ (s : HubSettings). s.request_overflow) c.settings-overflow.ensures)
    (active_is c.args.control.now c.args.client (to_fill c.args.asked) (g.B.WhenFull.fails c.args.backpressure.now) c.requires.order false (sym c.has_all_active.ensures ∙ c.if-has_all_active.false) p at)
    (fails_is c.args.control.now c.args.client (to_fill c.args.asked) (g.B.WhenFull.fails c.args.backpressure.now) c.requires.order false (sym c.is_failing.ensures ∙ c.if-is_failing.false) p at)
    (c.lend_and_send.ensures.left p at)

pub returns-clause-whole : goal.returns-clause-whole
returns-clause-whole g c x q asked failure role elements =
    copies_whole x c.args.control.now c.args.node c.args.client q (to_fill c.args.asked) c.requires.order c.requires.client role elements (asked_filled x.request c.args.asked asked) refl
    (g.B.WhenFull.fails c.args.backpressure.now) failure c.lend_and_send.result c.lend_and_send.new.control
    (returns-clause-left g c c.requires.client.port c.requires.client.there)
    c.lend_and_send.ensures.waits
