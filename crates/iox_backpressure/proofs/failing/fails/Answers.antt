use Rattle.std.specs.Option.{option_map}
use Rattle.std.proofs.Common.{ap, arith, sym, ◌∙◌}
use Rattle.iox_model.specs.Settings.{fails_by}
use Rattle.iox_backpressure.specs.Answers.{shown_by}
use Rattle.iox_backpressure.specs.Failing.{fails_with}
use Rattle.iox_backpressure.proofs.Answering.{fails_by_answer}
use Rattle.iox_backpressure.proofs.failing.fails.Goals as goal

pub returns-in_default : goal.returns-in_default
returns-in_default g c =
    c.fails_by_strategy.ensures
    ∙ sym (ap (λ o. fails_with (option_map (shown_by g.H.Backpressure.action) o) c.args.strategy c.args.sender c.args.receiver) c.in_default.is)

pub returns-in-FollowBackpressureStrategy : goal.returns-in-FollowBackpressureStrategy
returns-in-FollowBackpressureStrategy g c =
    c.fails_by_strategy-in-FollowBackpressureStrategy.ensures
    ∙ ap (λ a. fails_by a c.args.strategy) (sym c.in-FollowBackpressureStrategy.is)
    ∙ fails_by_answer g.H.Backpressure.action c.args.handler c.in-Some.handler c.in-Some.is c.args.strategy c.args.sender c.args.receiver (omega arith) (omega arith) c.act.result c.act.ensures

pub returns-in-DiscardData : goal.returns-in-DiscardData
returns-in-DiscardData g c =
    ap (λ a. fails_by a c.args.strategy) (sym c.in-DiscardData.is)
    ∙ fails_by_answer g.H.Backpressure.action c.args.handler c.in-Some.handler c.in-Some.is c.args.strategy c.args.sender c.args.receiver (omega arith) (omega arith) c.act.result c.act.ensures

pub returns-in-DiscardDataAndFail : goal.returns-in-DiscardDataAndFail
returns-in-DiscardDataAndFail g c =
    ap (λ a. fails_by a c.args.strategy) (sym c.in-DiscardDataAndFail.is)
    ∙ fails_by_answer g.H.Backpressure.action c.args.handler c.in-Some.handler c.in-Some.is c.args.strategy c.args.sender c.args.receiver (omega arith) (omega arith) c.act.result c.act.ensures
