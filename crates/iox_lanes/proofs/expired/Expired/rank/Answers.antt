use Rattle.std.proofs.Common.{ap, sym, ◌∙◌}
use Rattle.std.specs.Prelude.{slice_get}
use Rattle.iox_lanes.specs.Incomings.{IncomingState}
use Rattle.iox_lanes.proofs.Senders.{found_behind, found_here}
use Rattle.iox_lanes.proofs.expired.Expired.rank.Goals as goal

pub returns-then-sender-clause-first : goal.returns-then-sender-clause-first
returns-then-sender-clause-first c =
    sym (c.loop-rank.invariant ∙ found_here c.args.self.now.pipes c.args.sender c.loop-rank.rank c.in-Some.pipe.now
    (c.in-Some.ensures ∙ ap (λ (v : IncomingState). slice_get v.pipes c.loop-rank.rank) c.self.view_is) (sym c.sender.ensures ∙ c.if-sender.true))

pub loop-rank-preserved : goal.loop-rank-preserved
loop-rank-preserved c =
    c.loop-rank.invariant ∙ found_behind c.args.self.now.pipes c.args.sender c.loop-rank.rank c.in-Some.pipe.now
    (c.in-Some.ensures ∙ ap (λ (v : IncomingState). slice_get v.pipes c.loop-rank.rank) c.self.view_is) (λ same. c.if-sender.false (c.sender.ensures ∙ same))
