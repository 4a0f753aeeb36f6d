use Rattle.std.proofs.Common.{None, ap, arith, length, sym, ◌∙◌}
use Rattle.std.specs.Prelude.{is_some}
use Rattle.iox_lanes.specs.Incomings.{IncomingState, rank_from}
use Rattle.iox_lanes.specs.Lanes.{without_returned}
use Rattle.iox_lanes.specs.Pipes.{PipeState, lane_to_get}
use Rattle.iox_lanes.proofs.Senders.{both_of, lane_sender, told_again}
use Rattle.iox_lanes.proofs.incoming.Incoming.get_next_at.Goals as goal

pub returns-in-Some-clause-more : goal.returns-in-Some-clause-more
returns-in-Some-clause-more c =
    both_of c.get_next.result c.get_next.ensures.got_back c.get_next.ensures.more
    (λ n is more. more ∙ ap is_some (sym (told_again lane_to_get None
    (record { most = c.self.inside.most; pipes = c.self.inside.pipes.items }) c.args.sender c.in-Some.rank c.index_mut.result.now c.get_next.new.self
    (ap (λ (v : IncomingState). rank_from v.pipes c.args.sender) c.self.view_is ∙ sym c.rank_at.ensures.first ∙ c.in-Some.is) (omega (arith, c.in-Some.ensures.within, ap (λ (v : IncomingState). length v.pipes) c.self.view_is)) c.index_mut.ensures.value
    (ap (λ (p : PipeState). p.sender) is ∙ lane_sender without_returned c.index_mut.result.now n.lane))))
