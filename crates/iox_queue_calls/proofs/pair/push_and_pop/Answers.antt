use Rattle.iox_steps.proofs.Frames.{apart_sym}
use Rattle.iox_queue_calls.proofs.ApartLemmas.{pushes_still, pops_still}
use Rattle.iox_queue_calls.proofs.pair.push_and_pop.Goals as goal

-- the second queue after the push
pub pop-out-requires : goal.pop-out-requires
pop-out-requires c = (c.queues_apart_stay.ensures _ _ c.args.second _ _ c.requires.apart c.push-said.ensures.outside c.requires.second).0

-- the first one after the pop
pub returns-clause-pushed : goal.returns-clause-pushed
returns-clause-pushed c =
    let stays = c.queues_apart_stay.ensures _ _ c.args.first _ _ (apart_sym _ _ _ _ c.requires.apart) c.pop-out.ensures.outside c.push-said.ensures.holds in
    pushes_still c.args.first.kind _ _ _ c.args.value _ stays.1 c.push-said.ensures.queue

pub returns-clause-popped : goal.returns-clause-popped
returns-clause-popped c =
    let stays = c.queues_apart_stay.ensures _ _ c.args.second _ _ c.requires.apart c.push-said.ensures.outside c.requires.second in
    pops_still _ _ _ _ stays.1 c.pop-out.ensures.queue

pub returns-clause-first : goal.returns-clause-first
returns-clause-first c =
    (c.queues_apart_stay.ensures _ _ c.args.first _ _ (apart_sym _ _ _ _ c.requires.apart) c.pop-out.ensures.outside c.push-said.ensures.holds).0
