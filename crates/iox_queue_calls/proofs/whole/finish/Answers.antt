-- The loop makes the accesses of the call, one after the other.
use Rattle.std.proofs.Common.{arith}
use Rattle.iox_steps.proofs.AccessLemmas.{length-words_after}
use Rattle.iox_queue_calls.proofs.FinishLemmas.{is_within, all_made, one_more_made, last_made}
use Rattle.iox_queue_calls.proofs.whole.finish.Goals as goal

pub perform-seen-requires : goal.perform-seen-requires
perform-seen-requires c =
    let kept = c.loop-step.invariant in
    let soon = c.requires.soon in
    is_within c.args.site soon.accesses _ _ _ _ _ _ kept.0 c.access-access.ensures (kept.1 soon.accesses soon.reply soon.after soon.ends)

pub returns-in-Done : goal.returns-in-Done
returns-in-Done c accesses reply after ends =
    let kept = c.loop-step.invariant in
    last_made c.args.site accesses _ _ _ _ _ _ _ _ _ _ c.access-access.ensures
    c.perform-seen.ensures.seen c.perform-seen.ensures.words c.advance.ensures.place c.advance.ensures.answer
    c.in-Done.reply c.in-Done.is (kept.1 accesses reply after ends)

pub loop-step-preserved : goal.loop-step-preserved
loop-step-preserved c =
    let kept = c.loop-step.invariant in (
      rw (c.perform-seen.ensures.words, length-words_after) kept.0,
      λ total reply after ends. one_more_made c.args.site total _ _ _ _ _ _ _ _ _ _ c.access-access.ensures
          c.perform-seen.ensures.seen c.perform-seen.ensures.words c.advance.ensures.place c.advance.ensures.answer
          c.in-Going.is (kept.1 total reply after ends),
    )

pub unreachable-requires : goal.unreachable-requires
unreachable-requires c =
    let kept = c.loop-step.invariant in
    let soon = c.requires.soon in
    let few = soon.few in
    all_made c.args.site soon.accesses c.loop-step.step _ _ _ _ (omega (arith, c.loop-step-test.false)) (kept.1 soon.accesses soon.reply soon.after soon.ends)
