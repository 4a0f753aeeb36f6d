-- The loop makes the accesses of the call, one after the other.
use Rattle.std.proofs.Common.{arith, ◌∙◌}
use Rattle.iox_steps.proofs.AccessLemmas.{length-words_after}
use Rattle.iox_cell_queues.proofs.FinishLemmas.{is_within, all_made, one_more_made, last_made}
use Rattle.iox_cell_queues.proofs.whole.finish.Goals as goal

pub perform-seen-requires : goal.perform-seen-requires
perform-seen-requires g c =
    let kept = c.loop-step.invariant in
    let soon = c.requires.soon in
    is_within g.T.Words c.args.party.site soon.accesses _ _ _ _ _ _ _ kept.1 kept.0 c.access-access.ensures (kept.2 soon.accesses soon.reply soon.after soon.ends)

pub returns-in-Done : goal.returns-in-Done
returns-in-Done g c accesses reply after ends =
    let kept = c.loop-step.invariant in
    last_made g.T.Words c.args.party.site accesses _ _ _ _ _ _ _ _ _ _ _ kept.0 c.access-access.ensures c.perform-seen.ensures.seen c.perform-seen.ensures.words c.advance.ensures.1 c.advance.ensures.2
    c.in-Done.reply c.in-Done.is (kept.2 accesses reply after ends)

pub loop-step-preserved : goal.loop-step-preserved
loop-step-preserved g c =
    let kept = c.loop-step.invariant in (
      c.advance.ensures.0 ∙ kept.0,
      rw (c.perform-seen.ensures.words, length-words_after) kept.1,
      λ total reply after ends. one_more_made g.T.Words c.args.party.site total _ _ _ _ _ _ _ _ _ _ _ kept.0 c.access-access.ensures c.perform-seen.ensures.seen c.perform-seen.ensures.words c.advance.ensures.1 c.advance.ensures.2
          c.in-Going.is (kept.2 total reply after ends),
    )

pub unreachable-requires : goal.unreachable-requires
unreachable-requires g c =
    let kept = c.loop-step.invariant in
    let soon = c.requires.soon in
    let few = soon.few in
    all_made g.T.Words c.args.party.site soon.accesses c.loop-step.step _ _ _ _ (omega (arith, c.loop-step-test.false)) (kept.2 soon.accesses soon.reply soon.after soon.ends)
