use Rattle.std.proofs.Common.{◌≡◌, ◌<◌, ◌^◌, [], length, slice_index, arith, sym, ap, ◌∙◌}
use Rattle.std.proofs.lemmas.Grind.{get_or_default_zero}
use Rattle.iox_steps.proofs.AfterCalls.{played_empty}
use Rattle.iox_queue_steps.proofs.stored.queue.StoredQueue.new.Goals as goal

pub invariant_of-result : goal.invariant_of-result
invariant_of-result c =
    let room = c.requires.room in
    let inside : c.args.site.base < length c.args.words.items = omega arith in
    let at : c.index-position.result.now ≡ slice_index c.args.words.items c.args.site.base =
    c.index-position.ensures ∙ get_or_default_zero c.args.words.items c.args.site.base _ inside in
    let position : slice_index c.args.words.items c.args.site.base < 2 ^ 64 =
    omega (arith, at) in
    record {
      same = ap (λ p. p.site) c.new-2.ensures ∙ sym (ap (λ p. p.site) c.new.ensures);
      played = (
        [],
        rw (c.new.ensures, c.new-2.ensures)
            (played_empty c.args.site c.args.words.items c.requires.some room c.requires.empty position),
      );
    }
