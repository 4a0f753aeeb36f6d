use Rattle.std.proofs.Common.{arith}
use Rattle.iox_set_steps.proofs.unrestricted_atomic.typed_words.lay.Goals as goal

pub returns : goal.returns
returns g c = record {
  length_stays = c.loop-index.invariant.size;
  version = c.loop-index.invariant.version;
  value = λ index below. c.loop-index.invariant.value index (omega arith);
  others = c.loop-index.invariant.others;
}
