use Rattle.std.proofs.Common.{◌≡◌, ◌<◌, ℕ, length, true, false, get_or}
use Rattle.iox_sets.proofs.mpmc.robust_unique_index_set.all_bits.Given as goal

abbrev pub invariant-loop-id : goal.invariant-loop-id
invariant-loop-id l = record {
  size : length l.bits ≡ l.count;
  set : (id : ℕ) → id < l.id → get_or l.bits id false ≡ true;
}
