use Rattle.std.proofs.Common.{◌≡◌, ◌<◌, ℕ, get_or}
use Rattle.iox_container.proofs.mpmc.container.entries.is_same_value.Given as goal

abbrev pub invariant-loop-index : goal.invariant-loop-index
invariant-loop-index g l =
    (k : ℕ) → k < l.index → get_or (g.T.Words.words l.a) k 0 ≡ get_or (g.T.Words.words l.b) k 0
