use Rattle.std.proofs.Common.{◌≡◌, ℕ, ◌<◌, ◌+◌, ◌-◌, length}
use Rattle.iox_hub.specs.Fits.{carried_in}
use Rattle.iox_hub.proofs.all_words.AllWords.put.Given as goal

-- there is room for the place, and each pool has the words that it had
abbrev pub invariant-loop-self : goal.invariant-loop-self
invariant-loop-self g l =
    (l.place < l.self.room) × ((q : ℕ) → carried_in l.self.pools q ≡ carried_in l.fn.self.pools q)

abbrev pub decreases-loop-self : goal.decreases-loop-self
decreases-loop-self g l = l.place + 1 - length l.self.pools
