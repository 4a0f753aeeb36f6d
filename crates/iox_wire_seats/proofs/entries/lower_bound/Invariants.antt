use Rattle.std.proofs.Common.{ℕ, ◌<◌, ◌≤◌, ◌-◌, length}
use Rattle.iox_wire_seats.specs.Rows.{number_at}
use Rattle.iox_wire_seats.proofs.entries.lower_bound.Given as goal

-- what is searched stands from low to high
abbrev pub invariant-loop-low : goal.invariant-loop-low
invariant-loop-low l = record {
  order : l.low ≤ l.high;
  within : l.high ≤ length l.entries;
  lower : (k : ℕ) → k < l.low → number_at l.entries k < l.number;
  others : (k : ℕ) → l.high ≤ k → k < length l.entries → l.number ≤ number_at l.entries k;
}

abbrev pub decreases-loop-low : goal.decreases-loop-low
decreases-loop-low l = l.high - l.low
