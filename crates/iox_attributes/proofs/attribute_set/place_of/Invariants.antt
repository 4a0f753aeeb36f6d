use Rattle.std.proofs.Common.{◌≡◌, ◌+◌, length}
use Rattle.iox_attributes.specs.Storage.{place_of}
use Rattle.iox_attributes.proofs.attribute_set.place_of.Given as goal

-- the place among all is as far behind as the rest's place is in the rest
abbrev pub invariant-loop-first : goal.invariant-loop-first
invariant-loop-first l = record {
  place : l.place + place_of l.attribute l.rest ≡ place_of l.attribute l.pairs;
  passed : l.place + length l.rest ≡ length l.pairs;
}

abbrev pub decreases-loop-first : goal.decreases-loop-first
decreases-loop-first l = length l.rest
