use Rattle.std.proofs.Common.{◌≡◌, length}
use Rattle.iox_wire.specs.NewRefusals.{has_twice}
use Rattle.iox_wire.proofs.naming.has_twice.Given as goal

-- a number is in the rest twice exactly if it is so in all
abbrev pub invariant-loop-first : goal.invariant-loop-first
invariant-loop-first l = record { rest : has_twice l.rest ≡ has_twice l.numbers }

abbrev pub decreases-loop-first : goal.decreases-loop-first
decreases-loop-first l = length l.rest
