use Rattle.std.proofs.Common.{◌^◌, ◌-◌, ℕ, sym, subst}
use Rattle.std.specs.Prelude.{nat_le}
use Rattle.std.specs.Bool.{OnFalse}
use Rattle.iox_wire_seats.specs.Counts.{IsBelow}
use Rattle.iox_wire_seats.proofs.CountReads.{below_limit}
use Rattle.iox_wire_seats.proofs.counts.Counts.has_as_many.Goals as goal

pub returns-clause-below : goal.returns-clause-below
returns-clause-below c =
    subst (λ (n : ℕ). OnFalse (nat_le c.args.limit n) (IsBelow (2 ^ 64 - 1) c.args.way c.args.self.now)) (sym c.count.ensures.count)
    (below_limit c.args.limit c.args.way c.args.self.now c.ranges.limit.fits c.count.ensures.apart)
