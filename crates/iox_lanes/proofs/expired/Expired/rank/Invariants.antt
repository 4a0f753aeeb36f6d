use Rattle.std.proofs.Common.{◌≡◌, ◌==◌, drop}
use Rattle.std.specs.List.{position_from}
use Rattle.iox_lanes.specs.Incomings.{rank_from}
use Rattle.iox_lanes.proofs.expired.Expired.rank.Given as goal

-- none of the pipes that were looked at is from the sender
abbrev pub invariant-loop-rank : goal.invariant-loop-rank
invariant-loop-rank l =
    rank_from l.fn.self.pipes l.sender ≡ position_from (λ p. p.sender == l.sender) l.rank (drop l.rank l.fn.self.pipes)
