use Rattle.std.proofs.Common.{◌≡◌, ◌==◌, List, ℕ, Some, ap, slice_get, sym, ◌∙◌}
use Rattle.iox_lanes.specs.Lanes.{LaneState}
use Rattle.iox_lanes.proofs.Counting.{at_most_one, count_more}
use Rattle.iox_lanes.proofs.lane.Lane.returned_times.Goals as goal

pub loop-rank-preserved : goal.loop-rank-preserved
loop-rank-preserved c =
    let same : c.self.inside.returned.places ≡ c.args.self.now.returned = ap (λ (s : LaneState). s.returned) c.self.view_is in
    let at : slice_get c.args.self.now.returned c.loop-rank.rank ≡ Some c.in-Some.other
    = ap (λ (xs : List ℕ). slice_get xs c.loop-rank.rank) (sym same) ∙ sym c.get.ensures ∙ c.in-Some.is in
    record {
      counted = c.counted-times.ensures ∙ count_more c.args.place c.args.self.now.returned c.loop-rank.rank c.in-Some.other c.loop-rank.times c.loop-rank.invariant.counted at;
      below = at_most_one (c.in-Some.other == c.args.place) c.loop-rank.times _ c.loop-rank.rank c.counted-times.ensures c.loop-rank.invariant.below;
    }
