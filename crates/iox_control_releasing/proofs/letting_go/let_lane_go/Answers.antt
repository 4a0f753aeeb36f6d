use Rattle.std.proofs.Common.{refl, sym, ap, ◌∙◌, ◌<◌, ◌+◌, subst, length}
use Rattle.iox_lanes.specs.Lanes.{LaneState, places}
use Rattle.iox_tables.specs.HubBooks.Counts.{lane_count}
use Rattle.iox_slots.proofs.CallerLemmas.{one_at}
use Rattle.iox_control_releasing.proofs.Lanes.{lane_done, lane_goes, lane_shorter, pool_stays}
use Rattle.iox_control_releasing.proofs.Settling.{begins, let_one_go, pools_again, settled}
use Rattle.iox_control_releasing.proofs.letting_go.let_lane_go.Goals as goal

pub loop-slot-init : goal.loop-slot-init
loop-slot-init c = record {
  pool = sym c.pool-pool.ensures.pool;
  same = refl;
  settles = begins c.args.control.now.tables.pools (λ pool k. lane_count pool k c.args.lane);
}

pub loop-slot-smaller : goal.loop-slot-smaller
loop-slot-smaller c =
    subst (λ (l : LaneState). length (places l) < length (places c.loop-slot.lane)) (sym c.take_off.ensures.left)
    (lane_shorter c.loop-slot.lane c.in-Some.slot (sym c.take_off.ensures.first ∙ c.in-Some.is))

pub loop-slot-preserved : goal.loop-slot-preserved
loop-slot-preserved c = record {
  pool = ap (λ (l : LaneState). l.pool) c.take_off.ensures.left ∙ pool_stays c.loop-slot.lane ∙ c.loop-slot.invariant.pool;
  same = pools_again c.args.control.now c.loop-slot.control c.let_go.new.self _ c.loop-slot.invariant.same c.let_go.ensures.left;
  settles = let_one_go c.args.control.now c.loop-slot.control c.let_go.new.self c.pool-pool.result c.in-Some.slot
      (λ pool k. lane_count pool k c.args.lane) (λ pool k. lane_count pool k c.loop-slot.lane) (λ pool k. lane_count pool k c.take_off.new.self)
      c.loop-slot.invariant.settles c.let_go.ensures.left
      (λ pool k. lane_goes c.loop-slot.lane c.in-Some.slot pool k (sym c.take_off.ensures.first ∙ c.in-Some.is)
      ∙ ap (λ p. one_at p c.in-Some.slot pool k + lane_count pool k (Rattle.iox_lanes.specs.Lanes.without_first c.loop-slot.lane)) c.loop-slot.invariant.pool
      ∙ ap (λ l. one_at c.pool-pool.result c.in-Some.slot pool k + lane_count pool k l) (sym c.take_off.ensures.left));
}

pub returns-clause-left : goal.returns-clause-left
returns-clause-left c = c.loop-slot.invariant.same

pub returns-clause-fewer : goal.returns-clause-fewer
returns-clause-fewer c =
    settled c.args.control.now.tables.pools c.loop-slot.control.tables.pools
    (λ pool k. lane_count pool k c.args.lane) (λ pool k. lane_count pool k c.loop-slot.lane) c.loop-slot.invariant.settles
    (λ pool k. lane_done c.loop-slot.lane pool k (sym c.in_default.is ∙ c.take_off.ensures.first))
