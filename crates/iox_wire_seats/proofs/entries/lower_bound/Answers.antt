use Rattle.std.proofs.Common.{◌+◌, ◌-◌, ◌/◌}
use Rattle.iox_wire_seats.proofs.RowLemmas.{IsSearch, upper_half, lower_half, half_is_within, half_is_above}
use Rattle.iox_wire_seats.proofs.entries.lower_bound.Goals as goal

pub loop-low-preserved-then-entries-middle : goal.loop-low-preserved-then-entries-middle
loop-low-preserved-then-entries-middle c =
    let s : IsSearch c.args.number c.args.entries.now c.loop-low.low c.loop-low.high = record {
      order = c.loop-low.invariant.order;
      within = c.loop-low.invariant.within;
      lower = c.loop-low.invariant.lower;
      others = c.loop-low.invariant.others;
    } in
    let t : IsSearch c.args.number c.args.entries.now (c.loop-low.low + (c.loop-low.high - c.loop-low.low) / 2 + 1) c.loop-low.high =
    upper_half c.args.number c.args.entries.now _ _ _ _ c.requires s (half_is_above c.loop-low.low c.loop-low.high) (half_is_within c.loop-low.low c.loop-low.high c.loop-low-test.true) c.if-entries-middle.true in
    record { order = t.order; within = t.within; lower = t.lower; others = t.others }

pub loop-low-preserved : goal.loop-low-preserved
loop-low-preserved c =
    let s : IsSearch c.args.number c.args.entries.now c.loop-low.low c.loop-low.high = record {
      order = c.loop-low.invariant.order;
      within = c.loop-low.invariant.within;
      lower = c.loop-low.invariant.lower;
      others = c.loop-low.invariant.others;
    } in
    let t : IsSearch c.args.number c.args.entries.now c.loop-low.low (c.loop-low.low + (c.loop-low.high - c.loop-low.low) / 2) =
    lower_half c.args.number c.args.entries.now _ _ _ _ c.requires s (half_is_above c.loop-low.low c.loop-low.high) (half_is_within c.loop-low.low c.loop-low.high c.loop-low-test.true) c.if-entries-middle.false in
    record { order = t.order; within = t.within; lower = t.lower; others = t.others }
