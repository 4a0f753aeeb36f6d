use Rattle.std.proofs.Common.{ap, ◌∙◌, slice_set, arith}
use Rattle.iox_tables.specs.HubStates.Tables.{numbers_of}
use Rattle.iox_hub_ports.specs.InPlace.{roles_of}
use Rattle.iox_hub_ports.proofs.Keeping.{lane_at_keeps, lane_at_keeps_roles}
use Rattle.iox_hub_ports.proofs.Seats.{lane_changed_at, told_at, told_past, unchanged_past}
use Rattle.iox_hub_ports.proofs.walks.on_lane_at.Goals as goal

pub returns-then-place-len-clause-told : goal.returns-then-place-len-clause-told
returns-then-place-len-clause-told g c =
    c.on_lane.ensures.told
    ∙ told_at c.args.ports.now.items c.args.place c.args.sender c.args.lane c.index_mut.result.now (g.S.LaneStep.told c.args.step.now) (g.S.LaneStep.none c.args.step.now)
    c.requires.apart (omega (arith, c.if-place-len.true, c.len.ensures)) c.index_mut.ensures.value

pub returns-then-place-len-clause-changed : goal.returns-then-place-len-clause-changed
returns-then-place-len-clause-changed g c =
    ap (slice_set c.args.ports.now.items c.args.place) c.on_lane.ensures.changed
    ∙ lane_changed_at c.args.ports.now.items c.args.place c.args.sender c.args.lane c.index_mut.result.now (g.S.LaneStep.changed c.args.step.now)
    c.requires.apart (omega (arith, c.if-place-len.true, c.len.ensures)) c.index_mut.ensures.value

pub returns-then-place-len-clause-numbers : goal.returns-then-place-len-clause-numbers
returns-then-place-len-clause-numbers g c =
    ap numbers_of
    (ap (slice_set c.args.ports.now.items c.args.place) c.on_lane.ensures.changed
    ∙ lane_changed_at c.args.ports.now.items c.args.place c.args.sender c.args.lane c.index_mut.result.now (g.S.LaneStep.changed c.args.step.now)
    c.requires.apart (omega (arith, c.if-place-len.true, c.len.ensures)) c.index_mut.ensures.value)
    ∙ lane_at_keeps (g.S.LaneStep.changed c.args.step.now) c.args.ports.now.items c.args.place c.args.sender c.args.lane

pub returns-then-place-len-clause-roles : goal.returns-then-place-len-clause-roles
returns-then-place-len-clause-roles g c =
    ap roles_of
    (ap (slice_set c.args.ports.now.items c.args.place) c.on_lane.ensures.changed
    ∙ lane_changed_at c.args.ports.now.items c.args.place c.args.sender c.args.lane c.index_mut.result.now (g.S.LaneStep.changed c.args.step.now)
    c.requires.apart (omega (arith, c.if-place-len.true, c.len.ensures)) c.index_mut.ensures.value)
    ∙ lane_at_keeps_roles (g.S.LaneStep.changed c.args.step.now) c.args.ports.now.items c.args.place c.args.sender c.args.lane

pub returns-clause-told : goal.returns-clause-told
returns-clause-told g c =
    c.nothing.ensures
    ∙ told_past c.args.ports.now.items c.args.place c.args.sender c.args.lane (g.S.LaneStep.told c.args.step.now) (g.S.LaneStep.none c.args.step.now)
    (omega (arith, c.if-place-len.false, c.len.ensures))

pub returns-clause-changed : goal.returns-clause-changed
returns-clause-changed g c =
    unchanged_past c.args.ports.now.items c.args.place c.args.sender c.args.lane (g.S.LaneStep.changed c.args.step.now)
    (omega (arith, c.if-place-len.false, c.len.ensures))
