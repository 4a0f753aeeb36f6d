use Rattle.std.proofs.Common.{◌≡◌, length, ap, sym, subst, ◌∙◌, arith}
use Rattle.iox_wire_copies.specs.Targets.{AreTargets, AreWithin, servers_of}
use Rattle.iox_wire_ways.specs.RequestTargets.{target_terms}
use Rattle.iox_wire_ways.proofs.TargetLemmas.{all_servers_left, all_targets, all_targets_within, targets_with, within_with}
use Rattle.iox_wire_messages.proofs.WayCounts.{ports_fit}
use Rattle.iox_wire_ways.proofs.targets.list_targets.Goals as goal

pub returns-clause-servers : goal.returns-clause-servers
returns-clause-servers c p setting =
    let all : c.loop-index.index ≡ length c.args.map.now.ports.items =
    omega (arith, c.loop-index-test.false, c.loop-index.invariant.below, c.loop-index.invariant.size) in
    ap servers_of c.loop-index.invariant.targets
    ∙ all_servers_left c.args.map.now p c.args.seat.now.seat c.args.client c.loop-index.index c.plan.ensures.plan setting all

pub returns-clause-targets : goal.returns-clause-targets
returns-clause-targets c p loan setting port on =
    targets_with p (target_terms c.args.map.now c.args.lane c.args.terms) c.loop-index.told loan c.loop-index.targets.items c.loop-index.invariant.told
    (subst (AreTargets p (target_terms c.args.map.now c.args.lane c.args.terms) loan) (sym c.loop-index.invariant.targets)
    (all_targets c.args.map.now c.plan.ensures.plan c.args.seat.now.seat.forgot c.args.client c.args.lane c.requires.lane c.args.terms p setting loan port on c.loop-index.index))

pub returns-clause-within : goal.returns-clause-within
returns-clause-within c =
    within_with (target_terms c.args.map.now c.args.lane c.args.terms) c.loop-index.told c.loop-index.targets.items c.loop-index.invariant.told
    (subst (AreWithin (target_terms c.args.map.now c.args.lane c.args.terms)) (sym c.loop-index.invariant.targets)
    (all_targets_within c.args.map.now c.plan.ensures.plan c.args.seat.now.seat.forgot c.args.client c.args.lane c.requires.lane c.args.terms
    c.total-total.result c.loop-index.index c.total-total.ensures c.total-total.type_inv))

pub push_reserved-requires : goal.push_reserved-requires
push_reserved-requires c =
    let few = c.loop-index.invariant.few in let same = c.loop-index.invariant.list in let asked = c.requires.list in
    let low = c.loop-index-test.true in let size = c.loop-index.invariant.size in let fit = ports_fit c.args.map.now in
    omega (arith, few, same, asked, low, size, fit)

pub returns-clause-few : goal.returns-clause-few
returns-clause-few c =
    let few = c.loop-index.invariant.few in let below = c.loop-index.invariant.below in let size = c.loop-index.invariant.size in
    let fit = ports_fit c.args.map.now in let len = c.loop-index.targets.ok.0 in
    omega (arith, few, below, size, fit, len)
