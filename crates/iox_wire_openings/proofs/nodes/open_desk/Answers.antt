use Rattle.std.proofs.Common.{ap, arith, get_or, map, subst, sym, ◌∙◌}
use Rattle.iox_model.specs.Maps.{has_way}
use Rattle.iox_laws.proofs.WeaveLedger.Lists.{NoRepeats}
use Rattle.iox_wire_locals.specs.declared.table.Desk.{Desk}
use Rattle.iox_wire_openings.proofs.OpenedLemmas.{from_differ, is_new}
use Rattle.iox_wire_openings.proofs.nodes.open_desk.Goals as goal

pub add_way-requires : goal.add_way-requires
add_way-requires c =
    ap (λ (d : Desk). has_way (get_or c.deref-way-items.result.now c.loop-way.way-index (record { sender = 0; receiver = 0; lane = 0 })) (map (λ r. r.way) d.recorded))
    c.loop-way.invariant.desk
    ∙ is_new c.deref-way-items.result.now
    (subst NoRepeats (sym c.loop-way.invariant.all) (from_differ c.args.plan.now c.requires c.args.port))
    c.loop-way.way-index (record { sender = 0; receiver = 0; lane = 0 }) (omega (arith, c.loop-way-test.true))
