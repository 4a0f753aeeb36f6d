use Rattle.std.proofs.Common.{List, ◌++◌, ◌∷◌, [], arith, get_or, subst, sym, take}
use Rattle.iox_wire_openings.proofs.OpenedLemmas.{one_more}
use Rattle.iox_wire_weaves.specs.Wires.{WireNode}
use Rattle.iox_wire.specs.Kept.{AreOpened}
use Rattle.iox_wire.proofs.Members.{opened_more}
use Rattle.iox_wire.proofs.opening.open_members.Goals as goal

pub loop-number-preserved : goal.loop-number-preserved
loop-number-preserved c = record {
  opened = subst (λ ns. AreOpened c.args.plan.now ns c.push.new.self.items)
      (sym (one_more c.args.numbers.now c.loop-number.number-index 0 (omega (arith, c.loop-number-test.true))))
      (subst (λ (xs : List WireNode). AreOpened c.args.plan.now (take c.loop-number.number-index c.args.numbers.now ++ get_or c.args.numbers.now c.loop-number.number-index 0 ∷ []) xs)
      (sym c.in_ok-push.ensures.items)
      (opened_more c.args.plan.now (take c.loop-number.number-index c.args.numbers.now) c.loop-number.members.items
      (get_or c.args.numbers.now c.loop-number.number-index 0) c.in_ok-open_member.field-0 c.loop-number.invariant.opened c.in_ok-open_member.ensures));
}
