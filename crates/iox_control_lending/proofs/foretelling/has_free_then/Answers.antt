use Rattle.std.proofs.Common.{◌-◌, ℕ, ap, arith, length, sym, true≢false, ◌∙◌}
use Rattle.std.specs.Prelude.{slice_get}
use Rattle.iox_tables.specs.HubStates.Tables.{slots_of}
use Rattle.iox_tables.specs.HubLending.Emptying.{returned_on}
use Rattle.iox_tables.specs.HubLoans.Lenders.{ways_by}
use Rattle.iox_control_lending.proofs.Foretold.{free_told, left_is, left_more, never_told, slot_within}
use Rattle.iox_control_lending.proofs.foretelling.has_free_then.Goals as goal

pub loop-slot-init : goal.loop-slot-init
loop-slot-init c = record {
  none = λ k low. absurd (omega (arith, low));
  size = c.len-slot-end.ensures ∙ ap (λ ps. length (slots_of ps c.args.port.now.pool)) c.pools-pools.ensures;
}

pub unreachable-requires : goal.unreachable-requires
unreachable-requires c =
    slot_within (slots_of c.args.control.now.tables.pools c.args.port.now.pool) c.loop-slot.slot (omega (arith, c.loop-slot-test.true, c.loop-slot.invariant.size))
    (sym (c.in_default.ensures ∙ ap (λ ps. slice_get (slots_of ps c.args.port.now.pool) c.loop-slot.slot) c.pools-pools.ensures))

pub returns-then-left_then-eq0-clause-some : goal.returns-then-left_then-eq0-clause-some
returns-then-left_then-eq0-clause-some c is p there =
    free_told c.args.control.now.tables c.requires.order.order c.args.port.now c.requires.said p there c.loop-slot.slot c.left_then.result
    (omega (arith, c.loop-slot-test.true, c.loop-slot.invariant.size))
    (left_is c.args.control.now.tables c.requires.order.order c.args.port.now c.requires.said c.loop-slot.slot c.left_then.result c.in-Some.of
    (c.in-Some.ensures ∙ ap (λ ps. slice_get (slots_of ps c.args.port.now.pool) c.loop-slot.slot) c.pools-pools.ensures)
    (c.left_then.ensures
    ∙ ap
    (λ (h : ℕ). h - returned_on c.args.control.now.tables (ways_by c.args.port.now.role c.args.control.now.tables c.args.port.now.number) c.args.port.now.pool c.loop-slot.slot)
    c.holders.ensures))
    c.if-left_then-eq0.true

pub returns-then-left_then-eq0-clause-none : goal.returns-then-left_then-eq0-clause-none
returns-then-left_then-eq0-clause-none c is p there free = true≢false is

pub loop-slot-preserved : goal.loop-slot-preserved
loop-slot-preserved c = record {
  none = left_more c.args.control.now.tables c.requires.order.order c.args.port.now c.requires.said c.loop-slot.slot c.left_then.result c.loop-slot.invariant.none
      (left_is c.args.control.now.tables c.requires.order.order c.args.port.now c.requires.said c.loop-slot.slot c.left_then.result c.in-Some.of
      (c.in-Some.ensures ∙ ap (λ ps. slice_get (slots_of ps c.args.port.now.pool) c.loop-slot.slot) c.pools-pools.ensures)
      (c.left_then.ensures
      ∙ ap
      (λ (h : ℕ). h - returned_on c.args.control.now.tables (ways_by c.args.port.now.role c.args.control.now.tables c.args.port.now.number) c.args.port.now.pool c.loop-slot.slot)
      c.holders.ensures))
      c.if-left_then-eq0.false;
  size = c.loop-slot.invariant.size;
}

pub returns-clause-some : goal.returns-clause-some
returns-clause-some c is p there = absurd (true≢false (sym is))

pub returns-clause-none : goal.returns-clause-none
returns-clause-none c is p there =
    never_told c.args.control.now.tables c.requires.order.order c.args.port.now c.requires.said p there c.loop-slot.slot
    (omega (arith, c.loop-slot-test.false, c.loop-slot.invariant.size)) c.loop-slot.invariant.none
