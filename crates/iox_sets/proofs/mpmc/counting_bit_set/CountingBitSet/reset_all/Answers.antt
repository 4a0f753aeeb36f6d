use Rattle.std.proofs.Common.{◌≢◌, ◌∷◌, sym, ap, ◌∙◌, arith, length-set, get_or-set_other, rules, of_calls}
use Rattle.iox_sets.specs.CountingBitSets.{bit_states, no_counts}
use Rattle.iox_sets.proofs.CountLemmas.{bit_states-nil, bit_states-cons, no_counts-nil, zeros_before_first}
use Rattle.iox_sets.proofs.CallLemmas.{IsCalledWithEach-nil, IsCalledWithEach-cons}
use Rattle.iox_sets.proofs.mpmc.counting_bit_set.CountingBitSet.reset_all.Goals as goal

pub loop-state-smaller : goal.loop-state-smaller
loop-state-smaller g c =
    let cons = bit_states-cons c.loop-state.self c.in-Some.state (sym c.in-Some.ensures.lowest) in
    rw (cons, c.in-Some.ensures.taken) (omega arith)

pub loop-state-preserved : goal.loop-state-preserved
loop-state-preserved g c =
    let is = sym c.in-Some.ensures.lowest in
    record {
      callable = search (rules, of_calls);
      zeros = λ id before.
          let other : id ≢ c.in-Some.state.bit = omega arith in
          rw (c.in-Some.ensures.taken, get_or-set_other) (zeros_before_first c.loop-state.self c.in-Some.state is id before);
      size = rw (c.in-Some.ensures.taken, length-set) c.loop-state.invariant.size;
      calls = λ rest. c.loop-state.invariant.calls (
          IsCalledWithEach-cons (goal.F-step g) _ c.callback.new.self c.in-Some.state _ (bit_states c.take_next_from.new.self)
          (bit_states-cons c.loop-state.self c.in-Some.state is ∙ ap (λ counts. c.in-Some.state ∷ bit_states counts) (sym c.in-Some.ensures.taken))
          c.callback.ensures rest);
    }

pub returns-clause-called : goal.returns-clause-called
returns-clause-called g c =
    c.loop-state.invariant.calls (IsCalledWithEach-nil (goal.F-step g) _ _ (bit_states-nil c.loop-state.self (sym c.in_default.ensures.lowest)))

pub returns-clause-cleared : goal.returns-clause-cleared
returns-clause-cleared g c =
    c.in_default.ensures.unchanged ∙ no_counts-nil c.loop-state.self (sym c.in_default.ensures.lowest)
    ∙ ap no_counts c.loop-state.invariant.size
