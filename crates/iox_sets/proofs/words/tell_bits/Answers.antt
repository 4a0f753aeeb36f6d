use Rattle.std.proofs.Common.{◌≡◌, refl, arith, rules, of_calls}
use Rattle.iox_sets.proofs.BitNumberLemmas.{numbers_in-zero, numbers_in-lowest, lowest_set, lowest_small, set_before}
use Rattle.iox_sets.proofs.words.tell_bits.Goals as goal

pub loop-left-init : goal.loop-left-init
loop-left-init g c = record { callable = c.requires.callable; numbered = c.requires.numbered; calls = λ last calls. calls }

pub overflow_mul-place : goal.overflow_mul-place
overflow_mul-place g c =
    let within = c.loop-left.invariant.numbered _ (lowest_small c.loop-left.left (omega arith) (omega arith)) (lowest_set c.loop-left.left (omega arith) (omega arith)) in
    omega arith

pub overflow_add-place : goal.overflow_add-place
overflow_add-place g c =
    let within = c.loop-left.invariant.numbered _ (lowest_small c.loop-left.left (omega arith) (omega arith)) (lowest_set c.loop-left.left (omega arith) (omega arith)) in
    omega arith

pub loop-left-smaller : goal.loop-left-smaller
loop-left-smaller g c = rw (numbers_in-lowest c.loop-left.left (omega arith) (omega arith) _ refl c.args.place) (omega arith)

pub loop-left-preserved : goal.loop-left-preserved
loop-left-preserved g c = record {
  callable = search (rules, of_calls);
  numbered = λ id small is_set. c.loop-left.invariant.numbered id small (set_before c.loop-left.left (omega arith) (omega arith) _ refl id small is_set);
  calls = λ last rest. c.loop-left.invariant.calls last (rw (numbers_in-lowest c.loop-left.left (omega arith) (omega arith) _ refl c.args.place) (c.callback.new.self, c.callback.ensures, rest));
}

pub returns-clause-called : goal.returns-clause-called
returns-clause-called g c =
    let none : c.loop-left.left ≡ 0 = omega arith in
    c.loop-left.invariant.calls _ (rw (none, numbers_in-zero) refl)
