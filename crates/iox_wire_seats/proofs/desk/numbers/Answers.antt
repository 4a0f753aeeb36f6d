use Rattle.std.proofs.Common.{◌++◌, ◌∷◌, [], ℕ, List, ap, sym, ◌∙◌, arith}
use Rattle.iox_wire_seats.proofs.SlotLemmas.{numbers_more}
use Rattle.iox_wire_seats.proofs.desk.numbers.Goals as goal

pub loop-number-preserved : goal.loop-number-preserved
loop-number-preserved c = record {
  numbers = c.in_ok-push_back.ensures.items ∙ ap (λ (ks : List ℕ). ks ++ c.loop-number.number ∷ []) c.loop-number.invariant.numbers
      ∙ sym (numbers_more c.loop-number.number);
  room = omega (arith, c.loop-number.invariant.room, c.push_back.ensures.capacity);
}
