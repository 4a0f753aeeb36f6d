-- Ids are far below 2 ^ 63.
use Rattle.std.proofs.Common.{◌≡◌, ◌^◌, ◌+◌, ◌-◌, ◌==◌, true, false, nat_lt, refl, arith}
use Rattle.iox_model.specs.declared.way.RequestState.TheVariants.{Closed, Named}
use Rattle.iox_wire_locals.specs.Laws.{WordsTellStates}

pub words_tell_states : WordsTellStates
words_tell_states Closed small = refl
words_tell_states (Named id false) small =
    let open_is : (id + 1 == 0) ≡ false = grind (arith) in
    let no_hint : nat_lt (2 ^ 63) (id + 1) ≡ false = grind (arith, small) in
    let back : id + 1 - 1 ≡ id = omega arith in
    rw (open_is, no_hint, back) refl
words_tell_states (Named id true) small =
    let open_is : (id + 1 + 2 ^ 63 == 0) ≡ false = grind (arith) in
    let hint : nat_lt (2 ^ 63) (id + 1 + 2 ^ 63) ≡ true = grind (arith) in
    let back : id + 1 + 2 ^ 63 - (2 ^ 63 + 1) ≡ id = omega arith in
    rw (open_is, hint, back) refl
