-- Messages that can be addressed.
use Rattle.std.specs.Prelude.{◌≡◌, ℕ, ◌+◌, ◌-◌, ◌*◌, ◌/◌, ◌<◌, ◌^◌, nat_lt, true}
use Rattle.std.proofs.Common.{arith}
use Rattle.std.proofs.Math.Nat.{div-mul-le_self}
use Rattle.std.proofs.lemmas.Bool.{lt-ltb}

-- parts and elements that are small fit together
pub small_fits : (hs ha us ua ea payload : ℕ) → hs < 2 ^ 60 → ha < 2 ^ 60 → us < 2 ^ 60 → ua < 2 ^ 60 → ea < 2 ^ 60 → payload < 2 ^ 60
    → nat_lt ((hs + us + (ua - 1) + payload + (ea - 1) + (ha - 1)) / ha * ha) (2 ^ 63) ≡ true
small_fits hs ha us ua ea payload a b c d e f =
    let down = div-mul-le_self (hs + us + (ua - 1) + payload + (ea - 1) + (ha - 1)) ha in
    lt-ltb _ _ (omega (arith, down, a, b, c, d, e, f))
