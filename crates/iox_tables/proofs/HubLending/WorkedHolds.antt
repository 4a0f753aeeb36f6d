-- What is said of the worked tables is so.
use Rattle.std.specs.Prelude.{◌≡◌, ℕ, true, refl}
use Rattle.std.proofs.Common.{arith}
use Rattle.iox_tables.specs.HubBooks.Worked.{with_holders}
use Rattle.iox_tables.proofs.HubBooks.WorkedHolds.{two_have_the_request}
use Rattle.iox_tables.specs.HubLending.Lending.{MayLend}
use Rattle.iox_tables.specs.HubLending.Worked.{ClientMayNotLend, ServerMayLend, responder}
use Rattle.iox_tables.proofs.HubLending.Lent.{lent_in_order}

may : MayLend (with_holders 2) responder 0
may = record { there = refl; within = omega arith; free = refl; lane = λ e. omega arith }

pub server_may_lend : ServerMayLend
server_may_lend = ((refl, tt), may, lent_in_order (with_holders 2) responder true 1 0 two_have_the_request.0 may, refl)

not_two : (n : ℕ) → n ≡ 2 → n ≡ 0 → ⊥
not_two n e f = omega (arith, e, f)

pub client_may_not_lend : ClientMayNotLend
client_may_not_lend = (refl, λ m. not_two 2 refl m.free)
