-- The worked pools change as the messages do.
use Rattle.std.specs.Prelude.{◌≡◌, ℕ, ◌+◌, ◌<◌, zero, suc, Bool, true, false, ◌&&◌, if◌then◌else◌, ◌==◌, [], ◌∷◌, refl}
use Rattle.std.proofs.Common.{arith, true≢false}
use Rattle.std.proofs.lemmas.Bool.Decides.{nat_tests}
use Rattle.iox_model.specs.Messages.{request_way}
use Rattle.iox_tables.specs.HubStates.Tables.{slot_at}
use Rattle.iox_tables.specs.HubStates.Ways.{lane_on}
use Rattle.iox_tables.specs.HubStates.Worked.{one_request}
use Rattle.iox_hub_delivering.specs.Deliveries.{delivered_on, pushed_on}
use Rattle.iox_hub_delivering.specs.Worked.{TheSecondPushesOutTheFirst, pool_of_two}

other : (a k : ℕ) → a < k → (a == k) ≡ false
other a k lt = grind (arith, nat_tests)

abbrev one_if : Bool → ℕ
one_if b = if b then 1 else 0

-- none of both
neither : (a b : Bool) → a ≡ false → b ≡ false → 0 + (one_if a + 0) ≡ 0 + (one_if b + 0)
neither true b e f = absurd (true≢false e)
neither false true e f = absurd (true≢false f)
neither false false e f = refl

-- in no other pool
nowhere : (a b c : Bool) → a ≡ false → 0 + ((if a then one_if b else 0) + 0) ≡ 0 + (one_if (a && c) + 0)
nowhere true b c e = absurd (true≢false e)
nowhere false b c e = refl

pub the_second_pushes_out_the_first : TheSecondPushesOutTheFirst
the_second_pushes_out_the_first = (
  record { same = refl; holders = over },
  record { same = refl; holders = under },
  λ given. let e = given.holders 0 0 in omega (arith, e),
)
  where
    over : (pool j : ℕ)
        → (slot_at (pool_of_two 1 2) pool j).holders + pushed_on true 1 (lane_on one_request.ports) (request_way 0 1 ∷ []) pool j
        ≡ (slot_at (pool_of_two 2 1) pool j).holders + delivered_on 1 (lane_on one_request.ports) (request_way 0 1 ∷ []) pool j
    over zero zero = refl
    over zero (suc zero) = refl
    over zero (suc (suc j)) = neither (0 == suc (suc j)) (1 == suc (suc j)) (other 0 (suc (suc j)) (omega arith)) (other 1 (suc (suc j)) (omega arith))
    over (suc p) j = nowhere (0 == suc p) (0 == j) (1 == j) (other 0 (suc p) (omega arith))

    under : (pool j : ℕ)
        → (slot_at (pool_of_two 2 2) pool j).holders + pushed_on false 1 (lane_on one_request.ports) (request_way 0 1 ∷ []) pool j
        ≡ (slot_at (pool_of_two 2 1) pool j).holders + delivered_on 1 (lane_on one_request.ports) (request_way 0 1 ∷ []) pool j
    under zero zero = refl
    under zero (suc zero) = refl
    under zero (suc (suc j)) = neither false (1 == suc (suc j)) refl (other 1 (suc (suc j)) (omega arith))
    under (suc p) j = nowhere (0 == suc p) false (1 == j) (other 0 (suc p) (omega arith))
