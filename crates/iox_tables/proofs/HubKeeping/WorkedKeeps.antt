-- Worked tables: two ports are made, and a server goes while a request waits for it.
use Rattle.std.specs.Prelude.{◌≡◌, ℕ, zero, suc, ◌+◌, ◌==◌, ◌<◌, Bool, true, false, if◌then◌else◌, [], ◌∷◌, Some, refl}
use Rattle.std.proofs.Common.{sym, ap, ◌∙◌, arith, true≢false}
use Rattle.std.proofs.lemmas.Bool.Decides.{nat_tests}
use Rattle.iox_tables.specs.HubStates.Tables.{HubTables, slot_at}
use Rattle.iox_tables.specs.HubStates.Releases.{with_value_released}
use Rattle.iox_tables.specs.HubStates.Worked.{one_of_each}
use Rattle.iox_tables.specs.HubBooks.Counts.{lane_count, lane_uses}
use Rattle.iox_tables.specs.HubBooks.Hubs.{AreInOrder}
use Rattle.iox_tables.specs.HubBooks.Worked.{with_holders}
use Rattle.iox_tables.proofs.HubBooks.WorkedHolds.{two_have_the_request}
use Rattle.iox_tables.specs.HubMaking.Disconnections.{ports_without}
use Rattle.iox_tables.specs.HubMaking.NewPorts.{pool_made}
use Rattle.iox_tables.specs.HubMaking.Starts.{no_ports}
use Rattle.iox_tables.specs.HubMaking.Worked.{one_port, the_client, the_server, two_pools}
use Rattle.iox_tables.proofs.HubMaking.Pooling.{new_pools_are_put}
use Rattle.iox_tables.proofs.HubMaking.Summing.{gone_lanes_count}
use Rattle.iox_tables.specs.HubKeeping.Keeps.{lost_uses}
use Rattle.iox_tables.specs.HubKeeping.Worked.{OneHasTheRequest, TwoPortsAreInOrder}
use Rattle.iox_tables.proofs.HubKeeping.LeftHandles.{disconnections_keep_order}
use Rattle.iox_tables.proofs.HubKeeping.NewHandles.{makings_keep_order}
use Rattle.iox_tables.proofs.HubKeeping.Ordered.{empty_free, lanes_sum}
use Rattle.iox_tables.proofs.HubKeeping.Starting.{starts_are_in_order}
use Rattle.iox_tables.proofs.HubKeeping.Unholding.{values_keep_order}
use Rattle.iox_tables.specs.HubLending.Emptying.{HasFewerHolders}

first : AreInOrder one_port
first =
    makings_keep_order (no_ports one_of_each) the_client (Some (pool_made the_client) ∷ []) (starts_are_in_order one_of_each)
    (record { number = refl; place = empty_free (no_ports one_of_each) (starts_are_in_order one_of_each) 0 refl; none = refl })
    (new_pools_are_put [] (pool_made the_client)).behind

pub two_ports_are_in_order : TwoPortsAreInOrder
two_ports_are_in_order = (
  first,
  makings_keep_order one_port the_server two_pools first
      (record { number = refl; place = empty_free one_port first 1 refl; none = refl })
      (new_pools_are_put one_port.pools (pool_made the_server)).behind,
)

abbrev released : HubTables
released = with_value_released (with_holders 2) 1

other : (a k : ℕ) → a < k → (a == k) ≡ false
other a k lt = grind (arith, nat_tests)

-- what is on the two lanes: the request waits on that to the server
abbrev on_both : Bool → Bool → Bool → ℕ
on_both first second here = (((if second then 0 else 0) + 0) + 0) + ((((if first then (if here then 1 else 0) + 0 else 0) + 0) + 0) + 0)

both_are : (pool k : ℕ) → lane_uses released.ports pool k ≡ on_both (0 == pool) (1 == pool) (0 == k)
both_are pool k = refl

none_left : (pool k : ℕ) → lane_uses (ports_without 1 released.ports) pool k ≡ 0
none_left pool k = refl

-- all of it goes
lost_is : (pool k : ℕ) → lost_uses released 1 pool k ≡ on_both (0 == pool) (1 == pool) (0 == k)
lost_is pool k =
    let old = lanes_sum (lane_count pool k) released.ports in
    let new = lanes_sum (lane_count pool k) (ports_without 1 released.ports) in
    let all = gone_lanes_count (lane_count pool k) 1 released.ports ((refl, tt), ((refl, tt), tt)) in
    let none = none_left pool k in
    let lost : lost_uses released 1 pool k ≡ lane_uses released.ports pool k = omega (arith, old, new, all, none) in lost ∙ both_are pool k

fewer : HasFewerHolders (with_holders 2).pools (with_holders 1).pools (lost_uses released 1)
fewer = record { same = refl; holders = holders }
  where
    none_more : {n : ℕ} → 0 ≡ n → 0 ≡ 0 + n
    none_more e = omega (arith, e)

    of_first : (b : Bool) → b ≡ false → 0 ≡ on_both true false b
    of_first true e = absurd (true≢false e)
    of_first false e = refl

    of_second : (b : Bool) → 0 ≡ on_both false true b
    of_second true = refl
    of_second false = refl

    of_none : (a b c : Bool) → a ≡ false → b ≡ false → 0 ≡ on_both a b c
    of_none true b c e f = absurd (true≢false e)
    of_none false true c e f = absurd (true≢false f)
    of_none false false c e f = refl

    holders : (pool k : ℕ) → (slot_at (with_holders 2).pools pool k).holders ≡ (slot_at (with_holders 1).pools pool k).holders + lost_uses released 1 pool k
    holders zero zero = ap (λ n. 1 + n) (sym (lost_is 0 0))
    holders zero (suc k) = none_more (of_first (0 == suc k) (other 0 (suc k) (omega arith)) ∙ sym (lost_is 0 (suc k)))
    holders (suc zero) zero = none_more (of_second (0 == zero) ∙ sym (lost_is 1 zero))
    holders (suc zero) (suc k) = none_more (of_second (0 == suc k) ∙ sym (lost_is 1 (suc k)))
    holders (suc (suc p)) k =
        none_more (of_none (0 == suc (suc p)) (1 == suc (suc p)) (0 == k) (other 0 (suc (suc p)) (omega arith)) (other 1 (suc (suc p)) (omega arith)) ∙ sym (lost_is (suc (suc p)) k))

pub one_has_the_request : OneHasTheRequest
one_has_the_request = (
  disconnections_keep_order released 1 (with_holders 1).pools (values_keep_order (with_holders 2) 1 two_have_the_request.0) refl refl fewer,
  λ order. let never = order.counted 0 0 in absurd (omega (arith, never)),
)
