-- Pools that are the same but for holders show the same, also once a slot of theirs is another.
use Rattle.std.specs.Prelude.{◌≡◌, ℕ, zero, suc, List, [], ◌∷◌, map, Option, Some, None, slice_set, refl}
use Rattle.std.specs.Option.{option_map, option_map_or}
use Rattle.std.proofs.Common.{sym, ap, ◌∙◌}
use Rattle.iox_tables.specs.HubStates.Tables.{PoolState, SlotState, pool_at}
use Rattle.iox_tables.specs.HubStates.States.{Given, message_of, no_id}
use Rattle.iox_tables.specs.HubStates.Ends.{DifferInHolders}
use Rattle.iox_tables.proofs.HubStates.Holding.{holders_are_not_shown}
use Rattle.iox_tables.specs.HubBooks.Keeps.{bare_pool, bare_pools, bare_slot}
use Rattle.iox_tables.proofs.HubBooks.Structures.{pool_bare, same_owner, same_serial, same_slot}
use Rattle.iox_tables.specs.HubLoans.Lenders.{with_got_back}
use Rattle.iox_tables.specs.HubLoans.Loans.{loaned_slot, with_loaned}
use Rattle.iox_tables.specs.HubLoans.Slots.{put_slot, put_slot_of}
use Rattle.iox_tables.specs.HubLending.Choosing.{HoldersMayComeBackFirst}
pub use Rattle.iox_tables.proofs.HubBooks.Rooms.{differ_in_holders as differ}

-- a map of a list in which one was set
pub map_set : {A B : Type 0} (f : A → B) (xs : List A) (i : ℕ) (y : A) → map f (slice_set xs i y) ≡ slice_set (map f xs) i (f y)
map_set f [] i y = refl
map_set f (x ∷ xs) zero y = refl
map_set f (x ∷ xs) (suc i) y = ap (λ zs. f x ∷ zs) (map_set f xs i y)

-- ---- messages

-- they show the same messages
pub messages_same : (x : Given) (old new : List (Option PoolState)) → bare_pools old ≡ bare_pools new → message_of x old ≡ message_of x new
messages_same x old new e = λ i pool k. record (message_of x old pool k) {
  sender = (differ old new e).owners pool i;
  serial = (differ old new e).serials pool k i;
  node_id = ((differ old new e).ids pool).0 i;
  port_id = ((differ old new e).ids pool).1 i;
  lane = ((differ old new e).labels pool k i).lane;
  request = ((differ old new e).labels pool k i).request;
  elements = (differ old new e).elements pool k i;
}

-- ---- another slot

pub bare_put : (pools : List (Option PoolState)) (pool k : ℕ) (s : SlotState) → bare_pools (put_slot pools pool k s) ≡ put_slot (bare_pools pools) pool k (bare_slot s)
bare_put pools pool k s = step (pool_at pools pool) refl
  where
    step : (o : Option PoolState) → pool_at pools pool ≡ o
        → bare_pools (option_map_or (λ q. slice_set pools pool (Some (put_slot_of k s q))) o pools) ≡ put_slot (bare_pools pools) pool k (bare_slot s)
    step (Some q) is =
        map_set (option_map bare_pool) pools pool (Some (put_slot_of k s q))
        ∙ ap (λ ss. slice_set (bare_pools pools) pool (Some (record q { slots = ss }))) (map_set bare_slot q.slots k s)
        ∙ sym (ap (λ o. option_map_or (λ r. slice_set (bare_pools pools) pool (Some (put_slot_of k (bare_slot s) r))) o (bare_pools pools)) (pool_bare pools pool ∙ ap (option_map bare_pool) is))
    step None is =
        sym (ap (λ o. option_map_or (λ r. slice_set (bare_pools pools) pool (Some (put_slot_of k (bare_slot s) r))) o (bare_pools pools)) (pool_bare pools pool ∙ ap (option_map bare_pool) is))

pub put_same : (old new : List (Option PoolState)) (pool k : ℕ) (s : SlotState) → bare_pools old ≡ bare_pools new
    → bare_pools (put_slot old pool k s) ≡ bare_pools (put_slot new pool k s)
put_same old new pool k s e = bare_put old pool k s ∙ ap (λ ps. put_slot ps pool k (bare_slot s)) e ∙ sym (bare_put new pool k s)

pub holders_may_come_back_first : HoldersMayComeBackFirst
holders_may_come_back_first x t p pools y uninit k slot e = (
  holders_are_not_shown x (with_got_back t p) pools (differ t.pools pools e),
  holders_are_not_shown x (with_loaned (with_got_back t p) y uninit k slot) (put_slot pools y.port.pool slot (loaned_slot y k))
      (differ (put_slot t.pools y.port.pool slot (loaned_slot y k)) (put_slot pools y.port.pool slot (loaned_slot y k)) (put_same t.pools pools y.port.pool slot (loaned_slot y k) e)),
)
