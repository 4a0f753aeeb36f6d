-- What is left of pools as one goes whose port is gone.
use Rattle.std.specs.Prelude.{◌≡◌, ℕ, Bool, true, false, not, ◌&&◌, if◌then◌else◌, ◌==◌, List, [], Option, Some, None, is_some, refl}
use Rattle.std.specs.List.{list_all}
use Rattle.std.specs.Option.{option_map_or}
use Rattle.std.proofs.Common.{sym, ap, ◌∙◌, true≢false}
use Rattle.std.proofs.lemmas.Option.{none-some}
use Rattle.iox_laws.proofs.WeaveLaws.MapLemmas.{eqb-refl}
use Rattle.iox_tables.specs.HubStates.Tables.{HubTables, PoolState, PortState, owner_of, pool_at, port_in, is_free}
use Rattle.iox_tables.specs.HubStates.Steps.{is_there}
use Rattle.iox_tables.proofs.HubStates.Fixing.{first_key}
use Rattle.iox_tables.specs.HubBooks.Hubs.{AreInOrder}
use Rattle.iox_tables.specs.HubBooks.Keeps.{bare_pools}
use Rattle.iox_tables.proofs.HubBooks.Structures.{pool_before}
use Rattle.iox_slots.specs.Pools.{is_idle, with_slot, without_pool}
use Rattle.iox_slots.specs.Slots.{let_go}
use Rattle.iox_slots.proofs.PlaceLemmas.{removed_pool}
use Rattle.iox_control_releasing.specs.Goings.{KeptPools, NoLeftPool, with_left_pool_gone}
use Rattle.iox_slots.proofs.BareLemmas.{let_go_bare}

-- ---- pools are kept

pub kept_bare : (old new : List (Option PoolState)) → bare_pools old ≡ bare_pools new → KeptPools old new
kept_bare old new same = pool_before old new same

pub kept_then : (old mid new : List (Option PoolState)) → KeptPools old mid → KeptPools mid new → KeptPools old new
kept_then old mid new first next place q at =
    let r = next place q at in
    let p = first place r.0 r.1 in
    (p.0, p.1, p.2 ∙ r.2)

-- a message is let go, and then pools may go twice
pub kept_end : (old end left new : List (Option PoolState)) (place k : ℕ) → end ≡ with_slot let_go old place k → KeptPools end left → KeptPools left new → KeptPools old new
kept_end old end left new place k is first next =
    kept_then old end new (kept_bare old end (let_go_bare old place k ∙ ap bare_pools (sym is))) (kept_then end left new first next)

-- where one goes, each other is the same
out_same : (pools : List (Option PoolState)) (place other : ℕ) (q : PoolState) → pool_at (without_pool pools place) other ≡ Some q → pool_at pools other ≡ Some q
out_same pools place other q at = step (place == other) (sym (removed_pool pools place other) ∙ at)
  where
    step : (b : Bool) → (if b then None else pool_at pools other) ≡ Some q → pool_at pools other ≡ Some q
    step true e = absurd (none-some q e)
    step false e = e

-- so it is whether it goes or stays
left_same : (t : HubTables) (place other : ℕ) (q : PoolState) → pool_at (with_left_pool_gone t place) other ≡ Some q → pool_at t.pools other ≡ Some q
left_same t place other q = step (is_idle t.pools place && not (is_there t.ports (owner_of t.pools place)))
  where
    step : (b : Bool) → pool_at (if b then without_pool t.pools place else t.pools) other ≡ Some q → pool_at t.pools other ≡ Some q
    step true at = out_same t.pools place other q at
    step false at = at

pub kept_left : (t : HubTables) (place : ℕ) → KeptPools t.pools (with_left_pool_gone t place)
kept_left t place other q at = (q, left_same t place other q at, refl)

-- ---- a left pool goes

-- it is left no more
pub left_gone : (t : HubTables) (place : ℕ) → NoLeftPool (record t { pools = with_left_pool_gone t place }) place
left_gone t place = step (is_idle t.pools place) refl (is_there t.ports (owner_of t.pools place)) refl
  where
    step : (a : Bool) → is_idle t.pools place ≡ a → (b : Bool) → is_there t.ports (owner_of t.pools place) ≡ b
        → NoLeftPool (record t { pools = if a && not b then without_pool t.pools place else t.pools }) place
    step true idle false gone q at still =
        absurd (none-some q (sym (removed_pool t.pools place place ∙ ap (λ (b : Bool). if b then None else pool_at t.pools place) (eqb-refl place)) ∙ at))
    step true idle true there q at still = ap (is_there t.ports) (sym (ap (λ (o : Option PoolState). option_map_or (λ p. p.port) o 0) at)) ∙ there
    step false busy b there q at still = absurd (true≢false (sym still ∙ busy))

-- where pools are as they were, or gone, none is left that was not
pub still_none : (t : HubTables) (pools : List (Option PoolState)) (other : ℕ) → ((q : PoolState) → pool_at pools other ≡ Some q → pool_at t.pools other ≡ Some q)
    → NoLeftPool t other → NoLeftPool (record t { pools = pools }) other
still_none t pools other same none q at idle =
    none q (same q at) (ap (λ (o : Option PoolState). list_all is_free (option_map_or (λ p. p.slots) o [])) (same q at ∙ sym at) ∙ idle)

pub none_after : (t : HubTables) (place other : ℕ) → NoLeftPool t other → NoLeftPool (record t { pools = with_left_pool_gone t place }) other
none_after t place other = still_none t (with_left_pool_gone t place) other (left_same t place other)

-- the pool of a connected port is not left
pub none_of_port : (t : HubTables) (n : ℕ) (p : PortState) → AreInOrder t → port_in t.ports n ≡ Some p → NoLeftPool t p.pool
none_of_port t n p order at q there idle =
    let has = order.pools.each n p at in
    let port : q.port ≡ n
    = ap (λ (o : Option PoolState). option_map_or (λ x. x.port) o 0) (sym there ∙ has.there) ∙ has.port ∙ first_key (λ (x : PortState). x.number) t.ports n p at in
    ap (is_there t.ports) port ∙ ap (λ (o : Option PortState). is_some o) at
