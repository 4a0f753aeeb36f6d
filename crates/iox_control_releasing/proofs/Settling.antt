-- Step by step slots get fewer holders: what is left once all is let go stays the same.
use Rattle.std.specs.Prelude.{◌≡◌, ℕ, ◌+◌, ◌-◌, List, Option, refl}
use Rattle.std.proofs.Common.{sym, ap, subst, ◌∙◌, arith}
use Rattle.iox_tables.specs.HubStates.Tables.{PoolState, slot_at}
use Rattle.iox_tables.specs.HubBooks.Keeps.{bare_pools}
use Rattle.iox_slots.specs.Pools.{with_slot}
use Rattle.iox_slots.specs.Slots.{let_go}
use Rattle.iox_slots.proofs.CallerLemmas.{holders_let_go, one_at}
use Rattle.iox_control.specs.Controls.{ControlState, with_pools}
use Rattle.iox_control_releasing.specs.LettingGo.{LetsGo}
use Rattle.iox_slots.proofs.BareLemmas.{let_go_bare}

-- ---- one is let go

pub one_goes : (pools : List (Option PoolState)) (place k : ℕ) → LetsGo pools (with_slot let_go pools place k) (one_at place k)
one_goes pools place k = record { same = let_go_bare pools place k; holders = λ pool j. holders_let_go pools place k pool j }

-- ---- one after another

-- what slots have once the rest is let go is what they had, without all
pub record Settles (old new : List (Option PoolState)) (all rest : ℕ → ℕ → ℕ) : Type 0 where
  pub same : bare_pools old ≡ bare_pools new
  pub holders :
      (pool k : ℕ) → (slot_at new pool k).holders - rest pool k ≡ (slot_at old pool k).holders - all pool k

pub begins : (pools : List (Option PoolState)) (all : ℕ → ℕ → ℕ) → Settles pools pools all all
begins pools all = record { same = refl; holders = λ pool k. refl }

pub goes_on : (old mid new : List (Option PoolState)) (all rest fewer left : ℕ → ℕ → ℕ) → Settles old mid all rest → LetsGo mid new fewer
    → ((pool k : ℕ) → rest pool k ≡ fewer pool k + left pool k) → Settles old new all left
goes_on old mid new all rest fewer left s g parts = record {
  same = s.same ∙ g.same;
  holders = λ pool k. sums _ _ _ _ _ _ _ (s.holders pool k) (g.holders pool k) (parts pool k);
}
  where
    sums : (n m r f l o a : ℕ) → m - r ≡ o - a → n ≡ m - f → r ≡ f + l → n - l ≡ o - a
    sums n m r f l o a e h p = omega (arith, e, h, p)

pub settled : (old new : List (Option PoolState)) (all rest : ℕ → ℕ → ℕ) → Settles old new all rest → ((pool k : ℕ) → rest pool k ≡ 0) → LetsGo old new all
settled old new all rest s none = record {
  same = s.same;
  holders = λ pool k. sums _ _ _ _ (s.holders pool k) (none pool k);
}
  where
    sums : (n r o a : ℕ) → n - r ≡ o - a → r ≡ 0 → n ≡ o - a
    sums n r o a e z = omega (arith, e, z)

-- the same with counts that are the same
pub counts_as : (old new : List (Option PoolState)) (f g : ℕ → ℕ → ℕ) → LetsGo old new f → ((pool k : ℕ) → f pool k ≡ g pool k) → LetsGo old new g
counts_as old new f g s e = record { same = s.same; holders = λ pool k. s.holders pool k ∙ ap (λ n. (slot_at old pool k).holders - n) (e pool k) }

pub none_goes : (pools : List (Option PoolState)) (f : ℕ → ℕ → ℕ) → ((pool k : ℕ) → f pool k ≡ 0) → LetsGo pools pools f
none_goes pools f none = record { same = refl; holders = λ pool k. sums _ _ (none pool k) }
  where
    sums : (n a : ℕ) → a ≡ 0 → n ≡ n - a
    sums n a e = omega (arith, e)

pub both_go : (old mid new : List (Option PoolState)) (f g : ℕ → ℕ → ℕ) → LetsGo old mid f → LetsGo mid new g → LetsGo old new (λ pool k. f pool k + g pool k)
both_go old mid new f g a b = record {
  same = a.same ∙ b.same;
  holders = λ pool k. sums _ _ _ _ _ (a.holders pool k) (b.holders pool k);
}
  where
    sums : (n m o f g : ℕ) → m ≡ o - f → n ≡ m - g → n ≡ o - (f + g)
    sums n m o f g e h = omega (arith, e, h)

-- one message is let go
pub let_one_go : (first now new : ControlState) (place slot : ℕ) (all rest left : ℕ → ℕ → ℕ) → Settles first.tables.pools now.tables.pools all rest
    → new ≡ with_pools now (with_slot let_go now.tables.pools place slot) → ((pool k : ℕ) → rest pool k ≡ one_at place slot pool k + left pool k)
    → Settles first.tables.pools new.tables.pools all left
let_one_go first now new place slot all rest left s is parts =
    goes_on first.tables.pools now.tables.pools new.tables.pools all rest (one_at place slot) left s
    (subst (λ (d : ControlState). LetsGo now.tables.pools d.tables.pools (one_at place slot)) (sym is) (one_goes now.tables.pools place slot)) parts

-- the same tables but for pools, and again
pub pools_again : (first now new : ControlState) (pools : List (Option PoolState)) → now ≡ with_pools first now.tables.pools → new ≡ with_pools now pools
    → new ≡ with_pools first new.tables.pools
pools_again first now new pools was is =
    is ∙ ap (λ (d : ControlState). with_pools d pools) was
    ∙ ap (λ ps. with_pools first ps) (sym (ap (λ (d : ControlState). d.tables.pools) is))
