-- A walk over all places: each pool goes whose port is gone and of which nobody has a message.
use Rattle.std.specs.Prelude.{◌≡◌, ℕ, zero, suc, ◌+◌, ◌<◌, ◌≤◌, Bool, true, false, not, ◌&&◌, if◌then◌else◌, List, [], ◌∷◌, length, nat_lt, Option, None, refl}
use Rattle.std.proofs.Common.{sym, ap, ◌∙◌, arith, subst}
use Rattle.std.proofs.lemmas.Bool.{ltb-false, ltb-true}
use Rattle.std.proofs.lemmas.Option.{none-some}
use Rattle.iox_tables.specs.HubStates.Tables.{HubTables, PoolState, owner_of, pool_at}
use Rattle.iox_tables.specs.HubStates.States.{Given, state_shown}
use Rattle.iox_tables.specs.HubStates.Steps.{is_there}
use Rattle.iox_slots.specs.Pools.{is_idle, without_pool}
use Rattle.iox_control.specs.Controls.{ControlState, with_pools}
use Rattle.iox_control_releasing.specs.Goings.{IsTidy, KeptPools, NoLeftPool, StaysTidy, with_left_pool_gone}
use Rattle.iox_control_releasing.proofs.Kept.{kept_then}
use Rattle.iox_hub_ports.proofs.Walking.{set_size}

-- no pool is left in the places so far
pub record Sweeps (first now : ControlState) (at : ℕ) : Type 0 where
  pub same : now ≡ with_pools first now.tables.pools
  pub shown : (x : Given) → state_shown x first.tables ≡ state_shown x now.tables
  pub kept : KeptPools first.tables.pools now.tables.pools
  pub none : (place : ℕ) → place < at → NoLeftPool now.tables place

pub sweeps_begin : (first : ControlState) → Sweeps first first 0
sweeps_begin first = record {
  same = refl;
  shown = λ x. refl;
  kept = λ place q at. (q, at, refl);
  none = λ place below. absurd (omega (arith, below));
}

pub sweeps_more : (first now new : ControlState) (at : ℕ) → Sweeps first now at → new ≡ with_pools now (with_left_pool_gone now.tables at)
    → ((x : Given) → state_shown x now.tables ≡ state_shown x new.tables) → KeptPools now.tables.pools new.tables.pools
    → NoLeftPool new.tables at → StaysTidy now.tables new.tables → Sweeps first new (at + 1)
sweeps_more first now new at is left shown kept gone tidy = record {
  same = left ∙ ap (λ (c : ControlState). with_pools c (with_left_pool_gone now.tables at)) is.same
      ∙ ap (with_pools first) (sym (ap (λ (c : ControlState). c.tables.pools) left));
  shown = λ x. is.shown x ∙ shown x;
  kept = kept_then first.tables.pools now.tables.pools new.tables.pools is.kept kept;
  none = λ place below. step place (nat_lt place at) refl below;
}
  where
    step : (place : ℕ) (b : Bool) → nat_lt place at ≡ b → place < at + 1 → NoLeftPool new.tables place
    step place true e below = tidy place (is.none place (ltb-true place at e))
    step place false e below = subst (NoLeftPool new.tables) (last (ltb-false place at e) below) gone
      where
        last : at ≤ place → place < at + 1 → at ≡ place
        last a b = omega (arith, a, b)

-- there are as many places as before
pub same_size : (t : HubTables) (place : ℕ) → length (with_left_pool_gone t place) ≡ length t.pools
same_size t place = step (is_idle t.pools place && not (is_there t.ports (owner_of t.pools place)))
  where
    step : (b : Bool) → length (if b then without_pool t.pools place else t.pools) ≡ length t.pools
    step true = set_size t.pools place None
    step false = refl

none_past : (pools : List (Option PoolState)) (place : ℕ) → length pools ≤ place → pool_at pools place ≡ None
none_past [] place h = refl
none_past (p ∷ ps) zero h = absurd (omega (arith, h))
none_past (p ∷ ps) (suc place) h = none_past ps place (omega (arith, h))

-- no pool is left where all places are behind
pub sweeps_all : (first now : ControlState) (at : ℕ) → Sweeps first now at → length now.tables.pools ≤ at → IsTidy now.tables
sweeps_all first now at is past place q there = step (nat_lt place at) refl
  where
    step : (b : Bool) → nat_lt place at ≡ b → is_idle now.tables.pools place ≡ true → is_there now.tables.ports q.port ≡ true
    step true e = is.none place (ltb-true place at e) q there
    step false e = absurd (none-some q (sym (none_past now.tables.pools place (behind (ltb-false place at e))) ∙ there))
      where
        behind : at ≤ place → length now.tables.pools ≤ place
        behind h = omega (arith, h, past)
