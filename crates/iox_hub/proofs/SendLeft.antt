-- What a send leaves of a hub's words.
use Rattle.std.specs.Prelude.{◌≡◌, ℕ, true, zero, suc, List, [], ◌∷◌, Option, IfSome, Some, None, is_some, refl}
use Rattle.std.proofs.Common.{sym, ap, subst, ◌∙◌}
use Rattle.std.proofs.lemmas.Option.{same_Some}
use Rattle.iox_tables.specs.HubBooks.Keeps.{bare_pools}
use Rattle.iox_tables.specs.HubStates.Tables.{HandleState, PoolState, pool_at}
use Rattle.iox_tables.specs.HubStates.Wirings.{handle_in}
use Rattle.iox_control.specs.Controls.{ControlState}
use Rattle.iox_hub.specs.Hubs.{HubState, IsHub, with_control}
use Rattle.iox_hub.specs.Sending.{with_words_left}
use Rattle.iox_hub.proofs.ReleasingWords.{one_stays}

-- a pool is there where its bare one is
bare_there : (pools : List (Option PoolState)) (i : ℕ) → is_some (pool_at (bare_pools pools) i) ≡ is_some (pool_at pools i)
bare_there [] i = refl
bare_there (None ∷ ps) zero = refl
bare_there (Some p ∷ ps) zero = refl
bare_there (p ∷ ps) (suc i) = bare_there ps i

module _ {h : HubState} (hub : IsHub h) (c : ControlState) (node n : ℕ) (e : HandleState) (found : handle_in h.control.tables.handles node n ≡ Some e) where
  -- the words go that are left, if they do
  pub left_with : (new : HubState) → new ≡ with_words_left (with_control h c) e.pool
      → (k : HandleState) → handle_in h.control.tables.handles node n ≡ Some k → new ≡ with_words_left (with_control h new.control) k.pool
  left_with new is k there =
      is ∙ ap (λ (i : HandleState). with_words_left (with_control h c) i.pool) (same_Some e k (sym found ∙ there))
      ∙ ap (λ (d : ControlState). with_words_left (with_control h d) k.pool) (sym (ap (λ (d : HubState). d.control) is))

  -- where pools are as they were but for their slots, none go
  pub left_same : bare_pools h.control.tables.pools ≡ bare_pools c.tables.pools → is_some (pool_at h.control.tables.pools e.pool) ≡ true
      → (k : HandleState) → handle_in h.control.tables.handles node n ≡ Some k → with_control h c ≡ with_words_left (with_control h c) k.pool
  left_same same has k there =
      one_stays (with_control h c) k.pool
      (ap (λ (i : HandleState). is_some (pool_at c.tables.pools i.pool)) (sym (same_Some e k (sym found ∙ there)))
      ∙ sym (bare_there c.tables.pools e.pool) ∙ ap (λ (ps : List (Option PoolState)). is_some (pool_at ps e.pool)) (sym same)
      ∙ bare_there h.control.tables.pools e.pool ∙ has)

-- ---- what is said of an answer, if there is one

pub all_of : {X : Type 0} (r : Option X) {P Q R S : X → Type 0} → IfSome r P → IfSome r Q → IfSome r R → ((x : X) → P x → Q x → R x → S x) → IfSome r S
all_of None p q s f = tt
all_of (Some x) p q s f = f x p q s

-- a hub goes on as it is answered, or is as it was
pub goes_on_if : {X : Type 0} (r : Option X) {h : HubState} → IsHub h → (c : ControlState) → (r ≡ None → c ≡ h.control)
    → IfSome r (λ x. IsHub (with_control h c)) → IsHub (with_control h c)
goes_on_if None {h} hub c same goes = subst (λ (d : ControlState). IsHub (with_control h d)) (sym (same refl)) hub
goes_on_if (Some x) hub c same goes = goes

-- the hub of which that is known
abbrev pub hub_of : {h : HubState} → IsHub h → HubState
hub_of {h} hub = h
