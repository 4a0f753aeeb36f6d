-- What pools are once a slot that nobody has is another one.
use Rattle.std.specs.Prelude.{◌≡◌, ◌⊎◌, ℕ, zero, suc, Bool, true, false, if◌then◌else◌, ◌==◌, List, [], ◌∷◌, length, Option, Some, None, slice_set, refl}
use Rattle.std.specs.Option.{option_map_or}
use Rattle.std.proofs.Common.{sym, ap, ap₂, subst, ◌∙◌, arith, inl, inr, eqb-true}
use Rattle.std.proofs.lemmas.Option.{none-some}
use Rattle.iox_model.specs.declared.kind.Kind.TheVariants.{ActiveRequest}
use Rattle.iox_model.specs.Handles.{same_kind}
use Rattle.iox_model.specs.Messages.{request_way, response_way}
use Rattle.iox_tables.specs.HubStates.Tables.{HandleState, HubTables, PoolState, SlotState, labels_of, owner_of, pool_at, slot_at}
use Rattle.iox_tables.specs.HubBooks.Handles.{way_in}
use Rattle.iox_tables.specs.HubBooks.Hubs.{IsUsed}
use Rattle.iox_tables.specs.HubLoans.Slots.{is_place, put_slot, put_slot_of}
use Rattle.iox_tables.proofs.HubLoans.Placed.{part_stays, pool_is, slot_stays}
use Rattle.iox_tables.proofs.HubLending.Owning.{not_true, two}

length_set : {A : Type 0} (xs : List A) (i : ℕ) (y : A) → length (slice_set xs i y) ≡ length xs
length_set [] i y = refl
length_set (x ∷ xs) zero y = refl
length_set (x ∷ xs) (suc i) y = ap suc (length_set xs i y)

-- two pools are the same but for what is in their slots
pub record AreSameBut (a b : PoolState) : Type 0 where
  pub port : b.port ≡ a.port
  pub node_id : b.node_id ≡ a.node_id
  pub port_id : b.port_id ≡ a.port_id
  pub slots : length b.slots ≡ length a.slots

module _ (t : HubTables) (pool slot : ℕ) (s : SlotState) (free : (slot_at t.pools pool slot).holders ≡ 0) where
  abbrev pub put : List (Option PoolState)
  put = put_slot t.pools pool slot s

  -- it is that slot, or another one, which stays
  pub which : (p j : ℕ) → ((p ≡ pool) × (j ≡ slot)) ⊎ (is_place pool slot p j ≡ false)
  which p j = step (is_place pool slot p j) refl
    where
      step : (b : Bool) → is_place pool slot p j ≡ b → ((p ≡ pool) × (j ≡ slot)) ⊎ (is_place pool slot p j ≡ false)
      step true e = let both = two (p == pool) (j == slot) e in inl (eqb-true p pool both.0, eqb-true j slot both.1)
      step false e = inr e

  pub used_elsewhere : (p j : ℕ) → IsUsed t p j → is_place pool slot p j ≡ false
  used_elsewhere p j used =
      not_true (is_place pool slot p j)
      (λ e.
      let both = two (p == pool) (j == slot) e in
      never (subst (λ i. IsUsed t i slot) (eqb-true p pool both.0) (subst (λ i. IsUsed t p i) (eqb-true j slot both.1) used)))
    where
      never : IsUsed t pool slot → ⊥
      never some = omega (arith, some, free)

  pub used_stays : (p j : ℕ) → IsUsed t p j → slot_at put p j ≡ slot_at t.pools p j
  used_stays p j used = slot_stays t.pools pool slot s p j (used_elsewhere p j used)

  pub owner_same : (p : ℕ) → owner_of put p ≡ owner_of t.pools p
  owner_same p = part_stays (λ q. q.port) 0 (λ q k z. refl) t.pools pool slot s p

  pub way_same : (h : HandleState) → IsUsed t h.pool h.slot → way_in t.pools h ≡ way_in put h
  way_same h used = step (same_kind h.kind ActiveRequest)
    where
      step : (b : Bool)
          → (if b then request_way h.client h.port else response_way h.port (labels_of t.pools h.pool h.slot).lane (owner_of t.pools h.pool))
          ≡ (if b then request_way h.client h.port else response_way h.port (labels_of put h.pool h.slot).lane (owner_of put h.pool))
      step true = refl
      step false = ap₂ (λ lane owner. response_way h.port lane owner) (ap (λ (z : SlotState). z.lane) (sym (used_stays h.pool h.slot used))) (sym (owner_same h.pool))

  -- ---- pools

  pub pool_after : (p : ℕ) (a : PoolState) → pool_at t.pools p ≡ Some a → (b : PoolState) × (pool_at put p ≡ Some b) × AreSameBut a b
  pool_after p a at = step (p == pool) (pool_is t.pools pool slot s p)
    where
      step : (b : Bool) → pool_at put p ≡ (if b then option_map_or (λ q. Some (put_slot_of slot s q)) (pool_at t.pools p) None else pool_at t.pools p)
          → (b : PoolState) × (pool_at put p ≡ Some b) × AreSameBut a b
      step true is = (
        put_slot_of slot s a,
        is ∙ ap (λ o. option_map_or (λ q. Some (put_slot_of slot s q)) o None) at,
        record { port = refl; node_id = refl; port_id = refl; slots = length_set a.slots slot s },
      )
      step false is = (a, is ∙ at, record { port = refl; node_id = refl; port_id = refl; slots = refl })

  pub pool_before : (p : ℕ) (b : PoolState) → pool_at put p ≡ Some b → (a : PoolState) × (pool_at t.pools p ≡ Some a) × (a.port ≡ b.port)
  pool_before p b at = step (pool_at t.pools p) refl (sym (owner_same p))
    where
      step : (o : Option PoolState) → pool_at t.pools p ≡ o → owner_of t.pools p ≡ owner_of put p → (a : PoolState) × (pool_at t.pools p ≡ Some a) × (a.port ≡ b.port)
      step (Some a) is e = (a, is, sym (ap (λ o. option_map_or (λ (q : PoolState). q.port) o 0) is) ∙ e ∙ ap (λ o. option_map_or (λ (q : PoolState). q.port) o 0) at)
      step None is e = absurd (gone (p == pool) (pool_is t.pools pool slot s p))
        where
          gone : (c : Bool) → pool_at put p ≡ (if c then option_map_or (λ q. Some (put_slot_of slot s q)) (pool_at t.pools p) None else pool_at t.pools p) → ⊥
          gone true put_is = none-some b (sym (ap (λ o. option_map_or (λ q. Some (put_slot_of slot s q)) o None) is) ∙ sym put_is ∙ at)
          gone false put_is = none-some b (sym is ∙ sym put_is ∙ at)
