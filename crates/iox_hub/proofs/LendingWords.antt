-- Words of pools in which one message is another one.
use Rattle.std.specs.Prelude.{◌≡◌, ℕ, zero, suc, ◌<◌, Bool, true, false, ◌&&◌, if◌then◌else◌, ◌==◌, List, [], ◌∷◌, length, Option, Some, None, slice_get, slice_set, refl}
use Rattle.std.specs.Option.{option_map, option_map_or}
use Rattle.std.proofs.Common.{sym, ap, ◌∙◌, arith, true≢false, eqb-true, eq-eqb}
use Rattle.std.proofs.lemmas.List.{get_or-set_other, get_or-set_same, length-set}
use Rattle.std.proofs.lemmas.Option.{none-some}
use Rattle.iox_store.specs.Stored.{StoredMessage, stored_at, unlent}
use Rattle.iox_tables.specs.HubLoans.Slots.{is_place, put_place}
use Rattle.iox_tables.proofs.HubLoans.Placed.{set_else, set_there}
use Rattle.iox_hub.specs.Fits.{are_requests_in, carried_in, count_in, longest_in}
use Rattle.iox_hub.specs.Lending.{with_carried, with_message}
use Rattle.iox_hub.specs.Words.{Carried, stored_in}

-- what the message in a slot carries, by what its pool does
abbrev pub stored_by : Option Carried → ℕ → StoredMessage
stored_by o k = option_map_or (λ (c : Carried). stored_at c.contents k) o (unlent 0 [])

pub stored_is_by : (words : List (Option Carried)) (p k : ℕ) → stored_in words p k ≡ stored_by (carried_in words p) k
stored_is_by words p k = step (slice_get words p)
  where
    step : (o : Option (Option Carried)) → option_map_or (λ q. option_map_or (λ (c : Carried). stored_at c.contents k) q (unlent 0 [])) o (unlent 0 [])
        ≡ stored_by (option_map_or (λ q. q) o None) k
    step (Some q) = refl
    step None = refl

not_true_is : (b : Bool) → (b ≡ true → ⊥) → b ≡ false
not_true_is true never = absurd (never refl)
not_true_is false never = refl

module _ (words : List (Option Carried)) (pool k : ℕ) (z : StoredMessage) where
  abbrev new : List (Option Carried)
  new = with_message words pool k z

  -- what each pool carries
  pub carried_new : (p : ℕ) → carried_in new p ≡ (if p == pool then option_map (with_carried k z) (carried_in words p) else carried_in words p)
  carried_new p = step (p == pool) refl
    where
      put : Option Carried
      put = option_map (with_carried k z) (carried_in words pool)

      here : (o : Option (Option Carried)) → slice_get words pool ≡ o
          → option_map_or (λ q. q) (slice_get (slice_set words pool put) pool) None ≡ option_map (with_carried k z) (option_map_or (λ q. q) o None)
      here (Some q) is =
          ap (λ o. option_map_or (λ q. q) o None) (set_there words pool q put is)
          ∙ ap (λ o. option_map (with_carried k z) (option_map_or (λ q. q) o None)) is
      here None is = ap (λ o. option_map_or (λ q. q) o None) (none_still words pool put is)
        where
          none_still : {A : Type 0} (xs : List A) (i : ℕ) (x : A) → slice_get xs i ≡ None → slice_get (slice_set xs i x) i ≡ None
          none_still [] i x e = refl
          none_still (y ∷ ys) zero x e = absurd (none-some y (sym e))
          none_still (y ∷ ys) (suc i) x e = none_still ys i x e

      step : (b : Bool) → (p == pool) ≡ b → carried_in new p ≡ (if b then option_map (with_carried k z) (carried_in words p) else carried_in words p)
      step true e =
          let same : p ≡ pool = eqb-true p pool e in
          ap (carried_in new) same ∙ here (slice_get words pool) refl
          ∙ ap (λ q. option_map (with_carried k z) (carried_in words q)) (sym same)
      step false e = ap (λ o. option_map_or (λ q. q) o None) (set_else words pool p put e)

  pub count_new : (p : ℕ) → count_in new p ≡ count_in words p
  count_new p = ap (λ o. option_map_or (λ (c : Carried). length c.contents.messages) o 0) (carried_new p) ∙ step (p == pool) (carried_in words p)
    where
      step : (b : Bool) (o : Option Carried)
          → option_map_or (λ (c : Carried). length c.contents.messages) (if b then option_map (with_carried k z) o else o) 0
          ≡ option_map_or (λ (c : Carried). length c.contents.messages) o 0
      step true (Some c) = length-set c.contents.messages k z
      step true None = refl
      step false o = refl

  pub longest_new : (p : ℕ) → longest_in new p ≡ longest_in words p
  longest_new p = ap (λ o. option_map_or (λ (c : Carried). c.contents.longest) o 0) (carried_new p) ∙ step (p == pool) (carried_in words p)
    where
      step : (b : Bool) (o : Option Carried)
          → option_map_or (λ (c : Carried). c.contents.longest) (if b then option_map (with_carried k z) o else o) 0
          ≡ option_map_or (λ (c : Carried). c.contents.longest) o 0
      step true (Some c) = refl
      step true None = refl
      step false o = refl

  pub requests_new : (p : ℕ) → are_requests_in new p ≡ are_requests_in words p
  requests_new p = ap (λ o. option_map_or (λ (c : Carried). c.requests) o false) (carried_new p) ∙ step (p == pool) (carried_in words p)
    where
      step : (b : Bool) (o : Option Carried)
          → option_map_or (λ (c : Carried). c.requests) (if b then option_map (with_carried k z) o else o) false
          ≡ option_map_or (λ (c : Carried). c.requests) o false
      step true (Some c) = refl
      step true None = refl
      step false o = refl

  -- every other message is as it was
  pub stored_else : (p j : ℕ) → is_place pool k p j ≡ false → stored_in new p j ≡ stored_in words p j
  stored_else p j other =
      stored_is_by new p j ∙ ap (λ o. stored_by o j) (carried_new p) ∙ step (p == pool) (j == k) refl other (carried_in words p)
      ∙ sym (stored_is_by words p j)
    where
      step : (a b : Bool) → (j == k) ≡ b → (a && b) ≡ false → (o : Option Carried)
          → stored_by (if a then option_map (with_carried k z) o else o) j ≡ stored_by o j
      step true true e off o = absurd (true≢false off)
      step true false e off (Some c) =
          get_or-set_other c.contents.messages k j z (unlent 0 []) (λ same. true≢false (sym (eq-eqb j k same) ∙ e))
      step true false e off None = refl
      step false b e off o = refl

  -- and that one is the new one
  pub stored_new : k < count_in words pool → stored_in new pool k ≡ z
  stored_new low =
      stored_is_by new pool k ∙ ap (λ o. stored_by o k) (carried_new pool ∙ ap (λ b. if b then option_map (with_carried k z) (carried_in words pool) else carried_in words pool) (eq-eqb pool pool refl))
      ∙ step (carried_in words pool) low
    where
      step : (o : Option Carried) → k < option_map_or (λ (c : Carried). length c.contents.messages) o 0 → stored_by (option_map (with_carried k z) o) k ≡ z
      step (Some c) low = get_or-set_same c.contents.messages k z (unlent 0 []) low
      step None low = absurd (omega (arith, low))

  pub stored_put : k < count_in words pool → (p j : ℕ) → stored_in new p j ≡ put_place (stored_in words) pool k z p j
  stored_put low p j = step (p == pool) (j == k) refl refl
    where
      step : (a b : Bool) → (p == pool) ≡ a → (j == k) ≡ b → stored_in new p j ≡ (if a && b then z else stored_in words p j)
      step true true ea eb = ap (stored_in new p) (eqb-true j k eb) ∙ ap (λ q. stored_in new q k) (eqb-true p pool ea) ∙ stored_new low
      step true false ea eb = stored_else p j (ap (λ a. a && (j == k)) ea ∙ eb)
      step false b ea eb = stored_else p j (ap (λ a. a && (j == k)) ea)
