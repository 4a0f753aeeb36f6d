-- The words beside a pool that is gone may go: a hub stays one, and shows the same.
use Rattle.std.specs.Prelude.{◌≡◌, ℕ, ◌<◌, ◌≤◌, Bool, true, false, if◌then◌else◌, ◌==◌, List, [], length, Option, Some, None, is_some, slice_get, slice_set, refl}
use Rattle.std.specs.Option.{option_map, option_map_or}
use Rattle.std.proofs.Common.{sym, ap, subst, ◌∙◌, arith, eqb-true}
use Rattle.std.proofs.lemmas.Option.{none-some}
use Rattle.iox_store.specs.Stored.{StoredMessage, stored_at, unlent}
use Rattle.iox_model.specs.Runs.{IsReachableState}
use Rattle.iox_tables.specs.HubStates.Tables.{HandleState, HubTables, PoolState, PortState, pool_at, port_in, slot_at, slots_of}
use Rattle.iox_tables.specs.HubStates.States.{Given}
use Rattle.iox_tables.proofs.HubLoans.Placed.{set_else}
use Rattle.iox_tables.proofs.HubMaking.Pooling.{free_pools_may_change}
use Rattle.iox_tables.specs.HubBooks.Hubs.{AreInOrder, IsUsed}
use Rattle.iox_tables.proofs.HubBooks.Going.{each_both}
use Rattle.iox_tables.proofs.HubBooks.Held.{each_handle_from}
use Rattle.iox_tables.specs.HubKeeping.Connected.{IsFreePlace}
use Rattle.iox_tables.proofs.HubKeeping.Ordered.{each_used, empty_free, nobody_has, used_else}
use Rattle.iox_control.specs.Controls.{ControlState}
use Rattle.iox_hub.specs.Fits.{SuitsHandle, WordsFit, count_in}
use Rattle.iox_hub.specs.Hubs.{HubState, IsHub, given_by, many_in, state_of_hub, with_control}
use Rattle.iox_hub.specs.Sending.{with_words_left}
use Rattle.iox_hub.specs.Words.{Carried, stored_in}

-- what a slot of a pool with these words carries
abbrev stored_of : Option (Option Carried) → ℕ → StoredMessage
stored_of o k = option_map_or (λ q. option_map_or (λ c. stored_at c.contents k) q (unlent 0 [])) o (unlent 0 [])

module _ (h : HubState) (place : ℕ) (order : AreInOrder h.control.tables) (gone : pool_at h.control.tables.pools place ≡ None) where
  abbrev t : HubTables
  t = h.control.tables

  abbrev less : List (Option Carried)
  less = slice_set h.words place None

  free : IsFreePlace t place
  free = empty_free t order place gone

  -- other places have the same words
  same_at : (pool : ℕ) → (pool == place) ≡ false → slice_get less pool ≡ slice_get h.words pool
  same_at pool other = set_else h.words place pool None other

  -- a pool that is there is in another place
  there_is_other : (pool : ℕ) (q : PoolState) → pool_at t.pools pool ≡ Some q → (pool == place) ≡ false
  there_is_other pool q at = step (pool == place) refl
    where
      step : (b : Bool) → (pool == place) ≡ b → b ≡ false
      step true is = absurd (none-some q (sym gone ∙ ap (pool_at t.pools) (sym (eqb-true pool place is)) ∙ at))
      step false is = refl

  at_used : (pool k : ℕ) → IsUsed t pool k → slice_get less pool ≡ slice_get h.words pool
  at_used pool k used = same_at pool (used_else t order place free pool k used)

  -- ---- they fit

  module _ (fit : WordsFit (many_in h) h.words t) where
    fits_less : WordsFit (many_in h) less t
    fits_less = record {
      pools = pools;
      elements = elements;
      ports = λ n p at. ap (λ o. option_map_or (λ (c : Carried). c.requests) (option_map_or (λ z. z) o None) false) (of_port n p at) ∙ fit.ports n p at;
      gone = λ pool q n p at there has.
          ap (λ o. option_map_or (λ (c : Carried). c.requests) (option_map_or (λ z. z) o None) false) (same_at pool (there_is_other pool q at)) ∙ fit.gone pool q n p at there has;
      longest = λ n p at.
          subst (λ o. p.longest ≤ option_map_or (λ (c : Carried). c.contents.longest) (option_map_or (λ z. z) o None) 0) (sym (of_port n p at)) (fit.longest n p at);
      one = fit.one;
      handles =
          each_handle_from (λ g. IsUsed t g.pool g.slot × SuitsHandle (many_in h) h.words g) (SuitsHandle (many_in h) less) (λ g both. suits g both.0 both.1) t.handles
          (each_both (λ g. IsUsed t g.pool g.slot) (SuitsHandle (many_in h) h.words) t.handles (each_used t order) fit.handles);
    }
      where
        of_port : (n : ℕ) (p : PortState) → port_in t.ports n ≡ Some p → slice_get less p.pool ≡ slice_get h.words p.pool
        of_port n p at = same_at p.pool (free.ports n p at)

        suits : (g : HandleState) → IsUsed t g.pool g.slot → SuitsHandle (many_in h) h.words g → SuitsHandle (many_in h) less g
        suits g used is = record {
          kind = ap (λ o. option_map_or (λ (c : Carried). c.requests) (option_map_or (λ z. z) o None) false) (at_used g.pool g.slot used) ∙ is.kind;
          one = λ e few. subst (λ o. (stored_of o g.slot).elements ≡ 1) (sym (at_used g.pool g.slot used)) (is.one e few);
          full = λ e.
              subst (λ o. (stored_of o g.slot).filled ≡ (stored_of o g.slot).elements) (sym (at_used g.pool g.slot used)) (is.full e);
        }

        pools : (pool : ℕ) → length (slots_of t.pools pool) ≤ count_in less pool
        pools pool = step (pool_at t.pools pool) refl
          where
            step : (o : Option PoolState) → pool_at t.pools pool ≡ o → length (option_map_or (λ (p : PoolState). p.slots) o []) ≤ count_in less pool
            step None at = omega arith
            step (Some q) at =
                subst (λ o. length q.slots ≤ option_map_or (λ (c : Carried). length c.contents.messages) (option_map_or (λ z. z) o None) 0)
                (sym (same_at pool (there_is_other pool q at)))
                (subst (λ o. length (option_map_or (λ (p : PoolState). p.slots) o []) ≤ count_in h.words pool) at (fit.pools pool))

        elements : (pool k : ℕ) → k < length (slots_of t.pools pool) → (stored_in less pool k).elements ≡ (slot_at t.pools pool k).elements
        elements pool k low = step (pool_at t.pools pool) refl low
          where
            step : (o : Option PoolState) → pool_at t.pools pool ≡ o → k < length (option_map_or (λ (p : PoolState). p.slots) o [])
                → (stored_in less pool k).elements ≡ (slot_at t.pools pool k).elements
            step None at under = absurd (omega (arith, under))
            step (Some q) at under = ap (λ o. (stored_of o k).elements) (same_at pool (there_is_other pool q at)) ∙ fit.elements pool k low

  -- ---- the state stays

  abbrev left : HubState
  left = record h { words = less }

  shows_less : (x : Given) → state_of_hub x h ≡ state_of_hub x left
  shows_less x =
      free_pools_may_change (given_by x h) (given_by x left) t place t.pools
      (record { members = refl; acts = refl; handler = refl; request = refl; response = refl }) (nobody_has t order place free)
      (record {
        pools = λ q other. refl;
        user = λ q k other. ap (λ o. (stored_of o k).user) (sym (same_at q other));
        payload = λ q k other. ap (λ o. (stored_of o k).payload) (sym (same_at q other));
        filled = λ q k other. ap (λ o. (stored_of o k).filled) (sym (same_at q other));
      })

  hub_less : IsHub h → IsHub left
  hub_less hub = record {
    control = hub.control;
    words = fits_less hub.words;
    reached = (hub.reached.0, subst IsReachableState (shows_less hub.reached.0) hub.reached.1);
  }

-- ---- where code finds that it is gone

no_pool : {B : Type 0} (f : PoolState → B) (pools ps : List (Option PoolState)) (place : ℕ) → ps ≡ pools → (r : Option B) → r ≡ option_map f (pool_at ps place) → r ≡ None
    → pool_at pools place ≡ None
no_pool f pools ps place same r found none = step (pool_at pools place) (sym none ∙ found ∙ ap (λ qs. option_map f (pool_at qs place)) same)
  where
    step : (o : Option PoolState) → None ≡ option_map f o → o ≡ None
    step (Some p) e = absurd (none-some (f p) e)
    step None e = refl

module _ {B : Type 0} (f : PoolState → B) {h : HubState} (hub : IsHub h) (ps : List (Option PoolState)) (place : ℕ) (same : ps ≡ h.control.tables.pools) (r : Option B)
    (found : r ≡ option_map f (pool_at ps place)) (none : r ≡ None) (words : List (Option Carried)) (is : words ≡ slice_set h.words place None) where
  gone : pool_at h.control.tables.pools place ≡ None
  gone = no_pool f h.control.tables.pools ps place same r found none

  pub drop_keeps : IsHub (record h { words = words })
  drop_keeps = subst (λ ws. IsHub (record h { words = ws })) (sym is) (hub_less h place hub.control.order gone hub)

  pub drop_leaves : record h { words = words } ≡ with_words_left h place
  drop_leaves = ap (λ ws. record h { words = ws }) (is ∙ sym (ap (λ (o : Option PoolState). if is_some o then h.words else slice_set h.words place None) gone))

  pub drop_shows : (x : Given) → state_of_hub x h ≡ state_of_hub x (record h { words = words })
  drop_shows x = shows_less h place hub.control.order gone x ∙ ap (λ ws. state_of_hub x (record h { words = ws })) (sym is)

-- ---- the words beside two pools

-- where the pool is there, its words stay
pub one_stays : (h : HubState) (a : ℕ) → is_some (pool_at h.control.tables.pools a) ≡ true → h ≡ with_words_left h a
one_stays h a there = sym (ap (λ (b : Bool). record h { words = if b then h.words else slice_set h.words a None }) there)

pub both_stay : (h : HubState) (a b : ℕ) → is_some (pool_at h.control.tables.pools a) ≡ true → is_some (pool_at h.control.tables.pools b) ≡ true
    → h ≡ with_words_left (with_words_left h a) b
both_stay h a b first second = one_stays h b second ∙ ap (λ (d : HubState). with_words_left d b) (one_stays h a first)

-- where they may be gone, code asks for one after the other
pub both_left : {h : HubState} → IsHub h → (c : ControlState) (mid new : HubState) (a k b : ℕ) → mid ≡ with_words_left (with_control h c) a → new ≡ with_words_left mid k → k ≡ b
    → new ≡ with_words_left (with_words_left (with_control h new.control) a) b
both_left {h} hub c mid new a k b first next same =
    all ∙ ap (λ d. with_words_left (with_words_left (with_control h d) a) b) (sym (ap (λ (d : HubState). d.control) all))
  where
    all : new ≡ with_words_left (with_words_left (with_control h c) a) b
    all =
        next ∙ ap (λ (d : HubState). with_words_left d k) first
        ∙ ap (λ n. with_words_left (with_words_left (with_control h c) a) n) same
