-- What tables show stays where a pool changes that nobody has messages of.
use Rattle.std.specs.Prelude.{Some, ◌≡◌, ℕ, zero, suc, Bool, true, false, if◌then◌else◌, ◌==◌, List, [], ◌∷◌, Option, None, slice_get, slice_set, refl, ◌<◌, ◌++◌, length}
use Rattle.std.specs.Option.{option_map_or}
use Rattle.std.proofs.Common.{sym, ap, ◌∙◌, true≢false, eqb-true, arith}
use Rattle.std.proofs.Math.Dec.{eqb-suc-suc}
use Rattle.iox_model.specs.Messages.{Message}
use Rattle.iox_model.specs.WholeCalls.{is_uninit}
use Rattle.iox_laws.proofs.WeaveLaws.MapLemmas.{eqb-refl}
use Rattle.iox_tables.specs.HubStates.Tables.{HandleState, HubTables, PoolState, SlotState, no_slot, pool_at}
use Rattle.iox_tables.specs.HubStates.Ways.{lane_on}
use Rattle.iox_tables.specs.HubStates.States.{Given, message_of, no_id}
use Rattle.iox_tables.specs.HubStates.Changes.{OfEachLane}
use Rattle.iox_tables.specs.HubStates.Ends.{OfEachHandle, ShowsSame}
use Rattle.iox_tables.specs.HubStates.Steps.{HasSameMessages}
use Rattle.iox_tables.proofs.HubStates.Ends.{free_slots_may_change}
use Rattle.iox_tables.specs.HubMaking.FreePools.{FreePoolsMayChange, FreePoolsMayGo, NewPoolsArePut, NobodyHas, OthersStay}
use Rattle.iox_tables.proofs.HubStates.Keys.{set_else}

-- the message, by the pool and its words
abbrev message_by : Option PoolState → ℕ → List ℕ → List ℕ → Message
message_by o k user payload =
    let slot : SlotState = option_map_or (λ s. s) (slice_get (option_map_or (λ (p : PoolState). p.slots) o []) k) no_slot in record {
      sender = option_map_or (λ (p : PoolState). p.port) o 0;
      serial = slot.serial;
      node_id = option_map_or (λ (p : PoolState). p.node_id) o no_id;
      port_id = option_map_or (λ (p : PoolState). p.port_id) o no_id;
      lane = slot.lane;
      request = slot.request;
      elements = slot.elements;
      user = user;
      payload = payload;
    }

module _ (x x' : Given) (place : ℕ) (old new : List (Option PoolState)) (stay : OthersStay place x old x' new) where
  same_message : (q k : ℕ) → (q == place) ≡ false → message_of x old q k ≡ message_of x' new q k
  same_message q k other = λ i. message_by (stay.pools q other i) k (stay.user q k other i) (stay.payload q k other i)

  same_lanes : (t : HubTables) → NobodyHas t place → OfEachLane (HasSameMessages (message_of x old) (message_of x' new)) (lane_on t.ports)
  same_lanes t nobody w l is k has = step (l.pool == place) refl
    where
      step : (b : Bool) → (l.pool == place) ≡ b → message_of x old l.pool k ≡ message_of x' new l.pool k
      step true e = absurd (true≢false (sym has ∙ nobody.lanes w l k is (eqb-true l.pool place e)))
      step false e = same_message l.pool k e

  same_handle : (h : HandleState) → (h.pool == place) ≡ false → ShowsSame x (message_of x old) x' (message_of x' new) h
  same_handle h other = λ i.
      let n : Message = same_message h.pool h.slot other i in record {
        node = h.node;
        number = h.number;
        kind = h.kind;
        port = h.port;
        message = n;
        filled = if is_uninit h.kind then stay.filled h.pool h.slot other i else n.elements;
        client = h.client;
        lane = n.lane;
        request = n.request;
        connections = h.connections;
      }

  same_handles : (hs : List HandleState) → OfEachHandle (λ h. (h.pool == place) ≡ false) hs → OfEachHandle (ShowsSame x (message_of x old) x' (message_of x' new)) hs
  same_handles [] others = tt
  same_handles (h ∷ hs) others = (same_handle h others.0, same_handles hs others.1)

pub free_pools_may_change : FreePoolsMayChange
free_pools_may_change x x' t place pools same nobody stay =
    free_slots_may_change x x' t pools same (same_lanes x x' place t.pools pools stay t nobody) (same_handles x x' place t.pools pools stay t.handles nobody.handles)

set_there : {A : Type 0} (xs : List A) (i : ℕ) (y : A) → i < length xs → slice_get (slice_set xs i y) i ≡ Some y
set_there [] i y e = absurd (none_below e)
  where
    none_below : i < 0 → ⊥
    none_below h = omega (arith, h)
set_there (z ∷ zs) zero y e = refl
set_there (z ∷ zs) (suc i) y e = set_there zs i y (below e)
  where
    below : suc i < suc (length zs) → i < length zs
    below h = omega (arith, h)

behind_there : {A : Type 0} (xs : List A) (y : A) → slice_get (xs ++ y ∷ []) (length xs) ≡ Some y
behind_there [] y = refl
behind_there (x ∷ xs) y = behind_there xs y

-- a place that is not the last has what it had
before_last : (pools : List (Option PoolState)) (o : Option PoolState) (q : ℕ) → (q == length pools) ≡ false → pool_at pools q ≡ pool_at (pools ++ o ∷ []) q
before_last [] o zero e = absurd (true≢false (sym (eqb-refl 0) ∙ e))
before_last [] o (suc q) e = refl
before_last (p ∷ ps) o zero e = refl
before_last (p ∷ ps) o (suc q) e = before_last ps o q (sym (eqb-suc-suc q (length ps)) ∙ e)

pub new_pools_are_put : NewPoolsArePut
new_pools_are_put pools pool = record {
  inside = λ place within. record {
    there = ap (λ o. option_map_or (λ p. p) o None) (set_there pools place (Some pool) within);
    others = λ q e. ap (λ o. option_map_or (λ p. p) o None) (sym (set_else pools place q (Some pool) e));
  };
  behind = record {
    there = ap (λ o. option_map_or (λ p. p) o None) (behind_there pools (Some pool));
    others = λ q e. before_last pools (Some pool) q e;
  };
}

pub free_pools_may_go : FreePoolsMayGo
free_pools_may_go x t place nobody =
    free_pools_may_change x x t place (slice_set t.pools place None)
    (record { members = refl; acts = refl; handler = refl; request = refl; response = refl }) nobody
    (record {
      pools = λ q e. ap (λ o. option_map_or (λ p. p) o None) (sym (set_else t.pools place q None e));
      user = λ q k e. refl;
      payload = λ q k e. refl;
      filled = λ q k e. refl;
    })
