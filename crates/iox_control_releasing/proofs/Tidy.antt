-- No pool is left that was not left before.
use Rattle.std.specs.Prelude.{◌≡◌, ℕ, suc, Bool, true, false, ◌&&◌, ◌==◌, List, [], ◌∷◌, Some, refl}
use Rattle.std.specs.List.{list_all}
use Rattle.std.proofs.Common.{sym, ap, ap₂, subst, ◌∙◌, true≢false, eq-eqb, eqb-true}
use Rattle.iox_model.specs.declared.kind.Kind.{Kind}
use Rattle.iox_model.specs.declared.kind.Kind.TheVariants as kinds
use Rattle.iox_model.specs.Messages.{closed_for}
use Rattle.iox_lanes.specs.Lanes.{released}
use Rattle.iox_tables.specs.HubStates.Tables.{HandleState, HubTables, PoolState, SlotState, pool_at, slot_at, slots_of, is_free}
use Rattle.iox_tables.specs.HubStates.Releases.{pending_states, request_of, with_value_released, way_to_client}
use Rattle.iox_tables.specs.HubStates.Steps.{is_there}
use Rattle.iox_tables.specs.HubStates.Ways.{with_lane_on}
use Rattle.iox_tables.specs.HubBooks.Handles.{way_in}
use Rattle.iox_tables.specs.HubBooks.Keeps.{bare_pools}
use Rattle.iox_tables.proofs.HubBooks.Frames.{AreAlike, lane_on_bare, port_bare, states_on_bare}
use Rattle.iox_tables.proofs.HubBooks.Going.{same_there}
use Rattle.iox_slots.specs.Pools.{with_slot}
use Rattle.iox_slots.specs.Slots.{let_go, slot_in}
use Rattle.iox_slots.proofs.CallerLemmas.{slot_elsewhere}
use Rattle.iox_slots.proofs.PlaceLemmas.{idle_holders}
use Rattle.iox_control_releasing.specs.Endings.{given_up_as, with_ended}
use Rattle.iox_control_releasing.specs.Goings.{KeptPools, NoLeftPool, StaysTidy}
use Rattle.iox_control_releasing.proofs.Ended.{bare_back}
use Rattle.iox_control_releasing.proofs.Kept.{kept_bare}
use Rattle.iox_slots.proofs.BareLemmas.{let_go_bare}

-- ---- pools whose ports are gone

all_free : (ss : List SlotState) → ((k : ℕ) → (slot_in ss k).holders ≡ 0) → list_all is_free ss ≡ true
all_free [] none = refl
all_free (s ∷ ss) none = ap₂ (λ (a b : Bool). a && b) (eq-eqb s.holders 0 (none 0)) (all_free ss (λ k. none (suc k)))

-- No pool is left that was not left before, where ports that are there stay, and nobody has messages no more of
-- one whose port is gone.
pub none_more : (t u : HubTables) (place : ℕ) → KeptPools t.pools u.pools
    → ((p : PoolState) → pool_at t.pools place ≡ Some p → is_there t.ports p.port ≡ true → is_there u.ports p.port ≡ true)
    → ((p : PoolState) → pool_at t.pools place ≡ Some p → is_there t.ports p.port ≡ false
    → (k : ℕ) → (slot_at u.pools place k).holders ≡ 0 → (slot_at t.pools place k).holders ≡ 0)
    → NoLeftPool t place → NoLeftPool u place
none_more t u place kept left had none q at idle =
    let p = kept place q at in
    ap (is_there u.ports) (sym (ap (λ (r : PoolState). r.port) p.2)) ∙ step p.0 p.1 (is_there t.ports p.0.port) refl
  where
    step : (p : PoolState) → pool_at t.pools place ≡ Some p → (b : Bool) → is_there t.ports p.port ≡ b → is_there u.ports p.port ≡ true
    step p was true there = left p was there
    step p was false gone =
        absurd (true≢false (sym (none p was (all_free (slots_of t.pools place) (λ k. had p was gone k (idle_holders u.pools place k idle)))) ∙ gone))

-- ---- a handle ends

pub up_alike : (t : HubTables) (h : HandleState) (k : Kind) → AreAlike t.ports (given_up_as k t h).ports
up_alike t h kinds.PendingResponse = states_on_bare (λ r. closed_for r (request_of t h)) t.ports (pending_states t h)
up_alike t h kinds.ActiveRequest =
    states_on_bare (λ r. closed_for r (request_of t h)) (with_lane_on (λ l. released l h.slot) t.ports (way_in t.pools h)) (way_to_client t h ∷ [])
    ∙ lane_on_bare (λ l. released l h.slot) (bare_back h.slot) t.ports (way_in t.pools h)
up_alike t h kinds.Response = lane_on_bare (λ l. released l h.slot) (bare_back h.slot) t.ports (way_in t.pools h)
up_alike t h kinds.Client = refl
up_alike t h kinds.Server = refl
up_alike t h kinds.RequestMutUninit = refl
up_alike t h kinds.RequestMut = refl
up_alike t h kinds.ResponseMutUninit = refl
up_alike t h kinds.ResponseMut = refl

pub handle_ends : (t u : HubTables) (h : HandleState) (place : ℕ)
    → u ≡ record (with_ended t h) { pools = with_slot let_go t.pools h.pool h.slot } → (h.pool == place) ≡ false → NoLeftPool t place → NoLeftPool u place
handle_ends t u h place is other =
    none_more t u place
    (kept_bare t.pools u.pools (let_go_bare t.pools h.pool h.slot ∙ ap (λ (v : HubTables). bare_pools v.pools) (sym is)))
    (λ p at there. ap (λ (v : HubTables). is_there v.ports p.port) is ∙ same_there t.ports (given_up_as h.kind t h).ports (up_alike t h h.kind) p.port ∙ there)
    (λ p at gone k none.
    ap (λ (s : SlotState). s.holders)
    (sym (slot_elsewhere let_go t.pools h.pool h.slot place k (ap (λ (b : Bool). b && (h.slot == k)) other))
    ∙ ap (λ (v : HubTables). slot_at v.pools place k) (sym is))
    ∙ none)

-- ---- a port's own value goes

pub value_goes : (t : HubTables) (n place : ℕ) → NoLeftPool t place → NoLeftPool (with_value_released t n) place
value_goes t n place none q at idle =
    same_there t.ports (with_value_released t n).ports (port_bare (λ p. record p { held = false }) (λ p. refl) t.ports n) q.port ∙ none q at idle

-- ---- a release

pub release_tidies : (t end left new : HubTables) (h : HandleState)
    → end ≡ record (with_ended t h) { pools = with_slot let_go t.pools h.pool h.slot } → StaysTidy end left → StaysTidy left new → NoLeftPool new h.pool → StaysTidy t new
release_tidies t end left new h is first next gone place none = step (h.pool == place) refl
  where
    step : (b : Bool) → (h.pool == place) ≡ b → NoLeftPool new place
    step true e = subst (NoLeftPool new) (eqb-true h.pool place e) gone
    step false e = next place (first place (handle_ends t end h place is e none))
