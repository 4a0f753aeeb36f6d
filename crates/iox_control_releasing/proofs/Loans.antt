-- As a loan ends or becomes a pending response, no pool is left that was not left before.
use Rattle.std.specs.Prelude.{◌≡◌, ℕ, zero, suc, ◌≤◌, Bool, true, false, ◌&&◌, ◌||◌, if◌then◌else◌, ◌==◌, List, [], ◌∷◌, map, Option, Some, is_some, refl}
use Rattle.std.specs.Option.{option_map_or}
use Rattle.std.proofs.Common.{sym, ap, subst, ◌∙◌, arith, true≢false, eqb-true}
use Rattle.iox_model.specs.Handles.{is_own}
use Rattle.iox_model.specs.Maps.{has_way, same_way}
use Rattle.iox_model.specs.declared.way.Way.{Way}
use Rattle.iox_laws.proofs.WeaveLaws.MapLemmas.{same_way-true}
use Rattle.iox_tables.specs.HubStates.Tables.{HandleState, HubTables, PoolState, PortState, numbers_of, owner_of, pool_at, slot_at}
use Rattle.iox_tables.specs.HubStates.Ends.{changed_handles, dropped_handles}
use Rattle.iox_tables.specs.HubStates.Sendings.{pending_of}
use Rattle.iox_tables.specs.HubStates.Steps.{is_there, places_on}
use Rattle.iox_tables.specs.HubStates.Ways.{lane_on}
use Rattle.iox_tables.specs.HubStates.Wirings.{IsHandle}
use Rattle.iox_tables.proofs.HubStates.Fixing.{first_key}
use Rattle.iox_tables.specs.HubBooks.Counts.{OfAll, handle_uses, how_often, is_at, lane_count, on_lanes}
use Rattle.iox_tables.specs.HubBooks.Handles.{IsOfPort}
use Rattle.iox_tables.specs.HubBooks.Hubs.{AreInOrder}
use Rattle.iox_tables.specs.HubBooks.Keeps.{bare_pools}
use Rattle.iox_tables.proofs.HubBooks.Frames.{AreAlike}
use Rattle.iox_tables.proofs.HubBooks.Going.{same_there}
use Rattle.iox_tables.proofs.HubBooks.HandleTotals.{handle_changed, handle_dropped}
use Rattle.iox_tables.proofs.HubBooks.Places.{has_often}
use Rattle.iox_tables.proofs.HubBooks.Release.{handles_apart}
use Rattle.iox_tables.proofs.HubBooks.Used.{handle_is, lane_below}
use Rattle.iox_tables.proofs.HubBooks.Ways.{some_lane}
use Rattle.iox_control_releasing.specs.Goings.{StaysTidy}
use Rattle.iox_control_releasing.proofs.Kept.{kept_bare}
use Rattle.iox_control_releasing.proofs.Tidy.{none_more}

-- the other handles still have what they had
others_have : (t : HubTables) (h : HandleState) (node n place : ℕ) → AreInOrder t → IsHandle t node n h → (h.pool == place) ≡ false
    → (k : ℕ) → handle_uses t.handles place k ≤ handle_uses (dropped_handles node n t.handles) place k
others_have t h node n place order named other k =
    let all
    = handle_dropped (λ g. if is_at place k g then 1 else 0) t.handles node n h named.there
    (handles_apart (numbers_of t.ports) (map (λ g. g.number) t.handles) order.numbers.apart) in
    let none : (if is_at place k h then suc zero else zero) ≡ zero = ap (λ (b : Bool). if b && (h.slot == k) then suc zero else zero) other in
    omega (arith, all, none)

-- ---- lanes from ports that are gone

-- What comes from ports that are gone stays as it is.
abbrev pub KeepsLeft : HubTables → HubTables → Type 0
KeepsLeft t u = (w : Way) → is_there t.ports w.sender ≡ false → lane_on u.ports w ≡ lane_on t.ports w

-- the ways are from that port
abbrev pub AreFrom : ℕ → List Way → Type 0
AreFrom n ws = OfAll (λ w. w.sender ≡ n) ws

-- so none of them is from a port that is gone
pub off_ways : (ports : List PortState) (n : ℕ) → is_there ports n ≡ true → (ws : List Way) → AreFrom n ws → (w : Way) → is_there ports w.sender ≡ false → has_way w ws ≡ false
off_ways ports n there [] from w gone = refl
off_ways ports n there (v ∷ vs) from w gone = step (same_way w v) refl (off_ways ports n there vs from.1 w gone)
  where
    step : (b : Bool) → same_way w v ≡ b → has_way w vs ≡ false → (b || has_way w vs) ≡ false
    step true e rest = absurd (true≢false (sym there ∙ ap (is_there ports) (sym (ap (λ (u : Way). u.sender) (same_way-true w v e) ∙ from.0)) ∙ gone))
    step false e rest = rest

-- the loan's port is connected
pub loan_port : (t : HubTables) (node n : ℕ) (h : HandleState) → AreInOrder t → IsHandle t node n h → is_there t.ports h.port ≡ true
loan_port t node n h order named = ap (λ (o : Option PortState). is_some o) (handle_is (IsOfPort t) t.handles node n h order.ports named.there).there

if_first : (b : Bool) (n : ℕ) → 1 ≤ (if b then n else 0) → (b ≡ true) × (1 ≤ n)
if_first true n some = (refl, some)
if_first false n some = absurd (omega (arith, some))

-- nobody had a message of a pool whose port is gone, if nobody has it now, and handles were no more
module _ (t u : HubTables) (order : AreInOrder t) (after : AreInOrder u) (stays : KeepsLeft t u) (place : ℕ) (p : PoolState) (at : pool_at t.pools place ≡ Some p)
    (gone : is_there t.ports p.port ≡ false) (k : ℕ)
  where
    on_lanes_then : on_lanes (lane_count place k) u.ports ≡ 0 → on_lanes (lane_count place k) t.ports ≡ 0
    on_lanes_then none = step (on_lanes (lane_count place k) t.ports) refl
      where
        step : (n : ℕ) → on_lanes (lane_count place k) t.ports ≡ n → n ≡ 0
        step zero e = refl
        step (suc n) e =
            let lane = some_lane t order (lane_count place k) (omega (arith, e)) in
            let some = if_first (lane.1.pool == place) (how_often k (places_on lane.1)) lane.3 in
            let owner : p.port ≡ lane.0.sender
            = ap (λ (o : Option PoolState). option_map_or (λ r. r.port) o 0) (sym at) ∙ ap (owner_of t.pools) (sym (eqb-true lane.1.pool place some.0))
            ∙ order.owners lane.0 lane.1 k lane.2 (has_often k (places_on lane.1) some.1) in
            let still = lane_below (lane_count place k) u.ports lane.0 lane.1 (stays lane.0 (ap (is_there t.ports) (sym owner) ∙ gone) ∙ lane.2) in
            let one = lane.3 in absurd (omega (arith, one, still, none))

    pub nobody_then : handle_uses t.handles place k ≤ handle_uses u.handles place k → (slot_at u.pools place k).holders ≡ 0 → (slot_at t.pools place k).holders ≡ 0
    nobody_then handles none =
        let now = after.counted place k in
        let lanes = on_lanes_then (omega (arith, now, none)) in
        let was = order.counted place k in omega (arith, now, none, lanes, was, handles)

-- ---- a loan ends, or waits for responses

module _ (t u : HubTables) (order : AreInOrder t) (after : AreInOrder u) (alike : AreAlike t.ports u.ports) (stays : KeepsLeft t u) (same : bare_pools t.pools ≡ bare_pools u.pools) where
  -- a loan's message is of a pool whose port is connected
  elsewhere : (node n : ℕ) (h : HandleState) → IsHandle t node n h → is_own h.kind ≡ true
      → (place : ℕ) (p : PoolState) → pool_at t.pools place ≡ Some p → is_there t.ports p.port ≡ false → (h.pool == place) ≡ false
  elsewhere node n h named own place p at gone = step (h.pool == place) refl
    where
      is : IsOfPort t h
      is = handle_is (IsOfPort t) t.handles node n h order.ports named.there

      step : (b : Bool) → (h.pool == place) ≡ b → b ≡ false
      step false e = refl
      step true e =
          let has = order.pools.each h.port is.port is.there in
          let port : p.port ≡ h.port
          = ap (λ (o : Option PoolState). option_map_or (λ r. r.port) o 0) (sym at ∙ ap (pool_at t.pools) (sym (eqb-true h.pool place e) ∙ is.of_pool own) ∙ has.there)
          ∙ has.port ∙ first_key (λ (x : PortState). x.number) t.ports h.port is.port is.there in
          absurd (true≢false (sym (ap (λ (o : Option PortState). is_some o) is.there) ∙ ap (is_there t.ports) (sym port) ∙ gone))

  pub loan_ends : (node n : ℕ) (h : HandleState) → IsHandle t node n h → is_own h.kind ≡ true → u.handles ≡ dropped_handles node n t.handles → StaysTidy t u
  loan_ends node n h named own left place =
      none_more t u place (kept_bare t.pools u.pools same) (λ p at there. same_there t.ports u.ports alike p.port ∙ there)
      (λ p at gone k.
      nobody_then t u order after stays place p at gone k
      (subst (λ hs. handle_uses t.handles place k ≤ handle_uses hs place k) (sym left)
      (others_have t h node n place order named (elsewhere node n h named own place p at gone) k)))

  pub loan_waits : (h : HandleState) (count : ℕ) → IsHandle t h.node h.number h → u.handles ≡ changed_handles (pending_of h count) t.handles → StaysTidy t u
  loan_waits h count named left place =
      none_more t u place (kept_bare t.pools u.pools same) (λ p at there. same_there t.ports u.ports alike p.port ∙ there)
      (λ p at gone k.
      nobody_then t u order after stays place p at gone k
      (subst (λ hs. handle_uses t.handles place k ≤ handle_uses hs place k) (sym left)
      (let all = handle_changed (λ g. if is_at place k g then 1 else 0) t.handles (pending_of h count) h named.there in omega (arith, all))))
