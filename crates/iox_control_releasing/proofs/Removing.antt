-- A handle that is removed first is ended all the same.
use Rattle.std.specs.Prelude.{◌≡◌, ℕ, ◌+◌, Option, Some, List, refl}
use Rattle.std.proofs.Common.{sym, ap, ap₂, ◌∙◌}
use Rattle.iox_handles.specs.declared.entry.Entry.{Entry}
use Rattle.iox_model.specs.declared.kind.Kind.{Kind}
use Rattle.iox_model.specs.declared.kind.Kind.TheVariants as kinds
use Rattle.iox_tables.specs.HubStates.Tables.{HandleState, HubTables, PoolState}
use Rattle.iox_tables.specs.HubStates.Ends.{with_dropped}
use Rattle.iox_tables.specs.HubStates.Wirings.{handle_in}
use Rattle.iox_tables.proofs.HubStates.Naming.{handle_node, handle_number}
use Rattle.iox_slots.specs.Pools.{with_slot}
use Rattle.iox_slots.specs.Slots.{let_go}
use Rattle.iox_control.specs.Controls.{ControlState, with_handle_dropped, with_pools, with_tables}
use Rattle.iox_control.specs.Entries.{handle_state}
use Rattle.iox_control_releasing.specs.Endings.{given_up_as, with_ended}

-- what is given up does not depend on what else there is of handles
commutes : (k : Kind) (t : HubTables) (h : HandleState) (node n : ℕ)
    → given_up_as k (with_dropped t node n) h ≡ with_dropped (given_up_as k t h) node n
commutes kinds.PendingResponse t h node n = refl
commutes kinds.ActiveRequest t h node n = refl
commutes kinds.Response t h node n = refl
commutes kinds.Client t h node n = refl
commutes kinds.Server t h node n = refl
commutes kinds.RequestMutUninit t h node n = refl
commutes kinds.RequestMut t h node n = refl
commutes kinds.ResponseMutUninit t h node n = refl
commutes kinds.ResponseMut t h node n = refl

-- and changes no slot
pub same_pools : (k : Kind) (t : HubTables) (h : HandleState) → (given_up_as k t h).pools ≡ t.pools
same_pools kinds.PendingResponse t h = refl
same_pools kinds.ActiveRequest t h = refl
same_pools kinds.Response t h = refl
same_pools kinds.Client t h = refl
same_pools kinds.Server t h = refl
same_pools kinds.RequestMutUninit t h = refl
same_pools kinds.RequestMut t h = refl
same_pools kinds.ResponseMutUninit t h = refl
same_pools kinds.ResponseMut t h = refl

module _ (c : ControlState) (node n : ℕ) (e : Entry) where
  abbrev gone : ControlState
  gone = with_handle_dropped c node n

  abbrev up : ControlState
  up = with_tables gone (given_up_as e.kind gone.tables (handle_state e))

  freed : List (Option PoolState) → List (Option PoolState)
  freed pools = with_slot let_go pools e.pool e.slot

  module _ (c1 c2 c3 : ControlState) (first : c1 ≡ gone) (then : c2 ≡ with_tables c1 (given_up_as e.kind c1.tables (handle_state e)))
      (last : c3 ≡ with_pools c2 (with_slot let_go c2.tables.pools e.pool e.slot)) where
    all : c3 ≡ with_pools up (with_slot let_go up.tables.pools e.pool e.slot)
    all =
        last
        ∙ ap (λ (d : ControlState). with_pools d (with_slot let_go d.tables.pools e.pool e.slot))
        (then ∙ ap (λ (d : ControlState). with_tables d (given_up_as e.kind d.tables (handle_state e))) first)

    pub ended_room : c3.room ≡ c.room + 1
    ended_room = ap (λ (d : ControlState). d.room) all

    pub ended_left : Some (handle_state e) ≡ handle_in c.tables.handles node n
        → c3.tables ≡ record (with_ended c.tables (handle_state e)) { pools = with_slot let_go c.tables.pools e.pool e.slot }
    ended_left found =
        ap (λ (d : ControlState). d.tables) all
        ∙ ap (λ (t : HubTables). record t { pools = with_slot let_go t.pools e.pool e.slot }) (commutes e.kind c.tables (handle_state e) node n)
        ∙ ap (λ ps. record (with_dropped (given_up_as e.kind c.tables (handle_state e)) node n) { pools = with_slot let_go ps e.pool e.slot }) (same_pools e.kind c.tables (handle_state e))
        ∙ ap₂ (λ k m. record (with_dropped (given_up_as e.kind c.tables (handle_state e)) k m) { pools = with_slot let_go c.tables.pools e.pool e.slot })
        (sym (handle_node c.tables.handles node n (handle_state e) (sym found))) (sym (handle_number c.tables.handles node n (handle_state e) (sym found)))
