-- A handle that ended is released, once what goes with it is gone.
use Rattle.std.specs.Prelude.{◌≡◌, ℕ, Bool, false, Option, Some, None, IfSome, refl}
use Rattle.std.proofs.Common.{ap, subst, sym}
use Rattle.iox_handles.specs.declared.entry.Entry.{Entry}
use Rattle.iox_model.specs.declared.kind.Kind.{Kind}
use Rattle.iox_tables.specs.HubMaking.Disconnections.{is_unused, with_released}
use Rattle.iox_tables.specs.HubStates.States.{Given, state_shown}
use Rattle.iox_tables.specs.HubStates.Tables.{HubTables, PortState, port_in}
use Rattle.iox_slots.specs.Pools.{with_slot}
use Rattle.iox_slots.specs.Slots.{let_go}
use Rattle.iox_control.specs.Controls.{ControlState, IsControl, with_handle_dropped}
use Rattle.iox_control.specs.Entries.{handle_state}
use Rattle.iox_control_releasing.specs.Endings.{with_ended}
use Rattle.iox_control_releasing.specs.Ends.{HasEnded}
use Rattle.iox_control_releasing.specs.Goings.{ArePoolsThere, KeptPools, NoLeftPool, StaysTidy}
use Rattle.iox_control_releasing.specs.Named.{IsNamed}
use Rattle.iox_control_releasing.specs.Releases.{Releases}
use Rattle.iox_control_releasing.proofs.Ended.{ended}
use Rattle.iox_control_releasing.proofs.HeldStays.{still_used}
use Rattle.iox_control_releasing.proofs.Kept.{kept_end}
use Rattle.iox_control_releasing.proofs.Released.{is_released, named_itself}
use Rattle.iox_control_releasing.proofs.StillThere.{pools_there, port_after}
use Rattle.iox_control_releasing.proofs.Tidy.{release_tidies}
use Rattle.iox_control_releasing.proofs.UsualEnds.{found_as}
use Rattle.iox_control_releasing.proofs.Upped.{named_if_found, released_left, then_left, then_room}

module _ (old mid : ControlState) (node n : ℕ) (kind : Kind) (goes : Bool) (e : Entry) (order : IsControl old) (has : HasEnded old node n kind goes mid (handle_state e)) where
  left : mid.tables ≡ record (with_ended old.tables (handle_state e)) { pools = with_slot let_go old.tables.pools e.pool e.slot }
  left = then_left old (with_handle_dropped old node n) mid node n e refl has.ended.left has.found

  named : IsNamed old.tables node n
  named = record {
    handle = handle_state e;
    named = named_if_found old.tables order.order node n (handle_state e) has.found;
  }

  pub order_amid : IsControl mid
  order_amid =
      ended old mid (handle_state e) order (named_itself old.tables node n (handle_state e) named has.found)
      (then_room old (with_handle_dropped old node n) mid node n e refl has.ended.left) left

  pub used_amid : goes ≡ false → is_unused mid.tables e.port ≡ false
  used_amid none = still_used old.tables mid.tables (handle_state e) left (has.ended.held none)

  module _ (new : ControlState) (place : Option ℕ)
      (port : (p : PortState) → port_in mid.tables.ports e.port ≡ Some p → IfSome place (λ k. k ≡ p.pool)) (unchanged : place ≡ None → new ≡ mid)
      (gone_on : new.tables ≡ record (with_released mid.tables e.port) { pools = new.tables.pools })
      (shown : (x : Given) → state_shown x (with_released mid.tables e.port) ≡ state_shown x new.tables)
      (pools : KeptPools mid.tables.pools new.tables.pools) (gone : NoLeftPool new.tables e.pool) where
    pub as_released : Releases old node n kind (record { entry = e; place = place }) new
    as_released = record {
      told = found_as kind _ e has.found has.kind;
      port = λ p at.
          let q = port_after old.tables mid.tables (handle_state e) left p at in
          subst (λ k. IfSome place (λ i. i ≡ k)) q.2 (port q.0 q.1);
      stay = λ none.
          subst (λ (d : ControlState). ArePoolsThere old.tables.ports d.tables.pools (handle_state e)) (sym (unchanged none))
          (pools_there old.tables mid.tables (handle_state e) left order.order node n has.found);
      left = released_left _ mid.tables new.tables _ e.port left gone_on;
      pools = kept_end old.tables.pools mid.tables.pools mid.tables.pools new.tables.pools e.pool e.slot (ap (λ (t : HubTables). t.pools) left) (λ place q at. (q, at, refl)) pools;
      gone = gone;
      whole = λ x. is_released x old mid new new node n (handle_state e) order named has.found left (shown x) refl;
    }

    pub tidy_after : StaysTidy mid.tables new.tables → StaysTidy old.tables new.tables
    tidy_after tidy = release_tidies old.tables mid.tables mid.tables new.tables (handle_state e) left (λ place none. none) tidy gone
