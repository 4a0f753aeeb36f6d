-- A response that is offered is sent once its server is gone, if nothing else of that is left.
use Rattle.std.specs.Prelude.{◌≡◌, ℕ, Bool, Some}
use Rattle.std.proofs.Common.{sym, ap, ◌∙◌}
use Rattle.std.proofs.lemmas.Option.{same_Some}
use Rattle.iox_handles.specs.declared.entry.Entry.{Entry}
use Rattle.iox_tables.specs.HubStates.Tables.{HandleState, HubTables}
use Rattle.iox_tables.specs.HubStates.States.{Given, state_shown}
use Rattle.iox_tables.specs.HubStates.Wirings.{handle_in}
use Rattle.iox_tables.specs.HubMaking.Disconnections.{with_released}
use Rattle.iox_control.specs.Entries.{handle_state}
use Rattle.iox_control_responses.specs.Responses.{with_response_ended}
use Rattle.iox_tables.proofs.HubMaking.Releases.{released_as}

module _ (t : HubTables) (node n : ℕ) (e : Entry) (found : Some (handle_state e) ≡ handle_in t.handles node n) (h : HandleState) (there : handle_in t.handles node n ≡ Some h) (mid new : HubTables) where
  its_port : h.port ≡ e.port
  its_port = ap (λ (k : HandleState). k.port) (sym (same_Some (handle_state e) h (found ∙ there)))

  pub released_left : (fails : Bool) → mid ≡ record (with_response_ended t node n h fails) { pools = mid.pools } → new ≡ record (with_released mid e.port) { pools = new.pools }
      → new ≡ record (with_released (with_response_ended t node n h fails) h.port) { pools = new.pools }
  released_left fails ended gone =
      gone
      ∙ ap (λ (u : HubTables). record (with_released u e.port) { pools = new.pools }) ended
      ∙ ap (λ (u : HubTables). record u { pools = new.pools }) (released_as (with_response_ended t node n h fails) mid.pools e.port)
      ∙ ap (λ k. record (with_released (with_response_ended t node n h fails) k) { pools = new.pools }) (sym its_port)

  pub released_shown : (x : Given) → state_shown x (with_released mid e.port) ≡ state_shown x new → state_shown x (with_released mid h.port) ≡ state_shown x new
  released_shown x shown = ap (λ k. state_shown x (with_released mid k)) its_port ∙ shown
