-- A request that is offered is sent once its client is gone, if it is lost and nothing else of that is left.
use Rattle.std.specs.Prelude.{◌≡◌, ℕ, Some}
use Rattle.std.proofs.Common.{sym, ap, ◌∙◌}
use Rattle.std.proofs.lemmas.Option.{same_Some}
use Rattle.iox_handles.specs.declared.entry.Entry.{Entry}
use Rattle.iox_tables.specs.HubStates.Tables.{HandleState, HubTables}
use Rattle.iox_tables.specs.HubStates.States.{Given, state_shown}
use Rattle.iox_tables.specs.HubStates.Wirings.{handle_in}
use Rattle.iox_control.specs.Entries.{handle_state}
use Rattle.iox_control_requests.specs.declared.requested.Requested.{Requested}
use Rattle.iox_control_requests.specs.Sendings.{with_lost_released}

module _ (t : HubTables) (node n : ℕ) (e : Entry) (found : Some (handle_state e) ≡ handle_in t.handles node n) (h : HandleState) (there : handle_in t.handles node n ≡ Some h) (r : Requested) (mid new : HubTables) where
  its_port : h.port ≡ e.port
  its_port = ap (λ (k : HandleState). k.port) (sym (same_Some (handle_state e) h (found ∙ there)))

  pub lost_shown : (x : Given) → state_shown x (with_lost_released r mid e.port) ≡ state_shown x new → state_shown x (with_lost_released r mid h.port) ≡ state_shown x new
  lost_shown x shown = ap (λ k. state_shown x (with_lost_released r mid k)) its_port ∙ shown
