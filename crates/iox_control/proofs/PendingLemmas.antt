-- A pending response, by what the table keeps of its handle.
use Rattle.std.specs.Prelude.{◌≡◌, ℕ, Bool, false, Some}
use Rattle.std.specs.Option.{option_map_or}
use Rattle.std.proofs.Common.{sym, ap, subst, ◌∙◌}
use Rattle.std.proofs.lemmas.Option.{same_Some}
use Rattle.iox_handles.specs.declared.entry.Entry.{Entry}
use Rattle.iox_hub_ports.specs.HubStates.Tables.{HandleState, HubTables, labels_of, port_in}
use Rattle.iox_hub_ports.specs.HubStates.Asks.{waits_for}
use Rattle.iox_hub_ports.specs.HubStates.Releases.{lane_of}
use Rattle.iox_hub_ports.specs.HubStates.Wirings.{IsHandle, IsPending, handle_in}
use Rattle.iox_control.specs.Entries.{handle_state}

module _ (t : HubTables) (node n : ℕ) (given : IsPending t node n) (e : Entry) (found : Some (handle_state e) ≡ handle_in t.handles node n) where
  pub same_handle : handle_state e ≡ given.handle
  same_handle = same_Some (handle_state e) given.handle (found ∙ given.named.there)

  -- the same pending response
  abbrev pub pending_of : IsPending t node n
  pending_of = record {
    handle = handle_state e;
    named = subst (IsHandle t node n) (sym same_handle) given.named;
    kind = ap (λ (h : HandleState). h.kind) same_handle ∙ given.kind;
    port = given.port;
    there = ap (λ (h : HandleState). port_in t.ports h.port) same_handle ∙ given.there;
    client = given.client;
  }

-- whether something waits for it, by its handle
pub response_waits : (t : HubTables) (h : HandleState) (e : Entry) (lane : ℕ) (told : Bool) → handle_state e ≡ h → lane ≡ (labels_of t.pools e.pool e.slot).lane
    → told ≡ option_map_or (λ p. waits_for p lane) (port_in t.ports e.port) false
    → told ≡ option_map_or (λ p. waits_for p (lane_of t h)) (port_in t.ports h.port) false
response_waits t h e lane told same at is =
    is ∙ ap (λ m. option_map_or (λ p. waits_for p m) (port_in t.ports e.port) false) at
    ∙ ap (λ (k : HandleState). option_map_or (λ p. waits_for p (lane_of t k)) (port_in t.ports k.port) false) same
