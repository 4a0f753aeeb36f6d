-- A handle that is removed from the table of handles if it is of a kind is removed from the tables of the hub.
use Rattle.std.specs.Prelude.{◌≡◌, ℕ, Bool, true, false, if◌then◌else◌, List, Option, IsSome, Some, None, refl}
use Rattle.std.specs.Option.{option_and_then, option_map}
use Rattle.std.proofs.Common.{sym, ap, ◌∙◌, true≢false}
use Rattle.std.proofs.lemmas.Option.{none-some}
use Rattle.iox_handles.specs.declared.entry.Entry.{Entry}
use Rattle.iox_handles.specs.Removals.{if_passes}
use Rattle.iox_handles.specs.Tables.{Contents, IsSound, handle_of, removed}
use Rattle.iox_model.specs.declared.kind.Kind.{Kind}
use Rattle.iox_model.specs.Values.{is_still}
use Rattle.iox_hub_ports.specs.HubStates.Tables.{PoolState}
use Rattle.iox_hub_ports.specs.HubStates.Wirings.{handle_in}
use Rattle.iox_hub_ports.specs.Ports.{PortsState}
use Rattle.iox_control.specs.declared.settings.Settings.{Settings}
use Rattle.iox_control.specs.Controls.{control_of, with_handle_dropped}
use Rattle.iox_control.specs.Entries.{handle_state, handles_of}
use Rattle.iox_control.specs.Removals.{if_still}
use Rattle.iox_control.proofs.ChangeLemmas.{drops_of}
use Rattle.iox_control.proofs.EntryLemmas.{entry_of}

-- the test of the kind
abbrev still : Kind → Entry → Bool
still kind e = is_still kind e.kind

pub still_found : (kind : Kind) (old : Contents) (node n : ℕ) (result : Option Entry) → IsSound old
    → result ≡ option_and_then (if_passes (still kind)) (handle_of old node n)
    → option_map handle_state result ≡ option_and_then (if_still kind) (handle_in (handles_of old) node n)
still_found kind old node n result sound told =
    ap (option_map handle_state) told ∙ step (handle_of old node n) ∙ ap (option_and_then (if_still kind)) (entry_of old node n (handle_of old node n) sound refl)
  where
    by_case : (b : Bool) (e : Entry) → option_map handle_state (if b then Some e else None) ≡ (if b then Some (handle_state e) else None)
    by_case true e = refl
    by_case false e = refl

    step : (o : Option Entry) → option_map handle_state (option_and_then (if_passes (still kind)) o)
        ≡ option_and_then (if_still kind) (option_map handle_state o)
    step None = refl
    step (Some e) = by_case (still kind e) e

-- the handle that passes is the one that was found
found_itself : (kind : Kind) (o result : Option Entry) → result ≡ option_and_then (if_passes (still kind)) o → IsSome result → result ≡ o
found_itself kind o None told some = absurd (true≢false (sym some))
found_itself kind None (Some e) told some = told
found_itself kind (Some h) (Some e) told some = by_case (still kind h) told
  where
    by_case : (b : Bool) → Some e ≡ (if b then Some h else None) → Some e ≡ Some h
    by_case true said = said
    by_case false said = absurd (none-some e (sym said))

pub still_dropped : (kind : Kind) (settings : Settings) (calls next made : ℕ) (ports : PortsState) (old : Contents) (pools : List (Option PoolState))
    (new : Contents) (node n : ℕ) (result : Option Entry) → IsSound old
    → result ≡ option_and_then (if_passes (still kind)) (handle_of old node n)
    → (IsSome result → new ≡ removed old n) → IsSome result
    → control_of settings calls next made ports new pools ≡ with_handle_dropped (control_of settings calls next made ports old pools) node n
still_dropped kind settings calls next made ports old pools new node n result sound told is some =
    drops_of settings calls next made ports old pools new node n result sound (found_itself kind (handle_of old node n) result told some) is some
