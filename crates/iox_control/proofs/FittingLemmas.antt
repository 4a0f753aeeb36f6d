-- A loan that is filled in the table of handles is filled in the tables of the hub.
use Rattle.std.specs.Prelude.{◌≡◌, ℕ, Bool, true, false, ◌==◌, if◌then◌else◌, List, [], ◌∷◌, find, Option, IfSome, Some, None, refl}
use Rattle.std.specs.Option.{option_and_then, option_map}
use Rattle.std.proofs.Common.{sym, ap, ◌∙◌, eqb-true}
use Rattle.std.proofs.lemmas.Option.{none-some, same_Some}
use Rattle.iox_handles.specs.declared.entry.Entry.{Entry}
use Rattle.iox_handles.specs.Tables.{Contents, IsSound, changed, handle_at, handle_of, has_that, of_kind, turned}
use Rattle.iox_model.specs.declared.kind.Kind.{Kind}
use Rattle.iox_hub_ports.specs.HubStates.Ends.{with_changed}
use Rattle.iox_hub_ports.specs.HubStates.Tables.{PoolState}
use Rattle.iox_hub_ports.specs.HubStates.Wirings.{handle_in}
use Rattle.iox_hub_ports.specs.Ports.{PortsState}
use Rattle.iox_control.specs.declared.settings.Settings.{Settings}
use Rattle.iox_control.specs.Controls.{ControlState, control_of, with_tables}
use Rattle.iox_control.specs.Entries.{handle_state, handles_of}
use Rattle.iox_control.specs.Fittings.{fitted, kind_fitting}
use Rattle.iox_control.proofs.ChangeLemmas.{changes}
use Rattle.iox_control.proofs.EntryLemmas.{entry_of, its_own}

-- what is found by its number has it
pub number_of : (hs : List Entry) (n : ℕ) (e : Entry) → find (has_that n) hs ≡ Some e → e.number ≡ n
number_of [] n e at = absurd (none-some e at)
number_of (h ∷ hs) n e at = step (h.number == n) refl (number_of hs n e) at
  where
    step : (b : Bool) → (h.number == n) ≡ b → (find (has_that n) hs ≡ Some e → e.number ≡ n)
        → (if b then Some h else find (has_that n) hs) ≡ Some e → e.number ≡ n
    step true is rest found = ap (λ (k : Entry). k.number) (sym (same_Some h e found)) ∙ eqb-true h.number n is
    step false is rest found = rest found

-- the handle as the table of handles keeps it, of another kind
same_fit : (pools : List (Option PoolState)) (elements : Option ℕ) (e : Entry) (o : Option Kind)
    → option_map handle_state (option_map (λ kind. of_kind kind e) o) ≡ option_map (λ kind. record (handle_state e) { kind = kind }) o
same_fit pools elements e None = refl
same_fit pools elements e (Some kind) = refl

-- what is filled in the table of handles
abbrev fits_in : List (Option PoolState) → Option ℕ → Entry → Option Kind
fits_in pools elements e = kind_fitting pools elements (handle_state e)

pub fitted_told : (pools : List (Option PoolState)) (elements : Option ℕ) (old : Contents) (node n : ℕ) (result : Option Entry) → IsSound old
    → result ≡ option_and_then (turned (fits_in pools elements)) (handle_of old node n)
    → option_map handle_state result ≡ option_and_then (fitted pools elements) (handle_in (handles_of old) node n)
fitted_told pools elements old node n result sound told =
    ap (option_map handle_state) told ∙ step (handle_of old node n) ∙ ap (option_and_then (fitted pools elements)) (entry_of old node n (handle_of old node n) sound refl)
  where
    step : (o : Option Entry) → option_map handle_state (option_and_then (turned (fits_in pools elements)) o)
        ≡ option_and_then (fitted pools elements) (option_map handle_state o)
    step None = refl
    step (Some e) = same_fit pools elements e (fits_in pools elements e)

module _ (settings : Settings) (calls next made : ℕ) (ports : PortsState) (old : Contents) (pools : List (Option PoolState)) where
  abbrev all : Contents → ControlState
  all handles = control_of settings calls next made ports handles pools

  pub fitted_changed : (new : Contents) (elements : Option ℕ) (node n : ℕ) (result : Option Entry)
      → result ≡ option_and_then (turned (fits_in pools elements)) (handle_of old node n)
      → IfSome result (λ h. new ≡ changed old h)
      → IfSome result (λ h. all new ≡ with_tables (all old) (with_changed (all old).tables (handle_state h)))
  fitted_changed new elements node n None told left = tt
  fitted_changed new elements node n (Some h) told left = by_handle (handle_of old node n) refl told
    where
      by_kind : (e : Entry) (o : Option Kind) → Some e ≡ handle_of old node n → Some h ≡ option_map (λ kind. of_kind kind e) o
          → all new ≡ with_tables (all old) (with_changed (all old).tables (handle_state h))
      by_kind e None found said = absurd (none-some h (sym said))
      by_kind e (Some kind) found said =
          let own = its_own (handle_at old n) node e found in
          let is : h ≡ of_kind kind e = same_Some h (of_kind kind e) said in
          let number : n ≡ h.number = sym (number_of old.handles n e (sym own.0)) ∙ ap (λ (k : Entry). k.number) (sym is) in
          changes settings calls next made ports old pools new e h left (own.0 ∙ ap (handle_at old) number) (ap (λ (k : Entry). k.node) (sym is))

      by_handle : (o : Option Entry) → handle_of old node n ≡ o → Some h ≡ option_and_then (turned (fits_in pools elements)) o
          → all new ≡ with_tables (all old) (with_changed (all old).tables (handle_state h))
      by_handle None at said = absurd (none-some h (sym said))
      by_handle (Some e) at said = by_kind e (fits_in pools elements e) (sym at) said
